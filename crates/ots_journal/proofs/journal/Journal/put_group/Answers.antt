use Rattle.std.proofs.Common.{◌≡◌, ◌+◌, true, inl, sym, ◌∙◌, ap, arith}
use Rattle.ots_disk.specs.Moments.{started}
use Rattle.ots_journal.specs.Journal.{JournalTold, size_with}
use Rattle.ots_journal.proofs.Putting.{puts_full, puts_nothing, at_err, not_ok}
use Rattle.ots_journal.proofs.Standing.{keeps_sure}
use Rattle.ots_journal.proofs.journal.Journal.put_group.Goals as goal

pub returns-then-need-self-clause-puts : goal.returns-then-need-self-clause-puts
returns-then-need-self-clause-puts g c =
    let d = g.D.Disk in
    let j = c.self.inside in
    let is_sure : j.sure ≡ true = ap (λ (t : JournalTold g.row.D.Denot). t.is_sure) c.self.view_is ∙ c.requires.sure in
    let here = started d.clock d.images_since j.disk _ (λ f left. inl (keeps_sure (d.images j.disk) _ _ _ _ c.self.invariant.0 is_sure f (g.met.D.Disk.only_now j.disk f left))) in
    let need : c.size.result + 8 + c.entries_size-size.result ≡ size_with j.stored.size c.args.entries.now = omega (arith, c.size.ensures.size, c.entries_size-size.ensures.size) in
    rw (← c.self.view_is) (puts_full d.clock d.images_since _ c.args.entries.now here (c.size.result + 8 + c.entries_size-size.result) need c.if-need-self.true)

pub returns-then-is_err-clause-puts : goal.returns-then-is_err-clause-puts
returns-then-is_err-clause-puts g c =
    let d = g.D.Disk in
    let j = c.self.inside in
    let is_sure : j.sure ≡ true = ap (λ (t : JournalTold g.row.D.Denot). t.is_sure) c.self.view_is ∙ c.requires.sure in
    let here = started d.clock d.images_since j.disk _ (λ f left. inl (keeps_sure (d.images j.disk) _ _ _ _ c.self.invariant.0 is_sure f (g.met.D.Disk.only_now j.disk f left))) in
    let failed = sym c.is_err.ensures.value ∙ c.if-is_err.true in
    let same = at_err c.reserve.result failed c.reserve.ensures.err in
    rw (same, ← c.self.view_is) (puts_nothing d.clock d.images_since _ c.args.entries.now here
    (omega (arith, c.size.ensures.size, c.entries_size-size.ensures.size, c.if-need-self.false))
    (λ entries bytes. not_ok c.reserve.result failed (c.reserve.ensures.enough (omega (arith, entries)) (omega (arith, bytes, c.payloads_size-bytes.ensures.size))).0))
