use Rattle.std.proofs.Common.{◌≡◌, ◌≤◌, ◌+◌, ◌∷◌, [], true, inl, length, sym, ◌∙◌, ap, arith, length-append, rules}
use Rattle.std.proofs.lemmas.Grind.{common_steps}
use Rattle.ots_disk.specs.Moments.{started}
use Rattle.ots_journal.specs.Image.{entry_bytes}
use Rattle.ots_journal.specs.Journal.{JournalTold, IsAtMost, size_with}
use Rattle.ots_journal.specs.declared.entry.Entry.{Entry}
use Rattle.ots_journal.proofs.Groups.{length-entry}
use Rattle.ots_journal.proofs.Putting.{puts_full, puts_nothing, at_err, not_ok}
use Rattle.ots_journal.proofs.Standing.{keeps_sure}
use Rattle.ots_journal.proofs.Within.{left_now}
use Rattle.ots_journal.proofs.journal.Journal.put_entry.Goals as goal

pub returns-then-need-self-clause-puts : goal.returns-then-need-self-clause-puts
returns-then-need-self-clause-puts g c =
    let d = g.D.Disk in
    let j = c.self.inside in
    let e : Entry = record { kind = c.args.kind; payload = c.args.payload.now } in
    let is_sure : j.sure ≡ true = ap (λ (t : JournalTold g.row.D.Denot). t.is_sure) c.self.view_is ∙ c.requires.sure in
    let here = started d.clock d.images_since j.disk _ (λ f left. inl (keeps_sure (d.images j.disk) _ _ _ _ c.self.invariant.0 is_sure f (g.met.D.Disk.only_now j.disk f left))) in
    let need : c.size.result + 13 + length c.args.payload.now ≡ size_with j.stored.size (e ∷ []) = omega (arith, c.size.ensures.size, length-entry e, length-append (entry_bytes e) []) in
    rw (← c.self.view_is) (puts_full d.clock d.images_since _ (e ∷ []) here (c.size.result + 13 + length c.args.payload.now) need c.if-need-self.true)

pub returns-then-is_err-clause-puts : goal.returns-then-is_err-clause-puts
returns-then-is_err-clause-puts g c =
    let d = g.D.Disk in
    let j = c.self.inside in
    let e : Entry = record { kind = c.args.kind; payload = c.args.payload.now } in
    let is_sure : j.sure ≡ true = ap (λ (t : JournalTold g.row.D.Denot). t.is_sure) c.self.view_is ∙ c.requires.sure in
    let here = started d.clock d.images_since j.disk _ (λ f left. inl (keeps_sure (d.images j.disk) _ _ _ _ c.self.invariant.0 is_sure f (g.met.D.Disk.only_now j.disk f left))) in
    let failed = sym c.is_err.ensures.value ∙ c.if-is_err.true in
    let same = at_err c.reserve.result failed c.reserve.ensures.err in
    rw (same, ← c.self.view_is) (puts_nothing d.clock d.images_since _ (e ∷ []) here
    (omega (arith, c.size.ensures.size, length-entry e, length-append (entry_bytes e) [], c.if-need-self.false))
    (λ entries bytes. not_ok c.reserve.result failed (c.reserve.ensures.enough (omega (arith, entries)) (omega (arith, bytes))).0))

pub invariant_of-self-2 : goal.invariant_of-self-2
invariant_of-self-2 g c =
    let d = g.D.Disk in
    let j = c.self.inside in
    let fits : size_with c.stage_entry.new.self.size c.stage_entry.new.self.flight ≤ j.limit = grind (arith, common_steps) in
    let run = c.settle.ensures.within j.limit fits c.self.invariant.4 in (
      search rules,
      search rules,
      search rules,
      search rules,
      left_now d.clock d.images d.images_since j.disk c.settle.new.disk (IsAtMost j.limit) g.met.D.Disk.counts_now run,
    )
