use Rattle.std.proofs.Common.{◌≡◌, ◌∷◌, ◌∙◌, [], true, arith, sym, ap, subst}
use Rattle.ots_store.specs.Order.{records_of, Follows}
use Rattle.ots_store.specs.Records.{record_of}
use Rattle.ots_store.specs.Store.{StoreTold}
use Rattle.ots_store.proofs.Adding.{staged_one, sure_appends, settled_keeps, settles_few, puts_readable, record_fits}
use Rattle.ots_store.proofs.Ordered.{record_one}
use Rattle.ots_store.proofs.Recorded.{entry}
use Rattle.ots_store.proofs.store.Store.add.Goals as goal

pub append-outcome-requires-clause-most : goal.append-outcome-requires-clause-most
append-outcome-requires-clause-most g c = (record_fits (entry c.args.kind c.args.payload.now) c.requires.is).1

pub settle-requires : goal.settle-requires
settle-requires g c =
    let j = c.self.inside.journal in
    let e = entry c.args.kind c.args.payload.now in
    let sure : j.is_sure ≡ true = ap (λ (s : StoreTold g.row.D.Denot). s.journal.is_sure) c.self.view_is ∙ c.requires.sure in
    record {
      few = settles_few g.D.Disk.clock g.D.Disk.images_since j c.append-outcome.new.self (e ∷ []) c.stage.new.self c.append-outcome.result
          (sure_appends g.D.Disk.bytes g.D.Disk.clock g.D.Disk.images_since j c.append-outcome.new.self (e ∷ []) c.append-outcome.result sure c.append-outcome.ensures.appends)
          (staged_one j.entries c.self.invariant.flight e c.stage.new.self (c.self.invariant.settled sure) (c.in-Ok.ensures.ok (records_of j.entries) c.self.invariant.flight c.self.invariant.holds))
          (omega (arith, c.count.ensures.count, c.count.ensures.bound));
    }

pub invariant_of-self : goal.invariant_of-self
invariant_of-self g c =
    let j = c.self.inside.journal in
    let e = entry c.args.kind c.args.payload.now in
    let sure : j.is_sure ≡ true = ap (λ (s : StoreTold g.row.D.Denot). s.journal.is_sure) c.self.view_is ∙ c.requires.sure in
    let follows : Follows (records_of j.entries) (record_of e) = subst (λ (s : StoreTold g.row.D.Denot). Follows s.records (record_of e)) (sym c.self.view_is) c.requires.follows in
    settled_keeps g.D.Disk.clock g.D.Disk.images_since j c.append-outcome.new.self (e ∷ []) c.stage.new.self c.settle.new.held sure c.self.invariant.are
    (record_one (records_of j.entries) e c.requires.is follows)
    (staged_one j.entries c.self.invariant.flight e c.stage.new.self (c.self.invariant.settled sure) (c.in-Ok.ensures.ok (records_of j.entries) c.self.invariant.flight c.self.invariant.holds))
    c.append-outcome.result c.settle.result
    (sure_appends g.D.Disk.bytes g.D.Disk.clock g.D.Disk.images_since j c.append-outcome.new.self (e ∷ []) c.append-outcome.result sure c.append-outcome.ensures.appends) c.settle.ensures

pub returns-in-Ok-clause-readable : goal.returns-in-Ok-clause-readable
returns-in-Ok-clause-readable g c =
    let j = c.self.inside.journal in
    let e = entry c.args.kind c.args.payload.now in
    let sure : j.is_sure ≡ true = ap (λ (s : StoreTold g.row.D.Denot). s.journal.is_sure) c.self.view_is ∙ c.requires.sure in
    let follows : Follows (records_of j.entries) (record_of e) = subst (λ (s : StoreTold g.row.D.Denot). Follows s.records (record_of e)) (sym c.self.view_is) c.requires.follows in
    rw (← c.self.view_is) (puts_readable g.D.Disk.clock g.D.Disk.images_since j c.append-outcome.new.self (e ∷ []) c.append-outcome.result c.self.invariant.are
    (record_one (records_of j.entries) e c.requires.is follows)
    (sure_appends g.D.Disk.bytes g.D.Disk.clock g.D.Disk.images_since j c.append-outcome.new.self (e ∷ []) c.append-outcome.result sure c.append-outcome.ensures.appends))
