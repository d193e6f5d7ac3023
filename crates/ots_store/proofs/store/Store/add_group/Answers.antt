use Rattle.std.proofs.Common.{◌≡◌, ◌∙◌, true, arith, sym, ap, subst}
use Rattle.ots_store.specs.Order.{records_of, AreRecords}
use Rattle.ots_store.specs.Store.{StoreTold}
use Rattle.ots_store.proofs.Adding.{staged_all, sure_appends, settled_keeps, settles_few, puts_readable}
use Rattle.ots_store.proofs.store.Store.add_group.Goals as goal

pub settle-requires : goal.settle-requires
settle-requires g c =
    let j = c.self.inside.journal in
    let group = c.args.entries.now in
    let sure : j.is_sure ≡ true = ap (λ (s : StoreTold g.row.D.Denot). s.journal.is_sure) c.self.view_is ∙ c.requires.sure in
    record {
      few = settles_few g.D.Disk.clock g.D.Disk.images_since j c.append_group-outcome.new.self group c.stage_entries.new.held c.append_group-outcome.result
          (sure_appends g.D.Disk.bytes g.D.Disk.clock g.D.Disk.images_since j c.append_group-outcome.new.self group c.append_group-outcome.result sure c.append_group-outcome.ensures.appends)
          (staged_all j.entries c.self.invariant.flight group c.stage_entries.new.held (c.self.invariant.settled sure) (c.in-Ok.ensures.ok (records_of j.entries) c.self.invariant.flight c.self.invariant.holds))
          (omega (arith, c.count.ensures.count, c.count.ensures.bound));
    }

pub invariant_of-self : goal.invariant_of-self
invariant_of-self g c =
    let j = c.self.inside.journal in
    let group = c.args.entries.now in
    let sure : j.is_sure ≡ true = ap (λ (s : StoreTold g.row.D.Denot). s.journal.is_sure) c.self.view_is ∙ c.requires.sure in
    let follow : AreRecords (records_of j.entries) group = subst (λ (s : StoreTold g.row.D.Denot). AreRecords s.records group) (sym c.self.view_is) c.requires.follow in
    settled_keeps g.D.Disk.clock g.D.Disk.images_since j c.append_group-outcome.new.self group c.stage_entries.new.held c.settle.new.held sure c.self.invariant.are follow
    (staged_all j.entries c.self.invariant.flight group c.stage_entries.new.held (c.self.invariant.settled sure) (c.in-Ok.ensures.ok (records_of j.entries) c.self.invariant.flight c.self.invariant.holds))
    c.append_group-outcome.result c.settle.result
    (sure_appends g.D.Disk.bytes g.D.Disk.clock g.D.Disk.images_since j c.append_group-outcome.new.self group c.append_group-outcome.result sure c.append_group-outcome.ensures.appends) c.settle.ensures

pub returns-in-Ok-clause-readable : goal.returns-in-Ok-clause-readable
returns-in-Ok-clause-readable g c =
    let j = c.self.inside.journal in
    let group = c.args.entries.now in
    let sure : j.is_sure ≡ true = ap (λ (s : StoreTold g.row.D.Denot). s.journal.is_sure) c.self.view_is ∙ c.requires.sure in
    let follow : AreRecords (records_of j.entries) group = subst (λ (s : StoreTold g.row.D.Denot). AreRecords s.records group) (sym c.self.view_is) c.requires.follow in
    rw (← c.self.view_is) (puts_readable g.D.Disk.clock g.D.Disk.images_since j c.append_group-outcome.new.self group c.append_group-outcome.result c.self.invariant.are follow
    (sure_appends g.D.Disk.bytes g.D.Disk.clock g.D.Disk.images_since j c.append_group-outcome.new.self group c.append_group-outcome.result sure c.append_group-outcome.ensures.appends))
