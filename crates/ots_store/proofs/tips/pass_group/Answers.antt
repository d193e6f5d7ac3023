use Rattle.std.proofs.Common.{sym, subst, arith}
use Rattle.std.specs.List.{AllByRecursion}
use Rattle.ots_journal.specs.declared.entry.Entry.{Entry}
use Rattle.ots_store.specs.Order.{tip_in}
use Rattle.ots_store.specs.Records.{IsRecord, record_of}
use Rattle.ots_store.specs.Progress.{TipEndsBy}
use Rattle.ots_store.proofs.Tipped.{group_ends, record_there}
use Rattle.ots_store.proofs.tips.pass_group.Goals as goal

pub loop-place-preserved : goal.loop-place-preserved
loop-place-preserved c =
    let group = c.args.group.now in
    let covered = c.args.covered in
    let here : AllByRecursion (TipEndsBy covered) (tip_in (record_of c.index-group-place.result)) =
    c.ends_by.ensures c.if-ends_by.true (subst IsRecord (sym c.index-group-place.is) (record_there group c.loop-place.place c.index-group-place.result c.loop-place-test.true c.requires.each)) in
    record {
      there = omega arith;
      passed = λ before. group_ends covered group c.loop-place.place c.index-group-place.result c.loop-place-test.true (c.loop-place.invariant.passed before)
          (subst (λ (e : Entry). AllByRecursion (TipEndsBy covered) (tip_in (record_of e))) c.index-group-place.is here);
    }
