use Rattle.std.proofs.Common.{◌+◌, ◌-◌, List, take, drop, arith, refl, subst, sym}
use Rattle.std.specs.Prelude.{Ok, Err}
use Rattle.std.proofs.lemmas.List.{take-append-drop}
use Rattle.ots_journal.specs.declared.entry.Entry.{Entry}
use Rattle.ots_store.specs.Store.{Added}
use Rattle.ots_calendar_maintenance.proofs.Carrying.{carries_as, fault_is, group_is, left_here, next_place, next_records, none_carried, none_left, not_carried, one_carried, records_prefix}
use Rattle.ots_calendar_endings.proofs.Running.{rose_later}
use Rattle.ots_calendar_maintenance.proofs.migrate_command.add_groups.Goals as goal

pub loop-done-init : goal.loop-done-init
loop-done-init g c = record {
  carried = none_carried g.D.Disk.clock g.D.Disk.images g.D.Disk.images_since g.met.D.Disk.only_now c.args.rest.now c.args.store.now.journal c.requires.sure c.requires.stands;
  records = c.requires.records;
  known = c.stands.ensures.records;
  later = omega arith;
}

pub add_group-requires-clause-sure : goal.add_group-requires-clause-sure
add_group-requires-clause-sure g c = c.loop-done.invariant.carried.carried.sure

pub add_group-requires-clause-follow : goal.add_group-requires-clause-follow
add_group-requires-clause-follow g c =
    let left = drop c.loop-done.done c.args.rest.now in
    let n = c.min-end.result - c.loop-done.done in
    records_prefix c.loop-done.store.records (take n left) (drop n left) left (sym (take-append-drop n left)) c.loop-done.invariant.records

pub returns-in_err-add_group-clause-carries : goal.returns-in_err-add_group-clause-carries
returns-in_err-add_group-clause-carries g c =
    carries_as g.D.Disk.clock g.D.Disk.images g.D.Disk.images_since _ _ _ _ _ c.in_err-add_group.field-0.0 c.from_residual.ensures.1
    (not_carried g.D.Disk.clock g.D.Disk.images g.D.Disk.images_since g.met.D.Disk.only_now c.args.rest.now c.args.store.now.journal c.loop-done.store.journal c.add_group.new.self.journal c.loop-done.invariant.carried.groups c.loop-done.invariant.carried.carried _ c.in_err-add_group.field-0.0 (left_here c.args.rest.now c.loop-done.done c.loop-done.invariant.carried.groups c.loop-done-test.true c.loop-done.invariant.carried.at)
    (subst (λ (z : List Entry). Added {A = Unit {0}} g.D.Disk.clock g.D.Disk.images_since c.loop-done.store.journal c.add_group.new.self.journal z (Err c.in_err-add_group.field-0.0)) (group_is c.args.rest.now c.loop-done.done c.min-end.result c.loop-done.invariant.carried.groups c.loop-done-test.true c.loop-done.invariant.carried.at c.min-end.ensures) c.in_err-add_group.ensures.added)
    (λ is. rose_later _ _ _ c.loop-done.invariant.later (c.in_err-add_group.ensures.cause.rose (fault_is c.in_err-add_group.field-0.0 is))))

pub returns-in_err-add_group-clause-later : goal.returns-in_err-add_group-clause-later
returns-in_err-add_group-clause-later g c = let now = c.in_err-add_group.ensures.cause.later in let before = c.loop-done.invariant.later in omega (arith, now, before)

pub loop-done-preserved : goal.loop-done-preserved
loop-done-preserved g c = record {
  carried = record {
    groups = c.loop-done.invariant.carried.groups + 1;
    at = next_place c.args.rest.now c.loop-done.done c.min-end.result c.loop-done.invariant.carried.groups c.loop-done-test.true c.loop-done.invariant.carried.at c.min-end.ensures;
    carried = one_carried g.D.Disk.clock g.D.Disk.images g.D.Disk.images_since g.met.D.Disk.only_now c.args.rest.now c.args.store.now.journal c.loop-done.store.journal c.add_group.new.self.journal c.loop-done.invariant.carried.groups c.loop-done.invariant.carried.carried c.in_ok-add_group.field-0
        (subst (λ (z : List Entry). Added {A = Unit {0}} g.D.Disk.clock g.D.Disk.images_since c.loop-done.store.journal c.add_group.new.self.journal z (Ok c.in_ok-add_group.field-0)) (group_is c.args.rest.now c.loop-done.done c.min-end.result c.loop-done.invariant.carried.groups c.loop-done-test.true c.loop-done.invariant.carried.at c.min-end.ensures) c.in_ok-add_group.ensures.added)
        c.in_ok-add_group.ensures.acknowledged;
  };
  records = next_records c.args.rest.now (take (c.min-end.result - c.loop-done.done) (drop c.loop-done.done c.args.rest.now)) c.loop-done.done c.min-end.result _ _ _ _
      (let less = c.loop-done-test.true in let is = c.min-end.ensures in omega (arith, less, is)) c.loop-done.invariant.records refl c.loop-done.invariant.known c.in_ok-add_group.ensures.records
      c.in_ok-add_group.ensures.added.outcome.entries;
  known = c.in_ok-add_group.ensures.records;
  later = let now = c.in_ok-add_group.ensures.cause.later in let before = c.loop-done.invariant.later in omega (arith, now, before);
}

pub returns-clause-carries : goal.returns-clause-carries
returns-clause-carries g c =
    let past = c.loop-done-test.false in
    (c.loop-done.invariant.carried.groups, none_left c.args.rest.now c.loop-done.done c.loop-done.invariant.carried.groups (omega (arith, past)) c.loop-done.invariant.carried.at, c.loop-done.invariant.carried.carried)

pub returns-clause-later : goal.returns-clause-later
returns-clause-later g c = c.loop-done.invariant.later
