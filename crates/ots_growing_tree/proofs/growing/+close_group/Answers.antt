use Rattle.std.proofs.Common.{arith, ◌∙◌, ◌-◌, ◌/◌, ap, subst, length, take}
use Rattle.std.specs.Prelude.{is_ok}
use Rattle.std.proofs.lemmas.List.{take_rest}
use Rattle.ots_growing_tree.specs.TreeParts.{AreAbove}
use Rattle.ots_merkle.specs.CalendarTree.{root}
use Rattle.ots_growing_tree.specs.declared.growing.TheConstants.{GROUP}
use Rattle.ots_growing_tree.proofs.Levels.{closed_group, joined_above, joined_room, length_after, level_room, before_pushed, no_level, open_group, pushed_items, room_of, split_levels}
use Rattle.ots_growing_tree.proofs.growing.+close_group.Goals as goal

pub returns-then-below-ne0-clause-above : goal.returns-then-below-ne0-clause-above
returns-then-below-ne0-clause-above t c = open_group c.args.above.now c.args.below.now c.requires.some c.if-below-ne0.true c.requires.above

pub unreachable-requires : goal.unreachable-requires
unreachable-requires t c =
    no_level c.args.above.now c.requires.room.0 c.args.below.now c.in_default.ensures.cases c.requires.some c.if-below-ne0.false c.requires.room.1 c.requires.room.2

pub unwrap-requires : goal.unwrap-requires
unwrap-requires t c =
    c.push.ensures.succeeds (omega (
      arith,
      c.in-Some.level.now.ok,
      level_room c.args.above.now c.in-Some.level.now c.in-Some.higher.now c.requires.room.0 c.args.below.now c.in-Some.ensures.cases.0 c.requires.some c.if-below-ne0.false
          c.requires.above c.requires.room.1 c.requires.room.2,
    ))

pub close_group-requires : goal.close_group-requires
close_group-requires t c =
    let below = c.args.below.now in
    let parts = split_levels c.args.above.now c.in-Some.level.now c.in-Some.higher.now c.requires.room.0 (take (length below - 1) below) c.in-Some.ensures.cases.0
    c.requires.above c.requires.room.1 in
    let pushed = pushed_items c.push.result c.in-Some.level.now.items c.root.result c.push.new.self.items (ap is_ok c.unwrap.ensures) c.push.ensures.items in
    let count = length_after c.in-Some.level.now.items below c.root.result c.deref.result.now c.requires.some c.if-below-ne0.false parts.is (c.deref.ensures.value ∙ pushed) in (
      omega (arith, c.in-Some.ensures.cases.1),
      (
        omega (arith, count, c.requires.some, c.if-below-ne0.false),
        (
          omega (arith, count, c.requires.few),
          (
            subst (AreAbove c.in-Some.higher.now) (before_pushed c.in-Some.level.now.items c.root.result c.deref.result.now (c.deref.ensures.value ∙ pushed)) parts.above,
            (c.requires.room.0 / GROUP, parts.rooms, omega (arith, count, c.requires.room.2)),
          ),
        ),
      ),
    )

pub returns-clause-above : goal.returns-clause-above
returns-clause-above t c =
    let below = c.args.below.now in
    let parts = split_levels c.args.above.now c.in-Some.level.now c.in-Some.higher.now c.requires.room.0 (take (length below - 1) below) c.in-Some.ensures.cases.0
    c.requires.above c.requires.room.1 in
    let pushed = pushed_items c.push.result c.in-Some.level.now.items c.root.result c.push.new.self.items (ap is_ok c.unwrap.ensures) c.push.ensures.items in
    joined_above c.push.new.self c.close_group.new.above below
    (closed_group c.in-Some.level.now.items c.push.new.self.items below c.root.result c.requires.some c.if-below-ne0.false parts.is
    (c.root.ensures ∙ ap root (take_rest below (length below - GROUP))) pushed)
    (subst (AreAbove c.close_group.new.above) c.deref.ensures.value c.close_group.ensures.above)

pub returns-clause-room : goal.returns-clause-room
returns-clause-room t c = λ total room.
    let r = room_of c.args.above.now c.in-Some.level.now c.in-Some.higher.now total c.in-Some.ensures.cases.0 room in
    joined_room c.push.new.self c.close_group.new.above total (omega (arith, r.0, c.push.ensures.capacity)) (c.close_group.ensures.room (total / GROUP) r.1)
