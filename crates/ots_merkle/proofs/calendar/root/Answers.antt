use Rattle.std.proofs.Common.{refl, arith}
use Rattle.ots_merkle.proofs.Rows.{room_yet, row_further, root_of_all}
use Rattle.ots_merkle.proofs.calendar.root.Goals as goal

pub add-requires : goal.add-requires
add-requires c =
    room_yet c.loop-leaf.row c.args.leaves.now c.loop-leaf.leaf-index c.loop-leaf.invariant c.loop-leaf-test.array_long (omega arith) c.requires.most

pub loop-leaf-preserved : goal.loop-leaf-preserved
loop-leaf-preserved c =
    row_further c.loop-leaf.row c.add.new.row 32 c.args.leaves.now c.loop-leaf.leaf-index _ _ c.loop-leaf.invariant (omega arith) refl c.add.ensures

pub unreachable-requires : goal.unreachable-requires
unreachable-requires c =
    let e = root_of_all c.loop-leaf.row 32 c.args.leaves.now c.loop-leaf.leaf-index c.loop-leaf.invariant c.loop-leaf-test.false c.requires.least in
    cc (c.in-None.is, c.fold.ensures, e)

pub returns : goal.returns
returns c =
    let e = root_of_all c.loop-leaf.row 32 c.args.leaves.now c.loop-leaf.leaf-index c.loop-leaf.invariant c.loop-leaf-test.false c.requires.least in
    cc (c.in-Some.is, c.fold.ensures, e)
