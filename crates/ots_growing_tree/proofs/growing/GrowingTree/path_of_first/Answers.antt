use Rattle.std.proofs.Common.{arith, ◌*◌, ◌/◌, ap, length, length-drop, length-take, take}
use Rattle.ots_growing_tree.specs.declared.growing.TheConstants.{RUN}
use Rattle.ots_growing_tree.proofs.growing.GrowingTree.path_of_first.Goals as goal

pub root_of-requires : goal.root_of-requires
root_of-requires c =
    let xs = take c.args.n c.args.self.now.leaves in
    omega (arith, ap length c.requires.cut, length-drop (RUN * (c.args.n / RUN)) xs, length-take c.args.n c.args.self.now.leaves)

pub path_above-requires-clause-closing : goal.path_above-requires-clause-closing
path_above-requires-clause-closing c = rw (← c.requires.cut) c.root_of.ensures
