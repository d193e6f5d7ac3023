use Rattle.ots_tree.specs.Walk.{open_at}
use Rattle.ots_tree.proofs.DepthWalk.{built_kept}
use Rattle.ots_tree.proofs.builder.TreeBuilder.build.Goals as goal

pub kept-requires : goal.kept-requires
kept-requires c =
    let b = c.self.inside in
    built_kept b.tokens.items b.depths.items (open_at b.walk) c.self.invariant (rw (← c.self.view_is) at c.requires)
