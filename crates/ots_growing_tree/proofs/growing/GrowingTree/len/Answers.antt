use Rattle.std.proofs.Common.{arith, ap, length}
use Rattle.ots_growing_tree.proofs.Levels.{leaves_counted}
use Rattle.ots_growing_tree.proofs.growing.GrowingTree.len.Goals as goal

pub overflow_mul-result : goal.overflow_mul-result
overflow_mul-result c =
    let p = c.self.inside.parts in
    omega (arith, c.len.ensures, p.runs.ok.0, leaves_counted _ _ p c.self.invariant, c.self.invariant.few, c.self.invariant.limit)

pub overflow_add-result : goal.overflow_add-result
overflow_add-result c =
    let p = c.self.inside.parts in
    omega (arith, c.len.ensures, c.len-2.ensures, p.runs.ok.0, p.tail.ok.0, leaves_counted _ _ p c.self.invariant, c.self.invariant.few, c.self.invariant.limit)

pub returns : goal.returns
returns c =
    let p = c.self.inside.parts in
    omega (arith, c.len.ensures, c.len-2.ensures, p.runs.ok.0, p.tail.ok.0, leaves_counted _ _ p c.self.invariant, ap (λ g. length g.leaves) c.self.view_is)
