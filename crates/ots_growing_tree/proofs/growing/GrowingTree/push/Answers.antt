use Rattle.std.proofs.Common.{arith, ◌≡◌, ◌+◌, ◌-◌, ◌++◌, ◌∷◌, [], ap, sym, length, length-append, subst}
use Rattle.ots_growing_tree.specs.TreeParts.{IsOf}
use Rattle.ots_growing_tree.proofs.growing.GrowingTree.push.Goals as goal

pub invariant_of-self : goal.invariant_of-self
invariant_of-self c =
    let leaves = c.self.inside.pushed.leaves in
    let spare = c.self.inside.spare in
    let some = c.in_ok-reserve.ensures.spare in
    let is = c.push.ensures leaves (length leaves + spare) c.self.invariant (omega (arith, some, ap (λ g. g.spare) c.self.view_is)) in
    let count : length leaves + spare ≡ length c.and.result.leaves + (spare - 1) =
    omega (arith, some, ap (λ g. g.spare) c.self.view_is, ap length c.and.ensures, length-append leaves (c.args.leaf ∷ [])) in
    subst (λ z. IsOf z (length c.and.result.leaves + (spare - 1)) c.push.new.self) (sym c.and.ensures)
    (subst (λ n. IsOf (leaves ++ c.args.leaf ∷ []) n c.push.new.self) count is)
