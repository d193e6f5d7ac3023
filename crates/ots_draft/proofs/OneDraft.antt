-- A draft has one list of operations, and trees make one tree of it.
use Rattle.std.proofs.Common.{◌≡◌, ◌∙◌, List, [], ◌∷◌, map, refl, sym, ap, subst}
use Rattle.std.specs.List.{AllByRecursion, flat_map}
use Rattle.ots_canon.proofs.OneTree.{one_tree}
use Rattle.ots_canon.proofs.Rising.{one_canon, same_itself}
use Rattle.ots_canon.specs.Canonical.{IsCanonTree, IsTreeOf}
use Rattle.ots_draft.specs.Draft.{IsDraft, IsTaken, Waits}
use Rattle.ots_ops.specs.declared.op.Op.{Op}
use Rattle.ots_tree.proofs.Closing.{node_path}
use Rattle.ots_tree.proofs.Determined.{same_pre}
use Rattle.ots_tree.specs.Made.{after}
use Rattle.ots_tree.specs.Wire.{Node, Path, paths, pre}
use Rattle.ots_tree.specs.declared.detached.Detached.{Detached}
use Rattle.ots_tree.specs.declared.token.Token.{Token}

pub one_operations : (proof : Detached) (first second : List Op) → IsDraft proof first → IsDraft proof second → first ≡ second
one_operations proof first second d e =
    let same : d.node ≡ e.node = same_pre d.node e.node (d.are ∙ sym e.are) in
    let found = node_path d.node in
    let a = subst (AllByRecursion (Waits first)) found.are d.wait in
    let b = subst (AllByRecursion (Waits second)) (ap paths (sym same) ∙ found.are) e.wait in
    sym a.0.same ∙ b.0.same

same_nodes : (ns ms : List Node) → map pre ns ≡ map pre ms → ns ≡ ms
same_nodes [] [] is = refl
same_nodes [] (m ∷ ms) is = absurd cc
same_nodes (n ∷ ns) [] is = absurd cc
same_nodes (n ∷ ns) (m ∷ ms) is = λ i. same_pre n m (cc) i ∷ same_nodes ns ms (cc) i

same_form : (ps : List Path) (ts us : List Token) → IsCanonTree ps ts → IsCanonTree ps us → ts ≡ us
same_form ps ts us f g =
    let sorted : f.sorted ≡ g.sorted = one_canon ps ps f.sorted g.sorted (same_itself ps) f.is_canon g.is_canon in
    let tree : f.node ≡ g.node = one_tree g.sorted f.node g.node (subst (λ (qs : List Path). IsTreeOf qs f.node) sorted f.is_tree) g.is_tree in
    sym f.are ∙ ap pre tree ∙ g.are

pub one_taken : (proof : Detached) (ops : List Op) (trees : List (List Token)) (first second : Detached) → IsTaken proof ops trees first
    → IsTaken proof ops trees second → first.tree ≡ second.tree
one_taken proof ops trees first second a b =
    let nodes : a.nodes ≡ b.nodes = same_nodes a.nodes b.nodes (a.are ∙ sym b.are) in
    same_form (map (after ops) (flat_map paths b.nodes)) first.tree second.tree
    (subst (λ (ns : List Node). IsCanonTree (map (after ops) (flat_map paths ns)) first.tree) nodes a.form) b.form
