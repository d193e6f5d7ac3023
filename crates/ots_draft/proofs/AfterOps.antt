-- Canonical trees after operations.
use Rattle.std.proofs.Common.{◌≡◌, ◌∙◌, ℕ, List, [], ◌∷◌, map, sym, subst, ap}
use Rattle.ots_canon.proofs.OneTree.{paths_rise}
use Rattle.ots_canon.specs.Canonical.{IsCanonical, IsCanonTree}
use Rattle.ots_canon.specs.Order.{IsRising}
use Rattle.ots_draft.proofs.Lists.{same_made}
use Rattle.ots_ops.specs.declared.op.Op.{Op}
use Rattle.ots_tree.proofs.Determined.{same_pre}
use Rattle.ots_tree.proofs.MadePaths.{paths-chain}
use Rattle.ots_tree.specs.Made.{IsUnder, after, chain}
use Rattle.ots_tree.specs.Wire.{Node, Path, paths, pre}
use Rattle.ots_tree.specs.declared.token.Token.{Token}

canonical_chain : (ops : List Op) (t : Node) → IsCanonical t → IsCanonical (chain ops t)
canonical_chain [] t is = is
canonical_chain (o ∷ ops) t is = canonical_chain ops t is

-- the canonical tree of some paths, after operations, is that of these paths after them
pub canon_after : (ops : List Op) (ps : List Path) (form made : List Token) → IsCanonTree ps form → IsUnder ops form made
    → IsCanonTree (map (after ops) ps) made
canon_after ops ps form made canon under =
    let tree = canon.node in
    let node_is : under.node ≡ tree = same_pre under.node tree (under.node_is ∙ sym canon.are) in
    let canonical : IsCanonical (chain ops tree) = canonical_chain ops tree canon.is_tree.canonical in
    let paths_are : paths (chain ops tree) ≡ map (after ops) canon.sorted = paths-chain ops tree ∙ ap (map (after ops)) canon.is_tree.same in
    record {
      sorted = map (after ops) canon.sorted;
      is_canon = record {
        rising = subst IsRising paths_are (paths_rise (chain ops tree) canonical);
        same = same_made (after ops) ps canon.sorted canon.is_canon.same;
      };
      node = chain ops tree;
      is_tree = record { canonical = canonical; same = paths_are };
      are = ap (λ (t : Node). pre (chain ops t)) (sym node_is) ∙ under.made_is;
    }
