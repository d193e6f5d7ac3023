-- Beside each attestation a listing has the number of the operations on its path.
use Rattle.std.proofs.Common.{◌≡◌, ℕ, suc, ◌+◌, Bool, List, [], ◌∷◌, ◌++◌, map, length, refl, sym, ap, ◌∙◌, arith}
use Rattle.std.specs.Prelude.{filter}
use Rattle.std.proofs.lemmas.List.{map-append}
use Rattle.std.proofs.lemmas.List.Elements.{filter-append}
use Rattle.ots_ops.specs.declared.op.Op.{Op}
use Rattle.ots_tree.specs.declared.token.Token.TheVariants as token
use Rattle.ots_tree.specs.declared.token.TokenAt.{TokenAt}
use Rattle.ots_tree.specs.Wire.{Node, Item, last, more, attested, step, Path, paths, paths_of_item, below}
use Rattle.ots_tree.specs.Listed.{listed, listed_item, at_depth, is_attestation, end_below}

abbrev is_end : TokenAt → Bool
is_end l = is_attestation l.token

one_deeper : (o : Op) (k : ℕ) (ps : List Path) → map (end_below (suc k)) ps ≡ map (end_below k) (map (below o) ps)
one_deeper o k [] = refl
one_deeper o k (p ∷ ps) =
    let same : suc k + length p.ops ≡ k + suc (length p.ops) = omega arith in
    ap (λ (z : ℕ). at_depth z (token.Attestation p.end) ∷ map (end_below (suc k)) ps) same
    ∙ ap (λ (z : List TokenAt). end_below k (below o p) ∷ z) (one_deeper o k ps)

mutual
  pub node_ends : (k : ℕ) (t : Node) → filter is_end (listed k t) ≡ map (end_below k) (paths t)
  node_ends k (last i) = item_ends k i
  node_ends k (more i t) =
      filter-append is_end (listed_item k i) (listed k t)
      ∙ ap (λ (z : List TokenAt). z ++ filter is_end (listed k t)) (item_ends k i)
      ∙ ap (λ (z : List TokenAt). map (end_below k) (paths_of_item i) ++ z) (node_ends k t)
      ∙ sym (map-append (end_below k) (paths_of_item i) (paths t))

  item_ends : (k : ℕ) (i : Item) → filter is_end (listed_item k i) ≡ map (end_below k) (paths_of_item i)
  item_ends k (attested a) =
      let same : k ≡ k + 0 = omega arith in
      ap (λ (z : ℕ). at_depth z (token.Attestation a) ∷ []) same
  item_ends k (step o t) = node_ends (suc k) t ∙ one_deeper o k (paths t)
