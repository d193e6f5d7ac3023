-- Tokens and the numbers beside them make the listing of a tree.
use Rattle.std.proofs.Common.{◌≡◌, ℕ, zero, suc, ◌+◌, ◌<◌, List, [], ◌∷◌, ◌++◌, map, length, get_or, take, drop, Result, Ok, Err, refl, sym, ap, subst, ◌∙◌, arith, add-one}
use Rattle.std.specs.Prelude.{IfOk, Vec}
use Rattle.std.specs.declared.alloc.Global.{Global}
use Rattle.std.proofs.lemmas.List.{map-append, length-map}
use Rattle.ots_tree.specs.declared.token.Token.{Token}
use Rattle.ots_tree.specs.declared.token.Token.TheVariants as token
use Rattle.ots_tree.specs.declared.token.TokenAt.{TokenAt}
use Rattle.ots_tree.specs.Wire.{Node, Item, last, more, attested, step, pre, pre_item}
use Rattle.ots_tree.specs.Listed.{listed, listed_item, token_of, IsListed}
use Rattle.ots_tree.specs.Kept.{depth_of, beside, IsKept}

mutual
  pub node_tokens : (t : Node) (k : ℕ) → map token_of (listed k t) ≡ pre t
  node_tokens (last i) k = item_tokens i k
  node_tokens (more i t) k =
      ap (λ (z : List Token). token.Fork ∷ z) (
      map-append token_of (listed_item k i) (listed k t)
      ∙ ap (λ (z : List Token). z ++ map token_of (listed k t)) (item_tokens i k)
      ∙ ap (λ (z : List Token). pre_item i ++ z) (node_tokens t k))

  item_tokens : (i : Item) (k : ℕ) → map token_of (listed_item k i) ≡ pre_item i
  item_tokens (attested a) k = refl
  item_tokens (step o t) k = ap (λ (z : List Token). token.Op o ∷ z) (node_tokens t (suc k))

parts_beside : (ls : List TokenAt) → beside (map token_of ls) (map depth_of ls) ≡ ls
parts_beside [] = refl
parts_beside (l ∷ ls) = ap (λ (z : List TokenAt). l ∷ z) (parts_beside ls)

pub kept_beside : (tokens : List Token) (depths : List ℕ) (h : IsKept tokens depths) → beside tokens depths ≡ listed 0 h.node
kept_beside tokens depths h =
    ap (λ (z : List ℕ). beside tokens z) (sym h.depths_are)
    ∙ ap (λ (z : List Token). beside z (map depth_of (listed 0 h.node))) (sym (node_tokens h.node 0 ∙ h.tokens_are))
    ∙ parts_beside (listed 0 h.node)

pub kept_listed : (tokens : List Token) (depths : List ℕ) → IsKept tokens depths → IsListed tokens (beside tokens depths)
kept_listed tokens depths h = (h.node, h.tokens_are, sym (kept_beside tokens depths h))

pub result_listed : {E : Type 0} (tokens found : List Token) (depths : List ℕ) (r : Result (Vec TokenAt Global) E)
    → found ≡ tokens → IsKept tokens depths → IfOk r (λ v. v.items ≡ beside found depths) → IfOk r (λ v. IsListed tokens v.items)
result_listed tokens found depths (Ok v) same kept is =
    subst (IsListed tokens) (sym (is ∙ ap (λ (z : List Token). beside z depths) same)) (kept_listed tokens depths kept)
result_listed tokens found depths (Err e) same kept is = is

pub kept_length : (tokens : List Token) (depths : List ℕ) → IsKept tokens depths → length depths ≡ length tokens
kept_length tokens depths h =
    ap length (sym h.depths_are) ∙ length-map (listed 0 h.node) depth_of
    ∙ sym (length-map (listed 0 h.node) token_of) ∙ ap length (node_tokens h.node 0 ∙ h.tokens_are)

-- ---- at an index

at_index : (tokens : List Token) (depths : List ℕ) (i : ℕ) (x : Token) → length depths ≡ length tokens → i < length tokens → x ≡ get_or tokens i x
    → drop i (beside tokens depths) ≡ record { token = x; depth = get_or depths i 0 } ∷ drop (suc i) (beside tokens depths)
at_index [] ks i x same in_range is = absurd (omega arith)
at_index (y ∷ ys) [] i x same in_range is = absurd (omega arith)
at_index (y ∷ ys) (k ∷ ks) zero x same in_range is = ap (λ (z : Token). record { token = z; depth = k } ∷ beside ys ks) (sym is)
at_index (y ∷ ys) (k ∷ ks) (suc i) x same in_range is = at_index ys ks i x (omega arith) (omega arith) is

pub beside_at : (tokens : List Token) (depths : List ℕ) (i : ℕ) (x : Token) → length depths ≡ length tokens → i < length tokens → x ≡ get_or tokens i x
    → drop i (beside tokens depths) ≡ record { token = x; depth = get_or depths i 0 } ∷ drop (i + 1) (beside tokens depths)
beside_at tokens depths i x same in_range is = rw (add-one i) (at_index tokens depths i x same in_range is)

taken_more : (tokens : List Token) (depths : List ℕ) (i : ℕ) (x : Token) → length depths ≡ length tokens → i < length tokens → x ≡ get_or tokens i x
    → take (suc i) (beside tokens depths) ≡ take i (beside tokens depths) ++ record { token = x; depth = get_or depths i 0 } ∷ []
taken_more [] ks i x same in_range is = absurd (omega arith)
taken_more (y ∷ ys) [] i x same in_range is = absurd (omega arith)
taken_more (y ∷ ys) (k ∷ ks) zero x same in_range is = ap (λ (z : Token). record { token = z; depth = k } ∷ []) (sym is)
taken_more (y ∷ ys) (k ∷ ks) (suc i) x same in_range is =
    ap (λ (z : List TokenAt). record { token = y; depth = k } ∷ z) (taken_more ys ks i x (omega arith) (omega arith) is)

pub beside_more : (tokens : List Token) (depths : List ℕ) (i : ℕ) (x : Token) → length depths ≡ length tokens → i < length tokens → x ≡ get_or tokens i x
    → take (i + 1) (beside tokens depths) ≡ take i (beside tokens depths) ++ record { token = x; depth = get_or depths i 0 } ∷ []
beside_more tokens depths i x same in_range is = rw (add-one i) (taken_more tokens depths i x same in_range is)

pub length-beside : (tokens : List Token) (depths : List ℕ) → length depths ≡ length tokens → length (beside tokens depths) ≡ length tokens
length-beside [] ks same = refl
length-beside (y ∷ ys) [] same = absurd (omega arith)
length-beside (y ∷ ys) (k ∷ ks) same = ap suc (length-beside ys ks (omega arith))
