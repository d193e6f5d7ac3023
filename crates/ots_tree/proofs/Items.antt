-- Where the last item of a root begins, and what a node with more items has as its listing.
use Rattle.std.proofs.Common.{◌≡◌, ℕ, zero, suc, ◌-◌, ◌^◌, ◌<◌, min, List, [], ◌∷◌, ◌++◌, map, length, get_or, take, drop, refl, sym, ap, subst, ◌∙◌, arith, append_assoc}
use Rattle.std.specs.Prelude.{insert}
use Rattle.std.specs.List.{AllByRecursion}
use Rattle.std.proofs.Math.Seq.{take-append_seam, drop-append_seam}
use Rattle.std.proofs.lemmas.List.{map-append, length-map, take-append-drop}
use Rattle.ots_tree.specs.declared.token.Token.{Token}
use Rattle.ots_tree.specs.declared.token.Token.TheVariants as token
use Rattle.ots_tree.specs.declared.token.TokenAt.{TokenAt}
use Rattle.ots_tree.specs.Wire.{Node, Item, last, more, attested, step, pre, IsToken}
use Rattle.ots_tree.specs.Listed.{listed, listed_item, token_of, at_depth}
use Rattle.ots_tree.specs.Kept.{depth_of, IsKept}
use Rattle.ots_tree.specs.Made.{joined, IsBeside}
use Rattle.ots_tree.specs.LastItem.{IsLastZero}
use Rattle.ots_tree.proofs.Closing.{all-append, all-left, all-right}
use Rattle.ots_tree.proofs.Numbered.{node_tokens}

-- ---- below an operation no number is 0

abbrev IsDeep : TokenAt → Type 0
IsDeep l = 0 < l.depth

capped_deep : (k : ℕ) → 0 < min (suc k) (2 ^ 32 - 1)
capped_deep k = omega arith

mutual
  deep_node : (t : Node) (k : ℕ) → AllByRecursion IsDeep (listed (suc k) t)
  deep_node (last i) k = deep_item i k
  deep_node (more i t) k = (capped_deep k, all-append IsDeep (listed_item (suc k) i) (listed (suc k) t) (deep_item i k) (deep_node t k))

  deep_item : (i : Item) (k : ℕ) → AllByRecursion IsDeep (listed_item (suc k) i)
  deep_item (attested a) k = (capped_deep k, tt)
  deep_item (step o t) k = (capped_deep k, deep_node t (suc k))

-- the listing of a root, cut before its last item
record Cut (t : Node) : Type 0 where
  before : List TokenAt
  first : TokenAt
  rest : List TokenAt
  is : listed 0 t ≡ before ++ (first ∷ rest)
  at_root : first.depth ≡ 0
  deep : AllByRecursion IsDeep rest
  more_is : (u : Node) → listed 0 (joined t u) ≡ before ++ (at_depth 0 token.Fork ∷ ((first ∷ rest) ++ listed 0 u))

cut_last : (i : Item) → Cut (last i)
cut_last (attested a) = record { before = []; first = at_depth 0 (token.Attestation a); rest = []; is = refl; at_root = refl; deep = tt; more_is = λ u. refl }
cut_last (step o t) = record { before = []; first = at_depth 0 (token.Op o); rest = listed 1 t; is = refl; at_root = refl; deep = deep_node t 0; more_is = λ u. refl }

cut : (t : Node) → Cut t
cut (last i) = cut_last i
cut (more i t) =
    let c = cut t in
    let fork = at_depth 0 token.Fork in
    let prefix = listed_item 0 i in
    record {
      before = fork ∷ (prefix ++ c.before);
      first = c.first;
      rest = c.rest;
      is = ap (λ (z : List TokenAt). fork ∷ (prefix ++ z)) c.is ∙ ap (λ (z : List TokenAt). fork ∷ z) (sym (append_assoc prefix c.before (c.first ∷ c.rest)));
      at_root = c.at_root;
      deep = c.deep;
      more_is = λ u.
          ap (λ (z : List TokenAt). fork ∷ (prefix ++ z)) (c.more_is u)
          ∙ ap (λ (z : List TokenAt). fork ∷ z) (sym (append_assoc prefix c.before (fork ∷ ((c.first ∷ c.rest) ++ listed 0 u))));
    }

-- ---- the last number that is 0

abbrev depths_in : List TokenAt → List ℕ
depths_in ls = map depth_of ls

none_deep : (ls : List TokenAt) (j : ℕ) → AllByRecursion IsDeep ls → j < length (depths_in ls) → get_or (depths_in ls) j 0 ≡ 0 → ⊥
none_deep [] j deep low is = absurd (omega arith)
none_deep (l ∷ ls) zero deep low is = let here = deep.0 in omega arith
none_deep (l ∷ ls) (suc j) deep low is = none_deep ls j deep.1 (omega arith) is

seam_in_range : (xs : List TokenAt) (y : TokenAt) (ys : List TokenAt) → length xs < length (depths_in (xs ++ (y ∷ ys)))
seam_in_range [] y ys = omega arith
seam_in_range (x ∷ xs) y ys = let h = seam_in_range xs y ys in omega arith

at_seam : (xs : List TokenAt) (y : TokenAt) (ys : List TokenAt) → y.depth ≡ 0 → get_or (depths_in (xs ++ (y ∷ ys))) (length xs) 0 ≡ 0
at_seam [] y ys h = h
at_seam (x ∷ xs) y ys h = at_seam xs y ys h

last_zero : (before : List TokenAt) (first : TokenAt) (rest : List TokenAt) (place : ℕ) → first.depth ≡ 0 → AllByRecursion IsDeep rest
    → IsLastZero (depths_in (before ++ (first ∷ rest))) place → place ≡ length before
last_zero [] first rest zero root deep h = refl
last_zero [] first rest (suc j) root deep h = let low = h.in_range in absurd (none_deep rest j deep (omega arith) h.is_zero)
last_zero (l ∷ before) first rest zero root deep h =
    let low = seam_in_range before first rest in
    absurd (h.later (suc (length before)) (omega arith) (omega arith) (at_seam before first rest root))
last_zero (l ∷ before) first rest (suc j) root deep h =
    let low = h.in_range in
    ap suc (last_zero before first rest j root deep (record {
      in_range = omega arith;
      is_zero = h.is_zero;
      later = λ k above within. h.later (suc k) (omega arith) (omega arith);
    }))

pub record StartsAtRoot (depths : List ℕ) : Type 0 where
  pub some : 0 < length depths
  pub at_root : get_or depths 0 0 ≡ 0

root_starts : (t : Node) → StartsAtRoot (depths_in (listed 0 t))
root_starts (last (attested a)) = record { some = omega arith; at_root = refl }
root_starts (last (step o t)) = record { some = omega arith; at_root = refl }
root_starts (more i t) = record { some = omega arith; at_root = refl }

pub kept_starts : (tokens : List Token) (depths : List ℕ) → IsKept tokens depths → StartsAtRoot depths
kept_starts tokens depths h = subst StartsAtRoot h.depths_are (root_starts h.node)

-- ---- more items

spliced : {X : Type 0} (f : TokenAt → X) (before : List TokenAt) (fork : TokenAt) (end others : List TokenAt)
    → map f (before ++ (fork ∷ (end ++ others))) ≡ insert (map f (before ++ end)) (length before) (f fork) ++ map f others
spliced {X} f before fork end others =
    let split : map f (before ++ end) ≡ map f before ++ map f end = map-append f before end in
    let long : length before ≡ length (map f before) = sym (length-map before f) in
    let taken : take (length before) (map f (before ++ end)) ≡ map f before =
    ap (λ (z : List X). take (length before) z) split ∙ ap (λ (z : ℕ). take z (map f before ++ map f end)) long ∙ take-append_seam (map f before) (map f end) in
    let left : drop (length before) (map f (before ++ end)) ≡ map f end =
    ap (λ (z : List X). drop (length before) z) split ∙ ap (λ (z : ℕ). drop z (map f before ++ map f end)) long ∙ drop-append_seam (map f before) (map f end) in
    map-append f before (fork ∷ (end ++ others))
    ∙ ap (λ (z : List X). map f before ++ (f fork ∷ z)) (map-append f end others)
    ∙ sym (
    ap (λ (z : List X). (z ++ (f fork ∷ drop (length before) (map f (before ++ end)))) ++ map f others) taken
    ∙ ap (λ (z : List X). (map f before ++ (f fork ∷ z)) ++ map f others) left
    ∙ append_assoc (map f before) (f fork ∷ map f end) (map f others))

-- what a part of a tree's listing says becomes the same of the joined tree's
part_joined : {X : Type 0} (f : TokenAt → X) (t u : Node) (c : Cut t) (xs ys : List X) (place : ℕ) → place ≡ length c.before
    → map f (listed 0 t) ≡ xs → map f (listed 0 u) ≡ ys → map f (listed 0 (joined t u)) ≡ insert xs place (f (at_depth 0 token.Fork)) ++ ys
part_joined {X} f t u c xs ys place at are others =
    let fork = at_depth 0 token.Fork in
    ap (map f) (c.more_is u)
    ∙ spliced f c.before fork (c.first ∷ c.rest) (listed 0 u)
    ∙ ap (λ (z : List X). insert z (length c.before) (f fork) ++ map f (listed 0 u)) (ap (map f) (sym c.is) ∙ are)
    ∙ ap (λ (z : ℕ). insert xs z (f fork) ++ map f (listed 0 u)) (sym at)
    ∙ ap (λ (z : List X). insert xs place (f fork) ++ z) others

place_is : (t : Node) (c : Cut t) (depths : List ℕ) (place : ℕ) → depths_in (listed 0 t) ≡ depths → IsLastZero depths place → place ≡ length c.before
place_is t c depths place are h =
    last_zero c.before c.first c.rest place c.at_root c.deep (subst (λ (z : List ℕ). IsLastZero z place) (sym are ∙ ap depths_in c.is) h)

with_fork : (tokens : List Token) (place : ℕ) → AllByRecursion IsToken tokens → AllByRecursion IsToken (insert tokens place token.Fork)
with_fork tokens place h =
    let whole : take place tokens ++ drop place tokens ≡ tokens = take-append-drop place tokens in
    let both = subst (AllByRecursion IsToken) (sym whole) h in
    all-append IsToken (take place tokens) (token.Fork ∷ drop place tokens) (all-left IsToken (take place tokens) (drop place tokens) both)
    (tt, all-right IsToken (take place tokens) (drop place tokens) both)

-- what is made of two trees
made_tokens : (tokens others : List Token) (depths numbers : List ℕ) (place : ℕ) (h : IsKept tokens depths) (k : IsKept others numbers) → IsLastZero depths place
    → pre (joined h.node k.node) ≡ insert tokens place token.Fork ++ others
made_tokens tokens others depths numbers place h k at =
    let c = cut h.node in
    let here = place_is h.node c depths place h.depths_are at in
    sym (node_tokens (joined h.node k.node) 0)
    ∙ part_joined token_of h.node k.node c tokens others place here (node_tokens h.node 0 ∙ h.tokens_are) (node_tokens k.node 0 ∙ k.tokens_are)

made_kept : (tokens others : List Token) (depths numbers : List ℕ) (place : ℕ) → IsKept tokens depths → IsKept others numbers → IsLastZero depths place
    → IsKept (insert tokens place token.Fork ++ others) (insert depths place 0 ++ numbers)
made_kept tokens others depths numbers place h k at =
    let c = cut h.node in
    let here = place_is h.node c depths place h.depths_are at in
    record {
      node = joined h.node k.node;
      tokens_are = made_tokens tokens others depths numbers place h k at;
      depths_are = part_joined depth_of h.node k.node c depths numbers place here h.depths_are k.depths_are;
      limits = all-append IsToken (insert tokens place token.Fork) others (with_fork tokens place h.limits) k.limits;
    }

pub lists_kept : (tokens others : List Token) (depths numbers : List ℕ) (place : ℕ) (forked made : List Token) (grown all : List ℕ)
    → IsKept tokens depths → IsKept others numbers → IsLastZero depths place
    → forked ≡ insert tokens place token.Fork → made ≡ forked ++ others → grown ≡ insert depths place 0 → all ≡ grown ++ numbers → IsKept made all
lists_kept tokens others depths numbers place forked made grown all h k at one two three four =
    let made_is : insert tokens place token.Fork ++ others ≡ made = sym (two ∙ ap (λ (z : List Token). z ++ others) one) in
    let all_are : insert depths place 0 ++ numbers ≡ all = sym (four ∙ ap (λ (z : List ℕ). z ++ numbers) three) in
    subst (IsKept made) all_are (subst (λ (z : List Token). IsKept z (insert depths place 0 ++ numbers)) made_is (made_kept tokens others depths numbers place h k at))

pub lists_beside : (tokens others : List Token) (depths numbers : List ℕ) (place : ℕ) (forked made : List Token)
    → IsKept tokens depths → IsKept others numbers → IsLastZero depths place
    → forked ≡ insert tokens place token.Fork → made ≡ forked ++ others → IsBeside tokens others made
lists_beside tokens others depths numbers place forked made h k at one two =
    record {
      one = h.node;
      one_is = h.tokens_are;
      other = k.node;
      other_is = k.tokens_are;
      made_is = made_tokens tokens others depths numbers place h k at ∙ sym (two ∙ ap (λ (z : List Token). z ++ others) one);
    }
