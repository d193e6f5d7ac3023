-- Trees that are taken, one after another.
use Rattle.std.proofs.Common.{◌≡◌, ◌<◌, ◌≤◌, ℕ, ◌+◌, true, false, List, [], ◌∷◌, ◌++◌, length, get_or, set, take, drop, refl, sym, ap, ◌∙◌, arith, append_assoc, length-append, length-set}
use Rattle.std.proofs.lemmas.Bool.{le-leb, leb-true, lt-leb}
use Rattle.std.proofs.lemmas.List.{drop-set-lt, drop_more, take_more_set}
use Rattle.std.specs.Prelude.{Bool, if◌then◌else◌, nat_le}
use Rattle.ots_base.specs.declared.limits.TheConstants.{MAX_REPLY_BODY}
use Rattle.ots_tree.specs.declared.token.Token.{Token}
use Rattle.ots_asking.specs.declared.outcome.Outcome.{Outcome}
use Rattle.ots_asking.specs.declared.outcome.Outcome.TheVariants.{Tree, Unreachable, Status, TooLong, BadHttp, BadReply}
use Rattle.ots_stamp.specs.Stamped.{good_trees}
use Rattle.ots_gateway.specs.Taking.{size, sizes, taken, taking}

-- ---- by what an outcome is

pub taken_now : (used : ℕ) (tree : List Token) (rest : List Outcome) → used + size tree ≤ MAX_REPLY_BODY → taking used (Tree tree ∷ rest) ≡ Tree tree ∷ taking (used + size tree + 1) rest
taken_now used tree rest fits = ap (λ (b : Bool). if b then Tree tree ∷ taking (used + size tree + 1) rest else TooLong ∷ taking used rest) (le-leb (used + size tree) MAX_REPLY_BODY fits)

pub passed_over : (used : ℕ) (tree : List Token) (rest : List Outcome) → MAX_REPLY_BODY < used + size tree → taking used (Tree tree ∷ rest) ≡ TooLong ∷ taking used rest
passed_over used tree rest over = ap (λ (b : Bool). if b then Tree tree ∷ taking (used + size tree + 1) rest else TooLong ∷ taking used rest) (lt-leb (used + size tree) MAX_REPLY_BODY over)

pub no_tree : (used : ℕ) (x : Outcome) (rest : List Outcome) → ((tree : List Token) → x ≡ Tree tree → ⊥) → (taking used (x ∷ rest) ≡ x ∷ taking used rest) × (good_trees (x ∷ []) ≡ [])
no_tree used (Tree tree) rest none = absurd (none tree refl)
no_tree used Unreachable rest none = (refl, refl)
no_tree used (Status code) rest none = (refl, refl)
no_tree used TooLong rest none = (refl, refl)
no_tree used BadHttp rest none = (refl, refl)
no_tree used (BadReply fault) rest none = (refl, refl)

good_more : (xs ys : List Outcome) → good_trees (xs ++ ys) ≡ good_trees xs ++ good_trees ys
good_more [] ys = refl
good_more (Tree tree ∷ xs) ys = ap (λ (z : List (List Token)). tree ∷ z) (good_more xs ys)
good_more (Unreachable ∷ xs) ys = good_more xs ys
good_more (Status code ∷ xs) ys = good_more xs ys
good_more (TooLong ∷ xs) ys = good_more xs ys
good_more (BadHttp ∷ xs) ys = good_more xs ys
good_more (BadReply fault ∷ xs) ys = good_more xs ys

-- ---- one outcome more

module _ (all outcomes made : List Outcome) (i : ℕ) (x y : Outcome) (used now : ℕ) (less : i < length outcomes) (is : x ≡ get_or outcomes i x) (same : made ≡ set outcomes i y) where
  pub whole_more : all ≡ take i outcomes ++ taking used (drop i outcomes) → taking used (x ∷ drop (i + 1) outcomes) ≡ y ∷ taking now (drop (i + 1) outcomes)
      → all ≡ take (i + 1) made ++ taking now (drop (i + 1) made)
  whole_more whole step =
      let here : drop i outcomes ≡ x ∷ drop (i + 1) outcomes = drop_more outcomes i x less ∙ ap (λ (z : Outcome). z ∷ drop (i + 1) outcomes) (sym is) in
      whole ∙ ap (λ (z : List Outcome). take i outcomes ++ taking used z) here ∙ ap (λ (z : List Outcome). take i outcomes ++ z) step
      ∙ sym (append_assoc (take i outcomes) (y ∷ []) (taking now (drop (i + 1) outcomes)))
      ∙ ap (λ (z : List Outcome). z ++ taking now (drop (i + 1) outcomes)) (sym (take_more_set outcomes i y less))
      ∙ ap (λ (z : List Outcome). take (i + 1) (set outcomes i y) ++ taking now z) (sym (drop-set-lt (i + 1) outcomes i y (omega arith)))
      ∙ ap (λ (z : List Outcome). take (i + 1) z ++ taking now (drop (i + 1) z)) (sym same)

  pub count_more : (count after : ℕ) → count ≡ length (good_trees (take i outcomes)) → after ≡ count + length (good_trees (y ∷ [])) → after ≡ length (good_trees (take (i + 1) made))
  count_more count after was more =
      more ∙ ap (λ (z : ℕ). z + length (good_trees (y ∷ []))) was ∙ sym (length-append (good_trees (take i outcomes)) (good_trees (y ∷ [])))
      ∙ ap length (sym (good_more (take i outcomes) (y ∷ []))) ∙ ap (λ (z : List Outcome). length (good_trees z)) (sym (take_more_set outcomes i y less))
      ∙ ap (λ (z : List Outcome). length (good_trees (take (i + 1) z))) (sym same)

  pub length_made : length made ≡ length outcomes
  length_made = ap length same ∙ length-set outcomes i y

-- ---- as the code has it

module _ (x : Outcome) (used now : ℕ) (rest : List Outcome) where
  pub step_taken : (tree : List Token) (n : ℕ) → x ≡ Tree tree → n ≡ size tree → used + n ≤ MAX_REPLY_BODY → now ≡ used + (n + 1) → taking used (x ∷ rest) ≡ Tree tree ∷ taking now rest
  step_taken tree n is counts fits after =
      let next : used + size tree + 1 ≡ now = omega (arith, counts, after) in
      ap (λ (z : Outcome). taking used (z ∷ rest)) is ∙ taken_now used tree rest (omega (arith, counts, fits)) ∙ ap (λ (z : ℕ). Tree tree ∷ taking z rest) next

  pub step_over : (tree : List Token) → x ≡ Tree tree → MAX_REPLY_BODY < used + size tree → now ≡ used → taking used (x ∷ rest) ≡ TooLong ∷ taking now rest
  step_over tree is over after = ap (λ (z : Outcome). taking used (z ∷ rest)) is ∙ passed_over used tree rest over ∙ ap (λ (z : ℕ). TooLong ∷ taking z rest) (sym after)

  pub step_none : ((tree : List Token) → x ≡ Tree tree → ⊥) → now ≡ used → taking used (x ∷ rest) ≡ x ∷ taking now rest
  step_none none after = (no_tree used x rest none).0 ∙ ap (λ (z : ℕ). x ∷ taking z rest) (sym after)

pub count_none : (x : Outcome) (taken now : ℕ) → ((tree : List Token) → x ≡ Tree tree → ⊥) → now ≡ taken → now ≡ taken + length (good_trees (x ∷ []))
count_none x taken now none same = let nothing = ap length (no_tree 0 x [] none).1 in omega (arith, same, nothing)

-- ---- all of them

pub good_taken : (used : ℕ) (outcomes : List Outcome) → good_trees (taking used outcomes) ≡ taken used (good_trees outcomes)
good_taken used [] = refl
good_taken used (Tree tree ∷ rest) = by (nat_le (used + size tree) MAX_REPLY_BODY) (good_taken (used + size tree + 1) rest) (good_taken used rest)
  where
    by : (b : Bool) → good_trees (taking (used + size tree + 1) rest) ≡ taken (used + size tree + 1) (good_trees rest) → good_trees (taking used rest) ≡ taken used (good_trees rest)
        → good_trees (if b then Tree tree ∷ taking (used + size tree + 1) rest else TooLong ∷ taking used rest)
        ≡ (if b then tree ∷ taken (used + size tree + 1) (good_trees rest) else taken used (good_trees rest))
    by true fits over = ap (λ (z : List (List Token)). tree ∷ z) fits
    by false fits over = over
good_taken used (Unreachable ∷ rest) = good_taken used rest
good_taken used (Status code ∷ rest) = good_taken used rest
good_taken used (TooLong ∷ rest) = good_taken used rest
good_taken used (BadHttp ∷ rest) = good_taken used rest
good_taken used (BadReply fault ∷ rest) = good_taken used rest

pub all_fit : (used : ℕ) (trees : List (List Token)) → used ≤ MAX_REPLY_BODY + 1 → used + sizes (taken used trees) ≤ MAX_REPLY_BODY + 1
all_fit used [] within = omega (arith, within)
all_fit used (tree ∷ trees) within = by (nat_le (used + size tree) MAX_REPLY_BODY) refl (all_fit (used + size tree + 1) trees) (all_fit used trees within)
  where
    by : (b : Bool) → nat_le (used + size tree) MAX_REPLY_BODY ≡ b
        → (used + size tree + 1 ≤ MAX_REPLY_BODY + 1 → used + size tree + 1 + sizes (taken (used + size tree + 1) trees) ≤ MAX_REPLY_BODY + 1)
        → used + sizes (taken used trees) ≤ MAX_REPLY_BODY + 1
        → used + sizes (if b then tree ∷ taken (used + size tree + 1) trees else taken used trees) ≤ MAX_REPLY_BODY + 1
    by true is fits over = let rest = fits (let le = leb-true (used + size tree) MAX_REPLY_BODY is in omega (arith, le)) in omega (arith, rest)
    by false is fits over = over
