-- What is told of an entry's form, step by step.
use Rattle.std.proofs.Common.{append_assoc, ◌≡◌, ◌<◌, ◌≤◌, ℕ, ◌+◌, ◌*◌, zero, suc, List, [], ◌∷◌, ◌++◌, length, take, drop, get_or, refl, sym, ◌∙◌, ap, subst, arith, rules, length-append, take-append-drop}
use Rattle.std.proofs.lemmas.List.{drop_at, length-take-le, drop-drop, take_more, append-nil}
use Rattle.std.proofs.lemmas.List.Concat.{flat_map-append}
use Rattle.std.specs.List.{flat_map, AllByRecursion}
use Rattle.ots_merkle.specs.declared.branch.Side.{Side}
use Rattle.ots_merkle.specs.declared.branch.Side.TheVariants.{Left, Right}
use Rattle.ots_store.specs.declared.anchor.Anchor.{Anchor}
use Rattle.ots_store.specs.Records.{sized, side_byte, step_bytes, branch_bytes, anchor_rest, anchor_payload, FitsAnchor, HasHash, side_at, steps_at, branch_at, anchor_at, after, part, number}
use Rattle.std.specs.Prelude.{Option, Some, None, IfNone, IsSome}
use Rattle.ots_store.specs.Forms.{AreSteps, IsBranch, IsAnchor}
use Rattle.ots_store.proofs.Spellings.{rest_read, after_read}

pub side_again : (b : ℕ) (rest : List ℕ) → b ≤ 1 → side_byte (side_at (b ∷ rest)) ≡ b
side_again zero rest le = refl
side_again (suc zero) rest le = refl
side_again (suc (suc b)) rest le = absurd (omega arith)

pub more_steps : (bytes : List ℕ) (n : ℕ) → 33 ≤ length bytes → get_or bytes 0 0 ≤ 1 → AreSteps n (drop 33 bytes) → AreSteps (suc n) bytes
more_steps [] n long side steps = absurd (omega arith)
more_steps (b ∷ rest) n long side steps = record {
  whole = ap (λ (l : List ℕ). b ∷ l) (sym (take-append-drop 32 rest) ∙ ap (λ (l : List ℕ). take 32 rest ++ l) steps.whole)
      ∙ ap (λ (x : ℕ). x ∷ (take 32 rest ++ flat_map step_bytes (steps_at n (drop 32 rest)))) (sym (side_again b rest side));
  many = ap (λ (x : ℕ). suc x) steps.many;
  hashes = (length-take-le 32 rest (omega arith), steps.hashes);
}

-- the first step of more than none, and the others
pub record HasStep (bytes : List ℕ) (n : ℕ) : Type 0 where
  pub long : 33 ≤ length bytes
  pub side : get_or bytes 0 0 ≤ 1
  pub others : List (Side × List ℕ)
  pub many : length others ≡ n
  pub hashes : AllByRecursion HasHash others
  pub whole : drop 33 bytes ≡ flat_map step_bytes others

side_small : (side : Side) → side_byte side ≤ 1
side_small Left = omega arith
side_small Right = omega arith

pub first_step : (bytes : List ℕ) (n : ℕ) (branch : List (Side × List ℕ)) → length branch ≡ suc n → AllByRecursion HasHash branch → bytes ≡ flat_map step_bytes branch → HasStep bytes n
first_step bytes n [] many fit whole = absurd (omega arith)
first_step bytes n (step ∷ steps) many fit whole =
    let rest = flat_map step_bytes steps in
    record {
      long = subst (λ (l : List ℕ). 33 ≤ length l) (sym whole) (omega (arith, length-append step.1 rest, fit.0));
      side = subst (λ (l : List ℕ). get_or l 0 0 ≤ 1) (sym whole) (side_small step.0);
      others = steps;
      many = omega arith;
      hashes = fit.1;
      whole = ap (λ (l : List ℕ). drop 33 l) whole ∙ drop_at step.1 rest 32 fit.0;
    }

-- what lies after the root, the prefix and the suffix
pub after_root : (payload : List ℕ) (anchor : Anchor) → FitsAnchor anchor → payload ≡ anchor_payload anchor → drop 56 payload ≡ anchor_rest anchor
after_root payload anchor fits whole = ap (λ (l : List ℕ). drop 56 l) whole ∙ rest_read anchor fits

-- one step more
pub steps_push : (n : ℕ) (bytes : List ℕ) → steps_at (suc n) bytes ≡ steps_at n bytes ++ (side_at (drop (33 * n) bytes), take 32 (drop 1 (drop (33 * n) bytes))) ∷ []
steps_push zero bytes = refl
steps_push (suc n) bytes =
    let there : drop (33 * n) (drop 33 bytes) ≡ drop (33 * suc n) bytes = drop-drop (33 * n) 33 bytes ∙ ap (λ (m : ℕ). drop m bytes) (omega arith) in
    ap (λ (l : List (Side × List ℕ)). (side_at bytes, take 32 (drop 1 bytes)) ∷ l)
    (steps_push n (drop 33 bytes) ∙ ap (λ (l : List ℕ). steps_at n (drop 33 bytes) ++ (side_at l, take 32 (drop 1 l)) ∷ []) there)

pub spelled_push : (steps : List (Side × List ℕ)) (i : ℕ) (d : Side × List ℕ) → i < length steps → flat_map step_bytes (take (i + 1) steps) ≡ flat_map step_bytes (take i steps) ++ step_bytes (get_or steps i d)
spelled_push steps i d lt =
    ap (λ (l : List (Side × List ℕ)). flat_map step_bytes l) (take_more steps i d lt) ∙ flat_map-append step_bytes (take i steps) (get_or steps i d ∷ []) ∙ ap (λ (l : List ℕ). flat_map step_bytes (take i steps) ++ l) (append-nil (step_bytes (get_or steps i d)))

-- a branch has the bytes that its number of steps says
pub steps_long : (branch : List (Side × List ℕ)) → AllByRecursion HasHash branch → length (flat_map step_bytes branch) ≡ 33 * length branch
steps_long [] fit = omega arith
steps_long (step ∷ steps) fit = length-append (step_bytes step) (flat_map step_bytes steps) ∙ omega (arith, steps_long steps fit.1, fit.0)

pub pair_is : {A B : Type 0} (p : A × B) (a : A) (b : B) → p.0 ≡ a → p.1 ≡ b → p ≡ (a, b)
pair_is p a b first second = ap (λ x. (x, p.1)) first ∙ ap (λ y. (a, y)) second

pub is_some_from : {A : Type 0} (o : Option A) (P : Type 0) → IfNone o P → (P → ⊥) → IsSome o
is_some_from None P none never = absurd (never none)
is_some_from (Some x) P none never = search rules

pub branch_long : (bytes : List ℕ) → IsBranch bytes → 33 * get_or bytes 0 0 + 1 ≤ length bytes
branch_long bytes is =
    let branch = branch_at bytes in
    let many : get_or bytes 0 0 ≡ length branch = ap (λ (l : List ℕ). get_or l 0 0) is.whole in
    let size : length bytes ≡ suc (length (flat_map step_bytes branch)) = ap length is.whole in
    omega (arith, many, size, steps_long branch is.hashes)

pub branch_few : (bytes : List ℕ) → IsBranch bytes → get_or bytes 0 0 ≤ 32
branch_few bytes is =
    let many : get_or bytes 0 0 ≡ length (branch_at bytes) = ap (λ (l : List ℕ). get_or l 0 0) is.whole in
    omega (arith, many, is.steps)

-- what lies after an anchor's prefix, and after its suffix
pub follows_prefix : (payload : List ℕ) → IsAnchor payload → after (drop 56 payload) ≡ sized (anchor_at payload).suffix ++ branch_bytes (anchor_at payload).branch
follows_prefix payload is =
    let anchor = anchor_at payload in
    let message = is.fits.message in
    ap after (after_root payload anchor is.fits is.whole) ∙ after_read anchor.prefix (sized anchor.suffix ++ branch_bytes anchor.branch) (omega arith)

pub after_suffix : (payload : List ℕ) → IsAnchor payload → IsBranch (after (after (drop 56 payload)))
after_suffix payload is =
    let anchor = anchor_at payload in
    let message = is.fits.message in
    record {
      whole = ap after (follows_prefix payload is) ∙ after_read anchor.suffix (branch_bytes anchor.branch) (omega arith);
      steps = is.fits.steps;
      hashes = is.fits.hashes;
    }

pub anchor_is_at : (anchor : Anchor) (payload : List ℕ) → anchor.first ≡ number payload → anchor.count ≡ number (drop 8 payload) → anchor.height ≡ number (drop 16 payload)
    → anchor.root ≡ take 32 (drop 24 payload) → anchor.prefix ≡ part (drop 56 payload) → anchor.suffix ≡ part (after (drop 56 payload))
    → anchor.branch ≡ branch_at (after (after (drop 56 payload))) → anchor ≡ anchor_at payload
anchor_is_at anchor payload first count height root prefix suffix branch = rw (← first, ← count, ← height, ← root, ← prefix, ← suffix, ← branch) refl

pub hashes_push : (steps : List (Side × List ℕ)) (i : ℕ) (d : Side × List ℕ) → i < length steps → AllByRecursion HasHash (take i steps) → HasHash (get_or steps i d) → AllByRecursion HasHash (take (i + 1) steps)
hashes_push steps i d lt all one = subst (λ (l : List (Side × List ℕ)). AllByRecursion HasHash l) (sym (take_more steps i d lt)) (all_then (take i steps) (get_or steps i d) all one)
  where
    all_then : (xs : List (Side × List ℕ)) (x : Side × List ℕ) → AllByRecursion HasHash xs → HasHash x → AllByRecursion HasHash (xs ++ x ∷ [])
    all_then [] x all one = (one, tt)
    all_then (y ∷ xs) x all one = (all.0, all_then xs x all.1 one)

pub branch_push : (old now later : List ℕ) (n : ℕ) (steps : List (Side × List ℕ)) (i : ℕ) (d : Side × List ℕ) → i < length steps → now ≡ old ++ (n ∷ flat_map step_bytes (take i steps))
    → later ≡ now ++ step_bytes (get_or steps i d) → later ≡ old ++ (n ∷ flat_map step_bytes (take (i + 1) steps))
branch_push old now later n steps i d lt is is_later =
    is_later ∙ ap (λ (l : List ℕ). l ++ step_bytes (get_or steps i d)) is ∙ append_assoc old (n ∷ flat_map step_bytes (take i steps)) (step_bytes (get_or steps i d))
    ∙ ap (λ (l : List ℕ). old ++ (n ∷ l)) (sym (spelled_push steps i d lt))
