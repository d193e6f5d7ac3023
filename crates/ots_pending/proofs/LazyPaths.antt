-- Messages on the path of a walk that are made when they are asked for.
use Rattle.std.proofs.Common.{◌≡◌, ◌≢◌, ℕ, zero, suc, ◌+◌, ◌-◌, ◌<◌, ◌≤◌, inl, inr, List, [], ◌∷◌, ◌++◌, length, take, Option, Some, None, refl, sym, ap, ◌∙◌, arith, add-one, length-append, Bor}
use Rattle.std.proofs.lemmas.List.{length-take}
use Rattle.std.proofs.lemmas.Option.{slice_get_past}
use Rattle.std.specs.Prelude.{option_and_then, option_to_list}
use Rattle.std.specs.List.{slice_get}
use Rattle.ots_ops.specs.Apply.{apply}
use Rattle.ots_ops.specs.declared.op.Op.{Op}
use Rattle.ots_tree.specs.PendingWalk.{result_at}
use Rattle.ots_pending.specs.LazyPath.{all_made, next_made, ops_of, results, with_op, IsMade}
use Rattle.ots_pending.proofs.Lists.{get_there, get_taken, past_end}
use Rattle.ots_pending.proofs.Maps.{get_of_more}
use Rattle.ots_pending.proofs.Walking.{still_before}

abbrev Messages : Type 0
Messages = List (List ℕ)

-- ---- an operation is put at its depth

pub op_put : (r : Bor Op) (d : ℕ) (refs : List (Bor Op)) → length (take d refs) ≡ d → ops_of (take d refs ++ r ∷ []) ≡ with_op r.now d (ops_of refs)
op_put r zero refs h = refl
op_put r (suc d) [] h = absurd (omega arith)
op_put r (suc d) (q ∷ refs) h = ap (λ (z : List Op). q.now ∷ z) (op_put r d refs (omega arith))

pub no_op_put : (r : Bor Op) (d : ℕ) (refs : List (Bor Op)) → length (take d refs) ≢ d → ops_of (take d refs) ≡ with_op r.now d (ops_of refs)
no_op_put r zero refs h = absurd (h refl)
no_op_put r (suc d) [] h = refl
no_op_put r (suc d) (q ∷ refs) h = ap (λ (z : List Op). q.now ∷ z) (no_op_put r d refs (λ e. h (ap suc e)))

last_result : (x : Option (List ℕ)) → results x [] ≡ option_to_list x
last_result None = refl
last_result (Some m) = refl

results_put : (o : Op) (d : ℕ) (r : Option (List ℕ)) (os : List Op) → results r (with_op o d os) ≡ take (suc d) (results r os) ++ option_to_list (result_at o d (results r os))
results_put o d None os = refl
results_put o zero (Some m) [] = ap (λ (z : Messages). m ∷ z) (last_result (apply o m))
results_put o zero (Some m) (p ∷ ps) = ap (λ (z : Messages). m ∷ z) (last_result (apply o m))
results_put o (suc d) (Some m) [] = refl
results_put o (suc d) (Some m) (p ∷ ps) = ap (λ (z : Messages). m ∷ z) (results_put o d (apply p m) ps)

root_taken : (made : Messages) (d : ℕ) → slice_get (take (suc d) made) 0 ≡ slice_get made 0
root_taken [] d = refl
root_taken (m ∷ made) d = refl

module _ (o : Op) (d : ℕ) (made : Messages) (refs new : List (Bor Op)) (put : ops_of new ≡ with_op o d (ops_of refs)) where
  pub made_follows : all_made (take (d + 1) made) new ≡ take (d + 1) (all_made made refs) ++ option_to_list (result_at o d (all_made made refs))
  made_follows = rw add-one (
      ap (λ (z : Option (List ℕ)). results z (ops_of new)) (root_taken made d)
      ∙ ap (results (slice_get made 0)) put
      ∙ results_put o d (slice_get made 0) (ops_of refs))

  pub cut_made : IsMade made refs → IsMade (take (d + 1) made) new
  cut_made h = record {
    root = (let long = length-take (d + 1) made in let root = h.root in omega arith);
    front = λ i m e.
        let old = get_taken made (d + 1) i m e in
        ap (λ (z : Messages). slice_get z i) made_follows
        ∙ still_before (all_made made refs) (option_to_list (result_at o d (all_made made refs))) (d + 1) i m (h.front i m old.0) old.1;
  }

-- ---- a message more is made

no_results : (x : Option Op) → None ≡ option_and_then (λ o. option_and_then (apply o) (let m : Option (List ℕ) = None in m)) x
no_results None = refl
no_results (Some o) = refl

first_result : (x : Option (List ℕ)) (os : List Op) → slice_get (results x os) 0 ≡ x
first_result None os = refl
first_result (Some m) [] = refl
first_result (Some m) (o ∷ os) = refl

result_after : (d : ℕ) (r : Option (List ℕ)) (os : List Op)
    → slice_get (results r os) (suc d) ≡ option_and_then (λ o. option_and_then (apply o) (slice_get (results r os) d)) (slice_get os d)
result_after d None os = no_results (slice_get os d)
result_after d (Some m) [] = refl
result_after zero (Some m) (o ∷ os) = first_result (apply o m) os
result_after (suc d) (Some m) (o ∷ os) = result_after d (apply o m) os

root_before : (made : Messages) (m : List ℕ) → 1 ≤ length made → slice_get (made ++ m ∷ []) 0 ≡ slice_get made 0
root_before [] m h = absurd (omega arith)
root_before (n ∷ made) m h = refl

module _ (made : Messages) (refs : List (Bor Op)) (h : IsMade made refs) where
  -- the message after those that were made
  next_there : slice_get (all_made made refs) (length made) ≡ next_made made (ops_of refs)
  next_there =
      let root = h.root in
      let k : ℕ = length made - 1 in
      let long : length made ≡ suc k = omega arith in
      let last = get_there made k (omega arith) in
      let same : slice_get (all_made made refs) k ≡ slice_get made k = h.front k last.0 last.1 ∙ sym last.1 in
      ap (slice_get (all_made made refs)) long
      ∙ result_after k (slice_get made 0) (ops_of refs)
      ∙ ap (λ (z : Option (List ℕ)). option_and_then (λ o. option_and_then (apply o) z) (slice_get (ops_of refs) k)) same

  pub same_made : (m : List ℕ) → all_made (made ++ m ∷ []) refs ≡ all_made made refs
  same_made m = ap (λ (z : Option (List ℕ)). results z (ops_of refs)) (root_before made m h.root)

  pub more_made : (m : List ℕ) → next_made made (ops_of refs) ≡ Some m → IsMade (made ++ m ∷ []) refs
  more_made m next = record {
    root = (let long = length-append made (m ∷ []) in let root = h.root in omega arith);
    front = λ i n e. ap (λ (z : Messages). slice_get z i) (same_made m) ∙ elim (get_of_more made m n i e) [
      | inl old ↦ h.front i n old
      | inr new ↦ ap (slice_get (all_made made refs)) new.place ∙ next_there ∙ next ∙ ap Some (sym new.is)
    ];
  }

  -- ---- the message at a depth

  pub made_there : (d : ℕ) → d < length made → slice_get (all_made made refs) d ≡ slice_get made d
  made_there d low = let there = get_there made d low in h.front d there.0 there.1 ∙ sym there.1

  pub none_there : (d : ℕ) → length made ≤ d → next_made made (ops_of refs) ≡ None → slice_get (all_made made refs) d ≡ slice_get made d
  none_there d high none =
      let short : length (all_made made refs) ≤ length made = past_end (all_made made refs) (length made) (next_there ∙ none) in
      slice_get_past (all_made made refs) d (omega arith) ∙ sym (slice_get_past made d high)
