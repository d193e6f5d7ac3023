-- The steps of a round, one by one.
use Rattle.std.proofs.Common.{◌≡◌, ℕ, zero, suc, ◌+◌, ◌<◌, List, [], ◌∷◌, ◌++◌, length, take, slice_index, refl, ap, arith, add-one}
use Rattle.std.proofs.lemmas.List.Sums.{fold-append}
use Rattle.ots_ripemd.specs.Ripemd160.{Step, after, round, stepped}
use Rattle.ots_ripemd.specs.Rounds.{function_of, step_of, steps_of}
use Rattle.ots_ripemd.specs.declared.block.Words.{Words}
use Rattle.ots_ripemd.specs.declared.rounds.Round.{Round}

-- the first steps of a round, and the next one
take-round : (f : ℕ → ℕ → ℕ → ℕ) (k : ℕ) (rs ss : List ℕ) (j : ℕ) → j < length rs → j < length ss
    → take (suc j) (round f k rs ss) ≡ take j (round f k rs ss) ++ record { function = f; constant = k; place = slice_index rs j; turn = slice_index ss j } ∷ []
take-round f k [] ss j a b = absurd (omega arith)
take-round f k (r ∷ rs) [] j a b = absurd (omega arith)
take-round f k (r ∷ rs) (s ∷ ss) zero a b = refl
take-round f k (r ∷ rs) (s ∷ ss) (suc j) a b =
    ap (λ (rest : List Step). record { function = f; constant = k; place = r; turn = s } ∷ rest) (take-round f k rs ss j (omega arith) (omega arith))

-- one more step of a round
pub step_further : (x : List ℕ) (h v : Words) (r : Round) (j : ℕ) → v ≡ after x (take j (steps_of r)) h → j < length r.places → j < length r.turns
    → stepped x v (step_of r j) ≡ after x (take (j + 1) (steps_of r)) h
unfolding after
step_further x h v r j e a b =
    rw (add-one, take-round (function_of r.function) r.constant r.places r.turns j a b, fold-append, e) refl

length-round : (f : ℕ → ℕ → ℕ → ℕ) (k : ℕ) (rs ss : List ℕ) → length rs ≡ length ss → length (round f k rs ss) ≡ length rs
length-round f k [] ss e = refl
length-round f k (r ∷ rs) [] e = absurd (omega arith)
length-round f k (r ∷ rs) (s ∷ ss) e = ap suc (length-round f k rs ss (omega arith))

pub length-steps_of : (r : Round) → length r.places ≡ length r.turns → length (steps_of r) ≡ length r.places
length-steps_of r e = length-round (function_of r.function) r.constant r.places r.turns e

-- no step
pub after_none : (x : List ℕ) (h : Words) → h ≡ after x [] h
unfolding after
after_none x h = refl

-- one round after another
pub five_rounds : (x : List ℕ) (h v1 v2 v3 v4 v5 : Words) (s1 s2 s3 s4 s5 : List Step)
    → v1 ≡ after x s1 h → v2 ≡ after x s2 v1 → v3 ≡ after x s3 v2 → v4 ≡ after x s4 v3 → v5 ≡ after x s5 v4 → v5 ≡ after x (s1 ++ s2 ++ s3 ++ s4 ++ s5) h
unfolding after
five_rounds x h v1 v2 v3 v4 v5 s1 s2 s3 s4 s5 e1 e2 e3 e4 e5 = simp fold-append (cc)
