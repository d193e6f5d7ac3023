-- So many things one after the other, as a loop reads them.
use Rattle.std.proofs.Common.{◌≡◌, ℕ, suc, ◌+◌, ◌-◌, ◌<◌, ◌≤◌, List, [], ◌∷◌, ◌++◌, Ok, Err, refl, sym, ap, ◌∙◌, append_assoc, arith}
use Rattle.std.proofs.lemmas.List.{append-nil}
use Rattle.ots_block.specs.Reading.{Halt, Read, ◌>>=◌, many_at}
use Rattle.ots_block.specs.Ends.{End, many_end}

-- the next one is passed
pub goes_on : (one : List ℕ → End) (count i : ℕ) (bytes rest : List ℕ) (total : End) → i < count → one bytes ≡ Ok rest
    → many_end one (count - i) bytes ≡ total → many_end one (count - (i + 1)) rest ≡ total
unfolding many_end
goes_on one count i bytes rest total more is so_far =
    let k : count - i ≡ suc (count - (i + 1)) = omega arith in
    let step : many_end one (count - i) bytes ≡ many_end one (count - (i + 1)) rest = rw (k, is) refl in
    sym step ∙ so_far

-- the next one is not whole
pub halts : (one : List ℕ → End) (count i : ℕ) (bytes : List ℕ) (h : Halt) (total : End) → i < count → one bytes ≡ Err h
    → many_end one (count - i) bytes ≡ total → total ≡ Err h
unfolding many_end
halts one count i bytes h total more is so_far =
    let k : count - i ≡ suc (count - (i + 1)) = omega arith in
    let step : many_end one (count - i) bytes ≡ Err h = rw (k, is) refl in
    sym so_far ∙ step

-- all are passed
pub is_done : (one : List ℕ → End) (count i : ℕ) (bytes : List ℕ) (total : End) → count ≤ i
    → many_end one (count - i) bytes ≡ total → total ≡ Ok bytes
unfolding many_end
is_done one count i bytes total all so_far =
    let k : count - i ≡ 0 = omega arith in
    let step : many_end one (count - i) bytes ≡ Ok bytes = rw k refl in
    sym so_far ∙ step

-- ---- with their values

-- what was read before, and what is still read
abbrev pub with_prefix : {A : Type 0} → List A → Read (List A) → Read (List A)
with_prefix prefix read = read >>= λ x. Ok (prefix ++ x.0, x.1)

regroup : {A : Type 0} (prefix : List A) (x : A) (read : Read (List A)) → with_prefix prefix (read >>= λ o. Ok (x ∷ o.0, o.1)) ≡ with_prefix (prefix ++ x ∷ []) read
regroup {A = A} prefix x (Ok o) = ap (λ (xs : List A). Ok (xs, o.1)) (simp append_assoc)
regroup prefix x (Err h) = refl

pub value_goes_on : {A : Type 0} (one : List ℕ → Read A) (prefix : List A) (count i : ℕ) (bytes : List ℕ) (x : A) (rest : List ℕ) (total : Read (List A))
    → i < count → one bytes ≡ Ok (x, rest) → with_prefix prefix (many_at one (count - i) bytes) ≡ total
    → with_prefix (prefix ++ x ∷ []) (many_at one (count - (i + 1)) rest) ≡ total
unfolding many_at
value_goes_on one prefix count i bytes x rest total more is so_far =
    let k : count - i ≡ suc (count - (i + 1)) = omega arith in
    let step : with_prefix prefix (many_at one (count - i) bytes) ≡ with_prefix (prefix ++ x ∷ []) (many_at one (count - (i + 1)) rest) =
    rw (k, is) (regroup prefix x (many_at one (count - (i + 1)) rest)) in
    sym step ∙ so_far

pub value_halts : {A : Type 0} (one : List ℕ → Read A) (prefix : List A) (count i : ℕ) (bytes : List ℕ) (h : Halt) (total : Read (List A))
    → i < count → one bytes ≡ Err h → with_prefix prefix (many_at one (count - i) bytes) ≡ total → total ≡ Err h
unfolding many_at
value_halts one prefix count i bytes h total more is so_far =
    let k : count - i ≡ suc (count - (i + 1)) = omega arith in
    let step : with_prefix prefix (many_at one (count - i) bytes) ≡ Err h = rw (k, is) refl in
    sym so_far ∙ step

pub value_is_done : {A : Type 0} (one : List ℕ → Read A) (prefix : List A) (count i : ℕ) (bytes : List ℕ) (total : Read (List A))
    → count ≤ i → with_prefix prefix (many_at one (count - i) bytes) ≡ total → total ≡ Ok (prefix, bytes)
unfolding many_at
value_is_done {A = A} one prefix count i bytes total all so_far =
    let k : count - i ≡ 0 = omega arith in
    let step : with_prefix prefix (many_at one (count - i) bytes) ≡ Ok (prefix, bytes) = rw k (ap (λ (xs : List A). Ok (xs, bytes)) (append-nil prefix)) in
    sym so_far ∙ step
