-- One conversation after the other.
use Rattle.std.proofs.Common.{◌≡◌, ◌<◌, ◌+◌, ℕ, zero, suc, List, [], ◌∷◌, ◌++◌, length, take, drop, map, get_or, refl, sym, ap, inl, inr, arith}
use Rattle.std.specs.Prelude.{Result, Ok, Err, OnErr}
use Rattle.ots_asking.specs.Conversation.{Converse, Converses, ConverseUpTo, Question}
use Rattle.ots_asking.specs.declared.outcome.Outcome.{Outcome}
use Rattle.ots_outside.specs.Dialer.{DialerTold}

module _ {D : Type 0} (told : D → DialerTold) (faults : D → ℕ) where
  pub nothing_asked : (questions : List Question) (d : D) → ConverseUpTo told faults questions d d
  nothing_asked [] d = record { sent = refl; replies = refl; slots = λ k. refl; later = omega arith }
  nothing_asked (q ∷ questions) d = inl (record { sent = refl; replies = refl; slots = λ k. refl; later = omega arith })

  -- one more was asked
  pub one_more : (questions : List Question) (q : Question) (old mid new : D) (outcomes : List Outcome) (outcome : Outcome)
      → Converse told faults questions old mid outcomes → Converses told faults q mid new outcome
      → Converse told faults (questions ++ q ∷ []) old new (outcomes ++ outcome ∷ [])
  one_more [] q old mid new [] outcome same last = (new, rw (sym same) last, refl)
  one_more [] q old mid new (x ∷ outcomes) outcome had last = absurd had
  one_more (p ∷ questions) q old mid new [] outcome had last = absurd had
  one_more (p ∷ questions) q old mid new (x ∷ outcomes) outcome (at, first, had) last =
      (at, first, one_more questions q at mid new outcomes outcome had last)

  -- some were asked, and it broke off in the others
  pub breaks_off_later : (questions rest : List Question) (old mid new : D) (outcomes : List Outcome)
      → Converse told faults questions old mid outcomes → ConverseUpTo told faults rest mid new → ConverseUpTo told faults (questions ++ rest) old new
  breaks_off_later [] rest old mid new [] same then = rw (sym same) then
  breaks_off_later [] rest old mid new (x ∷ outcomes) had then = absurd had
  breaks_off_later (p ∷ questions) rest old mid new [] had then = absurd had
  breaks_off_later (p ∷ questions) rest old mid new (x ∷ outcomes) (at, first, had) then =
      inr (inr (at, x, first, breaks_off_later questions rest at mid new outcomes had then))

-- It broke off in the first of more questions.
pub any_rest : {D : Type 0} (told : D → DialerTold) (faults : D → ℕ) (q : Question) (rest : List Question) (old new : D)
    → ConverseUpTo told faults (q ∷ []) old new → ConverseUpTo told faults (q ∷ rest) old new
any_rest told faults q rest old new (inl keeps) = inl keeps
any_rest told faults q rest old new (inr (inl sends)) = inr (inl sends)
any_rest told faults q [] old new (inr (inr (mid, outcome, had, keeps))) = inr (inr (mid, outcome, had, keeps))
any_rest told faults q (p ∷ rest) old new (inr (inr (mid, outcome, had, keeps))) = inr (inr (mid, outcome, had, inl keeps))

pub on_err : {T E : Type 0} {P : Type 0} (result : Result T E) → P → OnErr result P
on_err (Ok x) p = tt
on_err (Err e) p = p

one : (i : ℕ) → i + 1 ≡ suc i
one i = omega arith

-- what is asked of the list's item at a place
split : {A B : Type 0} (f : A → B) (xs : List A) (i : ℕ) (x : A) → i < length xs → x ≡ get_or xs i x
    → map f xs ≡ take i (map f xs) ++ f x ∷ drop (suc i) (map f xs)
split f [] i x less is = absurd (omega arith)
split f (y ∷ xs) zero x less is = ap (λ z. f z ∷ map f xs) (sym is)
split f (y ∷ xs) (suc i) x less is = ap (λ rest. f y ∷ rest) (split f xs i x (omega arith) is)

pub split_at : {A B : Type 0} (f : A → B) (xs : List A) (i : ℕ) (x : A) → i < length xs → x ≡ get_or xs i x
    → map f xs ≡ take i (map f xs) ++ f x ∷ drop (i + 1) (map f xs)
split_at f xs i x less is = rw (one i) (split f xs i x less is)

taken : {A B : Type 0} (f : A → B) (xs : List A) (i : ℕ) (x : A) → i < length xs → x ≡ get_or xs i x
    → take (suc i) (map f xs) ≡ take i (map f xs) ++ f x ∷ []
taken f [] i x less is = absurd (omega arith)
taken f (y ∷ xs) zero x less is = ap (λ z. f z ∷ []) (sym is)
taken f (y ∷ xs) (suc i) x less is = ap (λ rest. f y ∷ rest) (taken f xs i x (omega arith) is)

pub up_to : {A B : Type 0} (f : A → B) (xs : List A) (i : ℕ) (x : A) → i < length xs → x ≡ get_or xs i x
    → take (i + 1) (map f xs) ≡ take i (map f xs) ++ f x ∷ []
up_to f xs i x less is = rw (one i) (taken f xs i x less is)
