-- A field ends where reading it goes on.
use Rattle.std.proofs.Common.{◌≡◌, ℕ, zero, suc, Bool, true, false, cond, ltb, List, ◌∷◌, length, take, drop, Some, Result, Ok, Err, refl, ap, ◌∙◌}
use Rattle.ots_block.specs.declared.fault.BlockReason.TheVariants.{Truncated}
use Rattle.ots_block.specs.Reading.{Halt, Read, ◌>>=◌, run_at, compact_at, sized_at, many_at, counted_at, input_at, output_at, stack_at, marker_at, witness_at, transaction_at, header_at}
use Rattle.ots_block.specs.Ends.{End, run_end, sized_end, many_end, counted_end, input_end, output_end, stack_end, witness_end, laid_at, header_end}

-- where reading goes on, without the value
abbrev pub rest_of : {A : Type 0} → Read A → End
rest_of (Ok x) = Ok x.1
rest_of (Err h) = Err h

-- with the number of things
abbrev pub size_of : {A : Type 0} → Read (List A) → Read ℕ
size_of (Ok x) = Ok (length x.0, x.1)
size_of (Err h) = Err h

-- a step whose end is known
step : {A B : Type 0} (r : Read A) (e : End) (f : A × List ℕ → Read B) (g : List ℕ → End)
    → rest_of r ≡ e → ((x : A × List ℕ) → rest_of (f x) ≡ g x.1) → rest_of (r >>= f) ≡ (e >>= g)
step (Ok x) e f g same next = next x ∙ ap (λ (z : End). z >>= g) same
step (Err h) e f g same next = ap (λ (z : End). z >>= g) same

step_to : {A B C : Type 0} (r : Read A) (e : End) (f : A × List ℕ → Read B) (g : List ℕ → Read C)
    → rest_of r ≡ e → ((x : A × List ℕ) → rest_of (f x) ≡ rest_of (g x.1)) → rest_of (r >>= f) ≡ rest_of (e >>= g)
step_to (Ok x) e f g same next = next x ∙ ap (λ (z : End). rest_of (z >>= g)) same
step_to (Err h) e f g same next = ap (λ (z : End). rest_of (z >>= g)) same

-- a step that both make
step_both : {A B : Type 0} (r : Result A Halt) (f : A → Read B) (g : A → End)
    → ((x : A) → rest_of (f x) ≡ g x) → rest_of (r >>= f) ≡ (r >>= g)
step_both (Ok x) f g next = next x
step_both (Err h) f g next = refl

step_both_to : {A B C : Type 0} (r : Result A Halt) (f : A → Read B) (g : A → Read C)
    → ((x : A) → rest_of (f x) ≡ rest_of (g x)) → rest_of (r >>= f) ≡ rest_of (r >>= g)
step_both_to (Ok x) f g next = next x
step_both_to (Err h) f g next = refl

step_counted : {A B C : Type 0} (r : Read (List A)) (e : Read ℕ) (f : List A × List ℕ → Read B) (g : ℕ × List ℕ → Read C)
    → size_of r ≡ e → ((x : List A × List ℕ) → rest_of (f x) ≡ rest_of (g (length x.0, x.1))) → rest_of (r >>= f) ≡ rest_of (e >>= g)
step_counted (Ok x) e f g same next = next x ∙ ap (λ (z : Read ℕ). rest_of (z >>= g)) same
step_counted (Err h) e f g same next = ap (λ (z : Read ℕ). rest_of (z >>= g)) same

-- a value that is made of the one read
made : {A B : Type 0} (r : Read A) (f : A × List ℕ → B) → rest_of (r >>= λ x. Ok (f x, x.1)) ≡ rest_of r
made (Ok x) f = refl
made (Err h) f = refl

-- ---- field by field

run_by : (short : Bool) (h : Halt) (x y : List ℕ) → rest_of (cond short (Err h) (Ok (x, y))) ≡ cond short (Err h) (Ok y)
run_by true h x y = refl
run_by false h x y = refl

pub run_ends : (n : ℕ) (bytes : List ℕ) → rest_of (run_at n bytes) ≡ run_end n bytes
unfolding run_at
run_ends n bytes = run_by (ltb (length bytes) n) (record { left = length bytes; reason = Truncated }) (take n bytes) (drop n bytes)

pub sized_ends : (bytes : List ℕ) → rest_of (sized_at bytes) ≡ sized_end bytes
unfolding sized_at sized_end
sized_ends bytes = step_both (compact_at bytes) _ _ (λ n. run_ends n.0 n.1)

pub many_ends : {A : Type 0} (one : List ℕ → Read A) (end : List ℕ → End) → ((bytes : List ℕ) → rest_of (one bytes) ≡ end bytes)
    → (n : ℕ) (bytes : List ℕ) → rest_of (many_at one n bytes) ≡ many_end end n bytes
unfolding many_at many_end
many_ends one end same zero bytes = refl
many_ends one end same (suc n) bytes =
    step (one bytes) (end bytes) _ (many_end end n) (same bytes) (λ x. made (many_at one n x.1) (λ o. x.0 ∷ o.0) ∙ many_ends one end same n x.1)

size_more : {A : Type 0} (x : A) (n : ℕ) (r : Read (List A)) (e : End) → size_of r ≡ (e >>= λ rest. Ok (n, rest))
    → size_of (r >>= λ o. Ok (x ∷ o.0, o.1)) ≡ (e >>= λ rest. Ok (suc n, rest))
size_more x n (Ok o) (Ok rest) same = ap (λ (z : Read ℕ). z >>= λ p. Ok (suc p.0, p.1)) same
size_more x n (Ok o) (Err h) same = absurd cc
size_more x n (Err g) (Ok rest) same = absurd cc
size_more x n (Err g) (Err h) same = ap (λ (z : Read ℕ). z >>= λ p. Ok (suc p.0, p.1)) same

size_first : {A : Type 0} (one : List ℕ → Read A) (end : List ℕ → End) (n : ℕ)
    → ((bytes : List ℕ) → size_of (many_at one n bytes) ≡ (many_end end n bytes >>= λ rest. Ok (n, rest)))
    → (r : Read A) (e : End) → rest_of r ≡ e
    → size_of (r >>= λ x. many_at one n x.1 >>= λ o. Ok (x.0 ∷ o.0, o.1)) ≡ ((e >>= many_end end n) >>= λ rest. Ok (suc n, rest))
size_first one end n others (Ok x) e is =
    size_more x.0 n (many_at one n x.1) (many_end end n x.1) (others x.1)
    ∙ ap (λ (z : End). (z >>= many_end end n) >>= λ rest. Ok (suc n, rest)) is
size_first one end n others (Err h) e is = ap (λ (z : End). (z >>= many_end end n) >>= λ rest. Ok (suc n, rest)) is

sizes : {A : Type 0} (one : List ℕ → Read A) (end : List ℕ → End) → ((bytes : List ℕ) → rest_of (one bytes) ≡ end bytes)
    → (n : ℕ) (bytes : List ℕ) → size_of (many_at one n bytes) ≡ (many_end end n bytes >>= λ rest. Ok (n, rest))
unfolding many_at many_end
sizes one end same zero bytes = refl
sizes one end same (suc n) bytes = size_first one end n (sizes one end same n) (one bytes) (end bytes) (same bytes)

pub counted_sizes : {A : Type 0} (one : List ℕ → Read A) (end : List ℕ → End) → ((bytes : List ℕ) → rest_of (one bytes) ≡ end bytes)
    → (bytes : List ℕ) → size_of (counted_at one bytes) ≡ counted_end end bytes
unfolding counted_at counted_end
counted_sizes {A = A} one end same bytes = after (compact_at bytes)
  where
    after : (r : Read ℕ) → size_of (r >>= λ n. many_at one n.0 n.1) ≡ (r >>= λ n. many_end end n.0 n.1 >>= λ rest. Ok (n.0, rest))
    after (Ok n) = sizes one end same n.0 n.1
    after (Err h) = refl

pub input_ends : (bytes : List ℕ) → rest_of (input_at bytes) ≡ input_end bytes
unfolding input_at input_end
input_ends bytes =
    step (run_at 36 bytes) (run_end 36 bytes) _ _ (run_ends 36 bytes) (λ o.
    step (sized_at o.1) (sized_end o.1) _ _ (sized_ends o.1) (λ s.
    made (run_at 4 s.1) (λ q. record { outpoint = o.0; script = s.0; sequence = q.0 }) ∙ run_ends 4 s.1))

pub output_ends : (bytes : List ℕ) → rest_of (output_at bytes) ≡ output_end bytes
unfolding output_at output_end
output_ends bytes =
    step (run_at 8 bytes) (run_end 8 bytes) _ _ (run_ends 8 bytes) (λ v.
    made (sized_at v.1) (λ s. record { value = v.0; script = s.0 }) ∙ sized_ends v.1)

pub stack_ends : (bytes : List ℕ) → rest_of (stack_at bytes) ≡ stack_end bytes
unfolding stack_at counted_at stack_end
stack_ends bytes = step_both (compact_at bytes) _ _ (λ n. many_ends sized_at sized_end sized_ends n.0 n.1)

pub witness_ends : (marked : Bool) (inputs : ℕ) (bytes : List ℕ) → rest_of (witness_at marked inputs bytes) ≡ witness_end marked inputs bytes
unfolding witness_at witness_end
witness_ends false inputs bytes = refl
witness_ends true inputs bytes = made (many_at stack_at inputs bytes) (λ s. Some s.0) ∙ many_ends stack_at stack_end stack_ends inputs bytes

pub transaction_ends : (bytes : List ℕ) → rest_of (transaction_at bytes) ≡ rest_of (laid_at bytes)
unfolding transaction_at laid_at
transaction_ends bytes =
    step_to (run_at 4 bytes) (run_end 4 bytes) _ _ (run_ends 4 bytes) (λ v.
    step_both_to (marker_at v.1) _ _ (λ m.
    step_counted (counted_at input_at m.1) (counted_end input_end m.1) _ _ (counted_sizes input_at input_end input_ends m.1) (λ i.
    step_counted (counted_at output_at i.1) (counted_end output_end i.1) _ _ (counted_sizes output_at output_end output_ends i.1) (λ o.
    step_to (witness_at m.0 (length i.0) o.1) (witness_end m.0 (length i.0) o.1) _ _ (witness_ends m.0 (length i.0) o.1) (λ w.
    step_to (run_at 4 w.1) (run_end 4 w.1) _ _ (run_ends 4 w.1) (λ l. refl))))))

pub header_ends : (bytes : List ℕ) → rest_of (header_at bytes) ≡ header_end bytes
unfolding header_at header_end
header_ends bytes =
    step (run_at 4 bytes) (run_end 4 bytes) _ _ (run_ends 4 bytes) (λ v.
    step (run_at 32 v.1) (run_end 32 v.1) _ _ (run_ends 32 v.1) (λ p.
    step (run_at 32 p.1) (run_end 32 p.1) _ _ (run_ends 32 p.1) (λ r.
    step (run_at 4 r.1) (run_end 4 r.1) _ _ (run_ends 4 r.1) (λ t.
    step (run_at 4 t.1) (run_end 4 t.1) _ _ (run_ends 4 t.1) (λ b.
    made (run_at 4 b.1) _ ∙ run_ends 4 b.1)))))
