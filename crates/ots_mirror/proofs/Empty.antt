-- The empty reply is none.
use Rattle.std.proofs.Common.{◌≡◌, ◌≤◌, ℕ, List, [], ◌∷◌, ◌++◌, length, arith, length-append, subst, sym}
use Rattle.httparse.specs.Grammar.{print_blank, print_end, print_reason, print_response, print_section, print_version}
use Rattle.ots_http.specs.ReplyTable.{IsOutcome, bad_http, by_head, good, no_head}

some_here : (xs : List ℕ) (x : ℕ) (after : List ℕ) → 1 ≤ length (xs ++ x ∷ after)
some_here [] x after = omega arith
some_here (y ∷ xs) x after = omega arith

more_after : (xs ys : List ℕ) → 1 ≤ length xs → 1 ≤ length (xs ++ ys)
more_after xs ys some = omega (arith, some, length-append xs ys)

head_long : (a b digits c d e rest : List ℕ) → 1 ≤ length (a ++ b ++ 32 ∷ digits ++ c ++ d ++ e ++ rest)
head_long a b digits c d e rest =
    more_after (a ++ b ++ 32 ∷ digits ++ c ++ d ++ e) rest (more_after (a ++ b ++ 32 ∷ digits ++ c ++ d) e (more_after (a ++ b ++ 32 ∷ digits ++ c) d
    (more_after (a ++ b ++ 32 ∷ digits) c (some_here (a ++ b) 32 digits))))

pub none_good : (body : List ℕ) → IsOutcome [] (good body) → ⊥
unfolding print_response
none_good body (by_head h rest has is) =
    let some : 1 ≤ length {A = ℕ} [] = subst (λ (z : List ℕ). 1 ≤ length z) (sym has.reads.1)
    (head_long (print_blank h.blank) (print_version h.minor) h.digits (print_reason h.reason) (print_end h.line_end) (print_section h.fields h.last) rest) in
    omega (arith, some)
none_good body (no_head none is) = let clash : good body ≡ bad_http = is in cc
