-- Two texts that are written one after the other.
use Rattle.std.proofs.Common.{◌≡◌, ◌+◌, ◌^◌, ◌<◌, ◌-◌, min, ℕ, List, ◌++◌, length, take, subst, refl, sym, ap, ◌∙◌, arith, append_assoc, length-append, Option, Result, Ok, Err}
use Rattle.std.proofs.Math.Seq.{take-append-add}
use Rattle.std.proofs.lemmas.List.{take-append-le}
use Rattle.ots_base.specs.Told.{BothTold, BothTold-trans}
use Rattle.ots_outside.specs.Link.{LinkTold, LinkTakes, LinkTakesPrefix}
use Rattle.ots_http.specs.Written.{WritesAll}

one_after_another : (first second : List ℕ) (t u v : LinkTold) → LinkTakes first t u → LinkTakes second u v → LinkTakes (first ++ second) t v
one_after_another first second t u v p q = record {
  left = q.left ∙ p.left;
  given = q.given ∙ p.given;
  taken = q.taken ∙ ap (λ (z : List ℕ). z ++ second) p.taken ∙ append_assoc t.taken first second;
}

takes_both : (a b c : Option LinkTold) (first second : List ℕ) → BothTold (LinkTakes first) a b → BothTold (LinkTakes second) b c
    → BothTold (LinkTakes (first ++ second)) a c
takes_both a b c first second p q =
    BothTold-trans (LinkTakes first) (LinkTakes second) (LinkTakes (first ++ second)) (one_after_another first second) a b c p q

second_prefix : (a b c : Option LinkTold) (first second : List ℕ) → BothTold (LinkTakes first) a b → LinkTakesPrefix b c second → LinkTakesPrefix a c (first ++ second)
second_prefix a b c first second p (n, few, q) = (
  length first + n,
  omega (arith, length-append first second),
  subst (λ (z : List ℕ). BothTold (LinkTakes z) a c) (sym (take-append-add first second n)) (takes_both a b c first (take n second) p q),
)

-- the first text was written, and then the second, or a prefix of it
pub both_written : {T E S F : Type 0} (a b c : Option LinkTold) (text first second : List ℕ) (done : S) (result : Result T E) → text ≡ first
    → WritesAll {T = S} {E = F} text a b (Ok done) → WritesAll second b c result → WritesAll (first ++ second) a c result
both_written {T} {E} {S} {F} a b c text first second done result is p q =
    let whole : BothTold (LinkTakes first) a b = subst (λ (z : List ℕ). BothTold (LinkTakes z) a b) is p.whole in
    by_result result whole q
  where
    by_result : (result : Result T E) → BothTold (LinkTakes first) a b → WritesAll second b c result → WritesAll (first ++ second) a c result
    by_result (Ok x) whole q = record { whole = takes_both a b c first second whole q.whole; prefix = second_prefix a b c first second whole q.prefix }
    by_result (Err e) whole q = record { whole = tt; prefix = second_prefix a b c first second whole q.prefix }

-- the first text was not written whole
pub first_cut : {T E S F : Type 0} (a b : Option LinkTold) (text first second : List ℕ) (failed : F) (error : E) → text ≡ first
    → WritesAll {T = S} {E = F} text a b (Err failed) → WritesAll {T = T} {E = E} (first ++ second) a b (Err error)
first_cut a b text first second failed error is p = record {
  whole = tt;
  prefix = (
    p.prefix.0,
    omega (arith, length-append first second, ap length is, p.prefix.1),
    subst (λ (z : List ℕ). BothTold (LinkTakes z) a b)
        (ap (take p.prefix.0) is ∙ sym (take-append-le p.prefix.0 first second (omega (arith, ap length is, p.prefix.1)))) p.prefix.2,
  );
}

-- a length that is not cut
pub whole_length : (n size : ℕ) → size ≡ min n (2 ^ 64 - 1) → n < 2 ^ 64 → size ≡ n
whole_length n size is fits = omega (arith, is, fits)

-- three pieces that were added one after the other
pub three_more : (before a b c x y z : List ℕ) → x ≡ before ++ a → y ≡ x ++ b → z ≡ y ++ c → z ≡ before ++ (a ++ (b ++ c))
three_more before a b c x y z first second third = rw (third, second, first, append_assoc (before ++ a) b c, append_assoc before a (b ++ c)) refl
