-- Lemmas on what a link gave.
use Rattle.std.proofs.Common.{◌+◌, ◌≤◌, ℕ, List, ◌++◌, sym, ap, ◌∙◌, arith, append_assoc, length-append, Option}
use Rattle.ots_base.specs.Told.{BothTold, BothTold-trans}
use Rattle.ots_outside.specs.Link.{LinkTold, LinkGives}
use Rattle.ots_http.specs.Given.{GivesAtMost}

-- ---- one read after another

one_after_another : (first second : List ℕ) (t u v : LinkTold) → LinkGives first t u → LinkGives second u v → LinkGives (first ++ second) t v
one_after_another first second t u v p q = record {
  left = p.left ∙ ap (λ (z : List ℕ). first ++ z) q.left ∙ sym (append_assoc first second v.left);
  given = q.given ∙ ap (λ (z : List ℕ). z ++ second) p.given ∙ append_assoc t.given first second;
  taken = q.taken ∙ p.taken;
}

pub gives_both : (a b c : Option LinkTold) (first second : List ℕ) → BothTold (LinkGives first) a b → BothTold (LinkGives second) b c
    → BothTold (LinkGives (first ++ second)) a c
gives_both a b c first second p q =
    BothTold-trans (LinkGives first) (LinkGives second) (LinkGives (first ++ second)) (one_after_another first second) a b c p q

pub at_most_both : (m n : ℕ) (a b c : Option LinkTold) → GivesAtMost m a b → GivesAtMost n b c → GivesAtMost (m + n) a c
at_most_both m n a b c first second = record {
  bytes = first.bytes ++ second.bytes;
  gives = gives_both a b c first.bytes second.bytes first.gives second.gives;
  at_most = omega (arith, length-append first.bytes second.bytes, first.at_most, second.at_most);
}

pub at_most_more : (m n : ℕ) (a b : Option LinkTold) → m ≤ n → GivesAtMost m a b → GivesAtMost n a b
at_most_more m n a b fits came = record { bytes = came.bytes; gives = came.gives; at_most = omega (arith, came.at_most) }
