-- Lemmas on a buffer that reads fill: what stands there, and what came.
use Rattle.std.proofs.Common.{◌≡◌, ◌+◌, ◌-◌, ◌≤◌, ℕ, min, Bool, false, List, ◌++◌, length, take, drop, sym, ap, subst, ◌∙◌, arith, append_assoc, Option, Some, None}
use Rattle.std.proofs.Math.Seq.{take-add}
use Rattle.std.proofs.lemmas.List.{length-take, length-take-le, take-take, take-append-drop, take-append-le, drop-append-le, drop-take, length-drop}
use Rattle.std.proofs.lemmas.List.Elements.{All-append}
use Rattle.ots_base.specs.Told.{BothTold, IfTold}
use Rattle.ots_outside.specs.Link.{LinkTold, LinkGives}
use Rattle.ots_http.specs.Given.{GivesAtMost}
use Rattle.ots_http.specs.LineEnds.{IsBlank, IsEndByte}
use Rattle.ots_http.specs.Reading.{ReadsAfter}
use Rattle.ots_http.proofs.LinkLemmas.{gives_both}

-- ---- from the first byte on

-- n bytes more came after the first k
pub gives_more : (a b c : Option LinkTold) (old new : List ℕ) (k end n : ℕ) → BothTold (LinkGives (take k old)) a b
    → ReadsAfter b c old new k end n → BothTold (LinkGives (take (k + n) new)) a c
gives_more a b c old new k end n came more =
    rw (take-add, more.prefix) (gives_both a b c (take k old) (take n (drop k new)) came more.gives)

pub came_in_all : (a b : Option LinkTold) (buffer : List ℕ) (k most : ℕ) → BothTold (LinkGives (take k buffer)) a b → k ≤ most → GivesAtMost most a b
came_in_all a b buffer k most came fits = record {
  bytes = take k buffer;
  gives = came;
  at_most = omega (arith, length-take k buffer);
}

-- what came is blank as long as the old and the new bytes are
pub blank_more : (before begun : Bool) (old new : List ℕ) (k n : ℕ) → take k new ≡ take k old → (before ≡ false → IsBlank (take k old))
    → (begun ≡ false → (before ≡ false) × IsBlank (take (k + n - k) (drop k new))) → begun ≡ false → IsBlank (take (k + n) new)
blank_more before begun old new k n same blank says is =
    let h = says is in
    let next : IsBlank (take n (drop k new)) = subst (λ (m : ℕ). IsBlank (take m (drop k new))) (omega arith) h.1 in
    rw (take-add, same) (All-append IsEndByte (take k old) (take n (drop k new)) (blank h.0) next)

-- ---- after what stood there

-- a shorter prefix of two lists with one prefix
same_prefix : (new old : List ℕ) (k n : ℕ) → k ≤ n → take n new ≡ take n old → take k new ≡ take k old
same_prefix new old k n h same = sym (take-take k n new h) ∙ ap (take k) same ∙ take-take k n old h

-- what stands after the first bytes grows by what is read
grown : (old new : List ℕ) (filled at n : ℕ) → filled ≤ at → at ≤ length old → take at new ≡ take at old
    → drop filled (take (at + n) new) ≡ drop filled (take at old) ++ take n (drop at new)
grown old new filled at n h fits same =
    rw (take-add, same) (drop-append-le filled (take at old) (take n (drop at new)) (omega (arith, length-take-le at old fits)))

pub record Grown (a b : Option LinkTold) (first buffer : List ℕ) (filled at : ℕ) : Type 0 where
  pub prefix : take filled buffer ≡ take filled first
  pub gives : BothTold (LinkGives (drop filled (take at buffer))) a b

pub grows : (a b c : Option LinkTold) (first old new : List ℕ) (filled at end n : ℕ) → filled ≤ at → at ≤ length old
    → take filled old ≡ take filled first → BothTold (LinkGives (drop filled (take at old))) a b
    → ReadsAfter b c old new at end n → Grown a c first new filled (at + n)
grows a b c first old new filled at end n h fits prefix came more =
    let is = grown old new filled at n h fits more.prefix in
    record {
      prefix = same_prefix new old filled at h more.prefix ∙ prefix;
      gives = rw is (gives_both a b c (drop filled (take at old)) (take n (drop at new)) came more.gives);
    }

pub came_after : (a b : Option LinkTold) (buffer : List ℕ) (filled at most : ℕ) → BothTold (LinkGives (drop filled (take at buffer))) a b → at ≤ filled + most
    → GivesAtMost most a b
came_after a b buffer filled at most came fits = record {
  bytes = drop filled (take at buffer);
  gives = came;
  at_most = omega (arith, length-drop filled (take at buffer), length-take at buffer);
}

-- as many bytes as are wanted stand in the buffer
pub whole_there : (a b : Option LinkTold) (first buffer : List ℕ) (filled at end count : ℕ) → filled ≤ at → at ≤ length buffer → end ≤ at → count ≡ min at end
    → take filled buffer ≡ take filled first → BothTold (LinkGives (drop filled (take at buffer))) a b
    → IfTold a (λ told. take end (take filled first ++ told.left) ≡ take count buffer)
whole_there None b first buffer filled at end count f fits e c prefix came = tt
whole_there (Some told) None first buffer filled at end count f fits e c prefix came = absurd came
whole_there (Some told) (Some later) first buffer filled at end count f fits e c prefix came =
    let same : take filled (take at buffer) ≡ take filled first = take-take filled at buffer f ∙ prefix in
    let split : take at buffer ≡ take filled first ++ drop filled (take at buffer) = sym (take-append-drop filled (take at buffer)) ∙ ap (λ (z : List ℕ). z ++ drop filled (take at buffer)) same in
    let text : take filled first ++ told.left ≡ take at buffer ++ later.left =
    ap (λ (z : List ℕ). take filled first ++ z) came.left ∙ sym (append_assoc (take filled first) (drop filled (take at buffer)) later.left) ∙ ap (λ (z : List ℕ). z ++ later.left) (sym split) in
    ap (take end) text ∙ take-append-le end (take at buffer) later.left (omega (arith, length-take-le at buffer fits))
    ∙ take-take end at buffer e ∙ ap (λ (n : ℕ). take n buffer) (omega arith)

-- what holds of a body whose first bytes these are holds of the body that was read
pub body_read : (P : List ℕ → Type 0) (a : Option LinkTold) (first new : List ℕ) (start filled at wanted : ℕ) → start ≤ filled → filled ≤ length first → start ≤ at
    → IfTold a (λ told. take (start + wanted) (take filled first ++ told.left) ≡ take at new)
    → ((body : List ℕ) → take (at - start) (drop start new) ≡ take wanted body → P body)
    → IfTold a (λ told. P (drop start (take filled first) ++ told.left))
body_read P None first new start filled at wanted s f h whole answers = tt
body_read P (Some told) first new start filled at wanted s f h whole answers =
    let after : drop start (take filled first ++ told.left) ≡ drop start (take filled first) ++ told.left = drop-append-le start (take filled first) told.left (omega (arith, length-take-le filled first f)) in
    let here : take (at - start) (drop start new) ≡ drop start (take at new) = sym (drop-take start (at - start) new) ∙ ap (λ (n : ℕ). drop start (take n new)) (omega arith) in
    answers (drop start (take filled first) ++ told.left)
    (here ∙ ap (drop start) (sym whole) ∙ drop-take start wanted (take filled first ++ told.left) ∙ ap (take wanted) after)
