-- What passes through a buffer.
use Rattle.std.proofs.Common.{◌≡◌, ℕ, ◌+◌, ◌≤◌, List, ◌++◌, length, take, Option, sym, ap, subst, ◌∙◌, arith, append_assoc, length-append}
use Rattle.std.proofs.Math.Seq.{take-append-add}
use Rattle.std.proofs.lemmas.List.{take-append-le}
use Rattle.ots_outside.specs.Buffered.{Buffered}
use Rattle.ots_outside.specs.Streams.{Takes, Takes-trans, TakesPrefix}

-- what the buffer held was written or is still held
pub moved_on : (a b c : Option (List ℕ)) (text held left : List ℕ) → Buffered a b text held → Buffered b c held left → Buffered a c text left
moved_on a b c text held left p q = record {
  written = p.written ++ q.written;
  appended = Takes-trans a b c p.written q.written p.appended q.appended;
  joined = p.joined ∙ ap (λ (z : List ℕ). p.written ++ z) q.joined ∙ sym (append_assoc p.written q.written left);
}

-- more bytes are held
pub held_more : (a b : Option (List ℕ)) (text held more : List ℕ) → Buffered a b text held → Buffered a b (text ++ more) (held ++ more)
held_more a b text held more p = record {
  written = p.written;
  appended = p.appended;
  joined = ap (λ (z : List ℕ). z ++ more) p.joined ∙ append_assoc p.written held more;
}

-- what was held is written
pub all_written : (a b c : Option (List ℕ)) (text held : List ℕ) → Buffered a b text held → Takes b c held → Takes a c text
all_written a b c text held p q = subst (Takes a c) (sym p.joined) (Takes-trans a b c p.written held p.appended q)

-- a prefix of what was held is written, and more was to follow
pub prefix_written : (a b c : Option (List ℕ)) (text held rest : List ℕ) → Buffered a b text held → TakesPrefix b c held → TakesPrefix a c (text ++ rest)
prefix_written a b c text held rest p (n, few, q) =
    let whole : text ++ rest ≡ p.written ++ (held ++ rest) = ap (λ (z : List ℕ). z ++ rest) p.joined ∙ append_assoc p.written held rest in
    let prefix : take (length p.written + n) (text ++ rest) ≡ p.written ++ take n held =
    ap (take (length p.written + n)) whole ∙ take-append-add p.written (held ++ rest) n ∙ ap (λ (z : List ℕ). p.written ++ z) (take-append-le n held rest few) in
    let long : length (text ++ rest) ≡ length p.written + (length held + length rest) =
    ap length whole ∙ length-append p.written (held ++ rest) ∙ ap (λ (z : ℕ). length p.written + z) (length-append held rest) in
    (length p.written + n, omega arith, subst (Takes a c) (sym prefix) (Takes-trans a b c p.written (take n held) p.appended q))

-- a prefix of a text is one of a longer text
pub prefix_of_more : (a b : Option (List ℕ)) (text rest : List ℕ) → TakesPrefix a b text → TakesPrefix a b (text ++ rest)
prefix_of_more a b text rest (n, few, q) =
    let long = length-append text rest in
    (n, omega (arith, few, long), subst (Takes a b) (sym (take-append-le n text rest few)) q)
