-- One piece after another.
use Rattle.std.proofs.Common.{◌≡◌, ◌⊎◌, inl, inr, ℕ, List, [], ◌++◌, Bool, true, false, Option, refl, sym, ap, subst, ◌∙◌, append_assoc, append-nil, arith}
use Rattle.ots_base.specs.Cause.{Rose}
use Rattle.ots_outside.specs.Buffered.{Buffered}
use Rattle.ots_outside.specs.Streams.{Takes, Takes-nothing, TakesPrefix}
use Rattle.ots_outside.proofs.Buffers.{prefix_of_more, prefix_written, held_more, moved_on}
use Rattle.ots_printer.specs.Printing.{Puts}
use Rattle.ots_printer.specs.declared.printer.Printer.{Printer}

true_or_false : (b : Bool) → (b ≡ true) ⊎ (b ≡ false)
true_or_false true = inl refl
true_or_false false = inr refl

module _ {K : Type 0} {taken : K → Option (List ℕ)} {faults : K → ℕ} {keeps : K → K → Type 0} where
  pub puts_then : {a b : List ℕ} {p q r : Printer K} → Puts taken faults keeps a p q → Puts taken faults keeps b q r
      → ((s t u : K) → keeps s t → keeps t u → keeps s u) → Puts taken faults keeps (a ++ b) p r
  puts_then {a} {b} {p} {q} {r} f g trans = record {
    whole = λ good.
        let second = g.whole good in let first = f.whole second.0 in (
          first.0,
          subst (λ (z : List ℕ). Buffered (taken p.sink.now) (taken r.sink.now) z r.held) (append_assoc p.held a b)
              (moved_on _ _ _ ((p.held ++ a) ++ b) (q.held ++ b) r.held (held_more _ _ (p.held ++ a) q.held b first.1) second.1),
        );
    prefix = λ good bad. elim (true_or_false q.failed) [
      | inl failed ↦
          let first = f.prefix good failed in let lost = g.lost failed in
          let later = g.later in let rose = first.0 in (
            omega (arith, later, rose),
            subst (λ (z : Option (List ℕ)). TakesPrefix (taken p.sink.now) z (p.held ++ (a ++ b))) (sym lost.1)
                (subst (TakesPrefix (taken p.sink.now) (taken q.sink.now)) (append_assoc p.held a b) (prefix_of_more _ _ (p.held ++ a) b first.1)),
          )
      | inr well ↦
          let first = f.whole well in let second = g.prefix well bad in
          let later = f.later in let rose = second.0 in (
            omega (arith, later, rose),
            subst (TakesPrefix (taken p.sink.now) (taken r.sink.now)) (append-nil ((p.held ++ a) ++ b) ∙ append_assoc p.held a b)
                (prefix_written _ _ _ ((p.held ++ a) ++ b) (q.held ++ b) [] (held_more _ _ (p.held ++ a) q.held b first.1) second.1),
          )
    ];
    lost = λ bad. let first = f.lost bad in let second = g.lost first.0 in (second.0, second.1 ∙ first.1);
    later = let first = f.later in let second = g.later in omega arith;
    same = trans p.sink.now q.sink.now r.sink.now f.same g.same;
    loan = g.loan ∙ f.loan;
  }

  -- nothing
  pub puts_nothing : ((s : K) → keeps s s) → (p : Printer K) → Puts taken faults keeps [] p p
  puts_nothing refl_ p = record {
    whole = λ good. (good, record { written = []; appended = Takes-nothing (taken p.sink.now); joined = append-nil p.held });
    prefix = λ good bad. absurd (let clash : true ≡ false = sym bad ∙ good in cc);
    lost = λ bad. (bad, refl);
    later = omega arith;
    same = refl_ p.sink.now;
    loan = refl;
  }

  -- the same text in other words
  pub puts_as : {a b : List ℕ} {p q : Printer K} → a ≡ b → Puts taken faults keeps a p q → Puts taken faults keeps b p q
  puts_as {a} {b} {p} {q} is f = subst (λ (z : List ℕ). Puts taken faults keeps z p q) is f

  -- A text was put on a new printer, and the printer finished: the sink has taken the text,
  pub all_taken : {bytes : List ℕ} {p q r : Printer K} → Puts taken faults keeps bytes p q → Puts taken faults keeps [] q r
      → ((s t u : K) → keeps s t → keeps t u → keeps s u) → p.held ≡ [] → r.held ≡ [] → r.failed ≡ false
      → Takes (taken p.sink.now) (taken r.sink.now) bytes
  all_taken {bytes} {p} {q} {r} f g trans empty none good =
      let all = (puts_then f g trans).whole good in
      let text : p.held ++ (bytes ++ []) ≡ bytes = ap (λ (z : List ℕ). z ++ (bytes ++ [])) empty ∙ append-nil bytes in
      let whole : all.1.written ≡ bytes =
      sym (append-nil all.1.written) ∙ ap (λ (z : List ℕ). all.1.written ++ z) (sym none) ∙ sym all.1.joined ∙ text in
      subst (Takes (taken p.sink.now) (taken r.sink.now)) whole all.1.appended

  -- or a prefix of it where a write failed.
  pub prefix_taken : {bytes : List ℕ} {p q r : Printer K} → Puts taken faults keeps bytes p q → Puts taken faults keeps [] q r
      → ((s t u : K) → keeps s t → keeps t u → keeps s u) → p.held ≡ [] → p.failed ≡ false → r.failed ≡ true
      → Rose (faults p.sink.now) (faults r.sink.now) × TakesPrefix (taken p.sink.now) (taken r.sink.now) bytes
  prefix_taken {bytes} {p} {q} {r} f g trans empty good bad =
      let all = (puts_then f g trans).prefix good bad in
      let text : p.held ++ (bytes ++ []) ≡ bytes = ap (λ (z : List ℕ). z ++ (bytes ++ [])) empty ∙ append-nil bytes in
      (all.0, subst (TakesPrefix (taken p.sink.now) (taken r.sink.now)) text all.1)
