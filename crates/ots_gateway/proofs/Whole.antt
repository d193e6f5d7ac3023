-- A round, from what was heard to what was answered.
use Rattle.std.proofs.Common.{◌≡◌, ◌∙◌, ◌≤◌, ℕ, List, length, refl, sym, subst}
use Rattle.std.specs.Prelude.{Option, None, Some, IfSome}
use Rattle.ots_address.specs.Address.{AddressParts}
use Rattle.ots_outside.specs.Dialer.{DialerTold}
use Rattle.ots_tree.specs.Wire.{Node}
use Rattle.ots_asking.specs.declared.outcome.Outcome.{Outcome}
use Rattle.ots_gateway.specs.Answer.{Fit, IsAnswer, Keeps}
use Rattle.ots_gateway.specs.Round.{Asks, Given, asked, below, nobody, too_few}
use Rattle.ots_gateway.specs.declared.answer.Answer.{Answer}

module _ {D : Type 0} (told : D → DialerTold) (faults : D → ℕ) (calendars : List AddressParts) (least : ℕ) (ls : List (List ℕ)) (old new : D) (outcomes : List Outcome) where
  -- the ways are those of the leaves
  over_leaves : (over : List (List ℕ)) (node : Node) (given : Given) → given ≡ below over node → Asks told faults calendars least ls old new outcomes given → over ≡ ls
  over_leaves over node given is (nobody none same empty few) = let clash = sym few ∙ is in absurd cc
  over_leaves over node too_few is (asked depth size answered some deepest converse sound longest taken gives) = absurd cc
  over_leaves over node (below ov other) is (asked depth size answered some deepest converse sound longest taken gives) =
      let same : over ≡ ov = cc is in
      same ∙ gives.1

  pub keeps_answer : (given : Given) (o : Option Answer) (n : ℕ) → Asks told faults calendars least ls old new outcomes given → IsAnswer given o → n ≤ length ls → IfSome o (Keeps n)
  keeps_answer too_few None n asks is few = tt
  keeps_answer too_few (Some a) n asks is few = absurd is
  keeps_answer (below over node) None n asks is few = absurd is
  keeps_answer (below over node) (Some a) n asks is few =
      let same : a.ways ≡ ls = is.0 ∙ over_leaves over node (below over node) refl asks in
      (rw same few, (node, is.1, subst (λ (ways : List (List ℕ)). Fit ways node) (sym is.0) is.2))
