-- A reply has one outcome, by the laws of replies and of trees.
use Rattle.std.proofs.Common.{◌≡◌, ◌≢◌, ℕ, List, ◌++◌, length, drop, refl, sym, ap, subst, ◌∙◌, arith}
use Rattle.ots_asking.specs.declared.outcome.Outcome.{Outcome}
use Rattle.ots_asking.specs.declared.outcome.Outcome.TheVariants.{Tree, Unreachable, Status, TooLong, BadHttp, BadReply}
use Rattle.ots_asking.specs.Outcome.{HasBodyFault, no_tree, more, IsOutcomeOf, IsOutcomeOfBody}
use Rattle.ots_http.specs.ReplyTable.{ReplyOutcome, IsOutcome, good, status, too_long, bad_http}
use Rattle.ots_reader.specs.declared.fault.Fault.{Fault}
use Rattle.ots_reader.specs.declared.fault.Reason.TheVariants.{TrailingBytes}
use Rattle.ots_reader.specs.OneAnswer.{IsShape}
use Rattle.ots_reader.specs.TreeFault.{HasTreeFault}
use Rattle.ots_reader.specs.TreeRead.{IsSoundNode, IsTreeAt}
use Rattle.ots_tree.specs.Wire.{Node, bytes}
use Rattle.ots_tree.specs.declared.tree.Tree.{Tree as AnyTree}

-- what the laws of replies and trees say
pub record Laws : Type 0 where
  pub one_reply : (input : List ℕ) (a b : ReplyOutcome) → IsOutcome input a → IsOutcome input b → a ≡ b
  pub never_both : (n k : ℕ) (t : Node) (rest : List ℕ) (f : Fault) → IsShape n k → IsSoundNode n k t → HasTreeFault n k (bytes t ++ rest) f → ⊥
  pub one_fault : (n k : ℕ) (input : List ℕ) (f g : Fault) → HasTreeFault n k input f → HasTreeFault n k input g → f ≡ g
  pub one_tree : (n k : ℕ) (input : List ℕ) (t u : AnyTree) (used more : ℕ) → IsTreeAt n k input t used → IsTreeAt n k input u more → (t ≡ u) × (used ≡ more)

module _ (laws : Laws) (n k : ℕ) (shape : IsShape n k) where
  tree_or_fault : (body : List ℕ) (t : AnyTree) (used : ℕ) (f : Fault) → IsTreeAt n k body t used → HasTreeFault n k body f → ⊥
  tree_or_fault body t used f at fault =
      let node = at.sound in
      laws.never_both n k node.0 (drop used body) f shape (record { sound = node.1; fits = rw (node.2) at.fits })
      (rw (node.2, sym at.front) fault)

  no_more : (body : List ℕ) (t : AnyTree) (f : Fault) → IsTreeAt n k body t (length body) → HasBodyFault n k body f → ⊥
  no_more body t f at (no_tree fault) = tree_or_fault body t (length body) f at fault
  no_more body t f at (more u used other less is) = omega (arith, (laws.one_tree n k body t u (length body) used at other).1, less)

  one_body_fault : (body : List ℕ) (f g : Fault) → HasBodyFault n k body f → HasBodyFault n k body g → f ≡ g
  one_body_fault body f g (no_tree p) (no_tree q) = laws.one_fault n k body f g p q
  one_body_fault body f g (no_tree p) (more u used at less is) = absurd (tree_or_fault body u used f at p)
  one_body_fault body f g (more u used at less is) (no_tree q) = absurd (tree_or_fault body u used g at q)
  one_body_fault body f g (more t one at less is) (more u other at' less' is') =
      is ∙ ap (λ (place : ℕ). record { place = place; reason = TrailingBytes }) (laws.one_tree n k body t u one other at at').1 ∙ sym is'

  pub one_of_body : (body : List ℕ) (a b : Outcome) → IsOutcomeOfBody n k body a → IsOutcomeOfBody n k body b → a ≡ b
  one_of_body body (Tree t) (Tree u) p q = ap Tree (laws.one_tree n k body t u (length body) (length body) p q).0
  one_of_body body (Tree t) (BadReply g) p q = absurd (no_more body t g p q)
  one_of_body body (BadReply f) (Tree u) p q = absurd (no_more body u f q p)
  one_of_body body (BadReply f) (BadReply g) p q = ap BadReply (one_body_fault body f g p q)
  one_of_body body (Tree t) Unreachable p q = absurd q
  one_of_body body (Tree t) (Status code) p q = absurd q
  one_of_body body (Tree t) TooLong p q = absurd q
  one_of_body body (Tree t) BadHttp p q = absurd q
  one_of_body body (BadReply f) Unreachable p q = absurd q
  one_of_body body (BadReply f) (Status code) p q = absurd q
  one_of_body body (BadReply f) TooLong p q = absurd q
  one_of_body body (BadReply f) BadHttp p q = absurd q
  one_of_body body Unreachable b p q = absurd p
  one_of_body body (Status code) b p q = absurd p
  one_of_body body TooLong b p q = absurd p
  one_of_body body BadHttp b p q = absurd p

  -- what an outcome is to that of the reply's table
  abbrev IsAs : ReplyOutcome → Outcome → Type 0
  IsAs (good body) a = IsOutcomeOfBody n k body a
  IsAs (status code) a = a ≡ Status code
  IsAs too_long a = a ≡ TooLong
  IsAs bad_http a = a ≡ BadHttp

  comes : (reply : List ℕ) (a : Outcome) → IsOutcomeOf n k reply a → a ≢ Unreachable → (o : ReplyOutcome) × IsOutcome reply o × IsAs o a
  comes reply (Tree t) (body, is, of) other = (good body, is, of)
  comes reply (BadReply f) (body, is, of) other = (good body, is, of)
  comes reply (Status code) is other = (status code, is, refl)
  comes reply TooLong is other = (too_long, is, refl)
  comes reply BadHttp is other = (bad_http, is, refl)
  comes reply Unreachable is other = absurd (other refl)

  same_as : (o : ReplyOutcome) (a b : Outcome) → IsAs o a → IsAs o b → a ≡ b
  same_as (good body) a b p q = one_of_body body a b p q
  same_as (status code) a b p q = p ∙ sym q
  same_as too_long a b p q = p ∙ sym q
  same_as bad_http a b p q = p ∙ sym q

  pub one : (reply : List ℕ) (a b : Outcome) → IsOutcomeOf n k reply a → IsOutcomeOf n k reply b → a ≢ Unreachable → b ≢ Unreachable → a ≡ b
  one reply a b p q p-other q-other =
      let first = comes reply a p p-other in
      let second = comes reply b q q-other in
      same_as first.0 a b first.2 (subst (λ (o : ReplyOutcome). IsAs o b) (laws.one_reply reply second.0 first.0 second.1 first.1) second.2)
