-- What calendars are heard to say is determined where a dialer tells it and none of its calls fails.
use Rattle.std.proofs.Common.{◌≡◌, ◌≢◌, ◌≤◌, ℕ, List, [], ◌∷◌, Some, refl, ap, subst, ◌∙◌, drop, arith}
use Rattle.std.specs.Prelude.{option_map}
use Rattle.std.specs.List.{AllByRecursion}
use Rattle.ots_asking.specs.Conversation.{Converse, Converses, Question}
use Rattle.ots_asking.specs.Outcome.{IsOutcomeOf}
use Rattle.ots_asking.specs.declared.outcome.Outcome.{Outcome}
use Rattle.ots_asking.specs.declared.outcome.Outcome.TheVariants.{Unreachable}
use Rattle.ots_base.specs.Cause.{Rose}
use Rattle.ots_conversation.specs.Conversation.{WhereTold}
use Rattle.ots_outside.specs.Dialer.{DialerTold, Sent, next_reply}
use Rattle.ots_reader.specs.OneAnswer.{IsShape}

-- What is told of a dialer that tells what was sent, and these replies.
pub record Tells (told : DialerTold) (replies : List (List ℕ)) : Type 0 where
  pub sent : List Sent
  pub sent_is : told.sent ≡ Some sent
  pub replies_are : told.replies ≡ Some replies

there : (told : DialerTold) (replies : List (List ℕ)) (t : Tells told replies) (P : List Sent → List (List ℕ) → Type 0) → WhereTold told P → P t.sent replies
there told replies t P h = subst (λ (z : DialerTold). WhereTold z P) (λ i. record { replies = t.replies_are i; sent = t.sent_is i; slots = told.slots }) h

module _ {D : Type 0} (told : D → DialerTold) (faults : D → ℕ)
    (one_outcome : (n k : ℕ) (reply : List ℕ) (a b : Outcome) → IsShape n k → IsOutcomeOf n k reply a → IsOutcomeOf n k reply b → a ≢ Unreachable → b ≢ Unreachable → a ≡ b) where
  never_falls : (qs : List Question) (old new : D) (os : List Outcome) → Converse told faults qs old new os → faults old ≤ faults new
  never_falls [] old new [] h = let same = ap faults h in omega (arith, same)
  never_falls [] old new (x ∷ os) h = absurd h
  never_falls (q ∷ qs) old new [] h = absurd h
  never_falls (q ∷ qs) old new (x ∷ os) (mid, first, rest) = let later = never_falls qs mid new os rest in let before = first.sends.later in omega (arith, later, before)

  -- a conversation that did not fail
  module _ (q : Question) (old mid : D) (x : Outcome) (c : Converses told faults q old mid x) (quiet : Rose (faults old) (faults mid) → ⊥) where
    reached : x ≢ Unreachable
    reached is = quiet (c.cause is)

    after : (replies : List (List ℕ)) → Tells (told old) replies → Tells (told mid) (drop 1 replies)
    after replies t = record {
      sent = _;
      sent_is = there (told old) replies t _ (c.sends.whole reached);
      replies_are = c.sends.replies ∙ ap (option_map (drop 1)) t.replies_are;
    }

    outcome_is : (replies : List (List ℕ)) → Tells (told old) replies → IsOutcomeOf q.length q.depth (next_reply replies) x
    outcome_is replies t = there (told old) replies t _ c.outcome_is

  pub heard_once : (qs : List Question) (old other new last : D) (os ps : List Outcome) (replies : List (List ℕ)) → AllByRecursion (λ (q : Question). IsShape q.length q.depth) qs
      → Tells (told old) replies → Tells (told other) replies → (Rose (faults old) (faults new) → ⊥) → (Rose (faults other) (faults last) → ⊥)
      → Converse told faults qs old new os → Converse told faults qs other last ps → os ≡ ps
  heard_once [] old other new last [] [] replies shapes t u quiet still f g = refl
  heard_once [] old other new last [] (y ∷ ps) replies shapes t u quiet still f g = absurd g
  heard_once [] old other new last (x ∷ os) ps replies shapes t u quiet still f g = absurd f
  heard_once (q ∷ qs) old other new last [] ps replies shapes t u quiet still f g = absurd f
  heard_once (q ∷ qs) old other new last (x ∷ os) [] replies shapes t u quiet still f g = absurd g
  heard_once (q ∷ qs) old other new last (x ∷ os) (y ∷ ps) replies shapes t u quiet still (mid, f, fs) (next, g, gs) =
      let later = never_falls qs mid new os fs in
      let before = f.sends.later in
      let later' = never_falls qs next last ps gs in
      let before' = g.sends.later in
      let calm : Rose (faults old) (faults mid) → ⊥ = λ rose. quiet (omega (arith, rose, later)) in
      let calm' : Rose (faults other) (faults next) → ⊥ = λ rose. still (omega (arith, rose, later')) in
      let first : x ≡ y =
      one_outcome q.length q.depth (next_reply replies) x y shapes.0 (outcome_is q old mid x f calm replies t) (outcome_is q other next y g calm' replies u) (reached q old mid x f calm)
      (reached q other next y g calm') in
      let rest : os ≡ ps =
      heard_once qs mid next new last os ps (drop 1 replies) shapes.1 (after q old mid x f calm replies t) (after q other next y g calm' replies u)
      (λ rose. quiet (omega (arith, rose, before))) (λ rose. still (omega (arith, rose, before'))) fs gs in
      λ i. first i ∷ rest i

  -- between two states of one dialer
  pub heard : (qs : List Question) (old new : D) (os ps : List Outcome) (sent : List Sent) (replies : List (List ℕ)) → AllByRecursion (λ (q : Question). IsShape q.length q.depth) qs
      → (told old).sent ≡ Some sent → (told old).replies ≡ Some replies → (Rose (faults old) (faults new) → ⊥) → Converse told faults qs old new os → Converse told faults qs old new ps
      → os ≡ ps
  heard qs old new os ps sent replies shapes was were quiet f g =
      let t : Tells (told old) replies = record { sent = sent; sent_is = was; replies_are = were } in heard_once qs old old new new os ps replies shapes t t quiet quiet f g
