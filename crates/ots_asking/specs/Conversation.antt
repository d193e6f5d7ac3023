-- Conversations with calendars, one after the other: what was sent in each, and what came of it.
use Rattle.std.specs.Prelude.{◌≡◌, ◌⊎◌, ℕ, List, [], ◌∷◌}
use Rattle.ots_base.specs.Cause.{Rose}
use Rattle.ots_address.specs.Address.{AddressParts}
use Rattle.ots_conversation.specs.Conversation.{KeepsTold, Query, Sends, WhereTold}
use Rattle.ots_http.specs.declared.asking.Asked.{Asked}
use Rattle.ots_outside.specs.Dialer.{DialerTold, next_reply}
use Rattle.ots_asking.specs.declared.outcome.Outcome.{Outcome}
use Rattle.ots_asking.specs.declared.outcome.Outcome.TheVariants.{Unreachable}
use Rattle.ots_asking.specs.Outcome.{IsOutcomeOf}

-- What a calendar is asked, and the message and the number of operations that its answer is to stand below.
pub record Question : Type 0 where
  pub address : AddressParts
  pub asked : Asked
  pub length : ℕ
  pub depth : ℕ

-- what it is asked alone
abbrev pub query_of : Question → Query
query_of q = record { address = q.address; asked = q.asked }

-- A conversation was had: its outcome is that of its own reply, or it failed, and the count of faults rose in it.
pub record Converses {D : Type 0} (told : D → DialerTold) (faults : D → ℕ) (q : Question) (old new : D)
    (outcome : Outcome) : Type 0 where
  pub sends : Sends told faults (query_of q) (outcome ≡ Unreachable) old new
  pub outcome_is : WhereTold (told old) (λ sent replies. IsOutcomeOf q.length q.depth (next_reply replies) outcome)
  pub cause : outcome ≡ Unreachable → Rose (faults old) (faults new)

-- All these questions were asked in order, and each has its outcome.
abbrev pub Converse : {D : Type 0} → (D → DialerTold) → (D → ℕ) → List Question → D → D → List Outcome → Type 0
Converse told faults [] old new [] = new ≡ old
Converse told faults [] old new (outcome ∷ outcomes) = ⊥
Converse told faults (q ∷ questions) old new [] = ⊥
Converse {D} told faults (q ∷ questions) old new (outcome ∷ outcomes) =
    (mid : D) × Converses told faults q old mid outcome × Converse told faults questions mid new outcomes

-- Some of these questions were asked in order, the last of them perhaps in part.
abbrev pub ConverseUpTo : {D : Type 0} → (D → DialerTold) → (D → ℕ) → List Question → D → D → Type 0
ConverseUpTo told faults [] old new = KeepsTold told faults old new
ConverseUpTo {D} told faults (q ∷ questions) old new =
    KeepsTold told faults old new
    ⊎ Sends told faults (query_of q) (Rose (faults old) (faults new)) old new
    ⊎ ((mid : D) × (outcome : Outcome) × Converses told faults q old mid outcome
    × ConverseUpTo told faults questions mid new)
