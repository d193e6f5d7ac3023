-- What an accepter tells of its links, and what its calls do to that.
use Rattle.std.specs.Prelude.{◌≡◌, ℕ, List, [], ◌∷◌, ◌++◌, Option, Some, None, Result, Ok, Err}
use Rattle.std.specs.Option.{option_map}
use Rattle.ots_base.specs.Cause.{one_more}

-- `accept` answered the first of the links to come, which then lack it; `None` exactly where there are none; and after
-- a
-- fault they stay. One that tells no links never answers `None`.
abbrev pub Accepts : {L E : Type 0} → Option (List L) → Option (List L) → Result (Option L) E → Type 0
Accepts old new (Ok (Some link)) = old ≡ option_map (λ links. link ∷ links) new
Accepts old new (Ok None) = (old ≡ Some []) × (new ≡ old)
Accepts old new (Err error) = new ≡ old

-- The count of links that were answered, after this answer.
abbrev pub accepted_after : {L E : Type 0} → ℕ → Result (Option L) E → ℕ
accepted_after count (Ok (Some link)) = one_more count
accepted_after count (Ok None) = count
accepted_after count (Err error) = count

-- The link that `accept` answered, if any, has P.
abbrev pub IfAccepted : {L E : Type 0} → Result (Option L) E → (L → Type 0) → Type 0
IfAccepted (Ok (Some link)) P = P link
IfAccepted (Ok None) P = Unit {0}
IfAccepted (Err error) P = Unit {0}

-- A link was given back last. An accepter whose room has ended may stop telling, and one that doesn't tell stays so.
abbrev pub GivesBack : {L : Type 0} → Option (List L) → L → Option (List L) → Type 0
GivesBack old link None = Unit {0}
GivesBack old link (Some links) = option_map (λ earlier. earlier ++ link ∷ []) old ≡ Some links
