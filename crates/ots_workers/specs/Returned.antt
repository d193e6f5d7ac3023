-- The links that come back.
use Rattle.std.specs.Prelude.{ℕ, List, [], All, Option, ◌≡◌}
use Rattle.ots_base.specs.Told.{IfTold}
use Rattle.ots_outside.specs.Link.{LinkTold}
use Rattle.ots_connection.specs.Answered.{IsAnswered, IsAnsweredWithin}
use Rattle.ots_store.specs.Records.{Record}

-- Every link of the list is answered, where the list is told. `told` and `faults` say what a link tells.
abbrev pub AllAnswered : {L : Type 0} → (L → Option LinkTold) → (L → ℕ) → Option (List L) → Type 0
AllAnswered told faults links = IfTold links (λ links. All (λ link. IsAnswered (told link) (faults link)) links)

-- The same, by what these records begin with.
abbrev pub AllWithin : {L : Type 0} → List Record → (L → Option LinkTold) → (L → ℕ) → Option (List L) → Type 0
AllWithin records told faults links = IfTold links (λ links. All (λ link. IsAnsweredWithin records (told link)
    (faults link)) links)

-- No link came back yet, where that is told.
abbrev pub NoneReturned : {L : Type 0} → Option (List L) → Type 0
NoneReturned links = IfTold links (λ links. links ≡ [])
