-- A word that is one calendar address or none. Source: this project's profile.
use Rattle.std.specs.Prelude.{◌≡◌, ℕ, ◌+◌, Bool, false, List, [], ◌∷◌, length, Result, Ok, Err}
use Rattle.ots_address.specs.Address.{AddressParts}
use Rattle.ots_address.specs.AddressList.{IsBadAddress, IsListOf}
use Rattle.ots_address.specs.declared.list.AddressError.{AddressError}
use Rattle.ots_address.specs.declared.list.AddressError.TheVariants.{BadAddress, OutOfMemory}

-- The word is a list of this address alone.
abbrev pub IsOneAddress : List ℕ → AddressParts → Type 0
IsOneAddress word address = IsListOf word (address ∷ [])

-- Its first piece that is no address is told; or it has several addresses, and the second is told.
pub data IsNotOneAddress (word : List ℕ) (place : ℕ) (https : Bool) : Type 0 where
  bad : IsBadAddress word place https → IsNotOneAddress word place https
  several : (first second : AddressParts) (rest : List AddressParts) → IsListOf word (first ∷ second ∷ rest)
      → place ≡ length first.text + 1 → https ≡ false → IsNotOneAddress word place https

abbrev pub IfNotOneAddress : List ℕ → AddressError → Type 0
IfNotOneAddress word (BadAddress place https) = IsNotOneAddress word place https
IfNotOneAddress word OutOfMemory = Unit {0}

-- ---- for the code

-- the answer for the addresses of a list
abbrev pub IsOnly : List AddressParts → Result AddressParts AddressError → Type 0
IsOnly [] r = ⊥
IsOnly (address ∷ []) (Ok a) = a ≡ address
IsOnly (address ∷ []) (Err e) = ⊥
IsOnly (first ∷ second ∷ rest) (Ok a) = ⊥
IsOnly (first ∷ second ∷ rest) (Err e) = e ≡ BadAddress (length first.text + 1) false
