-- Lists of calendar addresses, with commas between. Source: this project's profile.
use Rattle.std.specs.Prelude.{◌≡◌, ◌≢◌, ℕ, ◌+◌, ◌<◌, ◌==◌, Bool, List, [], ◌∷◌, ◌++◌, length, sum_by, map, All, Option}
use Rattle.std.specs.Prelude.{Some, None, codes, bytes_eq, take}
use Rattle.std.specs.List.{AllByRecursion, slice_split}
use Rattle.ots_address.specs.declared.limits.TheConstants.{MAX_CALENDARS}
use Rattle.ots_address.specs.declared.list.AddressError.{AddressError}
use Rattle.ots_address.specs.declared.list.AddressError.TheVariants.{BadAddress, OutOfMemory}
use Rattle.ots_address.specs.Address.{IsAddress, AddressParts, IsNamed, text_of}

abbrev pub comma : ℕ
comma = 44

abbrev pub begins_with : List ℕ → List ℕ → Bool
begins_with prefix bytes = bytes_eq prefix (take (length prefix) bytes)

-- The pieces between the commas, of which there is always one.
abbrev pub pieces_of : List ℕ → List (List ℕ)
pieces_of list = slice_split (λ b. b == comma) list

-- A piece is an address, none of those before it is the same, and there is room for it.
pub record IsNext (before : List (List ℕ)) (piece : List ℕ) : Type 0 where
  pub address : (host : List ℕ) × (port : ℕ) × IsAddress piece host port
  pub fresh : All (λ (earlier : List ℕ). earlier ≢ piece) before
  pub few : length before < MAX_CALENDARS

-- Each piece in turn is the next address after these and the pieces between.
abbrev pub AreNext : List (List ℕ) → List (List ℕ) → Type 0
AreNext before [] = Unit {0}
AreNext before (piece ∷ pieces) = IsNext before piece × AreNext (before ++ piece ∷ []) pieces

abbrev pub AreAddresses : List (List ℕ) → Type 0
AreAddresses pieces = AreNext [] pieces

-- The addresses of a list, in order: each has a piece's text, and the host and the port that the text names.
pub record IsListOf (list : List ℕ) (addresses : List AddressParts) : Type 0 where
  pub texts : pieces_of list ≡ map text_of addresses
  pub named : AllByRecursion IsNamed addresses
  pub good : AreAddresses (pieces_of list)

-- The first piece that is not the next address stands at this place, and begins with `https://` or does not.
pub record IsBadAddress (list : List ℕ) (place : ℕ) (https : Bool) : Type 0 where
  pub before : List (List ℕ)
  pub bad : List ℕ
  pub after : List (List ℕ)
  pub split : pieces_of list ≡ before ++ bad ∷ after
  pub good : AreAddresses before
  pub refused : IsNext before bad → ⊥
  pub place_is : place ≡ sum_by (λ (piece : List ℕ). length piece + 1) before
  pub https_is : https ≡ begins_with (codes "https://") bad

abbrev pub IfBadAddress : List ℕ → AddressError → Type 0
IfBadAddress list (BadAddress place https) = IsBadAddress list place https
IfBadAddress list OutOfMemory = Unit {0}

-- ---- for the reader's loop

-- A piece that stands at this place is refused after these.
abbrev pub IsRefusal : List (List ℕ) → List ℕ → ℕ → AddressError → Type 0
IsRefusal before piece at (BadAddress place https) = (place ≡ at) × (https ≡ begins_with (codes "https://") piece)
    × ¬ (IsNext before piece)
IsRefusal before piece at OutOfMemory = Unit {0}

-- The pieces of what is left, if anything is.
abbrev pub pieces_left : Option (List ℕ) → List (List ℕ)
pieces_left None = []
pieces_left (Some rest) = pieces_of rest

-- How many bytes a comma and what is left have.
abbrev pub length_left : Option (List ℕ) → ℕ
length_left None = 0
length_left (Some rest) = length rest + 1

-- A text is its first piece, and then what is left.
pub record CutsPiece (text piece : List ℕ) (rest : Option (List ℕ)) : Type 0 where
  pub pieces : pieces_of text ≡ piece ∷ pieces_left rest
  pub lengths : length text ≡ length piece + length_left rest
