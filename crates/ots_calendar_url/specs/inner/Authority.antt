-- For the reader of what follows a scheme.
use Rattle.std.specs.Prelude.{◌≡◌, ◌≤◌, ◌⊎◌, ℕ, List, [], ◌∷◌, decimal}
use Rattle.ots_address.specs.Address.{colon}

-- the digits of a port
pub record IsPort (digits : List ℕ) : Type 0 where
  pub port : ℕ
  pub text : digits ≡ decimal port
  pub least : 1 ≤ port
  pub greatest : port ≤ 65535

-- what may follow the host
abbrev pub EndsAuthority : List ℕ → Type 0
EndsAuthority after = (after ≡ []) ⊎ ((digits : List ℕ) × (after ≡ colon ∷ digits) × IsPort digits)
