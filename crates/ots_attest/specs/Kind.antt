-- The eight bytes that name a kind of attestation. Source: python-opentimestamps,
-- opentimestamps/core/notary.py.
use Rattle.std.specs.Prelude.{◌≡◌, ℕ, List, [], ◌∷◌}

abbrev pub pending_kind : List ℕ
pending_kind = 0x83 ∷ 0xdf ∷ 0xe3 ∷ 0x0d ∷ 0x2e ∷ 0xf9 ∷ 0x0c ∷ 0x8e ∷ []

abbrev pub bitcoin_kind : List ℕ
bitcoin_kind = 0x05 ∷ 0x88 ∷ 0x96 ∷ 0x0d ∷ 0x73 ∷ 0xd7 ∷ 0x19 ∷ 0x01 ∷ []

abbrev pub litecoin_kind : List ℕ
litecoin_kind = 0x06 ∷ 0x86 ∷ 0x9a ∷ 0x0d ∷ 0x73 ∷ 0xd7 ∷ 0x1b ∷ 0x45 ∷ []

-- a kind that is none of the three
abbrev pub IsUnknown : List ℕ → Type 0
IsUnknown kind = (kind ≡ pending_kind → ⊥) × (kind ≡ bitcoin_kind → ⊥) × (kind ≡ litecoin_kind → ⊥)
