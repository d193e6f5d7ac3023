-- The file of digests: a line each, of two hexadecimal digits for each byte, and a line feed.
use Rattle.std.specs.Prelude.{◌≡◌, ℕ, List, Ok, Vec}
use Rattle.hex.specs.Hex.{decode_of}
use Rattle.std.specs.declared.alloc.Global.{Global}
use Rattle.ots_outside.specs.SmallBytes.{IsSmall}
use Rattle.ots_inputs.specs.Lines as lines
use Rattle.ots_calendar_inputs.specs.declared.lines.TheConstants.{MAX_LINES}
use Rattle.ots_calendar_text.specs.declared.status.DaemonStatus.{DaemonStatus}
use Rattle.ots_calendar_text.specs.declared.status.DaemonStatus.TheVariants.{BadDigests}

-- These digits spell a digest, of 1 to 64 bytes.
pub record IsDigest (digits digest : List ℕ) : Type 0 where
  pub decoded : decode_of digits ≡ Ok digest
  pub small : IsSmall digest

-- 1 to 65,536 lines, and nothing else
abbrev pub IsDigests : List ℕ → List (List ℕ) → Type 0
IsDigests bytes digests = lines.AreLines IsDigest MAX_LINES bytes digests

abbrev pub IsDigestsOf : List ℕ → Vec (List ℕ) Global → Type 0
IsDigestsOf bytes digests = IsDigests bytes digests.items

-- The line with this number, counted from 1, is the first that is none.
abbrev pub IsBadLine : List ℕ → ℕ → Type 0
IsBadLine bytes number = lines.IsBadLine IsDigest MAX_LINES bytes number

pub record RefusesDigests (bytes : List ℕ) (s : DaemonStatus) : Type 0 where
  pub number : ℕ
  pub bad : IsBadLine bytes number
  pub status : s ≡ BadDigests number
