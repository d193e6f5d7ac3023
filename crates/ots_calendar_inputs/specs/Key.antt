-- A file that is a key or none.
use Rattle.std.specs.Prelude.{◌≡◌, ℕ, ◌+◌, List, length, min}
use Rattle.ots_round.specs.Hmac.{filled}
use Rattle.ots_round.specs.Key.{IsKey}
use Rattle.ots_round.specs.declared.hmac.TheConstants.{MAX_KEY}
use Rattle.ots_calendar_text.specs.declared.status.DaemonStatus.{DaemonStatus}
use Rattle.ots_calendar_text.specs.declared.status.DaemonStatus.TheVariants.{BadKey}

-- The key of these bytes, by the block that it fills.
pub record GivesKey (bytes key : List ℕ) : Type 0 where
  pub is_key : IsKey bytes
  pub block : key ≡ filled bytes

-- It is told by how many bytes it has, of which one more than a key may have are read.
pub record RefusesKey (bytes : List ℕ) (s : DaemonStatus) : Type 0 where
  pub none : ¬ IsKey bytes
  pub status : s ≡ BadKey (min (length bytes) (MAX_KEY + 1))
