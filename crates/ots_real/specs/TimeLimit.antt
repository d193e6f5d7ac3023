-- What the time limit of one way of a conversation is seen as.
use Rattle.std.specs.Prelude.{◌≡◌, ◌-◌, ◌<◌, ◌≤◌, ℕ, max, Option, None, IsSome, MatchOption}
use Rattle.std.specs.Duration.{as_nanos}
use Rattle.std.specs.Option.{unwrap_or}
use Rattle.std.specs.Time.{instant_nanos}
use Rattle.std.specs.declared.time.Duration.{Duration}
use Rattle.std.specs.declared.time.Instant.{Instant}
use Rattle.ots_real.specs.declared.time_limit.TimeLimit.{TimeLimit}

-- How long it is.
abbrev pub limit_length : TimeLimit → Duration
limit_length limit = limit.length

-- When it began, where it has begun.
abbrev pub limit_began : TimeLimit → Option Instant
limit_began limit = limit.began

-- The timeout that the socket has for a call, where it was given one.
abbrev pub limit_timeout : TimeLimit → Option Duration
limit_timeout limit = limit.timeout

-- When it began, for one that begins at this time if it has not begun before.
abbrev pub began_by : TimeLimit → Instant → Instant
began_by limit now = unwrap_or (limit_began limit) now

-- The nanoseconds of it that have passed at this time.
abbrev pub passed_at : TimeLimit → Instant → ℕ
passed_at limit now = instant_nanos now - instant_nanos (began_by limit now)

-- What is left of a limit after some nanoseconds, at least a millisecond: `None` exactly where it has passed whole.
abbrev pub IsLeft : Duration → ℕ → Option Duration → Type 0
IsLeft whole passed left =
    MatchOption left (as_nanos whole ≤ passed) (λ wait. (passed < as_nanos whole)
    × (as_nanos wait ≡ max (as_nanos whole - passed) 1000000))

-- It has this length, and has not begun.
pub record IsUnbegun (whole : Duration) (limit : TimeLimit) : Type 0 where
  pub length : limit_length limit ≡ whole
  pub began : limit_began limit ≡ None

-- A call keeps the length of its limit, and when it began; one that had not begun it may begin.
pub record Runs (old new : TimeLimit) : Type 0 where
  pub length : limit_length new ≡ limit_length old
  pub began : IsSome (limit_began old) → limit_began new ≡ limit_began old

-- It has begun, and is no longer than this.
pub record BeganWithin (whole : Duration) (limit : TimeLimit) : Type 0 where
  pub length : as_nanos (limit_length limit) ≤ as_nanos whole
  pub began : IsSome (limit_began limit)
