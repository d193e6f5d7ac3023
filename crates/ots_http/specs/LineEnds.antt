-- Where a head may have ended. It serves the readers' loops, which parse what came only there.
use Rattle.std.specs.Prelude.{◌≢◌, ◌≡◌, ℕ, ◌⊎◌, List, All}
use Rattle.httparse.specs.Ascii.{line_feed, carriage_return}

-- A byte of an empty line.
abbrev pub IsEndByte : ℕ → Type 0
IsEndByte b = (b ≡ carriage_return) ⊎ (b ≡ line_feed)

-- Nothing but empty lines, and maybe a part of one.
abbrev pub IsBlank : List ℕ → Type 0
IsBlank bytes = All IsEndByte bytes

abbrev pub HasNoLineFeed : List ℕ → Type 0
HasNoLineFeed bytes = All (λ b. b ≢ line_feed) bytes
