-- How a name stands in a line of sha256sum: "if the file name contains a backslash, newline, or carriage return, the
-- line is started with a backslash, and each problematic character in the file name is escaped with a backslash" (GNU
-- coreutils' manual, "md5sum invocation").
use Rattle.std.specs.Prelude.{◌≢◌, ◌==◌, ◌<◌, ℕ, Bool, List, [], ◌∷◌, ◌++◌, length, Option, None, Some, is_some}
use Rattle.std.specs.Prelude.{if◌then◌else◌}
use Rattle.std.specs.List.{AllByRecursion, list_any}

-- What stands after the backslash in place of a byte that is escaped: a backslash, `n` for a line feed, `r` for a
-- carriage return.
abbrev pub escape_of : ℕ → Option ℕ
escape_of b =
    if b == 92 then Some 92
    else if b == 10 then Some 110
    else if b == 13 then Some 114
    else None

-- a byte, by what it is escaped by
abbrev pub spelled : ℕ → Option ℕ → List ℕ
spelled b None = b ∷ []
spelled b (Some mark) = 92 ∷ mark ∷ []

-- each byte of a name, one after the other
abbrev pub escaped : List ℕ → List ℕ
escaped [] = []
escaped (b ∷ name) = spelled b (escape_of b) ++ escaped name

-- whether a name has a byte that is escaped
abbrev pub needs_escape : List ℕ → Bool
needs_escape name = list_any (λ b. is_some (escape_of b)) name

-- what the line starts with
abbrev pub mark_of : List ℕ → List ℕ
mark_of name = if needs_escape name then 92 ∷ [] else []

-- A name of a file has a byte, and none is 0 (POSIX.1-2017, XBD 3.170 and 3.271).
pub record IsName (name : List ℕ) : Type 0 where
  pub some : 0 < length name
  pub no_nul : AllByRecursion (λ b. b ≢ 0) name
