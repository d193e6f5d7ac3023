-- How a name is shown: as sha256sum does (GNU coreutils' manual, "md5sum invocation"), the backslash that tells of
-- escapes directly before the name.
use Rattle.std.specs.Prelude.{ℕ, List, ◌++◌}
use Rattle.ots_sums.specs.Names.{escaped, mark_of}

abbrev pub shown : List ℕ → List ℕ
shown name = mark_of name ++ escaped name
