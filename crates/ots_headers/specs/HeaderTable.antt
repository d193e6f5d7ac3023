-- A header table: the headers of consecutive heights, from a first one on.
use Rattle.std.specs.Prelude.{◌≤◌, ℕ, zero, suc, ◌-◌, ◌/◌, ◌^◌, List, [], ◌∷◌, length, drop, nat_lt, slice_get, Option}
use Rattle.std.specs.Prelude.{None, if◌then◌else◌}
use Rattle.std.specs.List.{AllByRecursion, flat_map}
use Rattle.std.specs.Option.{option_map}
use Rattle.ots_headers.specs.declared.header.Header.{Header}
use Rattle.ots_headers.specs.Header.{serialized, IsHeader, header_in}

pub record Table : Type 0 where
  -- the height of the first header
  pub first : ℕ
  pub headers : List Header

-- the header of a height, where the table has that height
abbrev pub header_at : Table → ℕ → Option Header
header_at t height = if nat_lt height t.first then None else slice_get t.headers (height - t.first)

-- the Merkle root and the time of a height
abbrev pub root_at : Table → ℕ → Option (List ℕ)
root_at t height = option_map (λ h. h.root) (header_at t height)

abbrev pub time_at : Table → ℕ → Option ℕ
time_at t height = option_map (λ h. h.time) (header_at t height)

-- what every table keeps: at least one header, at most 1,048,576 of them, and a first height below 2^63
pub record IsTable (t : Table) : Type 0 where
  pub first : t.first ≤ 2 ^ 63 - 1
  pub headers : AllByRecursion IsHeader t.headers
  pub some : 1 ≤ length t.headers
  pub at_most : length t.headers ≤ 1048576

-- the bytes of headers, one header after another
abbrev pub all_serialized : List Header → List ℕ
all_serialized headers = flat_map serialized headers

-- the first n headers of these bytes
unfoldable pub first_headers : ℕ → List ℕ → List Header
first_headers zero b = []
first_headers (suc n) b = header_in b ∷ first_headers n (drop 80 b)

-- the headers that these bytes are made of
abbrev pub headers_in : List ℕ → List Header
headers_in b = first_headers (length b / 80) b

-- the table of these bytes
abbrev pub table_in : ℕ → List ℕ → Table
table_in first b = record { first = first; headers = headers_in b }
