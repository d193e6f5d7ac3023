-- The values of arguments: what their words mean. The rows are those that the library clap makes of the words.
use Rattle.std.specs.Prelude.{ℕ, ◌&&◌, ◌||◌, not, length, List, [], ◌∷◌, map, bytes_eq, nat_le, nat_lt, decimal, Option}
use Rattle.std.specs.Prelude.{Some, None, if◌then◌else◌}
use Rattle.std.specs.Str.Parse.{digits_value}
use Rattle.std.specs.Option.{option_map, option_and_then}
use Rattle.std.specs.Borrow.{Bor}
use Rattle.std.specs.List.{list_all}
use Rattle.clap.specs.Walk.{Row, is_empty}
use Rattle.clap.specs.Words.{all_of, first_of}

-- ---- names of files

-- a file's name is not empty
abbrev pub nonempty : List ℕ → Option (List ℕ)
nonempty [] = None
nonempty (b ∷ bytes) = Some (b ∷ bytes)

abbrev pub name_in : List Row → List ℕ → Option (List ℕ)
name_in rows id = option_and_then nonempty (first_of id rows)

-- the texts after references
abbrev pub texts : List (Bor (List ℕ)) → List (List ℕ)
texts = map (λ s. s.now)

-- at least one name, not too many, and each of a file
abbrev pub some_names : ℕ → List (List ℕ) → Option (List (List ℕ))
some_names most names =
    if is_empty names || nat_lt most (length names) then None
    else if list_all (λ name. not (is_empty name)) names then Some names else None

abbrev pub names_in : List Row → List ℕ → ℕ → Option (List (List ℕ))
names_in rows id most = option_and_then (some_names most) (all_of id rows)

-- ---- numbers

-- a number is written the one way in which it prints, so without a sign or a leading zero, and is one of these
unfoldable pub number : ℕ → ℕ → List ℕ → Option ℕ
number least most word =
    let n = digits_value 10 word in
    if bytes_eq (decimal n) word && (nat_le least n && nat_le n most) then Some n else None

abbrev pub number_in : List Row → List ℕ → ℕ → ℕ → Option ℕ
number_in rows id least most = option_and_then (number least most) (first_of id rows)

-- a number that may be given
abbrev pub perhaps_number : ℕ → ℕ → Option (List ℕ) → Option (Option ℕ)
perhaps_number least most None = Some None
perhaps_number least most (Some word) = option_map (λ n. Some n) (number least most word)

abbrev pub perhaps_number_in : List Row → List ℕ → ℕ → ℕ → Option (Option ℕ)
perhaps_number_in rows id least most = perhaps_number least most (first_of id rows)
