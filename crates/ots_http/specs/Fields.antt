-- The fields of a head that say how long the body is (RFC 9110, sections 5.1 and 8.6; RFC 9112, section 6.1).
use Rattle.std.specs.Prelude.{ℕ, ◌≤◌, Bool, ◌&&◌, nat_lt, List, [], ◌∷◌, length, map, filter, codes, if◌then◌else◌}
use Rattle.std.specs.List.{list_all}
use Rattle.std.specs.Char.{is_ascii_digit}
use Rattle.std.specs.Str.{str_eq_ignore_ascii_case}
use Rattle.std.specs.Str.Parse.{digits_value}
use Rattle.httparse.specs.Grammar.{Field}
use Rattle.httparse.specs.Spans.{name_and_value}
use Rattle.ots_http.specs.declared.fields.StatedLength.{StatedLength}
use Rattle.ots_http.specs.declared.fields.StatedLength.TheVariants.{Absent, Malformed, TooGreat, Length}

-- A field's name, and its value without the spaces and tabs at both ends.
abbrev pub NameAndValue : Type 0
NameAndValue = List ℕ × List ℕ

abbrev pub names_and_values : List Field → List NameAndValue
names_and_values fields = map name_and_value fields

-- The field has this name, whatever the case of the letters.
abbrev pub is_named : List ℕ → NameAndValue → Bool
is_named name field = str_eq_ignore_ascii_case field.0 name

-- The values of all fields of this name, in order.
abbrev pub values_of : List ℕ → List NameAndValue → List (List ℕ)
values_of name fields = map (λ (field : NameAndValue). field.1) (filter (is_named name) fields)

-- One or more decimal digits, and nothing else.
abbrev pub is_number : List ℕ → Bool
is_number value = nat_lt 0 (length value) && list_all is_ascii_digit value

-- The length that one value states, where at most `most` bytes are taken.
abbrev pub stated_by : ℕ → List ℕ → StatedLength
stated_by most value =
    if is_number value then (if nat_lt most (digits_value 10 value) then TooGreat else Length (digits_value 10 value))
    else Malformed

-- The length that the values of all Content-Length fields state. Several are as malformed as one that is no number.
abbrev pub stated : ℕ → List (List ℕ) → StatedLength
stated most [] = Absent
stated most (value ∷ []) = stated_by most value
stated most (value ∷ another ∷ more) = Malformed

-- The length that a head states of its body, where at most `most` bytes are taken. No coding is taken: a
-- Transfer-Encoding field is as bad as a length that is no number, whatever the Content-Length fields are.
abbrev pub length_beside : ℕ → List NameAndValue → List (List ℕ) → StatedLength
length_beside most fields [] = stated most (values_of (codes "content-length") fields)
length_beside most fields (coding ∷ more) = Malformed

abbrev pub body_length : ℕ → List NameAndValue → StatedLength
body_length most fields = length_beside most fields (values_of (codes "transfer-encoding") fields)

-- A length that is stated is at most so great.
abbrev pub StatesAtMost : ℕ → StatedLength → Type 0
StatesAtMost most Absent = Unit {0}
StatesAtMost most Malformed = Unit {0}
StatesAtMost most TooGreat = Unit {0}
StatesAtMost most (Length n) = n ≤ most
