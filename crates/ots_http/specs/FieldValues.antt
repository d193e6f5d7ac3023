-- The values of all fields of one name, as the readers keep them. It serves their code.
use Rattle.std.specs.Prelude.{◌≡◌, ℕ, ◌<◌, List, [], ◌∷◌, length}
use Rattle.httparse.specs.declared.spans.Span.{Span}
use Rattle.httparse.specs.Spans.{IsWithin, span_bytes}
use Rattle.ots_http.specs.declared.fields.FieldValues.{FieldValues}
use Rattle.ots_http.specs.declared.fields.FieldValues.TheVariants.{Absent, One, Several}

-- There is no value, this one alone, or several.
abbrev pub AreValues : List ℕ → List (List ℕ) → FieldValues → Type 0
AreValues buffer values Absent = values ≡ []
AreValues buffer values (One value) = (values ≡ span_bytes buffer value ∷ []) × IsWithin (length buffer) value
AreValues buffer values Several = 1 < length values

-- The same with one value more.
abbrev pub with_another : FieldValues → Span → FieldValues
with_another Absent value = One value
with_another (One earlier) value = Several
with_another Several value = Several
