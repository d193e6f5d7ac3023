-- The words of a line, with blanks between.
use Rattle.std.specs.Prelude.{◌≡◌, ◌≢◌, ℕ, List, ◌∷◌, ◌++◌}
use Rattle.std.specs.List.{AllByRecursion}
use Rattle.ots_sheet.specs.Request.{blank}

-- The text is a word up to the first blank, and then this rest.
pub record Cuts (text word rest : List ℕ) : Type 0 where
  pub whole : text ≡ word ++ blank ∷ rest
  pub no_blank : AllByRecursion (λ b. b ≢ blank) word

pub record HasWords (line kind url message code body : List ℕ) : Type 0 where
  pub after_kind : List ℕ
  pub after_url : List ℕ
  pub after_message : List ℕ
  pub first : Cuts line kind after_kind
  pub second : Cuts after_kind url after_url
  pub third : Cuts after_url message after_message
  pub fourth : Cuts after_message code body
