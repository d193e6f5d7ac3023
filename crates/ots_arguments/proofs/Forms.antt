-- A command's form, and the words that ask for it or not.
use Rattle.std.proofs.Common.{◌≡◌, ◌≢◌, Bool, true, false, List, refl, sym, ap, ◌∙◌}
use Rattle.std.specs.Prelude.{Option, None}
use Rattle.clap.specs.Walk.{Row, Text}
use Rattle.clap.specs.Words.{App, matches_of}
use Rattle.ots_arguments.specs.Arguments.{Described, is_taken, read_form, simple}

is_false : (b : Bool) → b ≢ true → b ≡ false
is_false true other = absurd (other refl)
is_false false other = refl

-- a form of any type of command, and a command of clap with its name and arguments
module _ {C : Type 0} (word : Text) (arguments : List Described) (command_in : List Row → Option C)
    (name : Text) (given : List Described) (words : List Text) (named : name ≡ word) (called : given ≡ arguments) where
  same : simple name given ≡ simple word arguments
  same i = simple (named i) (called i)

  -- words that are taken ask for what the values make
  pub form_taken : (rows : List Row) (c : Option C) → is_taken (simple name given) words ≡ true → rows ≡ matches_of (simple name given) words → command_in rows ≡ c
      → read_form word arguments command_in words ≡ c
  unfolding read_form
  form_taken rows c taken are is =
      let yes : is_taken (simple word arguments) words ≡ true = ap (λ (z : App). is_taken z words) (sym same) ∙ taken in
      rw yes (ap (λ (z : App). command_in (matches_of z words)) (sym same) ∙ ap command_in (sym are) ∙ is)

  -- others ask for nothing
  pub form_refused : is_taken (simple name given) words ≢ true → read_form word arguments command_in words ≡ None
  unfolding read_form
  form_refused other =
      let no : is_taken (simple word arguments) words ≡ false = ap (λ (z : App). is_taken z words) (sym same) ∙ is_false _ other in
      rw no refl
