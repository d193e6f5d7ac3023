-- The words of a command line, each seen as its bytes, as the library clap takes them: which words follow a command's
-- own is said by a simple command of clap, whose arguments have one value each, or several at their place. Words that
-- clap takes for something else, as a call for help, are of no form.
use Rattle.std.specs.Prelude.{ℕ, Bool, true, List, [], ◌∷◌, Option, Some, None, if◌then◌else◌}
use Rattle.clap.specs.Lexer.{usize_max}
use Rattle.clap.specs.Walk.{Row, is_empty}
use Rattle.clap.specs.Words.{App, Rule, fault_of, matches_of, new_app, new_rule, with_rule}
use Rattle.clap.specs.declared.builder.action.ArgAction.TheVariants.{Append, Set}
use Rattle.ots_arguments.specs.declared.arguments.Argument.{Argument}
use Rattle.ots_arguments.specs.declared.arguments.Kind.{Kind}
use Rattle.ots_arguments.specs.declared.arguments.Kind.TheVariants.{Positional, Required, Optional, Several}

-- An argument by its name: one that is given by its place, or an option, after its name with two dashes. All but the
-- optional ones are required. All have one value, but one that is given by its place may have several.
abbrev pub argument : List ℕ → Kind → Rule
argument name Positional = record (new_rule name) { required = true; action = Some Set }
argument name Required = record (new_rule name) { long = Some name; required = true; action = Some Set }
argument name Optional = record (new_rule name) { long = Some name; action = Some Set }
argument name Several = record (new_rule name) {
  required = true;
  action = Some Append;
  range = Some (record { start_inclusive = 1; end_inclusive = usize_max });
}

abbrev pub Described : Type 0
Described = List ℕ × Kind

abbrev pub described : Argument → Described
described a = (a.0.now, a.1)

abbrev pub with_arguments : App → List Described → App
with_arguments app [] = app
with_arguments app (d ∷ ds) = with_arguments (with_rule app (argument d.0 d.1)) ds

-- the simple command with these arguments in this order
unfoldable pub simple : List ℕ → List Described → App
simple name ds = with_arguments (new_app name) ds

-- whether it takes the words, of which the first stands for the command itself
unfoldable pub is_taken : App → List (List ℕ) → Bool
is_taken app words = is_empty (fault_of app words)

-- A command's form is its word, its arguments, and what their values make of it, where they are of its form. What words
-- ask for by that form: they are taken for its arguments, and the values make a command.
unfoldable pub read_form : {C : Type 0} → List ℕ → List Described → (List Row → Option C) → List (List ℕ) → Option C
read_form word arguments command_in words =
    let app = simple word arguments in
    if is_taken app words then command_in (matches_of app words) else None
