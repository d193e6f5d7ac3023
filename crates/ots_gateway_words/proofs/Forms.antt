-- The command is one that clap takes, and it takes the words as it does after the program's name.
use Rattle.std.proofs.Common.{◌≡◌, Bool, true, List, [], ◌∷◌, refl, ap}
use Rattle.clap.proofs.OnLiterals.{clap_on_literals}
use Rattle.clap.specs.Faults.{turn_fault, walk_fault}
use Rattle.clap.specs.Kinds.{Kinds, or_else}
use Rattle.clap.specs.Simple.{Shape, built}
use Rattle.clap.specs.Walk.{Names, Text, Walk, is_empty, nothing_held, walk_from, walked}
use Rattle.clap.specs.Words.{fault_of, is_simple_and_free, matches_of}
use Rattle.ots_arguments.specs.Arguments.{is_taken, simple}
use Rattle.ots_gateway_words.specs.Command.{command}
use Rattle.ots_gateway_words.specs.Words.{arguments, name}

pub is_simple : is_simple_and_free command ≡ true
unfolding clap_on_literals simple
is_simple = refl

-- whether the first word is the program's name makes no difference to the words after it
same_walk : (s : Shape) (b : Bool) (names : Names) (w : Walk) (words : List Text) → walk_fault (record s { no_binary_name = b }) names w words ≡ walk_fault s names w words
unfolding walk_fault
same_walk s b names w [] = refl
same_walk s b names w (word ∷ rest) = ap (or_else (turn_fault s names w word)) (same_walk s b names (walked s.rules names w word) rest)

other_first : (a b rest : Kinds) → a ≡ b → or_else a rest ≡ or_else b rest
other_first a b rest is = ap (λ (z : Kinds). or_else z rest) is

same_faults : (words : List Text) → fault_of command words ≡ fault_of (simple name arguments) (name ∷ words)
unfolding simple
same_faults words = other_first _ _ _ (same_walk (built (simple name arguments)).top true [] (walk_from nothing_held) words)

pub same_words : (words : List Text) → is_taken command words ≡ is_taken (simple name arguments) (name ∷ words)
unfolding is_taken
same_words words = ap is_empty (same_faults words)

pub same_values : (words : List Text) → matches_of command words ≡ matches_of (simple name arguments) (name ∷ words)
unfolding simple
same_values words = refl
