-- What the words ask for, each seen as its bytes. The first word names the journal; which words follow it, and what
-- they give, is said by the arguments.
use Rattle.std.specs.Prelude.{ℕ, List, [], ◌∷◌, map, String, string_bytes, codes, Option, Some, None}
use Rattle.std.specs.Option.{option_map, option_and_then}
use Rattle.std.specs.declared.alloc.Global.{Global}
use Rattle.clap.specs.Walk.{Row}
use Rattle.clap.specs.Words.{first_of}
use Rattle.ots_arguments.specs.Arguments.{Described, read_form}
use Rattle.ots_arguments.specs.Values.{nonempty, number_in}
use Rattle.ots_arguments.specs.declared.arguments.Kind.TheVariants.{Positional, Required}
use Rattle.ots_mirror_words.specs.declared.words.TheConstants.{MAX_ROUNDS}
use Rattle.ots_mirror_words.specs.declared.words.Mirroring.{Mirroring as Read}

-- the calendar's address, and how many rounds are made at most
pub record Mirroring : Type 0 where
  pub address : List ℕ
  pub rounds : ℕ

abbrev pub name : List ℕ
name = codes "otsmirror"

-- ADDRESS --rounds N
abbrev pub arguments : List Described
arguments = (codes "address", Positional) ∷ (codes "rounds", Required) ∷ []

abbrev pub mirroring_in : List Row → Option Mirroring
mirroring_in rows =
    option_and_then (λ address. option_map (λ rounds. record { address = address; rounds = rounds })
    (number_in rows (codes "rounds") 1 MAX_ROUNDS))
    (first_of (codes "address") rows)

-- what the words ask for, of which the first stands for the program's name
abbrev pub asked_by : List (List ℕ) → Option Mirroring
asked_by = read_form name arguments mirroring_in

-- the journal's name is not empty
abbrev pub asked_after : List (List ℕ) → Option Mirroring
asked_after [] = None
asked_after (journal ∷ words) = option_and_then (λ name. asked_by (journal ∷ words)) (nonempty journal)

abbrev pub read_as : Read → Mirroring
read_as m = record { address = m.address.now; rounds = m.rounds }

-- what these words ask for, each seen as its bytes
abbrev pub asked : List (String Global) → Option Mirroring
asked words = asked_after (map string_bytes words)
