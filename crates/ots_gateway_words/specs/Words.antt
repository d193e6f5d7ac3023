-- What the words ask for: which words follow the program's name, and what they give, is said by the arguments.
use Rattle.std.specs.Prelude.{ℕ, List, [], ◌∷◌, map, String, string_bytes, codes, Option}
use Rattle.std.specs.Option.{option_map, option_and_then}
use Rattle.std.specs.declared.alloc.Global.{Global}
use Rattle.clap.specs.Walk.{Row}
use Rattle.clap.specs.Words.{first_of}
use Rattle.ots_arguments.specs.Arguments.{Described, read_form}
use Rattle.ots_arguments.specs.Values.{number_in, perhaps_number_in}
use Rattle.ots_arguments.specs.declared.arguments.Kind.TheVariants.{Required, Optional}
use Rattle.ots_gateway_words.specs.declared.limits.TheConstants.{MAX_TREES, MAX_PORT, MAX_ROUND, MAX_ACCEPT}
use Rattle.ots_gateway_words.specs.declared.gathering.Gathering.{Gathering as Read}

-- the list of the calendars' addresses, how many of their trees a round needs, the port, how many links a round has at
-- most, and after how many connections serving ends, where it does
pub record Gathering : Type 0 where
  pub calendars : List ℕ
  pub min : ℕ
  pub port : ℕ
  pub round : ℕ
  pub accept : Option ℕ

-- the program's name
abbrev pub name : List ℕ
name = codes "otsgate"

-- --calendars LIST --min M --port P --round K, and perhaps --accept N
abbrev pub arguments : List Described
arguments = (codes "calendars", Required) ∷ (codes "min", Required) ∷ (codes "port", Required)
    ∷ (codes "round", Required) ∷ (codes "accept", Optional) ∷ []

-- what the values of the arguments ask for, where each is of its form: a text, three numbers, and a number that may
-- be absent
abbrev pub gathering_in : List Row → Option Gathering
gathering_in rows =
    option_and_then (λ calendars. option_and_then (λ min. option_and_then (λ port. option_and_then (λ round.
    option_map (λ accept. record { calendars = calendars; min = min; port = port; round = round; accept = accept })
    (perhaps_number_in rows (codes "accept") 1 MAX_ACCEPT))
    (number_in rows (codes "round") 1 MAX_ROUND))
    (number_in rows (codes "port") 1 MAX_PORT))
    (number_in rows (codes "min") 1 MAX_TREES))
    (first_of (codes "calendars") rows)

-- what was read
abbrev pub read_as : Read → Gathering
read_as g = record { calendars = g.calendars.now; min = g.min; port = g.port; round = g.round; accept = g.accept }

-- the command line, each word seen as its bytes: the program's name stands before the words
abbrev pub command_line : List (String Global) → List (List ℕ)
command_line words = name ∷ map string_bytes words

-- what these words ask for
abbrev pub asked : List (String Global) → Option Gathering
asked words = read_form name arguments gathering_in (command_line words)
