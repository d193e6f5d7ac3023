-- What the words ask for, each seen as its bytes. The first word picks the command; which words follow it, and what
-- they give, is said by its arguments.
use Rattle.std.specs.Prelude.{ℕ, List, [], ◌∷◌, map, String, string_bytes, bytes_eq, codes, Option, Some, None}
use Rattle.std.specs.Prelude.{if◌then◌else◌}
use Rattle.std.specs.Option.{option_map, option_and_then}
use Rattle.std.specs.declared.alloc.Global.{Global}
use Rattle.clap.specs.Walk.{Row}
use Rattle.clap.specs.Words.{first_of}
use Rattle.ots_arguments.specs.Arguments.{Described, read_form}
use Rattle.ots_arguments.specs.Values.{name_in, names_in, nonempty, number, texts}
use Rattle.ots_arguments.specs.declared.arguments.Kind.TheVariants.{Positional, Required, Optional, Several}
use Rattle.ots_client_words.specs.declared.command.ClientCommand.{ClientCommand as Read}
use Rattle.ots_client_words.specs.declared.command.ClientCommand.TheVariants as read
use Rattle.ots_client_words.specs.declared.words.Form.{Form}
use Rattle.ots_client_words.specs.declared.words.Form.TheVariants.{Info, Canon, Merge, Prune, Verify, Stamp, Upgrade}
use Rattle.ots_client_words.specs.declared.words.Form.TheVariants.{Sample, Chain}
use Rattle.ots_client_words.specs.declared.command.HeaderFile.{HeaderFile as ReadHeaderFile}
use Rattle.ots_client_words.specs.declared.command.Chaining.{Chaining as ReadChaining}
use Rattle.ots_client_words.specs.declared.command.Stamping.{Stamping as ReadStamping}
use Rattle.ots_client_words.specs.declared.command.Upgrading.{Upgrading as ReadUpgrading}
use Rattle.ots_client_words.specs.declared.command.Sampling.{Sampling}
use Rattle.ots_client_words.specs.declared.limits.TheConstants.{MAX_HEIGHT, MAX_PATHS, MAX_STAMPED, MAX_WANTED}
use Rattle.ots_client_words.specs.declared.command.Verification.{Verification as ReadVerification}

-- a file of headers, and the height of its first one
pub record HeaderFile : Type 0 where
  pub name : List ℕ
  pub first : ℕ

-- the file that a proof is to be checked on, the proof, the headers of Bitcoin, and those of Litecoin where they are
-- given
pub record Verification : Type 0 where
  pub target : List ℕ
  pub proof : List ℕ
  pub bitcoin : HeaderFile
  pub litecoin : Option HeaderFile

-- a file of headers, and the file of pins where it is given
pub record Chaining : Type 0 where
  pub headers : HeaderFile
  pub pins : Option (List ℕ)

-- the list of calendars as it was given, how many of them have to timestamp the files, and the files
pub record Stamping : Type 0 where
  pub calendars : List ℕ
  pub least : ℕ
  pub files : List (List ℕ)

-- the list of calendars as it was given, the proof, and the name under which it is written
pub record Upgrading : Type 0 where
  pub calendars : List ℕ
  pub proof : List ℕ
  pub to : List ℕ

-- what the words ask for
pub data ClientCommand : Type 0 where
  -- print what this proof says
  info : List ℕ → ClientCommand
  -- write the canonical form of the first as the second
  canon : List ℕ → List ℕ → ClientCommand
  -- join the first two, and write that as the third
  merge : List ℕ → List ℕ → List ℕ → ClientCommand
  -- prune the first, and write that as the second
  prune : List ℕ → List ℕ → ClientCommand
  -- say whether the proof confirms the file
  verify : Verification → ClientCommand
  -- make a proof of each file that calendars timestamp
  stamp : Stamping → ClientCommand
  -- ask calendars to complete the proof
  upgrade : Upgrading → ClientCommand
  -- make a proof of this number of paths by a rule, and verify it
  sample : ℕ → ClientCommand
  -- say whether the headers are one chain, and have the hashes of the pins
  chain : Chaining → ClientCommand

-- ---- the commands

abbrev pub word_of : Form → List ℕ
word_of Info = codes "info"
word_of Canon = codes "canon"
word_of Merge = codes "merge"
word_of Prune = codes "prune"
word_of Verify = codes "verify"
word_of Stamp = codes "stamp"
word_of Upgrade = codes "upgrade"
word_of Sample = codes "sample"
word_of Chain = codes "chain"

-- info PROOF; canon IN OUT; merge A B OUT; prune IN OUT;
-- verify FILE PROOF HEADERS --from N, and perhaps --litecoin FILE --litecoin-from M;
-- stamp --calendars LIST --min M FILE..; upgrade --calendars LIST IN OUT; sample N;
-- chain HEADERS --from N, and perhaps --pins PINS
abbrev pub arguments_of : Form → List Described
arguments_of Info = (codes "proof", Positional) ∷ []
arguments_of Canon = (codes "in", Positional) ∷ (codes "out", Positional) ∷ []
arguments_of Merge = (codes "a", Positional) ∷ (codes "b", Positional) ∷ (codes "out", Positional) ∷ []
arguments_of Prune = (codes "in", Positional) ∷ (codes "out", Positional) ∷ []
arguments_of Verify = (codes "file", Positional) ∷ (codes "proof", Positional) ∷ (codes "headers", Positional)
    ∷ (codes "from", Required) ∷ (codes "litecoin", Optional) ∷ (codes "litecoin-from", Optional) ∷ []
arguments_of Stamp = (codes "calendars", Required) ∷ (codes "min", Required) ∷ (codes "files", Several) ∷ []
arguments_of Upgrade = (codes "in", Positional) ∷ (codes "out", Positional) ∷ (codes "calendars", Required) ∷ []
arguments_of Sample = (codes "paths", Positional) ∷ []
arguments_of Chain = (codes "headers", Positional) ∷ (codes "from", Required) ∷ (codes "pins", Optional) ∷ []

abbrev pub form_of : List ℕ → Option Form
form_of word =
    if bytes_eq word (word_of Info) then Some Info
    else if bytes_eq word (word_of Canon) then Some Canon
    else if bytes_eq word (word_of Merge) then Some Merge
    else if bytes_eq word (word_of Prune) then Some Prune
    else if bytes_eq word (word_of Verify) then Some Verify
    else if bytes_eq word (word_of Stamp) then Some Stamp
    else if bytes_eq word (word_of Upgrade) then Some Upgrade
    else if bytes_eq word (word_of Sample) then Some Sample
    else if bytes_eq word (word_of Chain) then Some Chain
    else None

-- the file and the height that two words name, where both do
abbrev pub header_file : List ℕ → List ℕ → Option HeaderFile
header_file name first = option_and_then (λ n. option_map (λ h. record { name = n; first = h })
    (number 0 MAX_HEIGHT first)) (nonempty name)

abbrev pub header_file_of : Option (List ℕ) → Option (List ℕ) → Option HeaderFile
header_file_of (Some name) (Some first) = header_file name first
header_file_of (Some name) None = None
header_file_of None first = None

-- both words or none, else it is of no form
abbrev pub perhaps_header_file_of : Option (List ℕ) → Option (List ℕ) → Option (Option HeaderFile)
perhaps_header_file_of (Some name) (Some first) = option_map (λ f. Some f) (header_file name first)
perhaps_header_file_of (Some name) None = None
perhaps_header_file_of None (Some first) = None
perhaps_header_file_of None None = Some None

-- the command with these names, where both are there
abbrev pub with_two : (List ℕ → List ℕ → ClientCommand) → Option (List ℕ) → Option (List ℕ) → Option ClientCommand
with_two command first second = option_and_then (λ x. option_map (command x) second) first

abbrev pub verification_in : List Row → Option Verification
verification_in rows =
    option_and_then (λ target. option_and_then (λ proof. option_and_then (λ bitcoin.
    option_map (λ litecoin. record { target = target; proof = proof; bitcoin = bitcoin; litecoin = litecoin })
    (perhaps_header_file_of (first_of (codes "litecoin") rows) (first_of (codes "litecoin-from") rows)))
    (header_file_of (first_of (codes "headers") rows) (first_of (codes "from") rows)))
    (name_in rows (codes "proof")))
    (name_in rows (codes "file"))

-- the name of pins, where they are given
abbrev pub pins_file : Option (List ℕ) → Option (Option (List ℕ))
pins_file None = Some None
pins_file (Some name) = option_map (λ n. Some n) (nonempty name)

abbrev pub chaining_in : List Row → Option Chaining
chaining_in rows =
    option_and_then (λ headers. option_map (λ pins. record { headers = headers; pins = pins })
    (pins_file (first_of (codes "pins") rows)))
    (header_file_of (first_of (codes "headers") rows) (first_of (codes "from") rows))

-- how many calendars are wanted
abbrev pub wanted : List ℕ → Option ℕ
wanted = number 1 MAX_WANTED

-- how many paths a sample has
abbrev pub paths : List ℕ → Option ℕ
paths = number 1 MAX_PATHS

abbrev pub wanted_calendars_in : List Row → Option (List ℕ × ℕ)
wanted_calendars_in rows =
    option_and_then (λ calendars. option_map (λ least. (calendars, least))
    (option_and_then wanted (first_of (codes "min") rows)))
    (first_of (codes "calendars") rows)

abbrev pub stamping_in : List Row → Option Stamping
stamping_in rows =
    option_and_then (λ w. option_map (λ files. record { calendars = w.0; least = w.1; files = files })
    (names_in rows (codes "files") MAX_STAMPED))
    (wanted_calendars_in rows)

abbrev pub upgrading_in : List Row → Option Upgrading
upgrading_in rows =
    option_and_then (λ calendars. option_and_then (λ proof. option_map
    (λ to. record { calendars = calendars; proof = proof; to = to })
    (name_in rows (codes "out")))
    (name_in rows (codes "in")))
    (first_of (codes "calendars") rows)

-- the command with these values of its arguments
abbrev pub command_in : Form → List Row → Option ClientCommand
command_in Info rows = option_map info (name_in rows (codes "proof"))
command_in Canon rows = with_two canon (name_in rows (codes "in")) (name_in rows (codes "out"))
command_in Merge rows = option_and_then (λ a. with_two (merge a) (name_in rows (codes "b"))
    (name_in rows (codes "out"))) (name_in rows (codes "a"))
command_in Prune rows = with_two prune (name_in rows (codes "in")) (name_in rows (codes "out"))
command_in Verify rows = option_map verify (verification_in rows)
command_in Stamp rows = option_map stamp (stamping_in rows)
command_in Upgrade rows = option_map upgrade (upgrading_in rows)
command_in Sample rows = option_map sample (option_and_then paths (first_of (codes "paths") rows))
command_in Chain rows = option_map chain (chaining_in rows)

-- what the words ask for by this form
abbrev pub asked_by : Form → List (List ℕ) → Option ClientCommand
asked_by form = read_form (word_of form) (arguments_of form) (command_in form)

-- what the words ask for, where they are of a command's form
abbrev pub command_of : List (List ℕ) → Option ClientCommand
command_of [] = None
command_of (word ∷ rest) = option_and_then (λ form. asked_by form (word ∷ rest)) (form_of word)

-- what was read
abbrev pub read_header_file : ReadHeaderFile → HeaderFile
read_header_file f = record { name = f.name.now; first = f.first }

abbrev pub read_verification : ReadVerification → Verification
read_verification v = record {
  target = v.target.now;
  proof = v.proof.now;
  bitcoin = read_header_file v.bitcoin;
  litecoin = option_map read_header_file v.litecoin;
}

abbrev pub read_chaining : ReadChaining → Chaining
read_chaining c = record { headers = read_header_file c.headers; pins = option_map (λ s. s.now) c.pins }

abbrev pub read_stamping : ReadStamping → Stamping
read_stamping s = record { calendars = s.calendars.now; least = s.least; files = texts s.files.items }

abbrev pub read_upgrading : ReadUpgrading → Upgrading
read_upgrading u = record { calendars = u.calendars.now; proof = u.proof.now; to = u.to.now }

abbrev pub read_sampling : Sampling → ℕ
read_sampling s = s.paths

abbrev pub read_as : Read → ClientCommand
read_as (read.Info proof) = info proof.now
read_as (read.Canon from to) = canon from.now to.now
read_as (read.Merge first second to) = merge first.now second.now to.now
read_as (read.Prune from to) = prune from.now to.now
read_as (read.Verify v) = verify (read_verification v)
read_as (read.Stamp s) = stamp (read_stamping s)
read_as (read.Upgrade u) = upgrade (read_upgrading u)
read_as (read.Sample s) = sample (read_sampling s)
read_as (read.Chain c) = chain (read_chaining c)

-- what these words ask for, each seen as its bytes
abbrev pub asked : List (String Global) → Option ClientCommand
asked words = command_of (map string_bytes words)
