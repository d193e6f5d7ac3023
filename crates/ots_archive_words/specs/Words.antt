-- What the words ask for, each seen as its bytes. The first word picks the command; which words follow it, and what
-- they give, is said by its arguments.
use Rattle.std.specs.Prelude.{ℕ, Bool, false, List, [], ◌∷◌, bytes_eq, codes, fold, Option, Some, None}
use Rattle.std.specs.Prelude.{if◌then◌else◌}
use Rattle.std.specs.Option.{option_map, option_and_then}
use Rattle.clap.specs.Walk.{Row, Rule}
use Rattle.clap.specs.Words.{App, first_of, matches_of, new_app, new_rule, with_rule}
use Rattle.clap.specs.declared.builder.action.ArgAction.TheVariants.{SetTrue}
use Rattle.ots_arguments.specs.Arguments.{argument, is_taken}
use Rattle.ots_arguments.specs.Values.{name_in, names_in, nonempty, number_in, texts}
use Rattle.ots_arguments.specs.declared.arguments.Kind.TheVariants.{Positional, Required, Optional, Several}
use Rattle.ots_archive_words.specs.declared.command.ArchiveCommand.{ArchiveCommand as Read}
use Rattle.ots_archive_words.specs.declared.command.ArchiveCommand.TheVariants as read
use Rattle.ots_archive_words.specs.declared.command.Asking.{Asking as ReadAsking}
use Rattle.ots_archive_words.specs.declared.command.Drafting.{Drafting as ReadDrafting}
use Rattle.ots_archive_words.specs.declared.command.Taking.{Taking as ReadTaking}
use Rattle.ots_archive_words.specs.declared.limits.TheConstants.{MAX_NAMES, MAX_WANTED}
use Rattle.ots_archive_words.specs.declared.names.Names.{Names as ReadNames}
use Rattle.ots_archive_words.specs.declared.names.Names.TheVariants as names
use Rattle.ots_archive_words.specs.declared.words.Form.{Form}
use Rattle.ots_archive_words.specs.declared.words.Form.TheVariants.{Draft, Ask, Take}

-- names of files, or the name of a file of sums that has them
pub data Names : Type 0 where
  given : List (List ℕ) → Names
  sums : List ℕ → Names

-- the list of calendars as it was given, and the files
pub record Drafting : Type 0 where
  pub calendars : List ℕ
  pub names : Names

-- the list of calendars as it was given, whether all is asked for, the name of the sheet, and the proofs
pub record Asking : Type 0 where
  pub calendars : List ℕ
  pub all : Bool
  pub sheet : List ℕ
  pub names : Names

-- how many calendars have to timestamp a draft, the folder that the proofs are written into, the sheet of replies, and
-- the proofs
pub record Taking : Type 0 where
  pub least : ℕ
  pub into : List ℕ
  pub replies : List ℕ
  pub names : Names

-- what the words ask for
pub data ArchiveCommand : Type 0 where
  -- write a draft of a proof for each file
  draft : Drafting → ArchiveCommand
  -- write a sheet of what calendars are to be asked
  ask : Asking → ArchiveCommand
  -- complete proofs by a sheet of replies
  take : Taking → ArchiveCommand

-- ---- the commands

abbrev pub word_of : Form → List ℕ
word_of Draft = codes "draft"
word_of Ask = codes "ask"
word_of Take = codes "take"

-- an option without a value, which may be absent
abbrev pub flag : List ℕ → Rule
flag name = record (new_rule name) { long = Some name; action = Some SetTrue }

-- values that are given by their place, any number of them
abbrev pub any_number : List ℕ → Rule
any_number name = record (argument name Several) { required = false }

-- draft --calendars LIST FILE..;
-- ask --calendars LIST SHEET PROOF.., and perhaps --all; take --min M --into FOLDER REPLIES PROOF..;
-- and --sums SUMS in the place of the names of files
abbrev pub arguments_of : Form → List Rule
arguments_of Draft = argument (codes "calendars") Required ∷ argument (codes "sums") Optional
    ∷ any_number (codes "names") ∷ []
arguments_of Ask = argument (codes "calendars") Required ∷ flag (codes "all") ∷ argument (codes "sums") Optional
    ∷ argument (codes "sheet") Positional ∷ any_number (codes "names") ∷ []
arguments_of Take = argument (codes "min") Required ∷ argument (codes "into") Required
    ∷ argument (codes "sums") Optional ∷ argument (codes "replies") Positional ∷ any_number (codes "names") ∷ []

-- the command of clap with these arguments
unfoldable pub app_for : Form → App
app_for form = fold with_rule (new_app (word_of form)) (arguments_of form)

abbrev pub form_of : List ℕ → Option Form
form_of word =
    if bytes_eq word (word_of Draft) then Some Draft
    else if bytes_eq word (word_of Ask) then Some Ask
    else if bytes_eq word (word_of Take) then Some Take
    else None

-- ---- the values of their arguments

-- clap gives a flag the value `true` where it stands among the words, else `false`
abbrev pub is_true : Option (List ℕ) → Bool
is_true None = false
is_true (Some text) = bytes_eq text (codes "true")

abbrev pub is_given : List Row → List ℕ → Bool
is_given rows id = is_true (first_of id rows)

-- one of them, and not both
abbrev pub names_or_sums_by : Option (List ℕ) → Option (List ℕ) → Option (List (List ℕ)) → Option Names
names_or_sums_by (Some first) None names = option_map given names
names_or_sums_by None (Some name) names = option_map sums (nonempty name)
names_or_sums_by (Some first) (Some name) names = None
names_or_sums_by None None names = None

abbrev pub names_or_sums : List Row → Option Names
names_or_sums rows = names_or_sums_by (first_of (codes "names") rows) (first_of (codes "sums") rows)
    (names_in rows (codes "names") MAX_NAMES)

abbrev pub drafting_of : List Row → Names → Option Drafting
drafting_of rows names = option_map (λ calendars. record { calendars = calendars; names = names })
    (first_of (codes "calendars") rows)

abbrev pub asking_of : List Row → Names → Option Asking
asking_of rows names =
    option_and_then (λ calendars. option_map
    (λ sheet. record { calendars = calendars; all = is_given rows (codes "all"); sheet = sheet; names = names })
    (name_in rows (codes "sheet")))
    (first_of (codes "calendars") rows)

abbrev pub taking_of : List Row → Names → Option Taking
taking_of rows names =
    option_and_then (λ least. option_and_then (λ into. option_map
    (λ replies. record { least = least; into = into; replies = replies; names = names })
    (name_in rows (codes "replies")))
    (name_in rows (codes "into")))
    (number_in rows (codes "min") 1 MAX_WANTED)

abbrev pub drafting_in : List Row → Option Drafting
drafting_in rows = option_and_then (drafting_of rows) (names_or_sums rows)

abbrev pub asking_in : List Row → Option Asking
asking_in rows = option_and_then (asking_of rows) (names_or_sums rows)

abbrev pub taking_in : List Row → Option Taking
taking_in rows = option_and_then (taking_of rows) (names_or_sums rows)

-- the command with these values of its arguments
abbrev pub command_in : Form → List Row → Option ArchiveCommand
command_in Draft rows = option_map draft (drafting_in rows)
command_in Ask rows = option_map ask (asking_in rows)
command_in Take rows = option_map take (taking_in rows)

-- what the words ask for by this form
abbrev pub asked_by : Form → List (List ℕ) → Option ArchiveCommand
asked_by form words = if is_taken (app_for form) words then command_in form (matches_of (app_for form) words) else None

-- what the words ask for, where they are of a command's form
abbrev pub command_of : List (List ℕ) → Option ArchiveCommand
command_of [] = None
command_of (word ∷ rest) = option_and_then (λ form. asked_by form (word ∷ rest)) (form_of word)

-- ---- what was read

abbrev pub read_names : ReadNames → Names
read_names (names.Given names) = given (texts names.items)
read_names (names.Sums name) = sums name.now

abbrev pub read_drafting : ReadDrafting → Drafting
read_drafting d = record { calendars = d.calendars.now; names = read_names d.names }

abbrev pub read_asking : ReadAsking → Asking
read_asking a =
    record { calendars = a.calendars.now; all = a.all; sheet = a.sheet.now; names = read_names a.names }

abbrev pub read_taking : ReadTaking → Taking
read_taking t =
    record { least = t.least; into = t.into.now; replies = t.replies.now; names = read_names t.names }

abbrev pub read_as : Read → ArchiveCommand
read_as (read.Draft d) = draft (read_drafting d)
read_as (read.Ask a) = ask (read_asking a)
read_as (read.Take t) = take (read_taking t)
