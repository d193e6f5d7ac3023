-- What the words ask for, each seen as its bytes. The first word names the journal, and the second picks the command;
-- which words follow it, and what they give, is said by its arguments.
use Rattle.std.specs.Prelude.{ℕ, List, [], ◌∷◌, map, String, string_bytes, bytes_eq, codes, Option, Some, None}
use Rattle.std.specs.Prelude.{if◌then◌else◌}
use Rattle.std.specs.Option.{option_map, option_and_then}
use Rattle.std.specs.declared.alloc.Global.{Global}
use Rattle.clap.specs.Walk.{Row}
use Rattle.clap.specs.Words.{first_of}
use Rattle.ots_arguments.specs.Arguments.{Described, read_form}
use Rattle.ots_arguments.specs.Values.{name_in, nonempty, number_in, perhaps_number_in}
use Rattle.ots_arguments.specs.declared.arguments.Kind.TheVariants.{Positional, Required, Optional}
use Rattle.ots_calendar_words.specs.declared.words.TheConstants.{WORKERS, MAX_WORKERS, MAX_PORT, MAX_ACCEPT, MAX_HEIGHT}
use Rattle.ots_calendar_words.specs.declared.command.DaemonCommand.{DaemonCommand as Read}
use Rattle.ots_calendar_words.specs.declared.command.DaemonCommand.TheVariants as read
use Rattle.ots_calendar_words.specs.declared.words.Form.{Form}
use Rattle.ots_calendar_words.specs.declared.words.Form.TheVariants.{Serve, Batch, Tip, Anchor, List as Listing}
use Rattle.ots_calendar_words.specs.declared.words.Form.TheVariants.{Migrate}
use Rattle.ots_calendar_words.specs.declared.command.Serving.{Serving as ReadServing}
use Rattle.ots_calendar_words.specs.declared.command.Batch.{Batch as ReadBatch}
use Rattle.ots_calendar_words.specs.declared.command.Anchoring.{Anchoring as ReadAnchoring}

-- the operator's key file and the calendar's address, the port, how many workers there are, and after how many
-- connections serving ends, where it does
pub record ServingAsked : Type 0 where
  pub key : List ℕ
  pub uri : List ℕ
  pub port : ℕ
  pub workers : ℕ
  pub accept : Option ℕ

-- the operator's key file, the calendar's address, and the file of digests
pub record BatchAsked : Type 0 where
  pub key : List ℕ
  pub uri : List ℕ
  pub digests : List ℕ

-- the block's file and its height
pub record AnchoringAsked : Type 0 where
  pub block : List ℕ
  pub height : ℕ

-- what the words ask for
pub data DaemonCommand : Type 0 where
  -- answer connections
  serve : ServingAsked → DaemonCommand
  -- put each line of a file under one commitment
  batch : BatchAsked → DaemonCommand
  -- the root that is to be put into a block
  tip : DaemonCommand
  -- find that root in a block
  anchor : AnchoringAsked → DaemonCommand
  -- print the records
  list : DaemonCommand
  -- carry the journal of version 1 under this name over
  migrate : List ℕ → DaemonCommand

-- ---- the commands

abbrev pub word_of : Form → List ℕ
word_of Serve = codes "serve"
word_of Batch = codes "batch"
word_of Tip = codes "tip"
word_of Anchor = codes "anchor"
word_of Listing = codes "list"
word_of Migrate = codes "migrate"

-- serve --key FILE --uri URI --port P, and perhaps --workers W and --accept N; batch --key FILE --uri URI DIGESTS; tip;
-- anchor BLOCK --height H; list; migrate OLD
abbrev pub arguments_of : Form → List Described
arguments_of Serve = (codes "key", Required) ∷ (codes "uri", Required) ∷ (codes "port", Required)
    ∷ (codes "workers", Optional) ∷ (codes "accept", Optional) ∷ []
arguments_of Batch = (codes "key", Required) ∷ (codes "uri", Required) ∷ (codes "digests", Positional) ∷ []
arguments_of Tip = []
arguments_of Anchor = (codes "block", Positional) ∷ (codes "height", Required) ∷ []
arguments_of Listing = []
arguments_of Migrate = (codes "old", Positional) ∷ []

abbrev pub form_of : List ℕ → Option Form
form_of word =
    if bytes_eq word (word_of Serve) then Some Serve
    else if bytes_eq word (word_of Batch) then Some Batch
    else if bytes_eq word (word_of Tip) then Some Tip
    else if bytes_eq word (word_of Anchor) then Some Anchor
    else if bytes_eq word (word_of Listing) then Some Listing
    else if bytes_eq word (word_of Migrate) then Some Migrate
    else None

-- 4 where it isn't given
abbrev pub workers_or : Option ℕ → ℕ
workers_or None = WORKERS
workers_or (Some n) = n

abbrev pub workers_in : List Row → Option ℕ
workers_in rows = option_map workers_or (perhaps_number_in rows (codes "workers") 1 MAX_WORKERS)

abbrev pub serving_in : List Row → Option ServingAsked
serving_in rows =
    option_and_then (λ key. option_and_then (λ uri. option_and_then (λ port. option_and_then (λ workers.
    option_map (λ accept. record { key = key; uri = uri; port = port; workers = workers; accept = accept })
    (perhaps_number_in rows (codes "accept") 1 MAX_ACCEPT))
    (workers_in rows))
    (number_in rows (codes "port") 1 MAX_PORT))
    (first_of (codes "uri") rows))
    (name_in rows (codes "key"))

abbrev pub batch_in : List Row → Option BatchAsked
batch_in rows =
    option_and_then (λ key. option_and_then (λ uri.
    option_map (λ digests. record { key = key; uri = uri; digests = digests })
    (name_in rows (codes "digests")))
    (first_of (codes "uri") rows))
    (name_in rows (codes "key"))

abbrev pub anchoring_in : List Row → Option AnchoringAsked
anchoring_in rows =
    option_and_then (λ block. option_map (λ height. record { block = block; height = height })
    (number_in rows (codes "height") 0 MAX_HEIGHT))
    (name_in rows (codes "block"))

-- the command with these values of its arguments
abbrev pub command_in : Form → List Row → Option DaemonCommand
command_in Serve rows = option_map serve (serving_in rows)
command_in Batch rows = option_map batch (batch_in rows)
command_in Tip rows = Some tip
command_in Anchor rows = option_map anchor (anchoring_in rows)
command_in Listing rows = Some list
command_in Migrate rows = option_map migrate (name_in rows (codes "old"))

-- what the words ask for by this form
abbrev pub asked_by : Form → List (List ℕ) → Option DaemonCommand
asked_by form = read_form (word_of form) (arguments_of form) (command_in form)

-- what the words after the journal's name ask for, where they are of a command's form
abbrev pub command_of : List (List ℕ) → Option DaemonCommand
command_of [] = None
command_of (word ∷ rest) = option_and_then (λ form. asked_by form (word ∷ rest)) (form_of word)

-- the journal's name is not empty
abbrev pub command_after : List (List ℕ) → Option DaemonCommand
command_after [] = None
command_after (journal ∷ words) = option_and_then (λ name. command_of words) (nonempty journal)

-- what was read
abbrev pub read_serving : ReadServing → ServingAsked
read_serving s = record { key = s.key.now; uri = s.uri.now; port = s.port; workers = s.workers; accept = s.accept }

abbrev pub read_batch : ReadBatch → BatchAsked
read_batch b = record { key = b.key.now; uri = b.uri.now; digests = b.digests.now }

abbrev pub read_anchoring : ReadAnchoring → AnchoringAsked
read_anchoring a = record { block = a.block.now; height = a.height }

abbrev pub read_as : Read → DaemonCommand
read_as (read.Serve s) = serve (read_serving s)
read_as (read.Batch b) = batch (read_batch b)
read_as read.Tip = tip
read_as (read.Anchor a) = anchor (read_anchoring a)
read_as read.List = list
read_as (read.Migrate old) = migrate old.now

-- what these words ask for, each seen as its bytes
abbrev pub asked : List (String Global) → Option DaemonCommand
asked words = command_after (map string_bytes words)
