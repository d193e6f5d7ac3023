-- The command `list`: a line for each record, in their order.
use Rattle.std.specs.Prelude.{◌≡◌, ℕ, ◌+◌, List, [], ◌∷◌, ◌++◌, length}
use Rattle.ots_store.specs.Order.{commit_in, records_of}
use Rattle.ots_store.specs.Records.{Record, CommitRecord, TipRecord, AnchorRecord}
use Rattle.ots_calendar_text.specs.Lines.{anchor_line, commit_line, tip_line}
use Rattle.ots_journal.specs.declared.entry.Entry.{Entry}
use Rattle.ots_calendar_endings.specs.Moments.{AddsNothing}
use Rattle.ots_calendar_endings.specs.Ran.{Meaning}
use Rattle.ots_calendar_endings.specs.RunEnd.{RunEnd, done}
use Rattle.ots_calendar_endings.specs.Told.{Told}
use Rattle.ots_calendar_endings.specs.With.{WithBook}

-- A commitment has its index among the commitments.
abbrev pub record_line : ℕ → Record → List ℕ
record_line commits (CommitRecord commitment) = commit_line commits commitment
record_line commits (TipRecord tip) = tip_line tip.first tip.count tip.root
record_line commits (AnchorRecord anchor) = anchor_line anchor.first anchor.count anchor.height anchor.root

-- the lines of records that stand after `commits` commitments
abbrev pub lines_from : ℕ → List Record → List ℕ
lines_from commits [] = []
lines_from commits (r ∷ records) = record_line commits r ++ lines_from (commits + length (commit_in r)) records

unfoldable pub list_text : List Record → List ℕ
list_text records = lines_from 0 records

-- All records are printed.
abbrev pub ListAnswers : ℕ → List Entry → RunEnd → Type 0
ListAnswers gate entries e = e ≡ done entries (list_text (records_of entries))

-- It names no file.
abbrev pub list_meaning : Told → Told → Meaning
list_meaning old new = record {
  reads = [];
  answers = WithBook old.bytes ListAnswers;
  adds = AddsNothing;
  ready = Unit {0};
  draws = ⊥;
  serves = ⊥;
}
