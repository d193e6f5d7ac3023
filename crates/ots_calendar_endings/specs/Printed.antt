-- Printing a text, with which a run ends.
use Rattle.std.specs.Prelude.{ℕ, List, [], ◌++◌, Option}
use Rattle.ots_outputs.specs.Printed.{PrintsLastOr}
use Rattle.ots_calendar_text.specs.Lines.{anchored_line, listening_line, migrated_line, served_line, tip_line}
use Rattle.ots_calendar_text.specs.Refusal.{refusal_text}
use Rattle.ots_calendar_text.specs.declared.status.DaemonStatus.{DaemonStatus}
use Rattle.ots_calendar_text.specs.declared.status.DaemonStatus.TheVariants.{WriteFault}
use Rattle.ots_calendar_endings.specs.declared.printing.Text.{Text}
use Rattle.ots_calendar_endings.specs.declared.printing.Text.TheVariants as text

-- A text is the last thing that is printed, and a sink that fails is a write fault.
abbrev pub PrintsLast : Type 0 → DaemonStatus → List ℕ → Option (List ℕ) → Option (List ℕ) → DaemonStatus → Type 0
PrintsLast = PrintsLastOr WriteFault

-- a text as the code has it, where the run ends with this status
abbrev pub text_of : DaemonStatus → Text → List ℕ
text_of status (text.Refusal name) = refusal_text name.now status
text_of status (text.Tip tip) = tip_line tip.first tip.count tip.root
text_of status (text.Anchored first count height) = anchored_line first count height
text_of status (text.Migrated count) = migrated_line count
text_of status (text.Listening port) = listening_line port
text_of status (text.Served count) = served_line count ++ refusal_text [] status
