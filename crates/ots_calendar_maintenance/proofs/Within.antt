-- A command by the journal's limit, and all records printed.
use Rattle.std.proofs.Common.{◌≡◌, ℕ, List, Option, refl, subst}
use Rattle.ots_block.specs.Block.{Contents}
use Rattle.ots_journal.specs.declared.entry.Entry.{Entry}
use Rattle.ots_journal.specs.Image.{Stands}
use Rattle.ots_store.specs.Order.{records_of}
use Rattle.ots_calendar_text.specs.declared.status.DaemonStatus.{DaemonStatus}
use Rattle.ots_calendar_text.specs.declared.status.DaemonStatus.TheVariants.{Done}
use Rattle.ots_calendar_endings.specs.Printed.{PrintsLast}
use Rattle.ots_calendar_endings.specs.RunEnd.{Comes, as_defined, Ends, done, nowhere}
use Rattle.ots_calendar_maintenance.specs.Anchor.{AnchorAnswers}
use Rattle.ots_calendar_maintenance.specs.List.{ListAnswers, list_text}
use Rattle.ots_calendar_maintenance.specs.Tip.{TipAnswers}

pub tip_within : (limit most gate : ℕ) (entries : List Entry) (disk : Type 0) (images : List ℕ → Type 0) (printing : Type 0) (taken now : Option (List ℕ)) (r : DaemonStatus) → limit ≡ most
    → Ends (Comes (TipAnswers limit gate entries) nowhere disk) images printing taken now r → Ends (Comes (TipAnswers most gate entries) nowhere disk) images printing taken now r
tip_within limit most gate entries disk images printing taken now r is h = subst (λ (z : ℕ). Ends (Comes (TipAnswers z gate entries) nowhere disk) images printing taken now r) is h

pub anchor_within : (limit most : ℕ) (block : Contents) (height gate : ℕ) (entries : List Entry) (disk : Type 0) (images : List ℕ → Type 0) (printing : Type 0) (taken now : Option (List ℕ)) (r : DaemonStatus) → limit ≡ most
    → Ends (Comes (AnchorAnswers limit block height gate entries) nowhere disk) images printing taken now r
    → Ends (Comes (AnchorAnswers most block height gate entries) nowhere disk) images printing taken now r
anchor_within limit most block height gate entries disk images printing taken now r is h =
    subst (λ (z : ℕ). Ends (Comes (AnchorAnswers z block height gate entries) nowhere disk) images printing taken now r) is h

pub list_ends : (gate : ℕ) (entries listed : List Entry) (disk : Type 0) (images : List ℕ → Type 0) (printing : Type 0) (taken now : Option (List ℕ)) (r : DaemonStatus) → listed ≡ entries
    → ((c : List ℕ) → images c → Stands c entries) → PrintsLast printing Done (list_text (records_of listed)) taken now r
    → Ends (Comes (ListAnswers gate entries) nowhere disk) images printing taken now r
list_ends gate entries listed disk images printing taken now r is stand printed = record {
  ending = done entries (list_text (records_of entries));
  comes = as_defined refl;
  stand = stand;
  printed = subst (λ (z : List Entry). PrintsLast printing Done (list_text (records_of z)) taken now r) is printed;
}
