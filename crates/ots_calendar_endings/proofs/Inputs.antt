-- A run that reads files before it opens the journal.
use Rattle.std.proofs.Common.{◌≡◌, inl, inr, ℕ, List, [], ◌∷◌, Option, refl, sym, subst, arith}
use Rattle.std.specs.Prelude.{Ok, Err}
use Rattle.ots_disk.specs.Disk.{LeavesOnly}
use Rattle.ots_disk.specs.Moments.{weaker}
use Rattle.ots_journal.specs.declared.entry.Entry.{Entry}
use Rattle.ots_outside.specs.Shelf.{ShelfFaults, ShelfTold}
use Rattle.ots_inputs.specs.Input.{IsRefusal, ReadsNamed}
use Rattle.ots_inputs.specs.declared.error.InputError.{InputError}
use Rattle.ots_inputs.specs.declared.error.InputError.TheVariants as input
use Rattle.ots_inputs.specs.declared.error.Stop.{Stop}
use Rattle.ots_calendar_text.specs.Refusal.{refusal_text}
use Rattle.ots_calendar_text.specs.declared.status.DaemonStatus.{DaemonStatus}
use Rattle.ots_calendar_text.specs.declared.status.DaemonStatus.TheVariants.{OutOfMemory}
use Rattle.ots_calendar_endings.specs.With.{WithInput, no_file, refuses}
use Rattle.ots_calendar_endings.specs.RunEnd.{Comes, as_defined, not_read, disk_failed, no_memory, RunEnd, Ends, nowhere, refused, status_of}
use Rattle.ots_calendar_endings.specs.Files.{ReadsShelf}
use Rattle.ots_calendar_endings.specs.Moments.{OpenedOrRan}
use Rattle.ots_calendar_endings.specs.Printed.{PrintsLast}
use Rattle.ots_inputs.proofs.Opened.{none_opened, one_refused, stops_at_one}
use Rattle.ots_inputs.specs.Opened.{IsOpenedOrNot, StopsAt}

-- ---- what of the shelf stays

-- nothing was read
pub reads_nothing : (names : List (List ℕ)) (told : ShelfTold) (faults : ShelfFaults) (r : DaemonStatus) → ReadsShelf names told told faults faults r
reads_nothing names told faults r = record {
  opened = (0, none_opened told.opened);
  names_stay = refl;
  slots = λ k. refl;
  short = λ enough. refl;
  later = record { opening = omega arith; reading = omega arith; writing = omega arith };
  writing = refl;
}

module _ {A : Type 0} {Gives : List ℕ → A → Type 0} {Refuses : List ℕ → DaemonStatus → Type 0} {name : List ℕ} {old new : ShelfTold} {before now : ShelfFaults} where
  -- one file was read
  pub reads_given : (x : A) (r : DaemonStatus) → ReadsNamed Gives Refuses name old new before now (Ok x) → ReadsShelf (name ∷ []) old new before now r
  reads_given x r h = record {
    opened = (1, h.opened);
    names_stay = h.kept.names;
    slots = h.kept.slots;
    short = λ enough. h.kept.short (λ ran. cc);
    later = h.kept.later;
    writing = h.kept.writing;
  }

  -- or refused, not for want of memory
  pub reads_refused : (stop : Stop DaemonStatus) (r : DaemonStatus) → (stop.why ≡ input.OutOfMemory → r ≡ OutOfMemory) → ReadsNamed {A = A} Gives Refuses name old new before now (Err stop) → ReadsShelf (name ∷ []) old new before now r
  reads_refused stop r ran h = record {
    opened = one_refused name old.opened new.opened before now _ h.1.opened;
    names_stay = h.1.kept.names;
    slots = h.1.kept.slots;
    short = λ enough. h.1.kept.short (λ short. enough (ran (let is : stop.why ≡ input.OutOfMemory = cc in is)));
    later = h.1.kept.later;
    writing = h.1.kept.writing;
  }

-- ---- how it ends

-- a file is refused, or could not be read
pub input_comes : {A : Type 0} (Gives : List ℕ → A → Type 0) (Refuses : List ℕ → DaemonStatus → Type 0) (goes_on : A → RunEnd → Type 0) (name : List ℕ) (old new : ShelfTold) (before now : ShelfFaults)
    (disk : Type 0) (stop : Stop DaemonStatus) → ReadsNamed {A = A} Gives Refuses name old new before now (Err stop)
    → Comes (WithInput old.names name Gives Refuses goes_on) (StopsAt (name ∷ []) old.opened new.opened before now) disk (refused stop.name.now (status_of stop.why))
input_comes {A} Gives Refuses goes_on name old new before now disk stop (same, h) =
    subst (λ (z : List ℕ). Comes (WithInput old.names name Gives Refuses goes_on) (StopsAt (name ∷ []) old.opened new.opened before now) disk (refused z (status_of stop.why))) (sym same) (by stop.why h.answer h.opened)
  where
    by : (e : InputError DaemonStatus) → IsRefusal old.names name Refuses e → IsOpenedOrNot name old.opened new.opened before now (e ≡ input.ReadFault)
        → Comes (WithInput old.names name Gives Refuses goes_on) (StopsAt (name ∷ []) old.opened new.opened before now) disk (refused name (status_of e))
    by input.NoFile under opened = as_defined (no_file under refl)
    by input.ReadFault under opened = not_read name (stops_at_one name old.opened new.opened before now _ opened refl) refl
    by (input.Refused s) h opened = as_defined (refuses s h refl)
    by input.OutOfMemory under opened = no_memory refl

pub comes_map : {P Q : RunEnd → Type 0} {s t : List ℕ → Type 0} {d f : Type 0} (e : RunEnd) → (P e → Q e) → ((name : List ℕ) → s name → t name) → (d → f) → Comes P s d e → Comes Q t f e
comes_map e p stop rose (as_defined a) = as_defined (p a)
comes_map e p stop rose (not_read name at is) = not_read name (stop name at) is
comes_map e p stop rose (disk_failed fault is) = disk_failed (rose fault) is
comes_map e p stop rose (no_memory is) = no_memory is

-- what is told of a stop is printed
pub stop_ends : (may : RunEnd → Type 0) (stops : List ℕ → Type 0) (disk : Type 0) (images : List ℕ → Type 0) (printing : Type 0) (taken taken_now : Option (List ℕ)) (r : DaemonStatus) (stop : Stop DaemonStatus)
    → Comes may stops disk (refused stop.name.now (status_of stop.why)) → PrintsLast printing (status_of stop.why) (refusal_text stop.name.now (status_of stop.why)) taken taken_now r → Ends (Comes may stops disk) images printing taken taken_now r
stop_ends may stops disk images printing taken taken_now r stop comes printed = record { ending = refused stop.name.now (status_of stop.why); comes = comes; stand = tt; printed = printed }

-- the files are in order, with which the run goes on as without them
pub given_ends : (P Q : RunEnd → Type 0) (stops : List ℕ → Type 0) (disk : Type 0) (images : List ℕ → Type 0) (printing : Type 0) (taken taken_now : Option (List ℕ)) (r : DaemonStatus)
    → ((e : RunEnd) → P e → Q e) → Ends (Comes P nowhere disk) images printing taken taken_now r → Ends (Comes Q stops disk) images printing taken taken_now r
given_ends P Q stops disk images printing taken taken_now r p h = record {
  ending = h.ending;
  comes = comes_map h.ending (p h.ending) (λ name at. absurd at) (λ fault. fault) h.comes;
  stand = h.stand;
  printed = h.printed;
}

pub given_moments : {D : Type 0} (clock : D → ℕ) (images_since : D → ℕ → List ℕ → Type 0) (bytes : Option (List ℕ)) (images : List ℕ → Type 0) (adds more : List Entry → List Entry → Type 0) (old new : D)
    → ((entries added : List Entry) → adds entries added → more entries added)
    → LeavesOnly clock images_since old new (OpenedOrRan bytes images adds) → LeavesOnly clock images_since old new (OpenedOrRan bytes images more)
given_moments clock images_since bytes images adds more old new has h = weaker clock images_since old new _ _ h by
  where
    by : (c : List ℕ) → OpenedOrRan bytes images adds c → OpenedOrRan bytes images more c
    by c (inl opened) = inl opened
    by c (inr (entries, are, inl s)) = inr (entries, are, inl s)
    by c (inr (entries, are, inr (added, adds, s))) = inr (entries, are, inr (added, has entries added adds, s))

-- nothing was read: the run goes on as without files
pub unread_ends : (may : RunEnd → Type 0) (stops : List ℕ → Type 0) (disk : Type 0) (images : List ℕ → Type 0) (printing : Type 0) (taken taken_now : Option (List ℕ)) (r : DaemonStatus)
    → Ends (Comes may nowhere disk) images printing taken taken_now r → Ends (Comes may stops disk) images printing taken taken_now r
unread_ends may stops disk images printing taken taken_now r h = given_ends may may stops disk images printing taken taken_now r (λ e a. a) h
