-- What follows from a run as the words mean it.
use Rattle.std.proofs.Common.{◌≡◌, ◌≤◌, ◌⊎◌, inl, inr, ⊎_elim, ℕ, List, [], ◌∷◌, length, Option, None, refl, sym, ap, subst, ◌∙◌, append-nil, length-append, arith}
use Rattle.ots_arguments.specs.declared.error.WordsError.{WordsError}
use Rattle.ots_arguments.specs.declared.error.WordsError.TheVariants as words
use Rattle.ots_inputs.specs.Opened.{StopsAt, not_opened, opened_last}
use Rattle.ots_outside.specs.Shelf.{ShelfFaults}
use Rattle.ots_journal.specs.declared.entry.Entry.{Entry}
use Rattle.ots_journal.specs.Image.{Stands}
use Rattle.ots_journal.specs.Opening.{OpenedFrom}
use Rattle.ots_opening.specs.Images.{IsOnlyImage, StandsAfter}
use Rattle.ots_opening.proofs.Images.{found_once, opened_stands}
use Rattle.ots_calendar_text.specs.Refusal.{refusal_text}
use Rattle.ots_calendar_text.specs.declared.status.DaemonStatus.{DaemonStatus}
use Rattle.ots_calendar_text.specs.declared.status.DaemonStatus.TheVariants.{Usage, OutOfMemory}
use Rattle.ots_calendar_words.specs.Words.{DaemonCommand}
use Rattle.ots_base.specs.Cause.{Rose}
use Rattle.ots_calendar_endings.specs.Files.{ReadsShelf}
use Rattle.ots_calendar_endings.specs.Moments.{KeepsFound, OpenedOrRan, StandsWith}
use Rattle.ots_calendar_endings.specs.Printed.{PrintsLast}
use Rattle.ots_calendar_endings.specs.Ran.{Completes, Meaning, NoFaults, Ran, StopsIn}
use Rattle.ots_calendar_endings.specs.RunEnd.{Comes, as_defined, not_read, disk_failed, no_memory, Ends, RunEnd, refused}
use Rattle.ots_calendar_endings.specs.Told.{Leaves, LeavesBetween, Told}
use Rattle.ots_calendar_endings.proofs.Inputs.{comes_map}
use Rattle.ots_calendar_commands.specs.Meaning.{RunTold, meaning_in, words_meaning, words_status}
use Rattle.ots_calendar_commands.specs.Run.{CompletesAs, RanAs, Stays, Survives}

-- ---- where nothing failed

still_read : (names : List (List ℕ)) (old new : Told) (name : List ℕ) → NoFaults old new → StopsIn names old new name → ⊥
still_read names old new name well (not_opened earlier later is opened rose) = well.opening rose
still_read names old new name well (opened_last earlier later is opened rose) = well.reading rose

pub completes : (means : Told → Told → Meaning) (old new : Told) (r : DaemonStatus) → Ran means old new r → NoFaults old new → Completes (means old new).answers r
completes means old new r h well = by h.ends.comes (status h.ends.printed)
  where
    status : PrintsLast (Rose old.sink_faults new.sink_faults) h.ends.ending.status h.ends.ending.text old.taken new.taken r → r ≡ h.ends.ending.status
    status (inl whole) = whole.1
    status (inr part) = absurd (well.sink part.0)

    by : Comes (means old new).answers (StopsIn (means old new).reads old new) (Rose old.disk_faults new.disk_faults) h.ends.ending → r ≡ h.ends.ending.status → Completes (means old new).answers r
    by (as_defined a) is = inr (h.ends.ending, a, is)
    by (not_read name at ended) is = absurd (still_read (means old new).reads old new name well at)
    by (disk_failed fault ended) is = absurd (well.disk fault)
    by (no_memory ended) is = inl (is ∙ ap (λ (z : RunEnd). z.status) ended)

-- ---- what a crash may leave

weaker : {clock now : ℕ} {since since_now : ℕ → List ℕ → Type 0} {P Q : List ℕ → Type 0} → LeavesBetween clock now since since_now P → ((c : List ℕ) → P c → Q c) → LeavesBetween clock now since since_now Q
weaker run p = record { later = run.later; each = λ c left. p c (run.each c left); before = λ t c le left. ⊎_elim inl (λ has. inr (p c has)) (run.before t c le left) }

crash_leaves : (told : Option (List ℕ)) (images : List ℕ → Type 0) (adds : List Entry → List Entry → Type 0) (entries : List Entry) → IsOnlyImage told images entries
    → (c : List ℕ) → OpenedOrRan told images adds c → StandsWith (adds entries) entries c
crash_leaves told images adds entries one c (inl opened) = inl (opened_stands told images entries one c opened)
crash_leaves told images adds entries one c (inr (found, are, stands)) = subst (λ (z : List Entry). StandsWith (adds z) z c) (found_once told images entries one found are) stands

pub survives : (command : Option DaemonCommand) (run : RunTold) (r : DaemonStatus) → ((t : ℕ) (c : List ℕ) → t ≤ run.new.clock → run.new.images c → run.new.images_since t c) → RanAs command run r → Survives command run
survives command run r counts_now h = record {
  found = h.kept;
  moments = λ entries one. ⊎_elim (λ moments. inl (weaker moments (crash_leaves run.old.bytes run.old.images _ entries one))) inr h.moments;
  after = λ entries one c image. by entries one c image h.kept;
}
  where
    by : (entries : List Entry) → IsOnlyImage run.old.bytes run.old.images entries → (c : List ℕ) → run.new.images c → KeepsFound run.old.bytes run.new.images ⊎ Leaves run.old run.new (OpenedFrom run.old.images) → StandsAfter entries c
    by entries one c image (inl (found, are, each)) = subst (λ (z : List Entry). StandsAfter z c) (found_once run.old.bytes run.old.images entries one found are) (each c image)
    by entries one c image (inr opened) = (
      [],
      subst (λ (z : List Entry). Stands c z) (sym (append-nil entries))
          (opened_stands run.old.bytes run.old.images entries one c (opened.each c (counts_now run.old.clock c opened.later image))),
    )

-- ---- by what the words ask for

pub asked_ran : (o p : Option DaemonCommand) → o ≡ p → (run : RunTold) (r : DaemonStatus) → RanAs p run r → RanAs o run r
asked_ran o p is run r h = subst (λ (z : Option DaemonCommand). RanAs z run r) (sym is) h

pub asked_completes : (o p : Option DaemonCommand) → o ≡ p → (run : RunTold) (r : DaemonStatus) → RanAs p run r → CompletesAs o run r
asked_completes o p is run r h = completes (words_meaning run o) run.old run.new r (asked_ran o p is run r h)

pub asked_survives : (o p : Option DaemonCommand) → o ≡ p → (run : RunTold) (r : DaemonStatus) → ((t : ℕ) (c : List ℕ) → t ≤ run.new.clock → run.new.images c → run.new.images_since t c) → RanAs p run r → Survives o run
asked_survives o p is run r counts_now h = survives o run r counts_now (asked_ran o p is run r h)

pub asked_stays : (o p : Option DaemonCommand) → o ≡ p → (run : RunTold) (disk accepter nonces : Type 0) → Stays p run disk accepter nonces → Stays o run disk accepter nonces
asked_stays o p is run disk accepter nonces h = subst (λ (z : Option DaemonCommand). Stays z run disk accepter nonces) (sym is) h

-- no name is read where none is named
no_name : (old new : Option (List (List ℕ))) (before now : ShelfFaults) (name : List ℕ) → StopsAt [] old new before now name → ⊥
no_name old new before now name (not_opened earlier later is opened rose) = absurd (omega (arith, ap length is, length-append earlier (name ∷ later)))
no_name old new before now name (opened_last earlier later is opened rose) = absurd (omega (arith, ap length is, length-append earlier (name ∷ later)))

pub unnamed_ends : {may : RunEnd → Type 0} {old new : Option (List (List ℕ))} {before now : ShelfFaults} {stops : List ℕ → Type 0} {disk : Type 0} {images : List ℕ → Type 0} {printing : Type 0} {taken taken_now : Option (List ℕ)} {r : DaemonStatus}
    → Ends (Comes may (StopsAt [] old new before now) disk) images printing taken taken_now r → Ends (Comes may stops disk) images printing taken taken_now r
unnamed_ends {old = old} {new = new} {before = before} {now = now} h = record {
  ending = h.ending;
  comes = comes_map h.ending (λ a. a) (λ name at. absurd (no_name old new before now name at)) (λ fault. fault) h.comes;
  stand = h.stand;
  printed = h.printed;
}

-- the words are refused, or memory ran out
pub unread_ends : (why : WordsError) (command : Option DaemonCommand) (run : RunTold) (stops : List ℕ → Type 0) (disk : Type 0) (images : List ℕ → Type 0) (printing : Type 0) (taken now : Option (List ℕ)) (r : DaemonStatus)
    → (why ≡ words.Usage → command ≡ None) → PrintsLast printing (words_status why) (refusal_text [] (words_status why)) taken now r
    → Ends (Comes (meaning_in run command).answers stops disk) images printing taken now r
unread_ends words.Usage command run stops disk images printing taken now r none printed =
    subst (λ (z : Option DaemonCommand). Ends (Comes (meaning_in run z).answers stops disk) images printing taken now r) (sym (none refl))
    (record { ending = refused [] Usage; comes = as_defined refl; stand = tt; printed = printed })
unread_ends words.OutOfMemory command run stops disk images printing taken now r none printed =
    record { ending = refused [] OutOfMemory; comes = no_memory refl; stand = tt; printed = printed }

pub unread_ran : (why : WordsError) (command : Option DaemonCommand) (run : RunTold) (r : DaemonStatus) → (why ≡ words.Usage → command ≡ None)
    → PrintsLast (Rose run.old.sink_faults run.new.sink_faults) (words_status why) (refusal_text [] (words_status why)) run.old.taken run.new.taken r
    → Leaves run.old run.new (OpenedFrom run.old.images)
    → ReadsShelf (meaning_in run command).reads run.old.shelf run.new.shelf run.old.shelf_faults run.new.shelf_faults r
    → run.old.disk_faults ≤ run.new.disk_faults → run.old.sink_faults ≤ run.new.sink_faults → RanAs command run r
unread_ran why command run r none printed opened files disk sink = record {
  ends = unread_ends why command run _ _ _ _ _ _ _ none printed;
  moments = inl (weaker opened (λ c left. inl left));
  kept = inr opened;
  files = files;
  disk = inl disk;
  sink = sink;
}
