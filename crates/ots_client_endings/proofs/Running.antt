-- How a command runs: names are read, and then an ending is carried out.
use Rattle.std.proofs.Common.{◌≡◌, ◌≤◌, inl, inr, ℕ, List, [], ◌∷◌, Option, refl, sym, ap, subst, ◌∙◌, arith}
use Rattle.std.specs.Prelude.{Ok, Err, ◌≢◌}
use Rattle.ots_base.specs.Cause.{Rose}
use Rattle.ots_outside.specs.Shelf.{Names, NeverFalls, ShelfFaults, ShelfTold}
use Rattle.ots_client_text.specs.declared.status.Status.{Status}
use Rattle.ots_client_text.specs.declared.status.Status.TheVariants as status
use Rattle.ots_client_endings.specs.CarriedOut.{CarriesOut, Ends, carried_out, no_memory, PrintsLast}
use Rattle.ots_client_endings.specs.Ending.{Ending, printing, refused}
use Rattle.ots_client_endings.specs.InTurn.{OpensInTurn, StopsInTurn}
use Rattle.ots_client_endings.specs.Reading.{BreaksOff, Reads, StopsFor, WithInput, is_given}
use Rattle.ots_client_endings.specs.Runs.{Comes, as_defined, not_read, Finishes, IsBrokenOff, Moment, Runs, TellsStop}
use Rattle.ots_client_endings.proofs.Carrying.{last_text}
use Rattle.ots_client_endings.proofs.Reading.{input_stops, named, reads_none}
use Rattle.ots_client_endings.proofs.Turns.{nothing_yet, turn_as, turns_as}
use Rattle.ots_client_inputs.proofs.Inputs.{IsInputOf}
use Rattle.ots_client_inputs.specs.Inputs.{Input, names_in}
use Rattle.ots_inputs.specs.declared.error.InputError.{InputError}
use Rattle.ots_inputs.specs.declared.error.InputError.TheVariants.{NoFile, ReadFault, Refused, OutOfMemory}
use Rattle.ots_inputs.specs.declared.error.Stop.{Stop}
use Rattle.ots_inputs.specs.Input.{ReadsNamed}
use Rattle.ots_inputs.proofs.Opened.{none_opened}
use Rattle.ots_inputs.specs.Kept.{KeepsShelf}
use Rattle.ots_inputs.specs.Opened.{OpensPrefix, StopsAt, not_opened, opened_last}

abbrev moment : ShelfTold → ShelfFaults → Option (List ℕ) → ℕ → Moment
moment shelf faults taken lost = record { shelf = shelf; faults = faults; taken = taken; lost = lost }

-- A text was the last.
pub text_finishes : (P : Ending → Type 0) (s : Status) (bytes : List ℕ) (shelf : ShelfTold) (faults : ShelfFaults) {taken now : Option (List ℕ)} {lost lost_now : ℕ} {r : Status}
    → P (printing s bytes) → lost ≤ lost_now → PrintsLast (Rose lost lost_now) s bytes taken now r
    → Finishes P (moment shelf faults taken lost) (moment shelf faults now lost_now) r
text_finishes P s bytes shelf faults {taken} {now} {lost} {lost_now} {r} is later h = record {
  ending = printing s bytes;
  is = is;
  out = last_text (Rose faults.writing faults.writing) (Rose lost lost_now) s bytes shelf.names taken now r h;
  opened = refl;
  slots = λ k. refl;
  short = λ enough. refl;
  counts = record { opening = refl; reading = refl };
  writing = omega arith;
  lost = later;
}

-- the same of a text that is told with its bytes
pub told_finishes : (P : Ending → Type 0) (IsText : List ℕ → Type 0) (s : Status) (shelf : ShelfTold) (faults : ShelfFaults) {taken now : Option (List ℕ)} {lost lost_now : ℕ} {r : Status}
    → ((bytes : List ℕ) → IsText bytes → P (printing s bytes)) → lost ≤ lost_now → (bytes : List ℕ) × IsText bytes × PrintsLast (Rose lost lost_now) s bytes taken now r
    → Finishes P (moment shelf faults taken lost) (moment shelf faults now lost_now) r
told_finishes P IsText s shelf faults is later (bytes, text, h) = text_finishes P s bytes shelf faults (is bytes text) later h

-- Names were read, and then one of these endings was carried out.
module _ (answers : Option Names → Ending → Type 0) (inputs : List Input) (P : Ending → Type 0) {enough broken : Type 0} {old mid new : ShelfTold} {before between now : ShelfFaults}
    {taken taken_now : Option (List ℕ)} {lost lost_now : ℕ} {r : Status} (prefix : OpensPrefix (names_in inputs) old.opened mid.opened)
    (turn : OpensInTurn old.names inputs broken old.opened mid.opened) (breaks : broken → IsBrokenOff before between r) (kept : KeepsShelf enough old mid before between)
    (comes : (e : Ending) → P e → Comes (answers old.names) (StopsAt (names_in inputs) old.opened mid.opened before between) e) (is_enough : r ≢ status.OutOfMemory → enough)
    (then : Finishes P (moment mid between taken lost) (moment new now taken_now lost_now) r) where
  -- the counts of a stop are those at the end
  still : (name : List ℕ) → StopsAt (names_in inputs) old.opened mid.opened before between name → StopsAt (names_in inputs) old.opened new.opened before now name
  still name (not_opened earlier later is opened rose) =
      not_opened earlier later is (then.opened ∙ opened) (subst (Rose before.opening) (sym then.counts.opening) rose)
  still name (opened_last earlier later is opened rose) =
      opened_last earlier later is (then.opened ∙ opened) (subst (Rose before.reading) (sym then.counts.reading) rose)

  later : (e : Ending) → Comes (answers old.names) (StopsAt (names_in inputs) old.opened mid.opened before between) e
      → Comes (answers old.names) (StopsAt (names_in inputs) old.opened new.opened before now) e
  later e (as_defined h) = as_defined h
  later e (not_read name stops is) = not_read name (still name stops) is

  never_falls : NeverFalls before now
  never_falls =
      let a = kept.later.opening in let b = kept.later.reading in let c = kept.later.writing in let d = then.writing in
      let e = then.counts.opening in let f = then.counts.reading in
      record { opening = omega (arith, a, e); reading = omega (arith, b, f); writing = omega (arith, c, d) }

  broken_then : IsBrokenOff before between r → IsBrokenOff before now r
  broken_then (inl rose) = inl (subst (Rose before.opening) (sym then.counts.opening) rose)
  broken_then (inr (inl rose)) = inr (inl (subst (Rose before.reading) (sym then.counts.reading) rose))
  broken_then (inr (inr ran)) = inr (inr ran)

  pub begun : Runs answers inputs (moment old before taken lost) (moment new now taken_now lost_now) r
  begun = record {
    ends = carried_out then.ending (later then.ending (comes then.ending then.is))
        (subst (λ (z : ℕ). CarriesOut (Rose z now.writing) (Rose lost lost_now) then.ending.status then.ending.acts old.names new.names taken taken_now r) kept.writing
        (subst (λ (z : Option Names). CarriesOut (Rose between.writing now.writing) (Rose lost lost_now) then.ending.status then.ending.acts z new.names taken taken_now r) kept.names then.out));
    opened = subst (OpensPrefix (names_in inputs) old.opened) (sym then.opened) prefix;
    in_turn = subst (OpensInTurn old.names inputs (IsBrokenOff before now r) old.opened) (sym then.opened)
        (turns_as broken (IsBrokenOff before now r) (λ broke. broken_then (breaks broke)) turn);
    short = λ not. then.short not ∙ kept.short (is_enough not);
    slots = λ k. then.slots k ∙ kept.slots k;
    faults = never_falls;
    lost = then.lost;
  }

-- All was read, and then an ending carried out.
pub read_finished : {A : Type 0} (answers : Option Names → Ending → Type 0) (inputs : List Input) (P : Ending → Type 0) {gives : Option Names → A → Type 0} {refuses : Option Names → Ending → Type 0}
    {old mid new : ShelfTold} {before between now : ShelfFaults} {taken taken_now : Option (List ℕ)} {lost lost_now : ℕ} {r : Status} {x : A}
    → Reads inputs gives refuses old mid before between (Ok x) → ((e : Ending) → P e → answers old.names e)
    → Finishes P (moment mid between taken lost) (moment new now taken_now lost_now) r
    → Runs answers inputs (moment old before taken lost) (moment new now taken_now lost_now) r
read_finished answers inputs P {old = old} {mid = mid} h ends then =
    let turn : OpensInTurn old.names inputs ⊥ old.opened mid.opened = inl (h.accepted, h.opened) in
    begun answers inputs P h.prefix turn (λ never. absurd never) h.kept (λ e is. as_defined (ends e is)) (λ not ran. ran) then

-- All was read, and then memory ran out.
pub read_short : {A : Type 0} {answers : Option Names → Ending → Type 0} {inputs : List Input} {gives : Option Names → A → Type 0} {refuses : Option Names → Ending → Type 0}
    {old mid : ShelfTold} {before between : ShelfFaults} {taken : Option (List ℕ)} {lost : ℕ} {r : Status} {x : A}
    → Reads inputs gives refuses old mid before between (Ok x) → r ≡ status.OutOfMemory
    → Runs answers inputs (moment old before taken lost) (moment mid between taken lost) r
read_short h ran = record {
  ends = no_memory ran h.kept.names refl;
  opened = h.prefix;
  in_turn = inl (h.accepted, h.opened);
  short = λ not. absurd (not ran);
  slots = h.kept.slots;
  faults = h.kept.later;
  lost = omega arith;
}

no_break : (P : Type 0) → BreaksOff NoFile → P
no_break P (inl is) = absurd (let clash : NoFile ≡ ReadFault = is in cc)
no_break P (inr is) = absurd (let clash : NoFile ≡ OutOfMemory = is in cc)

refusal_goes_on : (P : Type 0) (s : Status) → BreaksOff (Refused s) → P
refusal_goes_on P s (inl is) = absurd (let clash : Refused s ≡ ReadFault = is in cc)
refusal_goes_on P s (inr is) = absurd (let clash : Refused s ≡ OutOfMemory = is in cc)

fault_breaks : (names : List (List ℕ)) (old new : Option (List (List ℕ))) (before now : ShelfFaults) (name : List ℕ) (r : Status) → StopsAt names old new before now name → IsBrokenOff before now r
fault_breaks names old new before now name r (not_opened earlier more is opened rose) = inl rose
fault_breaks names old new before now name r (opened_last earlier more is opened rose) = inr (inl rose)

-- Reading stopped at a name, and that was told.
module _ {answers : Option Names → Ending → Type 0} {inputs : List Input} {old mid : ShelfTold} {before between : ShelfFaults} {taken taken_now : Option (List ℕ)} {lost lost_now : ℕ}
    {r : Status} (name : List ℕ) where
  stop_tells : (why : InputError Status) → StopsFor (answers old.names) (StopsAt (names_in inputs) old.opened mid.opened before between) name why
      → OpensPrefix (names_in inputs) old.opened mid.opened → StopsInTurn old.names inputs (BreaksOff why) old.opened mid.opened → KeepsShelf (why ≡ OutOfMemory → ⊥) old mid before between
      → TellsStop name why (moment mid between taken lost) (moment mid between taken_now lost_now) r
      → Runs answers inputs (moment old before taken lost) (moment mid between taken_now lost_now) r
  stop_tells NoFile stops prefix turn kept told =
      begun answers inputs (λ e. e ≡ refused name status.NoFile) prefix (inr turn) (no_break _) kept (λ e is. as_defined (subst (answers old.names) (sym is) stops)) (λ not clash. cc) told
  stop_tells ReadFault stops prefix turn kept told =
      begun answers inputs (λ e. e ≡ refused name status.ReadFault) prefix (inr turn) (λ broke. fault_breaks (names_in inputs) old.opened mid.opened before between name r stops) kept (λ e is. not_read name stops is) (λ not clash. cc) told
  stop_tells (Refused s) stops prefix turn kept told =
      begun answers inputs (λ e. e ≡ refused name s) prefix (inr turn) (refusal_goes_on _ s) kept (λ e is. as_defined (subst (answers old.names) (sym is) stops)) (λ not clash. cc) told
  stop_tells OutOfMemory stops prefix turn kept (same, ran) = record {
    ends = no_memory ran kept.names (ap (λ m. m.taken) same);
    opened = prefix;
    in_turn = inr (turn_as (BreaksOff OutOfMemory) (IsBrokenOff before between r) (λ broke. inr (inr ran)) turn);
    short = λ not. absurd (not ran);
    slots = kept.slots;
    faults = kept.later;
    lost = let is : lost_now ≡ lost = ap (λ m. m.lost) same in omega (arith, is);
  }

pub stop_told : {A : Type 0} {answers : Option Names → Ending → Type 0} {inputs : List Input} {gives : Option Names → A → Type 0}
    {old mid : ShelfTold} {before between : ShelfFaults} {taken taken_now : Option (List ℕ)} {lost lost_now : ℕ} {r : Status} {stop : Stop Status}
    → Reads inputs gives answers old mid before between (Err stop)
    → TellsStop stop.name.now stop.why (moment mid between taken lost) (moment mid between taken_now lost_now) r
    → Runs answers inputs (moment old before taken lost) (moment mid between taken_now lost_now) r
stop_told {stop = stop} h told = stop_tells stop.name.now stop.why h.stopped h.prefix h.in_turn h.kept told

-- ---- with what names give

-- A name gave nothing, and that was told.
pub input_told : {A : Type 0} {Gives : List ℕ → A → Type 0} {Refuses : List ℕ → Status → Type 0} (goes_on : Option Names → A → Ending → Type 0) {i : Input} {name : List ℕ} (rest : List Input)
    {old mid : ShelfTold} {before between : ShelfFaults} {taken taken_now : Option (List ℕ)} {lost lost_now : ℕ} {r : Status} (stop : Stop Status)
    → IsInputOf i name Gives Refuses → ReadsNamed {A = A} Gives Refuses name old mid before between (Err stop)
    → TellsStop stop.name.now stop.why (moment mid between taken lost) (moment mid between taken_now lost_now) r
    → Runs (λ told. WithInput told name Gives Refuses (goes_on told)) (i ∷ rest) (moment old before taken lost) (moment mid between taken_now lost_now) r
input_told {A} goes_on rest stop of h told = stop_told {A = A} (input_stops {D = λ x e. Unit {0}} goes_on rest {stop = stop} of h) told

-- A name gave this, and then an ending was carried out, or memory ran out.
module _ {A : Type 0} {Gives : List ℕ → A → Type 0} {Refuses : List ℕ → Status → Type 0} (goes_on : Option Names → A → Ending → Type 0) {i : Input} {name : List ℕ}
    (of : IsInputOf i name Gives Refuses) {old mid : ShelfTold} {before between : ShelfFaults} {taken : Option (List ℕ)} {lost : ℕ} {r : Status} {x : A} (h : ReadsNamed Gives Refuses name old mid before between (Ok x)) where
  pub input_finished : (P : Ending → Type 0) {new : ShelfTold} {now : ShelfFaults} {taken_now : Option (List ℕ)} {lost_now : ℕ} → ((e : Ending) → P e → goes_on old.names x e)
      → Finishes P (moment mid between taken lost) (moment new now taken_now lost_now) r
      → Runs (λ told. WithInput told name Gives Refuses (goes_on told)) (i ∷ []) (moment old before taken lost) (moment new now taken_now lost_now) r
  input_finished P ends then =
      read_finished (λ told. WithInput told name Gives Refuses (goes_on told)) (i ∷ []) P (named of h) (λ e is. is_given x h.answer (ends e is)) then

  pub input_short : r ≡ status.OutOfMemory
      → Runs (λ told. WithInput told name Gives Refuses (goes_on told)) (i ∷ []) (moment old before taken lost) (moment mid between taken lost) r
  input_short ran = read_short (named of h) ran

-- ---- where nothing is read

-- Nothing is read, and an ending is carried out.
pub only_finished : (answers : Option Names → Ending → Type 0) (P : Ending → Type 0) {old new : ShelfTold} {before now : ShelfFaults} {taken taken_now : Option (List ℕ)} {lost lost_now : ℕ}
    {r : Status} → ((e : Ending) → P e → answers old.names e) → Finishes P (moment old before taken lost) (moment new now taken_now lost_now) r
    → Runs answers [] (moment old before taken lost) (moment new now taken_now lost_now) r
only_finished answers P ends then =
    read_finished answers [] P (reads_none {B = Unit {0}} {gives = λ told y. Unit {0}} {refuses = answers} {y = tt} tt) ends then

-- Memory ran out before anything was read.
pub unread_short : {answers : Option Names → Ending → Type 0} {inputs : List Input} (told : ShelfTold) (faults : ShelfFaults) {taken : Option (List ℕ)} {lost : ℕ} {r : Status}
    → r ≡ status.OutOfMemory → Runs answers inputs (moment told faults taken lost) (moment told faults taken lost) r
unread_short {inputs = inputs} told faults {r = r} ran = record {
  ends = no_memory ran refl refl;
  opened = (0, none_opened told.opened);
  in_turn = nothing_yet (IsBrokenOff faults faults r) inputs told.opened (inr (inr ran));
  short = λ not. absurd (not ran);
  slots = λ k. refl;
  faults = record { opening = omega arith; reading = omega arith; writing = omega arith };
  lost = omega arith;
}

-- ---- the same run, seen otherwise

pub comes_as : (answers others : Ending → Type 0) (stops_at : List ℕ → Type 0) → ((e : Ending) → answers e → others e) → (e : Ending) → Comes answers stops_at e → Comes others stops_at e
comes_as answers others stops_at f e (as_defined h) = as_defined (f e h)
comes_as answers others stops_at f e (not_read name stops is) = not_read name stops is

pub ends_as : (comes goes : Ending → Type 0) (W P : Type 0) (old new : Option Names) (taken now : Option (List ℕ)) (r : Status) → ((e : Ending) → comes e → goes e)
    → Ends comes W P old new taken now r → Ends goes W P old new taken now r
ends_as comes goes W P old new taken now r f (carried_out e is out) = carried_out e (f e is) out
ends_as comes goes W P old new taken now r f (no_memory ran names same) = no_memory ran names same

pub runs_as : {answers : Option Names → Ending → Type 0} (others : Option Names → Ending → Type 0) {inputs : List Input} {old new : Moment} {r : Status}
    → ((e : Ending) → answers old.shelf.names e → others old.shelf.names e) → Runs answers inputs old new r → Runs others inputs old new r
runs_as {answers} others {inputs} {old} {new} {r} f h = record {
  ends = ends_as _ _ _ _ _ _ _ _ r (comes_as (answers old.shelf.names) (others old.shelf.names) _ f) h.ends;
  opened = h.opened;
  in_turn = h.in_turn;
  short = h.short;
  slots = h.slots;
  faults = h.faults;
  lost = h.lost;
}
