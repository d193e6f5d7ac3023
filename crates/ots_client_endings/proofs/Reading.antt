-- One read after another.
use Rattle.std.proofs.Common.{◌≡◌, inl, inr, ℕ, List, [], ◌∷◌, ◌++◌, Option, refl, sym, ap, subst}
use Rattle.std.specs.Prelude.{Result, Ok, Err, IfOk, IfErr, IsErrAnd}
use Rattle.ots_outside.specs.Shelf.{Names, ShelfFaults, ShelfTold}
use Rattle.ots_inputs.specs.declared.error.InputError.{InputError}
use Rattle.ots_inputs.specs.declared.error.InputError.TheVariants.{NoFile, ReadFault, Refused, OutOfMemory}
use Rattle.ots_inputs.specs.declared.error.Stop.{Stop}
use Rattle.ots_client_text.specs.declared.status.Status.{Status}
use Rattle.ots_address.specs.Address.{AddressParts}
use Rattle.ots_address.specs.AddressList.{IsListOf}
use Rattle.ots_client_endings.specs.Ending.{Ending, refused}
use Rattle.ots_client_endings.specs.InTurn.{StopsInTurn, at_absent, at_refused, broken_after, broken_off}
use Rattle.ots_client_endings.specs.Reading.{BreaksOff, Reads, RefusesInput, no_file, refuses, StopsFor, WithInput, is_given, is_refused, WithList, is_bad}
use Rattle.ots_client_endings.proofs.Turns.{accepted_then, names_then, opened_then, turn_before, turn_later}
use Rattle.ots_client_inputs.proofs.Inputs.{IsInputOf}
use Rattle.ots_client_inputs.specs.Inputs.{AreAccepted, Input, calendars_of, names_in}
use Rattle.ots_client_inputs.specs.List.{MayRefuseList, StopsAtList, bad}
use Rattle.ots_inputs.specs.Input.{IsRefusal, OpensRefused, ReadsNamed}
use Rattle.ots_inputs.specs.Opened.{IsOpenedOrNot, Opens, OpensPrefix, StopsAt}
use Rattle.ots_inputs.specs.Under.{HasUnder}
use Rattle.ots_inputs.proofs.Opened.{keeps_all, keeps_then, keeps_where, none_opened, one_refused, prefix_of_more, stops_at_one, stops_before, stops_later, then_opened}

-- ---- one name

-- One name was read: what its bytes give, or why they are refused.
abbrev pub ReadsName : {A : Type 0} → Input → (List ℕ → A → Type 0) → (List ℕ → Status → Type 0) → List ℕ → ShelfTold → ShelfTold → ShelfFaults → ShelfFaults → Result A (Stop Status) → Type 0
ReadsName i Gives Refuses name = Reads (i ∷ []) (λ told x. HasUnder told name (λ bytes. Gives bytes x)) (λ told. RefusesInput told name Refuses)

stops_for : (told : Option Names) (name : List ℕ) (Refuses : List ℕ → Status → Type 0) (old new : Option (List (List ℕ))) (before now : ShelfFaults)
    (e : InputError Status) → IsRefusal told name Refuses e → IsOpenedOrNot name old new before now (e ≡ ReadFault)
    → StopsFor (RefusesInput told name Refuses) (StopsAt (name ∷ []) old new before now) name e
stops_for told name Refuses old new before now NoFile under opened = no_file under refl
stops_for told name Refuses old new before now ReadFault under opened = stops_at_one name old new before now _ opened refl
stops_for told name Refuses old new before now (Refused s) under opened = refuses s under refl
stops_for told name Refuses old new before now OutOfMemory under opened = tt

module _ {A : Type 0} {i : Input} {Gives : List ℕ → A → Type 0} {Refuses : List ℕ → Status → Type 0} {name : List ℕ} (of : IsInputOf i name Gives Refuses) where
  one_name : name ∷ [] ≡ names_in (i ∷ [])
  one_name = sym (ap (λ (z : List (List ℕ)). z ++ []) of.named)

  turn_one : (told : Option Names) (old new : Option (List (List ℕ))) (before now : ShelfFaults) (e : InputError Status) → IsRefusal told name Refuses e
      → IsOpenedOrNot name old new before now (e ≡ ReadFault) → OpensRefused {A = A} name old new (Err e) → StopsInTurn told (i ∷ []) (BreaksOff e) old new
  turn_one told old new before now NoFile under opened refused = at_absent [] [] i refl tt (of.absent told under) refused
  turn_one told old new before now ReadFault under (inl none) refused = broken_off [] (i ∷ []) refl tt (inl refl) none.0
  turn_one told old new before now ReadFault under (inr one) refused = broken_after [] [] i refl tt (inl refl) (subst (λ (z : List (List ℕ)). Opens z old new) one_name one.0)
  turn_one told old new before now (Refused s) under opened refused = at_refused [] [] i refl tt (of.refused told s under) (subst (λ (z : List (List ℕ)). Opens z old new) one_name refused)
  turn_one told old new before now OutOfMemory under (inl none) refused = broken_off [] (i ∷ []) refl tt (inr refl) none.0
  turn_one told old new before now OutOfMemory under (inr one) refused = broken_after [] [] i refl tt (inr refl) (subst (λ (z : List (List ℕ)). Opens z old new) one_name one.0)

  module _ {old new : ShelfTold} {before now : ShelfFaults} where
    pub named : {x : A} → ReadsNamed Gives Refuses name old new before now (Ok x) → ReadsName i Gives Refuses name old new before now (Ok x)
    named {x} h = record {
      given = h.answer;
      stopped = tt;
      opened = subst (λ (z : List (List ℕ)). Opens z old.opened new.opened) one_name h.opened;
      prefix = subst (λ (z : List (List ℕ)). OpensPrefix z old.opened new.opened) one_name (1, h.opened);
      accepted = (of.accepted old.names x h.answer, tt);
      in_turn = tt;
      kept = keeps_where (λ enough ran. cc) h.kept;
    }

    pub named_stop : {stop : Stop Status} → ReadsNamed {A = A} Gives Refuses name old new before now (Err stop) → ReadsName {A = A} i Gives Refuses name old new before now (Err stop)
    named_stop {stop} (same, h) = record {
      given = tt;
      stopped = subst (λ (z : List (List ℕ)). StopsFor (RefusesInput old.names name Refuses) (StopsAt z old.opened new.opened before now) stop.name.now stop.why) one_name
          (subst (λ (z : List ℕ). StopsFor (RefusesInput old.names name Refuses) (StopsAt (name ∷ []) old.opened new.opened before now) z stop.why) (sym same)
          (stops_for old.names name Refuses old.opened new.opened before now stop.why h.answer h.opened));
      opened = tt;
      prefix = subst (λ (z : List (List ℕ)). OpensPrefix z old.opened new.opened) one_name (one_refused name old.opened new.opened before now _ h.opened);
      accepted = tt;
      in_turn = turn_one old.names old.opened new.opened before now stop.why h.answer h.opened h.refused;
      kept = keeps_where (λ enough ran. enough (let is : stop.why ≡ OutOfMemory = cc in is)) h.kept;
    }

-- ---- what is made of what was read

-- of what `D` says of it, `P` says too
abbrev pub Goes : {B : Type 0} → (B → Ending → Type 0) → (Option Names → Ending → Type 0) → Option Names → B → Type 0
Goes D P told y = (e : Ending) → D y e → P told e

-- a stop that is said of other names and refusals
pub stops_as : (R Q : Ending → Type 0) (S T : List ℕ → Type 0) (name : List ℕ) (e : InputError Status) → ((d : Ending) → R d → Q d) → ((n : List ℕ) → S n → T n)
    → StopsFor R S name e → StopsFor Q T name e
stops_as R Q S T name NoFile f g h = f _ h
stops_as R Q S T name ReadFault f g h = g name h
stops_as R Q S T name (Refused s) f g h = f _ h
stops_as R Q S T name OutOfMemory f g h = tt

module _ {A B : Type 0} {inputs : List Input} {gives : Option Names → A → Type 0} {refuses : Option Names → Ending → Type 0}
    {D : B → Ending → Type 0} {P : Option Names → Ending → Type 0} where
  -- Inputs are read, then others.
  pub then_reads : {rest : List Input} {part : Option Names → Ending → Type 0} {old mid new : ShelfTold} {before between now : ShelfFaults} {x : A} {r : Result B (Stop Status)}
      → ((e : Ending) → part old.names e → P old.names e) → Reads inputs gives refuses old mid before between (Ok x)
      → Reads rest (Goes D part) part mid new between now r → Reads (inputs ++ rest) (Goes D P) P old new before now r
  then_reads {rest} {part} {old} {mid} {new} {before} {between} {now} {x} {r} f first then = record {
    given = given r (subst (λ (z : Option Names). IfOk r (Goes D part z)) first.kept.names then.given);
    stopped = stopped r (subst (λ (z : Option Names). IfErr r (λ stop. StopsFor (part z) (StopsAt (names_in rest) mid.opened new.opened between now) stop.name.now stop.why)) first.kept.names then.stopped);
    opened = opened r then.opened;
    prefix = subst (λ (z : List (List ℕ)). OpensPrefix z old.opened new.opened) (names_then inputs rest)
        (then_opened (names_in inputs) (names_in rest) old.opened mid.opened new.opened first.opened then.prefix);
    accepted = accepted r (subst (λ (z : Option Names). IfOk r (λ y. AreAccepted z rest)) first.kept.names then.accepted);
    in_turn = in_turn r (subst (λ (z : Option Names). IfErr r (λ stop. StopsInTurn z rest (BreaksOff stop.why) mid.opened new.opened)) first.kept.names then.in_turn);
    kept = keeps_then (λ enough ran. ran) (λ enough. enough) first.kept then.kept;
  } where
    given : (r : Result B (Stop Status)) → IfOk r (Goes D part old.names) → IfOk r (Goes D P old.names)
    given (Ok y) h = λ e d. f e (h e d)
    given (Err stop) h = tt

    stopped : (r : Result B (Stop Status)) → IfErr r (λ stop. StopsFor (part old.names) (StopsAt (names_in rest) mid.opened new.opened between now) stop.name.now stop.why)
        → IfErr r (λ stop. StopsFor (P old.names) (StopsAt (names_in (inputs ++ rest)) old.opened new.opened before now) stop.name.now stop.why)
    stopped (Ok y) h = tt
    stopped (Err stop) h = stops_as _ _ _ _ stop.name.now stop.why f
        (λ name at. subst (λ (z : List (List ℕ)). StopsAt z old.opened new.opened before now name) (names_then inputs rest)
        (stops_later (names_in inputs) (names_in rest) old.opened mid.opened new.opened before between now name first.opened first.kept.later at)) h

    opened : (r : Result B (Stop Status)) → IfOk r (λ y. Opens (names_in rest) mid.opened new.opened) → IfOk r (λ y. Opens (names_in (inputs ++ rest)) old.opened new.opened)
    opened (Ok y) h = opened_then inputs rest old.opened mid.opened new.opened first.opened h
    opened (Err stop) h = tt

    accepted : (r : Result B (Stop Status)) → IfOk r (λ y. AreAccepted old.names rest) → IfOk r (λ y. AreAccepted old.names (inputs ++ rest))
    accepted (Ok y) h = accepted_then old.names inputs rest first.accepted h
    accepted (Err stop) h = tt

    in_turn : (r : Result B (Stop Status)) → IfErr r (λ stop. StopsInTurn old.names rest (BreaksOff stop.why) mid.opened new.opened)
        → IfErr r (λ stop. StopsInTurn old.names (inputs ++ rest) (BreaksOff stop.why) old.opened new.opened)
    in_turn (Ok y) h = tt
    in_turn (Err stop) h = turn_later inputs rest first.accepted first.opened h

  -- Reading stops at one of these inputs.
  pub stops_reading : (rest : List Input) {old new : ShelfTold} {before now : ShelfFaults} {stop : Stop Status} → ((e : Ending) → refuses old.names e → P old.names e)
      → Reads inputs gives refuses old new before now (Err stop) → Reads (inputs ++ rest) (Goes D P) P old new before now (Err stop)
  stops_reading rest {old} {new} {before} {now} {stop} f h = record {
    given = tt;
    stopped = stops_as _ _ _ _ stop.name.now stop.why f
        (λ name at. subst (λ (z : List (List ℕ)). StopsAt z old.opened new.opened before now name) (names_then inputs rest)
        (stops_before (names_in inputs) (names_in rest) old.opened new.opened before now name at)) h.stopped;
    opened = tt;
    prefix = subst (λ (z : List (List ℕ)). OpensPrefix z old.opened new.opened) (names_then inputs rest)
        (prefix_of_more (names_in inputs) (names_in rest) old.opened new.opened h.prefix);
    accepted = tt;
    in_turn = turn_before inputs rest h.in_turn;
    kept = h.kept;
  }

-- A name is read, and a command goes on with what its bytes give.
module _ {A B : Type 0} {Gives : List ℕ → A → Type 0} {Refuses : List ℕ → Status → Type 0} {D : B → Ending → Type 0} (goes_on : Option Names → A → Ending → Type 0) where
  pub then_input : {i : Input} {name : List ℕ} {rest : List Input} {old mid new : ShelfTold} {before between now : ShelfFaults} {x : A} {r : Result B (Stop Status)} → IsInputOf i name Gives Refuses
      → ReadsNamed Gives Refuses name old mid before between (Ok x) → Reads rest (Goes D (λ told. goes_on told x)) (λ told. goes_on told x) mid new between now r
      → Reads (i ∷ rest) (Goes D (λ told. WithInput told name Gives Refuses (goes_on told))) (λ told. WithInput told name Gives Refuses (goes_on told)) old new before now r
  then_input {x = x} of h then = then_reads {part = λ told. goes_on told x} (λ e goes. is_given x h.answer goes) (named of h) then

  pub input_stops : {i : Input} {name : List ℕ} (rest : List Input) {old new : ShelfTold} {before now : ShelfFaults} {stop : Stop Status} → IsInputOf i name Gives Refuses
      → ReadsNamed {A = A} Gives Refuses name old new before now (Err stop) → Reads {A = B} (i ∷ rest) (Goes D (λ told. WithInput told name Gives Refuses (goes_on told))) (λ told. WithInput told name Gives Refuses (goes_on told)) old new before now (Err stop)
  input_stops rest of h = stops_reading rest (λ e refused. is_refused refused) (named_stop of h)

-- Nothing more is read.
pub reads_none : {B : Type 0} {gives : Option Names → B → Type 0} {refuses : Option Names → Ending → Type 0} {told : ShelfTold} {faults : ShelfFaults} {y : B}
    → gives told.names y → Reads [] gives refuses told told faults faults (Ok y)
reads_none {told = told} h = record {
  given = h;
  stopped = tt;
  opened = none_opened told.opened;
  prefix = (0, none_opened told.opened);
  accepted = tt;
  in_turn = tt;
  kept = keeps_all;
}

-- Memory ran out before more is read.
pub runs_short : {B : Type 0} {inputs : List Input} {gives : Option Names → B → Type 0} {refuses : Option Names → Ending → Type 0} {told : ShelfTold} {faults : ShelfFaults}
    (r : Result B (Stop Status)) → IsErrAnd r (λ stop. stop.why ≡ OutOfMemory) → Reads inputs gives refuses told told faults faults r
runs_short (Ok x) short = absurd short
runs_short {B} {inputs} {gives} {refuses} {told} {faults} (Err stop) short = record {
  given = tt;
  stopped = subst (λ (z : InputError Status). StopsFor (refuses told.names) (StopsAt (names_in inputs) told.opened told.opened faults faults) stop.name.now z) (sym short) tt;
  opened = tt;
  prefix = (0, none_opened told.opened);
  accepted = tt;
  in_turn = broken_off [] inputs refl tt (inr short) (none_opened told.opened);
  kept = keeps_all;
}

-- What was read is seen as something else, and so are refusals.
pub reads_into : {A B : Type 0} {inputs : List Input} {gives : Option Names → A → Type 0} {takes : Option Names → B → Type 0} {refuses declines : Option Names → Ending → Type 0}
    {old new : ShelfTold} {before now : ShelfFaults} {x : A} {y : B} → (gives old.names x → takes old.names y)
    → Reads inputs gives refuses old new before now (Ok x) → Reads inputs takes declines old new before now (Ok y)
reads_into f h = record {
  given = f h.given;
  stopped = tt;
  opened = h.opened;
  prefix = h.prefix;
  accepted = h.accepted;
  in_turn = tt;
  kept = keeps_where (λ enough ran. ran) h.kept;
}

pub stop_into : {A B : Type 0} {inputs : List Input} {gives : Option Names → A → Type 0} {takes : Option Names → B → Type 0} {refuses declines : Option Names → Ending → Type 0}
    {old new : ShelfTold} {before now : ShelfFaults} {stop : Stop Status} → ((e : Ending) → refuses old.names e → declines old.names e)
    → Reads {A = A} inputs gives refuses old new before now (Err stop) → Reads {A = B} inputs takes declines old new before now (Err stop)
stop_into {inputs = inputs} {refuses = first} {declines = second} {old = old} {new = new} {before = before} {now = now} {stop = stop} f h = record {
  given = tt;
  stopped = stops_as (first old.names) (second old.names) (StopsAt (names_in inputs) old.opened new.opened before now) (StopsAt (names_in inputs) old.opened new.opened before now) stop.name.now stop.why f (λ name at. at) h.stopped;
  opened = tt;
  prefix = h.prefix;
  accepted = tt;
  in_turn = h.in_turn;
  kept = h.kept;
}

-- An error that `?` handed on.
pub handed_on : {B : Type 0} {inputs : List Input} {gives : Option Names → B → Type 0} {refuses : Option Names → Ending → Type 0}
    {old new : ShelfTold} {before now : ShelfFaults} {stop : Stop Status} (r : Result B (Stop Status)) → IsErrAnd r (λ x. x ≡ stop)
    → Reads inputs gives refuses old new before now (Err stop) → Reads inputs gives refuses old new before now r
handed_on (Ok y) is h = absurd is
handed_on {B} {inputs} {gives} {refuses} {old} {new} {before} {now} {stop} (Err x) is h =
    subst (λ (z : Stop Status). Reads {A = B} inputs gives refuses old new before now (Err z)) (sym is) h

-- A list of calendars that was refused, before anything is opened.
pub list_refused : {B : Type 0} {list : List ℕ} {goes_on : Option Names → List AddressParts → Ending → Type 0} {gives : Option Names → B → Type 0} {told : ShelfTold}
    {faults : ShelfFaults} (rest : List Input) {stop : Stop Status} → StopsAtList list stop
    → Reads {A = B} (calendars_of list ∷ rest) gives (λ told. WithList list (goes_on told)) told told faults faults (Err stop)
list_refused {list = list} {goes_on = goes_on} {told = told} {faults = faults} rest {stop} h = record {
  given = tt;
  stopped = subst (λ (z : List ℕ). StopsFor (WithList list (goes_on told.names)) (StopsAt (names_in rest) told.opened told.opened faults faults) z stop.why) (sym h.name) (by stop.why h.why);
  opened = tt;
  prefix = (0, none_opened told.opened);
  accepted = tt;
  in_turn = turn stop.why h.why;
  kept = keeps_all;
} where
  by : (e : InputError Status) → MayRefuseList list e → StopsFor (WithList list (goes_on told.names)) (StopsAt (names_in rest) told.opened told.opened faults faults) [] e
  by NoFile h = absurd h
  by ReadFault h = absurd h
  by (Refused s) (bad place https bad_address is) = is_bad place https bad_address (ap (refused []) is)
  by OutOfMemory h = tt

  turn : (e : InputError Status) → MayRefuseList list e → StopsInTurn told.names (calendars_of list ∷ rest) (BreaksOff e) told.opened told.opened
  turn NoFile h = absurd h
  turn ReadFault h = absurd h
  turn (Refused s) h = at_refused [] rest (calendars_of list) refl tt (s, h) (none_opened told.opened)
  turn OutOfMemory h = broken_off [] (calendars_of list ∷ rest) refl tt (inr refl) (none_opened told.opened)

-- A list of calendars was read, and then inputs.
pub after_list : {B : Type 0} {list : List ℕ} {calendars : List AddressParts} {inputs : List Input} {gives : Option Names → B → Type 0} {refuses : Option Names → Ending → Type 0}
    {old new : ShelfTold} {before now : ShelfFaults} {r : Result B (Stop Status)} → IsListOf list calendars → Reads inputs gives refuses old new before now r
    → Reads (calendars_of list ∷ inputs) gives refuses old new before now r
after_list {B} {list} {calendars} {inputs} {old = old} {new = new} {r = r} is h = record {
  given = h.given;
  stopped = h.stopped;
  opened = h.opened;
  prefix = h.prefix;
  accepted = accepted r h.accepted;
  in_turn = in_turn r h.in_turn;
  kept = h.kept;
} where
  accepted : (r : Result B (Stop Status)) → IfOk r (λ y. AreAccepted old.names inputs) → IfOk r (λ y. AreAccepted old.names (calendars_of list ∷ inputs))
  accepted (Ok y) h = ((calendars, is), h)
  accepted (Err stop) h = tt

  in_turn : (r : Result B (Stop Status)) → IfErr r (λ stop. StopsInTurn old.names inputs (BreaksOff stop.why) old.opened new.opened)
      → IfErr r (λ stop. StopsInTurn old.names (calendars_of list ∷ inputs) (BreaksOff stop.why) old.opened new.opened)
  in_turn (Ok y) h = tt
  in_turn (Err stop) h = turn_later (calendars_of list ∷ []) inputs ((calendars, is), tt) (none_opened old.opened) h
