-- What serving names is read, and what comes of serving.
use Rattle.std.proofs.Common.{◌≡◌, ◌≤◌, ◌+◌, ◌⊎◌, inl, inr, ℕ, List, [], ◌∷◌, ◌++◌, map, length, take, Option, Some, None, refl, sym, ap, subst, ◌∙◌, append-nil, append_assoc, length-append, arith}
use Rattle.std.proofs.Math.Seq.{take-append-add}
use Rattle.std.specs.Prelude.{Ok, Err}
use Rattle.std.specs.List.{AllByRecursion}
use Rattle.ots_outside.specs.Shelf.{Names, ShelfFaults, ShelfTold}
use Rattle.ots_outside.specs.Streams.{Takes, Takes-trans}
use Rattle.ots_journal.specs.declared.entry.Entry.{Entry}
use Rattle.ots_journal.specs.Image.{Stands}
use Rattle.ots_calendar_inputs.specs.Address.{IsOneAddress, MayRefuseAddress}
use Rattle.ots_inputs.specs.Input.{ReadsNamed}
use Rattle.ots_calendar_inputs.specs.Key.{GivesKey, RefusesKey}
use Rattle.ots_inputs.specs.declared.error.InputError.{InputError}
use Rattle.ots_inputs.specs.declared.error.InputError.TheVariants as input
use Rattle.ots_inputs.specs.declared.error.Stop.{Stop}
use Rattle.ots_calendar_words.specs.Words.{ServingAsked}
use Rattle.ots_connection.specs.declared.service.Service.{Service}
use Rattle.ots_store.specs.Order.{records_of}
use Rattle.ots_store.specs.Records.{IsRecord, Record, entry_of, record_of}
use Rattle.ots_store.specs.Store.{InRecords, StoreStands, StoreTold}
use Rattle.ots_outside.specs.Link.{LinkTold}
use Rattle.ots_shared.proofs.Begins.{starts_self}
use Rattle.ots_shared.specs.Records.{StartsWith}
use Rattle.ots_workers.specs.Returned.{AllWithin}
use Rattle.ots_calendar_text.specs.Lines.{listening_line}
use Rattle.ots_calendar_text.specs.declared.status.DaemonStatus.{DaemonStatus}
use Rattle.ots_calendar_text.specs.declared.status.DaemonStatus.TheVariants.{Done, WriteFault, AcceptFault, OutOfMemory}
use Rattle.ots_calendar_endings.specs.With.{WithInput, is_given, no_file, refuses, is_uri, no_uri}
use Rattle.ots_calendar_serve.specs.Serve.{HasService, WithService}
use Rattle.ots_calendar_endings.specs.RunEnd.{Comes, as_defined, no_memory, RunEnd, Ends, declined, nowhere, refused, status_of}
use Rattle.ots_opening.specs.Images.{StandsAfter}
use Rattle.ots_calendar_endings.specs.Printed.{PrintsLast}
use Rattle.ots_workers.specs.declared.serving.ServeEnd.{ServeEnd as Served}
use Rattle.ots_workers.specs.declared.serving.ServeEnd.TheVariants as ended
use Rattle.ots_calendar_serve.specs.Serve.{Acknowledges, EndsServing, is_done, accept_failed, no_memory as out_of_memory, serving_status, Listens, ServeAnswers, not_listening, not_printed, served, Tells, ended_text}
use Rattle.ots_calendar_serve.specs.ServeReading.{ReadsService, no_service}
use Rattle.ots_calendar_endings.proofs.Inputs.{comes_map, input_comes, reads_given, reads_nothing, reads_refused}
use Rattle.ots_inputs.specs.Under.{HasUnder}
use Rattle.ots_inputs.specs.Opened.{StopsAt}

-- ---- reading

module _ (asked : ServingAsked) (old new : ShelfTold) (a c : ShelfFaults) (uri : List ℕ) (one : IsOneAddress asked.uri uri) where
  pub service_given : (key : List ℕ) (service : Service) → service.key ≡ key → service.uri ≡ uri → ReadsNamed GivesKey RefusesKey asked.key old new a c (Ok key) → ReadsService asked old new a c (Ok service)
  service_given key service key_is uri_is h = record {
    answer = (
      subst (IsOneAddress asked.uri) (sym uri_is) one,
      subst (λ (z : List ℕ). HasUnder old.names asked.key (λ bytes. GivesKey bytes z)) (sym key_is) h.answer,
    );
    shelf = λ s ran. reads_given key s h;
  }

  -- the key file is refused
  pub key_stops : (stop : Stop DaemonStatus) → ReadsNamed {A = List ℕ} GivesKey RefusesKey asked.key old new a c (Err stop) → ReadsService asked old new a c (Err stop)
  key_stops stop h = record {
    answer = comes_map (refused stop.name.now (status_of stop.why)) (λ w. is_uri uri one w) (λ name at. at) (λ none. none)
        (input_comes GivesKey RefusesKey (no_service uri) asked.key old new a c ⊥ stop h);
    shelf = λ s ran. reads_refused stop s ran h;
  }

-- the address is refused
pub address_stops : (asked : ServingAsked) (told : ShelfTold) (faults : ShelfFaults) (stop : Stop DaemonStatus) → stop.name.now ≡ [] → MayRefuseAddress asked.uri stop.why → ReadsService asked told told faults faults (Err stop)
address_stops asked told faults stop none may = record {
  answer = subst (λ (z : List ℕ). Comes (WithService told.names asked no_service) (StopsAt (asked.key ∷ []) told.opened told.opened faults faults) ⊥ (refused z (status_of stop.why))) (sym none) (by stop.why may);
  shelf = λ s ran. reads_nothing (asked.key ∷ []) told faults s;
}
  where
    by : (e : InputError DaemonStatus) → MayRefuseAddress asked.uri e → Comes (WithService told.names asked no_service) (StopsAt (asked.key ∷ []) told.opened told.opened faults faults) ⊥ (refused [] (status_of e))
    by input.NoFile may = absurd may
    by input.ReadFault may = absurd may
    by (input.Refused s) may = as_defined (no_uri s may refl)
    by input.OutOfMemory may = no_memory refl

pub service_stops : (names : Option Names) (asked : ServingAsked) (goes_on : List ℕ → List ℕ → RunEnd → Type 0) (e : RunEnd) → WithService names asked no_service e → WithService names asked goes_on e
service_stops names asked goes_on e (no_uri s refused is) = no_uri s refused is
service_stops names asked goes_on e (is_uri uri one w) = is_uri uri one (key w)
  where
    key : WithInput names asked.key GivesKey RefusesKey (no_service uri) e → WithInput names asked.key GivesKey RefusesKey (goes_on uri) e
    key (is_given k has goes) = absurd goes
    key (no_file under is) = no_file under is
    key (refuses s has is) = refuses s has is

-- what serving names is in order
pub is_service : (names : Option Names) (asked : ServingAsked) (service : Service) → IsOneAddress asked.uri service.uri × HasUnder names asked.key (λ bytes. GivesKey bytes service.key) → HasService names asked
is_service names asked service (one, has_key) = record { uri = service.uri; one = one; key = service.key; has_key = has_key }

-- ---- what the journal holds then

-- entries are the spellings of the records that they spell
spelled_again : (entries : List Entry) → AllByRecursion IsRecord entries → entries ≡ map entry_of (records_of entries)
spelled_again [] each = refl
spelled_again (e ∷ entries) each = ap (λ (z : Entry). z ∷ entries) each.0.spelled ∙ ap (λ (z : List Entry). entry_of (record_of e) ∷ z) (spelled_again entries each.1)

map_append : (xs ys : List Record) → map entry_of (xs ++ ys) ≡ map entry_of xs ++ map entry_of ys
map_append [] ys = refl
map_append (x ∷ xs) ys = ap (λ (z : List Entry). entry_of x ∷ z) (map_append xs ys)

-- entries whose records begin with those of others begin with these
begin_with : (old new : List Entry) → InRecords old → InRecords new → StartsWith (records_of new) (records_of old) → (more : List Entry) × (new ≡ old ++ more)
begin_with old new are now (more, is) =
    (map entry_of more, spelled_again new now.each ∙ ap (map entry_of) is ∙ map_append (records_of old) more ∙ ap (λ (z : List Entry). z ++ map entry_of more) (sym (spelled_again old are.each)))

pub store_keeps : {D : Type 0} (bytes : D → Option (List ℕ)) (images : D → List ℕ → Type 0) (old new : StoreTold D) → StoreStands bytes images old → StoreStands bytes images new → StartsWith new.records old.records
    → (c : List ℕ) → images new.journal.disk c → StandsAfter old.journal.entries c
store_keeps bytes images old new stood stands grown c image = by (stands.journal.either c image)
  where
    prefix : (more : List Entry) × (new.journal.entries ≡ old.journal.entries ++ more)
    prefix = begin_with old.journal.entries new.journal.entries stood.are stands.are
        (subst (λ (z : List Record). StartsWith z (records_of old.journal.entries)) stands.records (subst (λ (z : List Record). StartsWith new.records z) stood.records grown))

    by : Stands c new.journal.entries ⊎ Stands c (new.journal.entries ++ new.journal.flight) → StandsAfter old.journal.entries c
    by (inl h) = (prefix.0, subst (λ (z : List Entry). Stands c z) prefix.1 h)
    by (inr h) = (prefix.0 ++ new.journal.flight, subst (λ (z : List Entry). Stands c z) (ap (λ (z : List Entry). z ++ new.journal.flight) prefix.1 ∙ append_assoc old.journal.entries prefix.0 new.journal.flight) h)

-- what was acknowledged is in every image
pub acknowledges : {D L : Type 0} (bytes : D → Option (List ℕ)) (images : D → List ℕ → Type 0) (store : StoreTold D) → StoreStands bytes images store → (disk : D) → disk ≡ store.journal.disk
    → (told : L → Option LinkTold) (faults : L → ℕ) (links : Option (List L)) → AllWithin store.records told faults links → Acknowledges told faults links (images disk)
acknowledges bytes images store stands disk same told faults links answered = record {
  entries = store.journal.entries;
  answered = subst (λ (z : List Record). AllWithin z told faults links) stands.records answered;
  kept = λ c image. store_keeps bytes images store store stands stands (starts_self store.records) c (subst (λ d. images d c) same image);
}

-- ---- what is printed

-- a text was printed, where the run ends as done
pub printed_done : (printing : Type 0) (s : DaemonStatus) (text : List ℕ) (a b : Option (List ℕ)) (r : DaemonStatus) → PrintsLast printing s text a b r → r ≡ Done → s ≡ Done
printed_done printing s text a b r (inl (whole, is)) done = sym is ∙ done
printed_done printing s text a b r (inr (fault, prefix, is)) done = let not : WriteFault ≡ Done = sym is ∙ done in cc

-- where it could not listen, it is not done
pub unheard_not_done : (port : ℕ) (failed printing : Type 0) (a b : Option (List ℕ)) (r : DaemonStatus) → Listens port failed printing a b (Err r) → r ≡ Done → ⊥
unheard_not_done port failed printing a b r (inl (fault, prefix, is)) done = let not : WriteFault ≡ Done = sym is ∙ done in cc
unheard_not_done port failed printing a b r (inr (fault, printed)) done =
    let not : AcceptFault ≡ Done = printed_done printing AcceptFault _ a b r printed done in cc

-- serving itself was done then
pub done_ended : (e : Served) → serving_status e ≡ Done → e ≡ ended.Done
done_ended ended.Done is = refl
done_ended ended.AcceptFault is = absurd (let not : AcceptFault ≡ Done = is in cc)
done_ended ended.OutOfMemory is = absurd (let not : OutOfMemory ≡ Done = is in cc)

-- one text after another
pub prints_after : (later printing : Type 0) (s : DaemonStatus) (first second : List ℕ) (a b c : Option (List ℕ)) (r : DaemonStatus) → (later → printing) → Takes a b first → PrintsLast later s second b c r
    → PrintsLast printing s (first ++ second) a c r
prints_after later printing s first second a b c r rose taken (inl (whole, is)) = inl (Takes-trans a b c first second taken whole, is)
prints_after later printing s first second a b c r rose taken (inr (fault, (n, le, prefix), is)) = inr (
  rose fault,
  (
    length first + n,
    subst (λ (z : ℕ). length first + n ≤ z) (sym (length-append first second)) (omega (arith, le)),
    subst (λ (z : List ℕ). Takes a c z) (sym (take-append-add first second n)) (Takes-trans a b c first (take n second) taken prefix),
  ),
  is,
)

module _ (over : Option ℕ → Type 0) (answered failed printing : Type 0) (count : ℕ) (asked : ServingAsked) (gate : ℕ) (entries : List Entry) (disk : Type 0) (images : List ℕ → Type 0) where
  -- it served
  pub served_ends : (later : Type 0) (a b c : Option (List ℕ)) (r : DaemonStatus) → (later → printing) → Takes a b (listening_line asked.port)
      → Tells (over asked.accept) answered failed later count b c r → Ends (Comes (ServeAnswers over answered failed printing count asked gate entries) nowhere disk) images printing a c r
  served_ends later a b c r rose taken t = record {
    ending = record { status = t.status; text = listening_line asked.port ++ ended_text count t.status; entries = None };
    comes = as_defined (served t.status t.ends refl);
    stand = tt;
    printed = prints_after later printing t.status (listening_line asked.port) (ended_text count t.status) a b c r rose taken t.printed;
  }

  -- it did not
  pub unheard_ends : (a c : Option (List ℕ)) (r : DaemonStatus) → ((b : List ℕ) → images b → Stands b entries) → Listens asked.port failed printing a c (Err r)
      → Ends (Comes (ServeAnswers over answered failed printing count asked gate entries) nowhere disk) images printing a c r
  unheard_ends a c r stand (inl (fault, prefix, is)) = record {
    ending = record { status = WriteFault; text = listening_line asked.port; entries = Some entries };
    comes = as_defined (not_printed fault refl);
    stand = stand;
    printed = inr (fault, prefix, is);
  }
  unheard_ends a c r stand (inr (fault, printed)) = record {
    ending = declined entries AcceptFault;
    comes = as_defined (not_listening fault refl);
    stand = stand;
    printed = printed;
  }

-- what is after those found
pub nothing_more : (entries : List Entry) (c : List ℕ) → Stands c entries → StandsAfter entries c
nothing_more entries c stands = ([], subst (λ (z : List Entry). Stands c z) (sym (append-nil entries)) stands)

-- the same has counted no fewer faults
pub no_fewer : {D : Type 0} (faults : D → ℕ) (old new : D) → new ≡ old → faults old ≤ faults new
no_fewer faults old new same = subst (λ z. faults old ≤ faults z) (sym same) (omega arith)

pub ends_so : (over answered failed : Type 0) (s : DaemonStatus) (e : Served) → s ≡ serving_status e → (e ≡ ended.Done → over) → (e ≡ ended.Done → answered) → (e ≡ ended.AcceptFault → failed) → EndsServing over answered failed s
ends_so over answered failed s ended.Done is done links fault = is_done (done refl) (links refl) is
ends_so over answered failed s ended.AcceptFault is done links fault = accept_failed (fault refl) is
ends_so over answered failed s ended.OutOfMemory is done links fault = out_of_memory is
