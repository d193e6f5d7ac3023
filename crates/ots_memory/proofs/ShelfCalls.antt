-- Lemmas on what the calls of a shelf in memory do.
use Rattle.std.proofs.Common.{◌≡◌, ◌≢◌, ◌<◌, ◌≤◌, ◌+◌, ℕ, zero, suc, List, [], ◌∷◌, ◌++◌, length, take, get_or, set, Option, None, Some, MatchOption, is_some, false, refl, sym, ap, ◌∙◌, arith, IsTrue, All}
use Rattle.std.proofs.Common.{map as map_list}
use Rattle.std.proofs.Math.ListN.{length-set}
use Rattle.std.proofs.lemmas.Bool.{false≢true}
use Rattle.std.proofs.lemmas.Grind.{common_steps}
use Rattle.std.proofs.lemmas.List.{map-append, get_or_read, length_push}
use Rattle.std.specs.FinMap as map
use Rattle.std.specs.Prelude.{string_bytes}
use Rattle.ots_memory.proofs.EntryNames.{get-names_of, name_at-is, bytes_at-is, names_of-set, names_of-push, name_at-push_last, distinct-push, found_own, distinct_first}
use Rattle.std.proofs.lemmas.List.Elements.{All-push}
use Rattle.ots_memory.proofs.SlotStates.{Grows, Grows-push, Grows-set, distinct-set, use_stays, sound_stays, names_stay, each-set, each-push, reading_below, writing_below, slot_past, slot-push_last, slot-push_other}
use Rattle.ots_memory.specs.Entries.{names_of, name_at, bytes_at, use_of_state, IsSound, IsConsistent, IsWithin, AddsEntry}
use Rattle.ots_outside.specs.Shelf.{ShelfTold, writing, is_reading, is_writing, name_of, with_more, Opens, Creates}
use Rattle.ots_memory.specs.declared.entries.Entry.{Entry}
use Rattle.ots_memory.specs.declared.entries.SlotState.{SlotState}
use Rattle.ots_memory.specs.declared.entries.SlotState.TheVariants.{Closed, Reading, Writing}

pub not_found : {P : Type 0} (Q : ℕ → Type 0) (found : Option ℕ) → MatchOption found P Q → is_some found ≡ false → P
not_found Q None cases none = cases
not_found Q (Some i) cases none = absurd (false≢true (sym none))

-- What these entries, slots and opened places tell as a shelf.
abbrev pub shelf_of : List Entry → List SlotState → List ℕ → ShelfTold
shelf_of es slots opened_places = record {
  names = Some (names_of es);
  opened = Some (map_list (name_at es) opened_places);
  slots = λ k. use_of_state es (get_or slots k Closed);
  short = 0;
}

-- ---- a new entry

pub grows : (es fs : List Entry) (name bytes : List ℕ) (most : ℕ) → AddsEntry es fs name bytes most → Grows es fs
grows es fs name bytes most adds = rw adds.added (Grows-push es adds.entry)

pub longer : (es fs : List Entry) (name bytes : List ℕ) (most : ℕ) → AddsEntry es fs name bytes most → length fs ≡ length es + 1
longer es fs name bytes most adds = rw adds.added (length_push es adds.entry)

pub added_names : (es fs : List Entry) (name bytes : List ℕ) (most : ℕ) → AddsEntry es fs name bytes most → map.get (names_of es) name ≡ None
    → names_of fs ≡ map.insert (names_of es) name bytes
added_names es fs name bytes most adds none =
    rw adds.added (names_of-push es adds.entry name bytes adds.named adds.holds (sym (get-names_of es name) ∙ none))

pub added_consistent : (es fs : List Entry) (states : List SlotState) (opened_places name bytes : List ℕ) (most : ℕ) → AddsEntry es fs name bytes most
    → map.get (names_of es) name ≡ None → IsConsistent es states opened_places → IsConsistent fs states opened_places
added_consistent es fs states opened_places name bytes most adds none old =
    let long : length fs ≡ length es + 1 = longer es fs name bytes most adds in
    record {
      distinct = rw adds.added (distinct-push es adds.entry name old.distinct adds.named (sym (get-names_of es name) ∙ none));
      sound = λ k. sound_stays es fs _ (grows es fs name bytes most adds) (old.sound k);
      in_range = λ k fits. let below = old.in_range k fits in omega arith;
    }

pub added_within : (es fs : List Entry) (name bytes : List ℕ) (most : ℕ) → AddsEntry es fs name bytes most → All (IsWithin most) es → All (IsWithin most) fs
added_within es fs name bytes most adds all = rw adds.added (All-push (IsWithin most) es adds.entry all adds.within)

-- ---- an opened name

pub opens : (es : List Entry) (slots slots' : List SlotState) (opened_places opened_places' : List ℕ) (i : ℕ) (name : List ℕ) (slot end : ℕ)
    → name_at es i ≡ name → map.get (names_of es) name ≡ Some (bytes_at es i) → slot ≡ length slots → end ≡ length (bytes_at es i)
    → slots' ≡ slots ++ Reading i 0 end ∷ [] → opened_places' ≡ opened_places ++ i ∷ []
    → Opens name slot (shelf_of es slots opened_places) (shelf_of es slots' opened_places')
opens es slots slots' opened_places opened_places' i name slot end named found slot_is end_is slots_are opened_are =
    let past : get_or slots slot Closed ≡ Closed = rw slot_is (slot_past slots) in
    let stays : (k : ℕ) → k ≢ slot → get_or slots' k Closed ≡ get_or slots k Closed =
    λ k other. rw slots_are (slot-push_other slots (Reading i 0 end) k (λ e. other (e ∙ sym slot_is))) in
    let last : get_or slots' slot Closed ≡ Reading i 0 end = rw (slots_are, slot_is) (slot-push_last slots (Reading i 0 end)) in
    record {
      was_closed = ap (use_of_state es) past;
      is_open = rw last refl;
      left = rw last (ap Some (take_all_of (bytes_at es i) end end_is) ∙ sym found);
      names = refl;
      opened = ap Some (rw opened_are (map-append (name_at es) opened_places (i ∷ []) ∙ ap (λ n. map_list (name_at es) opened_places ++ n ∷ []) named));
      others = λ k other. ap (use_of_state es) (stays k other);
    } where
      take_all_of : (xs : List ℕ) (n : ℕ) → n ≡ length xs → take n xs ≡ xs
      take_all_of xs n is = grind (arith, common_steps)

pub opened_more : (opened_places opened_places' : List ℕ) (i n : ℕ) → opened_places' ≡ opened_places ++ i ∷ [] → i < n → ((k : ℕ) → k < length opened_places → get_or opened_places k 0 < n)
    → (k : ℕ) → k < length opened_places' → get_or opened_places' k 0 < n
opened_more opened_places opened_places' i n are below all = rw are (more opened_places all) where
  more : (opened_places : List ℕ) → ((k : ℕ) → k < length opened_places → get_or opened_places k 0 < n) → (k : ℕ) → k < length (opened_places ++ i ∷ []) → get_or (opened_places ++ i ∷ []) k 0 < n
  more [] all zero fits = below
  more [] all (suc k) fits = absurd (omega arith)
  more (x ∷ opened_places) all zero fits = all zero (omega arith)
  more (x ∷ opened_places) all (suc k) fits = more opened_places (λ k fits. all (suc k) (omega arith)) k (omega arith)

pub opened_consistent : (es : List Entry) (slots slots' : List SlotState) (opened_places opened_places' : List ℕ) (i end : ℕ) → i < length es → end ≡ length (bytes_at es i)
    → slots' ≡ slots ++ Reading i 0 end ∷ [] → opened_places' ≡ opened_places ++ i ∷ [] → IsConsistent es slots opened_places → IsConsistent es slots' opened_places'
opened_consistent es slots slots' opened_places opened_places' i end below end_is slots_are opened_are old = record {
  distinct = old.distinct;
  sound = rw slots_are (each-push (IsSound es) slots (Reading i 0 end) record { entry = omega arith; place = omega arith; end = omega arith } old.sound);
  in_range = opened_more opened_places opened_places' i (length es) opened_are below old.in_range;
}

-- ---- an opened name that is read

-- Where a slot that is read stands.
pub record IsReadAt (es : List Entry) (slots : List SlotState) (at entry place end : ℕ) : Type 0 where
  pub below : at < length slots
  pub is : get_or slots at Closed ≡ Reading entry place end
  pub sound : IsSound es (Reading entry place end)

pub read_at : (es : List Entry) (slots : List SlotState) (opened_places : List ℕ) (at entry place end : ℕ) (s : SlotState)
    → IsTrue (is_reading (use_of_state es (get_or slots at Closed))) → s ≡ get_or slots at s → s ≡ Reading entry place end
    → IsConsistent es slots opened_places → IsReadAt es slots at entry place end
read_at es slots opened_places at entry place end s is_open read is_reading_at old =
    let below : at < length slots = reading_below es slots at is_open in
    let is : get_or slots at Closed ≡ Reading entry place end = sym (get_or_read slots at s below read Closed) ∙ is_reading_at in
    record { below = below; is = is; sound = rw is at (old.sound at) }

pub read_consistent : (es : List Entry) (slots : List SlotState) (opened_places : List ℕ) (at entry place end n : ℕ) → IsReadAt es slots at entry place end → place + n ≤ end
    → IsConsistent es slots opened_places → IsConsistent es (set slots at (Reading entry (place + n) end)) opened_places
read_consistent es slots opened_places at entry place end n here fits old = record {
  distinct = old.distinct;
  sound = each-set (IsSound es) slots at (Reading entry (place + n) end) record { entry = here.sound.entry; place = fits; end = here.sound.end } old.sound;
  in_range = old.in_range;
}

-- ---- a created name

pub creates : (es fs : List Entry) (slots slots' : List SlotState) (opened_places name : List ℕ) (most slot last : ℕ)
    → AddsEntry es fs name [] most → map.get (names_of es) name ≡ None → slot ≡ length slots → last ≡ length es → slots' ≡ slots ++ Writing last ∷ []
    → IsConsistent es slots opened_places
    → Creates name slot (shelf_of es slots opened_places) (shelf_of fs slots' opened_places)
creates es fs slots slots' opened_places name most slot last adds none slot_is last_is slots_are old =
    let grew = grows es fs name [] most adds in
    let past : get_or slots slot Closed ≡ Closed = rw slot_is (slot_past slots) in
    let stays : (k : ℕ) → k ≢ slot → get_or slots' k Closed ≡ get_or slots k Closed =
    λ k other. rw slots_are (slot-push_other slots (Writing last) k (λ e. other (e ∙ sym slot_is))) in
    let now : get_or slots' slot Closed ≡ Writing last = rw (slots_are, slot_is) (slot-push_last slots (Writing last)) in
    record {
      was_closed = ap (use_of_state es) past;
      is_open = rw now refl;
      in_use = λ told. rw now (ap writing (rw (adds.added, last_is) (name_at-push_last es adds.entry) ∙ adds.named));
      names = ap Some (added_names es fs name [] most adds none);
      opened = ap Some (names_stay es fs opened_places grew old.in_range);
      others = λ k other. ap (use_of_state fs) (stays k other) ∙ use_stays es fs _ grew (old.sound k);
    }

pub created_consistent : (es fs : List Entry) (slots slots' : List SlotState) (opened_places name : List ℕ) (most last : ℕ) → AddsEntry es fs name [] most
    → map.get (names_of es) name ≡ None → last ≡ length es → slots' ≡ slots ++ Writing last ∷ [] → IsConsistent es slots opened_places → IsConsistent fs slots' opened_places
created_consistent es fs slots slots' opened_places name most last adds none last_is slots_are old =
    let long : length fs ≡ length es + 1 = longer es fs name [] most adds in
    let now = added_consistent es fs slots opened_places name [] most adds none old in
    record {
      distinct = now.distinct;
      sound = rw slots_are (each-push (IsSound fs) slots (Writing last) record { entry = omega arith; place = omega arith; end = omega arith } now.sound);
      in_range = now.in_range;
    }

-- ---- more bytes for a created name

-- What a write to a slot leaves.
pub record Wrote (es fs : List Entry) (slots : List SlotState) (opened_places : List ℕ) (at : ℕ) (piece : List ℕ) : Type 0 where
  pub consistent : IsConsistent fs slots opened_places
  pub names : names_of fs ≡ with_more (name_of (use_of_state es (get_or slots at Closed))) piece (names_of es)
  pub opened_stay : map_list (name_at fs) opened_places ≡ map_list (name_at es) opened_places
  pub slots_stay : (k : ℕ) → use_of_state fs (get_or slots k Closed) ≡ use_of_state es (get_or slots k Closed)

pub record IsWrittenAt (es : List Entry) (slots : List SlotState) (at i : ℕ) : Type 0 where
  pub is : get_or slots at Closed ≡ Writing i
  pub below : i < length es

pub written_at : (es : List Entry) (slots : List SlotState) (opened_places : List ℕ) (at i : ℕ) (s : SlotState)
    → IsTrue (is_writing (use_of_state es (get_or slots at Closed))) → s ≡ get_or slots at s → s ≡ Writing i
    → IsConsistent es slots opened_places → IsWrittenAt es slots at i
written_at es slots opened_places at i s is_open read is_writing_i old =
    let is : get_or slots at Closed ≡ Writing i = sym (get_or_read slots at s (writing_below es slots at is_open) read Closed) ∙ is_writing_i in
    let here : IsSound es (Writing i) = rw is at (old.sound at) in
    let needs : suc i ≤ length es = here.entry in
    record { is = is; below = omega arith }

-- The name of the slot is there, and these are its bytes.
pub written_name : (es : List Entry) (slots : List SlotState) (opened_places : List ℕ) (at i : ℕ) (old : Entry) → IsWrittenAt es slots at i → old ≡ get_or es i old
    → IsConsistent es slots opened_places → map.get (names_of es) (name_of (use_of_state es (get_or slots at Closed))) ≡ Some old.bytes.items
written_name es slots opened_places at i old here old_is was =
    rw here.is (get-names_of es (name_at es i) ∙ found_own es i here.below (distinct_first es i here.below was.distinct) ∙ ap Some (bytes_at-is es i old here.below old_is))

pub wrote : (es : List Entry) (slots : List SlotState) (opened_places : List ℕ) (at i : ℕ) (old e : Entry) (piece : List ℕ)
    → IsWrittenAt es slots at i → old ≡ get_or es i old → string_bytes e.name ≡ string_bytes old.name → e.bytes.items ≡ old.bytes.items ++ piece
    → IsConsistent es slots opened_places → Wrote es (set es i e) slots opened_places at piece
wrote es slots opened_places at i old e piece here old_is named grew was =
    let is = here.is in
    let below = here.below in
    let named_i : string_bytes e.name ≡ name_at es i = named ∙ sym (name_at-is es i old below old_is) in
    let grew_i : e.bytes.items ≡ bytes_at es i ++ piece = grew ∙ ap (λ bytes. bytes ++ piece) (sym (bytes_at-is es i old below old_is)) in
    let more : Grows es (set es i e) = Grows-set es i e piece named_i grew_i in
    let long : length (set es i e) ≡ length es = length-set es i e in
    record {
      consistent = record {
        distinct = distinct-set es i e named_i was.distinct;
        sound = λ k. sound_stays es (set es i e) _ more (was.sound k);
        in_range = λ k fits. let h = was.in_range k fits in omega arith;
      };
      names = rw is (names_of-set es i e piece below was.distinct named_i grew_i);
      opened_stay = names_stay es (set es i e) opened_places more was.in_range;
      slots_stay = λ k. use_stays es (set es i e) _ more (was.sound k);
    }
