-- Lemmas on slots of entries that grow.
use Rattle.std.proofs.Common.{◌≡◌, ◌≢◌, ◌<◌, ◌≤◌, ◌+◌, ◌-◌, ℕ, zero, suc, List, [], ◌∷◌, ◌++◌, length, take, drop, get_or, set, Some, refl, sym, ap, ◌∙◌, arith, length-append, length-take, IsTrue, get_or-set_same}
use Rattle.std.proofs.Common.{map as map_list}
use Rattle.std.proofs.Math.ListN.{length-set, drop_of_length-le}
use Rattle.std.proofs.lemmas.Bool.{false≢true}
use Rattle.std.proofs.lemmas.List.{take-append-le, drop-take}
use Rattle.std.specs.Io.KnownBytes.{IsAtEnd}
use Rattle.std.specs.Prelude.{string_bytes}
use Rattle.ots_memory.proofs.EntryNames.{name_at-push, bytes_at-push}
use Rattle.ots_outside.proofs.Inputs.{next_and_rest}
use Rattle.ots_memory.specs.Entries.{name_at, bytes_at, use_of_state, IsSound, IsDistinct}
use Rattle.ots_outside.specs.Streams.{Gives}
use Rattle.ots_outside.specs.Shelf.{reading, writing, is_reading, is_writing, left_of}
use Rattle.ots_memory.specs.declared.entries.Entry.{Entry}
use Rattle.ots_memory.specs.declared.entries.SlotState.{SlotState}
use Rattle.ots_memory.specs.declared.entries.SlotState.TheVariants.{Closed, Reading, Writing}

-- ---- what slots see of entries that grow

pub record Grows (es fs : List Entry) : Type 0 where
  pub longer : length es ≤ length fs
  pub names : (i : ℕ) → i < length es → name_at fs i ≡ name_at es i
  pub bytes : (i n : ℕ) → i < length es → n ≤ length (bytes_at es i) → (n ≤ length (bytes_at fs i)) × (take n (bytes_at fs i) ≡ take n (bytes_at es i))

pub Grows-push : (es : List Entry) (e : Entry) → Grows es (es ++ e ∷ [])
Grows-push es e = record {
  longer = rw length-append (omega arith);
  names = λ i below. name_at-push es e i below;
  bytes = λ i n below fits. rw (bytes_at-push es e i below) (fits, refl);
}

names-set : (es : List Entry) (i : ℕ) (e : Entry) → string_bytes e.name ≡ name_at es i → (j : ℕ) → name_at (set es i e) j ≡ name_at es j
names-set [] i e named j = refl
names-set (y ∷ es) zero e named zero = named
names-set (y ∷ es) zero e named (suc j) = refl
names-set (y ∷ es) (suc i) e named zero = refl
names-set (y ∷ es) (suc i) e named (suc j) = names-set es i e named j

bytes-set : (es : List Entry) (i : ℕ) (e : Entry) (more : List ℕ) → e.bytes.items ≡ bytes_at es i ++ more → (j n : ℕ) → j < length es → n ≤ length (bytes_at es j)
    → (n ≤ length (bytes_at (set es i e) j)) × (take n (bytes_at (set es i e) j) ≡ take n (bytes_at es j))
bytes-set [] i e more grew j n below fits = absurd (omega arith)
bytes-set (y ∷ es) zero e more grew zero n below fits =
    rw grew ((rw length-append (omega arith)), take-append-le n y.bytes.items more fits)
bytes-set (y ∷ es) zero e more grew (suc j) n below fits = (fits, refl)
bytes-set (y ∷ es) (suc i) e more grew zero n below fits = (fits, refl)
bytes-set (y ∷ es) (suc i) e more grew (suc j) n below fits = bytes-set es i e more grew j n (omega arith) fits

pub Grows-set : (es : List Entry) (i : ℕ) (e : Entry) (more : List ℕ) → string_bytes e.name ≡ name_at es i → e.bytes.items ≡ bytes_at es i ++ more → Grows es (set es i e)
Grows-set es i e more named grew = record {
  longer = rw length-set (omega arith);
  names = λ j below. names-set es i e named j;
  bytes = bytes-set es i e more grew;
}

pub distinct-set : (es : List Entry) (i : ℕ) (e : Entry) → string_bytes e.name ≡ name_at es i → IsDistinct es → IsDistinct (set es i e)
distinct-set es i e named distinct j k j_fits k_fits same =
    let long : length (set es i e) ≡ length es = length-set es i e in
    distinct j k (omega arith) (omega arith) (sym (names-set es i e named j) ∙ same ∙ names-set es i e named k)

pub use_stays : (es fs : List Entry) (s : SlotState) → Grows es fs → IsSound es s → use_of_state fs s ≡ use_of_state es s
use_stays es fs Closed grows sound = refl
use_stays es fs (Reading entry place end) grows sound =
    let below : entry < length es = let h : suc entry ≤ length es = sound.entry in omega arith in
    ap (λ xs. reading (Some (drop place xs))) (grows.bytes entry end below sound.end).1
use_stays es fs (Writing entry) grows sound =
    let below : entry < length es = let h : suc entry ≤ length es = sound.entry in omega arith in
    ap writing (grows.names entry below)

pub sound_stays : (es fs : List Entry) (s : SlotState) → Grows es fs → IsSound es s → IsSound fs s
sound_stays es fs Closed grows sound = record { entry = omega arith; place = omega arith; end = omega arith }
sound_stays es fs (Reading entry place end) grows sound =
    let h : suc entry ≤ length es = sound.entry in
    let longer : length es ≤ length fs = grows.longer in
    record { entry = omega arith; place = sound.place; end = (grows.bytes entry end (omega arith) sound.end).0 }
sound_stays es fs (Writing entry) grows sound =
    let h : suc entry ≤ length es = sound.entry in
    let longer : length es ≤ length fs = grows.longer in
    record { entry = omega arith; place = omega arith; end = omega arith }

-- the names at places that stay
pub names_stay : (es fs : List Entry) (places : List ℕ) → Grows es fs → ((k : ℕ) → k < length places → get_or places k 0 < length es)
    → map_list (name_at fs) places ≡ map_list (name_at es) places
names_stay es fs [] grows in_range = refl
names_stay es fs (i ∷ places) grows in_range = λ t.
    grows.names i (in_range 0 (omega arith)) t ∷ names_stay es fs places grows (λ k below. in_range (suc k) (omega arith)) t

-- ---- a fact of each slot

pub each-set : (P : SlotState → Type 0) (slots : List SlotState) (at : ℕ) (s : SlotState) → P s → ((k : ℕ) → P (get_or slots k Closed)) → (k : ℕ) → P (get_or (set slots at s) k Closed)
each-set P [] at s p all k = all k
each-set P (x ∷ slots) zero s p all zero = p
each-set P (x ∷ slots) zero s p all (suc k) = all (suc k)
each-set P (x ∷ slots) (suc at) s p all zero = all zero
each-set P (x ∷ slots) (suc at) s p all (suc k) = each-set P slots at s p (λ k. all (suc k)) k

pub each-push : (P : SlotState → Type 0) (slots : List SlotState) (s : SlotState) → P s → ((k : ℕ) → P (get_or slots k Closed)) → (k : ℕ) → P (get_or (slots ++ s ∷ []) k Closed)
each-push P [] s p all zero = p
each-push P [] s p all (suc k) = all (suc k)
each-push P (x ∷ slots) s p all zero = all zero
each-push P (x ∷ slots) s p all (suc k) = each-push P slots s p (λ k. all (suc k)) k

pub reading_below : (es : List Entry) (slots : List SlotState) (at : ℕ) → IsTrue (is_reading (use_of_state es (get_or slots at Closed))) → at < length slots
reading_below es [] at is_open = absurd (false≢true is_open)
reading_below es (x ∷ slots) zero is_open = omega arith
reading_below es (x ∷ slots) (suc at) is_open = let below : at < length slots = reading_below es slots at is_open in omega arith

pub writing_below : (es : List Entry) (slots : List SlotState) (at : ℕ) → IsTrue (is_writing (use_of_state es (get_or slots at Closed))) → at < length slots
writing_below es [] at is_open = absurd (false≢true is_open)
writing_below es (x ∷ slots) zero is_open = omega arith
writing_below es (x ∷ slots) (suc at) is_open = let below : at < length slots = writing_below es slots at is_open in omega arith

-- a part of the bytes, cut as code cuts it
pub part_is : (bytes : List ℕ) (place end : ℕ) → place ≤ end → take (end - place) (drop place bytes) ≡ drop place (take end bytes)
part_is bytes place end fits =
    let e : place + (end - place) ≡ end = omega arith in
    sym (drop-take place (end - place) bytes) ∙ ap (λ n. drop place (take n bytes)) e

pub read_consumes : (es : List Entry) (slots : List SlotState) (at entry place end n : ℕ) (out tail : List ℕ) → at < length slots
    → get_or slots at Closed ≡ Reading entry place end → n ≡ length out → out ≡ take n (drop place (take end (bytes_at es entry)))
    → (n ≡ 0 → 0 < length (out ++ tail) → end ≤ place)
    → Gives (left_of (use_of_state es (get_or slots at Closed))) (left_of (use_of_state es (get_or (set slots at (Reading entry (place + n) end)) at Closed))) (take n (out ++ tail))
    × (n ≡ 0 → 0 < length (out ++ tail) → IsAtEnd (left_of (use_of_state es (get_or (set slots at (Reading entry (place + n) end)) at Closed))))
read_consumes es slots at entry place end n out tail below is long copied at_end =
    rw (is, get_or-set_same slots at (Reading entry (place + n) end) Closed below) (
      next_and_rest (take end (bytes_at es entry)) out tail place n long copied,
      λ none room. let past : end ≤ place = at_end none room in drop_of_length-le (take end (bytes_at es entry)) (rw length-take (omega arith)),
    )

-- ---- a new slot

pub slot_past : (slots : List SlotState) → get_or slots (length slots) Closed ≡ Closed
slot_past [] = refl
slot_past (x ∷ slots) = slot_past slots

pub slot-push_last : (slots : List SlotState) (s : SlotState) → get_or (slots ++ s ∷ []) (length slots) Closed ≡ s
slot-push_last [] s = refl
slot-push_last (x ∷ slots) s = slot-push_last slots s

pub slot-push_other : (slots : List SlotState) (s : SlotState) (k : ℕ) → k ≢ length slots → get_or (slots ++ s ∷ []) k Closed ≡ get_or slots k Closed
slot-push_other [] s zero other = absurd (other refl)
slot-push_other [] s (suc k) other = refl
slot-push_other (x ∷ slots) s zero other = refl
slot-push_other (x ∷ slots) s (suc k) other = slot-push_other slots s k (λ e. other (ap suc e))
