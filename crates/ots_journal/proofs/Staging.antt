-- A group that is staged after the entries held, taken in, or forgotten.
use Rattle.std.proofs.Common.{◌≡◌, ℕ, ◌+◌, ◌-◌, ◌*◌, ◌≤◌, List, [], ◌∷◌, ◌++◌, length, take, drop, refl, sym, ◌∙◌, ap, subst, arith, append_assoc, length-append, length-drop, take-append-drop}
use Rattle.std.proofs.lemmas.List.{take_all, drop_at, take-append-le, take-take, map-append, length-map}
use Rattle.std.specs.Int.{w16, w32, to_be_bytes}
use Rattle.std.specs.List.{AllByRecursion}
use Rattle.ots_journal.specs.Image.{open_gate, entry_bytes, entries_bytes, payload_bytes, group_bytes}
use Rattle.ots_journal.specs.Journal.{size_with}
use Rattle.ots_journal.specs.Stored.{entry_at, entries_at, EndsBy, Adds, staged_bytes}
use Rattle.ots_journal.specs.declared.entry.Entry.{Entry}
use Rattle.ots_journal.specs.declared.place.Place.{Place}
use Rattle.ots_journal.proofs.Groups.{length-entry, length-group_body}
use Rattle.ots_journal.proofs.Places.{ends_later, ends_both, entries_more as entries_with_more, entries_cut}

-- ---- sizes

pub size_of_entries : (es : List Entry) → length (entries_bytes es) ≡ 5 * length es + payload_bytes es
size_of_entries [] = refl
size_of_entries (e ∷ es) = omega (arith, length-append (entry_bytes e) (entries_bytes es), length-entry e, size_of_entries es)

pub size_of_staged : (es : List Entry) → length (staged_bytes es) ≡ 8 + 5 * length es + payload_bytes es
size_of_staged es = omega (arith, length-append (group_bytes es) (0 ∷ []), length-group_body es, size_of_entries es)

pub spelled : (file f1 f2 f3 : List ℕ) (group : List Entry) (size : ℕ) → size ≡ length (entries_bytes group)
    → f1 ≡ file ++ (open_gate ∷ (to_be_bytes w16 (length group) ++ to_be_bytes w32 size)) → f2 ≡ f1 ++ entries_bytes group → f3 ≡ f2 ++ 0 ∷ [] → f3 ≡ file ++ staged_bytes group
spelled file f1 f2 f3 group size is_size is1 is2 is3 =
    let head : ℕ → List ℕ = λ n. open_gate ∷ (to_be_bytes w16 (length group) ++ to_be_bytes w32 n) in
    let es = entries_bytes group in
    is3
    ∙ ap (λ (l : List ℕ). l ++ 0 ∷ []) (is2 ∙ ap (λ (l : List ℕ). l ++ es) (is1 ∙ ap (λ (n : ℕ). file ++ head n) is_size) ∙ append_assoc file (head (length es)) es)
    ∙ append_assoc file (head (length es) ++ es) (0 ∷ [])
    ∙ ap (λ (l : List ℕ). file ++ ((open_gate ∷ l) ++ 0 ∷ [])) (append_assoc (to_be_bytes w16 (length group)) (to_be_bytes w32 (length es)) es)

pub adds_after : (first file more : List ℕ) (old new : List Place) (group : List Entry) → Adds first file old new group → Adds first (file ++ more) old new group
adds_after first file more old new group a = record {
  places = a.places;
  added = a.added;
  are = entries_with_more file more a.places a.within ∙ a.are;
  within = ends_later (length file) (length (file ++ more)) a.places (omega (arith, length-append file more)) a.within;
}

-- ---- staged

module _ (file before new : List ℕ) (places all : List Place) (held mark : ℕ) (group : List Entry)
    (held_there : held ≤ length places) (mark_there : mark ≤ length file) (none : drop mark file ≡ []) (no_flight : entries_at file (drop held places) ≡ [])
    (held_within : AllByRecursion (EndsBy mark) (take held places))
    (is_new : new ≡ file ++ staged_bytes group) (is_last : new ≡ before ++ 0 ∷ []) (adds : Adds file before places all group) where
  pub mark_is : mark ≡ length file
  mark_is = omega (arith, ap length none, length-drop mark file, mark_there)

  pub held_is : held ≡ length places
  held_is = omega (arith, ap length no_flight, length-map (drop held places) (entry_at file), length-drop held places, held_there)

  held_stays : take held all ≡ take held places
  held_stays = ap (λ (l : List Place). take held l) adds.added ∙ take-append-le held places adds.places held_there

  after_is : drop held all ≡ adds.places
  after_is = ap (λ (l : List Place). drop held l) adds.added ∙ drop_at places adds.places held (sym held_is)

  pub staged_entries : entries_at new (take held all) ≡ entries_at file (take held places)
  staged_entries =
      ap (λ (l : List Place). entries_at new l) held_stays ∙ ap (λ (f : List ℕ). entries_at f (take held places)) is_new
      ∙ entries_with_more file (staged_bytes group) (take held places) (ends_later mark (length file) (take held places) mark_there held_within)

  pub staged_flight : entries_at new (drop held all) ≡ group
  staged_flight =
      ap (λ (l : List Place). entries_at new l) after_is ∙ ap (λ (f : List ℕ). entries_at f adds.places) is_last
      ∙ entries_with_more before (0 ∷ []) adds.places adds.within ∙ adds.are

  pub staged_is : drop mark new ≡ staged_bytes group
  staged_is = ap (λ (l : List ℕ). drop mark l) is_new ∙ drop_at file (staged_bytes group) mark (sym mark_is)

  pub held_within_all : AllByRecursion (EndsBy mark) (take held all)
  held_within_all = subst (λ (l : List Place). AllByRecursion (EndsBy mark) l) (sym held_stays) held_within

  pub flight_within_all : AllByRecursion (EndsBy (length new - 1)) (drop held all)
  flight_within_all =
      subst (λ (l : List Place). AllByRecursion (EndsBy (length new - 1)) l) (sym after_is)
      (ends_later (length before) (length new - 1) adds.places (omega (arith, ap length is_last, length-append before (0 ∷ []))) adds.within)

-- how the places of many entries are counted
pub count_added : (first file : List ℕ) (old new : List Place) (group : List Entry) → Adds first file old new group → length new ≡ length old + length group
count_added first file old new group a =
    ap length a.added ∙ omega (arith, length-append old a.places, ap length a.are, length-map a.places (entry_at file))

-- ---- taken in and forgotten

pub kept_entries : (file rest whole : List ℕ) (places : List Place) (held mark count : ℕ) → whole ≡ file ++ rest → held ≤ length places → count ≡ length places → mark ≤ length file → length file ≡ length whole - 1
    → AllByRecursion (EndsBy mark) (take held places) → AllByRecursion (EndsBy (length whole - 1)) (drop held places)
    → entries_at file (take count places) ≡ entries_at whole (take held places) ++ entries_at whole (drop held places)
kept_entries file rest whole places held mark count is le is_count there one held_in flight_in =
    ap (λ (l : List Place). entries_at file l) (take_all count places (omega (arith, is_count)) ∙ sym (take-append-drop held places))
    ∙ map-append (entry_at file) (take held places) (drop held places)
    ∙ ap (λ (l : List Entry). l ++ entries_at file (drop held places))
    (sym (ap (λ (f : List ℕ). entries_at f (take held places)) is ∙ entries_with_more file rest (take held places) (ends_later mark (length file) (take held places) there held_in)))
    ∙ ap (λ (l : List Entry). entries_at whole (take held places) ++ l)
    (sym (ap (λ (f : List ℕ). entries_at f (drop held places)) is ∙ entries_with_more file rest (drop held places) (ends_later (length whole - 1) (length file) (drop held places) (omega (arith, one)) flight_in)))

pub all_within : (places : List Place) (held mark end : ℕ) → mark ≤ end → AllByRecursion (EndsBy mark) (take held places) → AllByRecursion (EndsBy end) (drop held places) → AllByRecursion (EndsBy end) places
all_within places held mark end le held_in flight_in =
    subst (λ (l : List Place). AllByRecursion (EndsBy end) l) (take-append-drop held places) (ends_both end (take held places) (drop held places) (ends_later mark end (take held places) le held_in) flight_in)

pub forgotten_entries : (file : List ℕ) (places : List Place) (held mark : ℕ) → AllByRecursion (EndsBy mark) (take held places) → entries_at (take mark file) (take held (take held places)) ≡ entries_at file (take held places)
forgotten_entries file places held mark held_in =
    ap (λ (l : List Place). entries_at (take mark file) l) (take-take held held places (omega arith)) ∙ entries_cut mark file (take held places) held_in

-- ---- steps of staging

-- An open gate, the number of entries and the number of their bytes.
abbrev pub head : ℕ → ℕ → List ℕ
head count size = open_gate ∷ (to_be_bytes w16 count ++ to_be_bytes w32 size)

pub with_head : (file f1 : List ℕ) (count size : ℕ) → f1 ≡ file ++ head count size → length f1 ≡ length file + 7
with_head file f1 count size is = ap length is ∙ omega (arith, length-append file (head count size))

pub none_within : (file : List ℕ) (places : List Place) (end : ℕ) → entries_at file places ≡ [] → AllByRecursion (EndsBy end) places
none_within file [] end none = tt
none_within file (p ∷ places) end none = absurd (cc)

-- the place of the gate after the staged group
pub staged_next : (gate next : ℕ) (staged : List ℕ) (group : List Entry) → staged ≡ staged_bytes group → next + 1 ≡ gate + length staged → next + 1 ≡ size_with gate group
staged_next gate next staged group is next_is = omega (arith, next_is, ap length is, size_of_staged group, size_of_entries group)
