-- Reading entries and groups, and that they are read in one way alone.
use Rattle.std.proofs.Common.{◌≡◌, ◌≢◌, ℕ, ◌+◌, ◌*◌, ◌<◌, ◌≤◌, ◌^◌, List, [], ◌∷◌, ◌++◌, length, take, drop, get_or, refl, sym, ◌∙◌, ap, subst, arith, append_assoc, length-append, take-append-drop}
use Rattle.std.proofs.lemmas.List.{append-nil, drop_at, take_at, drop_more, length-take-le}
use Rattle.std.proofs.lemmas.List.Concat.{flat_map-append}
use Rattle.std.proofs.lemmas.Nat.{from_be_bytes-to_be_bytes_2, from_be_bytes-to_be_bytes_4}
use Rattle.std.specs.List.{AllByRecursion}
use Rattle.std.specs.Int.{w16, w32, to_be_bytes, from_be_bytes}
use Rattle.ots_journal.specs.declared.limits.TheConstants.{EMPTY_JOURNAL, MAX_GROUP}
use Rattle.ots_journal.specs.declared.entry.Entry.{Entry}
use Rattle.ots_journal.specs.Image.{magic, open_gate, entry_bytes, entries_bytes, FitsEntry, prefix}
use Rattle.ots_journal.specs.Opening.{HasGroup, ReadsEntry, ReadsEntries, ReadsGroup, ReadTo, FoundTo, IsDamaged}
use Rattle.ots_journal.proofs.Groups.{entries_push, fit_push, length-entry, length-prefix_push, length-group_body}
use Rattle.ots_journal.proofs.Gates.{gate_is, rest_is, room_after}
use Rattle.ots_journal.proofs.Standing.{opened_whole}

-- ---- one entry

pub unique_rest : (e f : Entry) (r s : List ℕ) → FitsEntry e → FitsEntry f → entry_bytes e ++ r ≡ entry_bytes f ++ s → r ≡ s
unique_rest e f r s fits_e fits_f same =
    let n = length e.payload in
    let m = length f.payload in
    let rests : e.payload ++ r ≡ f.payload ++ s = ap (λ (l : List ℕ). drop 5 l) same in
    let sizes : to_be_bytes w32 n ≡ to_be_bytes w32 m = ap (λ (l : List ℕ). take 4 (drop 1 l)) same in
    let is : n ≡ m = sym (from_be_bytes-to_be_bytes_4 n (omega (arith, fits_e.1))) ∙ ap (from_be_bytes w32) sizes ∙ from_be_bytes-to_be_bytes_4 m (omega (arith, fits_f.1)) in
    sym (drop_at e.payload r n refl) ∙ ap (λ (l : List ℕ). drop n l) rests ∙ drop_at f.payload s n (sym is)

-- ---- entries so far

-- what is left of any list of so many entries that the bytes might be
pub record Left (rest : List ℕ) (count counter : ℕ) : Type 0 where
  pub tail : List Entry
  pub many : length tail + counter ≡ count
  pub fit : AllByRecursion FitsEntry tail
  pub whole : rest ≡ entries_bytes tail

pub record EntriesSoFar (bytes rest : List ℕ) (old new : List Entry) (count counter : ℕ) : Type 0 where
  pub group : List Entry
  pub many : length group ≡ counter
  pub fit : AllByRecursion FitsEntry group
  pub whole : bytes ≡ entries_bytes group ++ rest
  pub added : new ≡ old ++ group
  pub others : (all : List Entry) → length all ≡ count → AllByRecursion FitsEntry all → bytes ≡ entries_bytes all → Left rest count counter

pub none_yet : (bytes : List ℕ) (old : List Entry) (count : ℕ) → EntriesSoFar bytes bytes old old count 0
none_yet bytes old count = record {
  group = [];
  many = refl;
  fit = tt;
  whole = refl;
  added = sym (append-nil old);
  others = λ all many fit whole. record { tail = all; many = omega (arith, many); fit = fit; whole = whole };
}

pub fit_entry_push : (group : List Entry) (entry : Entry) → AllByRecursion FitsEntry group → FitsEntry entry → AllByRecursion FitsEntry (group ++ entry ∷ [])
fit_entry_push [] entry fit fits = (fits, tt)
fit_entry_push (x ∷ group) entry fit fits = (fit.0, fit_entry_push group entry fit.1 fits)

left_more : (entry : Entry) (rest after : List ℕ) (count counter : ℕ) → counter < count → ReadsEntry rest entry after → Left rest count counter → Left after count (counter + 1)
left_more entry rest after count counter lt read left = go left.tail left.many left.fit left.whole
  where
    go : (tail : List Entry) → length tail + counter ≡ count → AllByRecursion FitsEntry tail → rest ≡ entries_bytes tail → Left after count (counter + 1)
    go [] many fit whole = absurd (omega (arith, many, lt))
    go (e ∷ tail) many fit whole = record {
      tail = tail;
      many = omega (arith, many);
      fit = fit.1;
      whole = unique_rest entry e after (entries_bytes tail) read.fits fit.0 (sym read.whole ∙ whole);
    }

pub entry_more : (bytes rest after : List ℕ) (old new more : List Entry) (entry : Entry) (count counter : ℕ) → counter < count → more ≡ new ++ entry ∷ [] → ReadsEntry rest entry after
    → EntriesSoFar bytes rest old new count counter → EntriesSoFar bytes after old more count (counter + 1)
entry_more bytes rest after old new more entry count counter lt is_more read s = record {
  group = s.group ++ entry ∷ [];
  many = omega (arith, s.many, length-append s.group (entry ∷ []));
  fit = fit_entry_push s.group entry s.fit read.fits;
  whole =
      s.whole ∙ ap (λ (l : List ℕ). entries_bytes s.group ++ l) read.whole ∙ sym (append_assoc (entries_bytes s.group) (entry_bytes entry) after)
      ∙ ap (λ (l : List ℕ). l ++ after) (sym (flat_map-append entry_bytes s.group (entry ∷ []) ∙ ap (λ (l : List ℕ). entries_bytes s.group ++ l) (append-nil (entry_bytes entry))));
  added = is_more ∙ ap (λ (l : List Entry). l ++ entry ∷ []) s.added ∙ append_assoc old s.group (entry ∷ []);
  others = λ all many fit whole. left_more entry rest after count counter lt read (s.others all many fit whole);
}

-- where no entry is at the start, the bytes are no such list
pub none_at : (rest : List ℕ) (count counter : ℕ) → counter < count → ((entry : Entry) (r : List ℕ) → ReadsEntry rest entry r → ⊥) → Left rest count counter → ⊥
none_at rest count counter lt none left = go left.tail left.many left.fit left.whole
  where
    go : (tail : List Entry) → length tail + counter ≡ count → AllByRecursion FitsEntry tail → rest ≡ entries_bytes tail → ⊥
    go [] many fit whole = absurd (omega (arith, many, lt))
    go (e ∷ tail) many fit whole = none e (entries_bytes tail) (record { fits = fit.0; whole = whole })

pub left_none : (rest : List ℕ) (count : ℕ) → Left rest count count → rest ≡ []
left_none rest count left = go left.tail left.many left.whole
  where
    go : (tail : List Entry) → length tail + count ≡ count → rest ≡ entries_bytes tail → rest ≡ []
    go [] many whole = whole
    go (e ∷ tail) many whole = absurd (omega (arith, many))

pub entries_read : (bytes : List ℕ) (old new : List Entry) (count : ℕ) → EntriesSoFar bytes [] old new count count → ReadsEntries bytes old new count
entries_read bytes old new count s = record { group = s.group; many = s.many; fit = s.fit; whole = s.whole ∙ append-nil (entries_bytes s.group); added = s.added }

-- ---- a group

pub entries_bound : (es : List Entry) → AllByRecursion FitsEntry es → length (entries_bytes es) ≤ length es * 1048581
entries_bound [] fit = omega arith
entries_bound (e ∷ es) fit = omega (arith, length-append (entry_bytes e) (entries_bytes es), length-entry e, fit.0.1, entries_bound es fit.1)

module _ (bytes rest : List ℕ) (count size : ℕ) (whole : bytes ≡ to_be_bytes w16 count ++ (to_be_bytes w32 size ++ rest)) where
  pub count_same : (h : HasGroup bytes) → count < 2 ^ 16 → count ≡ length h.group
  count_same h lt =
      sym (from_be_bytes-to_be_bytes_2 count lt) ∙ ap (λ (l : List ℕ). from_be_bytes w16 (take 2 l)) (sym whole ∙ h.whole) ∙ from_be_bytes-to_be_bytes_2 (length h.group) (omega (arith, h.fits.most))

  pub size_same : (h : HasGroup bytes) → size < 2 ^ 32 → size ≡ length (entries_bytes h.group)
  size_same h lt =
      sym (from_be_bytes-to_be_bytes_4 size lt) ∙ ap (λ (l : List ℕ). from_be_bytes w32 (take 4 (drop 2 l))) (sym whole ∙ h.whole)
      ∙ from_be_bytes-to_be_bytes_4 (length (entries_bytes h.group)) (omega (arith, h.fits.most, entries_bound h.group h.fits.payloads))

  pub after_same : (h : HasGroup bytes) → rest ≡ entries_bytes h.group ++ h.next ∷ h.after
  after_same h = ap (λ (l : List ℕ). drop 6 l) (sym whole ∙ h.whole)

  -- the bytes of the entries, where there is a group
  pub entries_same : (h : HasGroup bytes) → size < 2 ^ 32 → take size rest ≡ entries_bytes h.group
  entries_same h lt = ap (λ (l : List ℕ). take size l) (after_same h) ∙ take_at (entries_bytes h.group) (h.next ∷ h.after) size (sym (size_same h lt))

  pub room_same : (h : HasGroup bytes) → size < 2 ^ 32 → size < length rest
  room_same h lt = omega (arith, size_same h lt, ap length (after_same h), length-append (entries_bytes h.group) (h.next ∷ h.after))

  pub reads_group : (old new : List Entry) → 1 ≤ count → count ≤ MAX_GROUP → size < length rest → ReadsEntries (take size rest) old new count → ReadsGroup bytes old new (6 + size)
  reads_group old new some most lt read =
      let sizes : size ≡ length (entries_bytes read.group) = sym (length-take-le size rest (omega arith)) ∙ ap length read.whole in
      let counts : count ≡ length read.group = sym read.many in
      record {
        there = record {
          group = read.group;
          fits = record { some = omega (arith, some, read.many); most = omega (arith, most, read.many); payloads = read.fit };
          next = get_or rest size 0;
          after = drop (size + 1) rest;
          whole =
              whole
              ∙ ap (λ (l : List ℕ). to_be_bytes w16 count ++ (to_be_bytes w32 size ++ l)) (sym (take-append-drop size rest) ∙ ap (λ (l : List ℕ). l ++ drop size rest) read.whole ∙ ap (λ (l : List ℕ). entries_bytes read.group ++ l) (drop_more rest size 0 lt))
              ∙ ap (λ (n : ℕ). to_be_bytes w16 n ++ (to_be_bytes w32 size ++ (entries_bytes read.group ++ get_or rest size 0 ∷ drop (size + 1) rest))) counts
              ∙ ap (λ (n : ℕ). to_be_bytes w16 (length read.group) ++ (to_be_bytes w32 n ++ (entries_bytes read.group ++ get_or rest size 0 ∷ drop (size + 1) rest))) sizes;
        };
        size_is = omega (arith, sizes, length-group_body read.group);
        added = read.added;
      }

-- ---- groups so far

pub first_gate : (bytes : List ℕ) → EMPTY_JOURNAL < length bytes → take 8 bytes ≡ magic → ReadTo bytes [] 8
first_gate bytes long is = record {
  groups = [];
  gate = get_or bytes 8 0;
  rest = drop 9 bytes;
  begins = record { whole = sym (take-append-drop 8 bytes) ∙ ap (λ (l : List ℕ). l ++ drop 8 bytes) is ∙ ap (λ (l : List ℕ). magic ++ l) (drop_more bytes 8 0 (omega arith)); fit = tt };
  joined = refl;
  at = refl;
}

module _ (bytes : List ℕ) (entries : List Entry) (place : ℕ) (r : ReadTo bytes entries place) where
  pub gate_at : get_or bytes place 0 ≡ r.gate
  gate_at = ap (λ (n : ℕ). get_or bytes n 0) r.at ∙ gate_is (prefix r.groups) r.gate r.rest bytes r.begins.whole

  pub rest_at : drop (place + 1) bytes ≡ r.rest
  rest_at = ap (λ (n : ℕ). drop (n + 1) bytes) r.at ∙ rest_is (prefix r.groups) r.gate r.rest bytes r.begins.whole

  pub place_within : place < length bytes
  place_within = omega (arith, r.at, room_after (prefix r.groups) r.gate r.rest bytes r.begins.whole)

  pub next_gate : (new : List Entry) (size : ℕ) → get_or bytes place 0 ≡ open_gate → ReadsGroup (drop (place + 1) bytes) entries new size → ReadTo bytes new (place + (1 + size))
  next_gate new size is g =
      let t = g.there in
      record {
        groups = r.groups ++ t.group ∷ [];
        gate = t.next;
        rest = t.after;
        begins = record {
          whole = opened_whole r.groups t.group r.gate t.next r.rest t.after bytes r.begins.whole (sym gate_at ∙ is) (sym rest_at ∙ t.whole);
          fit = fit_push r.groups t.group r.begins.fit t.fits;
        };
        joined = g.added ∙ ap (λ (l : List Entry). l ++ t.group) r.joined ∙ sym (entries_push r.groups t.group);
        at = omega (arith, r.at, g.size_is, length-prefix_push r.groups t.group, length-group_body t.group);
      }

  pub damaged : EMPTY_JOURNAL < length bytes → get_or bytes place 0 ≡ open_gate → (HasGroup (drop (place + 1) bytes) → ⊥) → IsDamaged bytes place
  damaged long is none = record {
    long = long;
    groups = r.groups;
    rest = r.rest;
    begins = record { whole = r.begins.whole ∙ ap (λ (n : ℕ). prefix r.groups ++ n ∷ r.rest) (sym gate_at ∙ is); fit = r.begins.fit };
    at = r.at;
    broken = λ h. none (subst HasGroup (sym rest_at) h);
  }

  pub found : get_or bytes place 0 ≢ open_gate → FoundTo bytes entries place
  found ne = record { read = r; closed = λ is. ne (gate_at ∙ is); within = place_within }
