-- Reading a journal of version 1, and that it is read in one way alone.
use Rattle.std.proofs.Common.{◌≡◌, ◌≢◌, ⊎_elim, inr, ℕ, ◌+◌, ◌<◌, List, [], ◌∷◌, ◌++◌, length, take, drop, get_or, refl, sym, ◌∙◌, ap, subst, arith, append_assoc, length-append, take-append-drop}
use Rattle.std.proofs.lemmas.List.{append-nil, drop_more}
use Rattle.std.proofs.lemmas.List.Concat.{flat_map-append}
use Rattle.std.specs.List.{flat_map, AllByRecursion}
use Rattle.ots_journal.specs.declared.limits.TheConstants.{EMPTY_JOURNAL}
use Rattle.ots_journal.specs.Image.{open_gate, entry_bytes, FitsEntry}
use Rattle.ots_journal.specs.Opening.{magic1, ReadsEntry}
use Rattle.ots_journal.specs.Version1.{gated_entry, prefix1, Stands1, HasEntry, IsDamaged1, ReadTo1, AddsEntry}
use Rattle.ots_journal.specs.declared.entry.Entry.{Entry}
use Rattle.ots_journal.proofs.Gates.{gate_is, rest_is, room_after}
use Rattle.ots_journal.proofs.Groups.{length-entry}
use Rattle.ots_journal.proofs.GroupReading.{unique_rest}
use Rattle.ots_journal.proofs.Unique.{unique_entry, head_is}

-- ---- one entry more

prefix1_push : (es : List Entry) (e : Entry) (xs : List ℕ) → prefix1 (es ++ e ∷ []) ++ xs ≡ prefix1 es ++ (open_gate ∷ (entry_bytes e ++ xs))
prefix1_push es e xs =
    let before = flat_map gated_entry es in
    let more = gated_entry e in
    ap (λ (l : List ℕ). (magic1 ++ l) ++ xs) (flat_map-append gated_entry es (e ∷ []))
    ∙ ap (λ (l : List ℕ). (magic1 ++ (before ++ l)) ++ xs) (append-nil more)
    ∙ ap (λ (l : List ℕ). l ++ xs) (sym (append_assoc magic1 before more))
    ∙ append_assoc (magic1 ++ before) more xs

length-prefix1_push : (es : List Entry) (e : Entry) → length (prefix1 (es ++ e ∷ [])) ≡ length (prefix1 es) + 1 + length (entry_bytes e)
length-prefix1_push es e =
    omega (arith, ap length (prefix1_push es e []), length-append (prefix1 (es ++ e ∷ [])) [], length-append (prefix1 es) (open_gate ∷ (entry_bytes e ++ [])), length-append (entry_bytes e) [])

fit_push1 : (es : List Entry) (e : Entry) → AllByRecursion FitsEntry es → FitsEntry e → AllByRecursion FitsEntry (es ++ e ∷ [])
fit_push1 [] e fit fits = (fits, tt)
fit_push1 (x ∷ es) e fit fits = (fit.0, fit_push1 es e fit.1 fits)

-- ---- reading

pub first_gate1 : (bytes : List ℕ) → EMPTY_JOURNAL < length bytes → take 8 bytes ≡ magic1 → ReadTo1 bytes [] 8
first_gate1 bytes long is = record {
  gate = get_or bytes 8 0;
  rest = drop 9 bytes;
  begins = record { whole = sym (take-append-drop 8 bytes) ∙ ap (λ (l : List ℕ). l ++ drop 8 bytes) is ∙ ap (λ (l : List ℕ). magic1 ++ l) (drop_more bytes 8 0 (omega arith)); fit = tt };
  at = refl;
}

-- what an entry read at the start leaves, with one more byte after it
abbrev pub has_entry : (bytes after : List ℕ) (e : Entry) → ReadsEntry bytes e after → 0 < length after → HasEntry bytes
has_entry bytes after e read some = record {
  entry = e;
  fits = read.fits;
  next = get_or after 0 0;
  after = drop 1 after;
  whole = read.whole ∙ ap (λ (l : List ℕ). entry_bytes e ++ l) (drop_more after 0 0 some);
}

-- an entry that ends the bytes has no gate after it
pub none_last : (bytes after : List ℕ) (e : Entry) → ReadsEntry bytes e after → length after ≡ 0 → HasEntry bytes → ⊥
none_last bytes after e read none h =
    let rest : after ≡ h.next ∷ h.after = unique_rest e h.entry after (h.next ∷ h.after) read.fits h.fits (sym read.whole ∙ h.whole) in
    absurd (omega (arith, ap length rest, none))

module _ (bytes : List ℕ) (entries : List Entry) (place : ℕ) (r : ReadTo1 bytes entries place) where
  gate_at1 : get_or bytes place 0 ≡ r.gate
  gate_at1 = ap (λ (n : ℕ). get_or bytes n 0) r.at ∙ gate_is (prefix1 entries) r.gate r.rest bytes r.begins.whole

  rest_at1 : drop (place + 1) bytes ≡ r.rest
  rest_at1 = ap (λ (n : ℕ). drop (n + 1) bytes) r.at ∙ rest_is (prefix1 entries) r.gate r.rest bytes r.begins.whole

  pub place_within1 : place < length bytes
  place_within1 = omega (arith, r.at, room_after (prefix1 entries) r.gate r.rest bytes r.begins.whole)

  pub next_gate1 : (new : List Entry) (size : ℕ) → get_or bytes place 0 ≡ open_gate → AddsEntry (drop (place + 1) bytes) entries new size → ReadTo1 bytes new (place + (1 + size))
  next_gate1 new size is a =
      let t = a.there in
      let all = entries ++ t.entry ∷ [] in
      subst (λ (es : List Entry). ReadTo1 bytes es (place + (1 + size))) (sym a.added) record {
        gate = t.next;
        rest = t.after;
        begins = record {
          whole = r.begins.whole ∙ ap (λ (n : ℕ). prefix1 entries ++ n ∷ r.rest) (sym gate_at1 ∙ is) ∙ ap (λ (l : List ℕ). prefix1 entries ++ open_gate ∷ l) (sym rest_at1 ∙ t.whole) ∙ sym (prefix1_push entries t.entry (t.next ∷ t.after));
          fit = fit_push1 entries t.entry r.begins.fit t.fits;
        };
        at = omega (arith, r.at, a.size_is, length-prefix1_push entries t.entry);
      }

  pub damaged1 : EMPTY_JOURNAL < length bytes → get_or bytes place 0 ≡ open_gate → (HasEntry (drop (place + 1) bytes) → ⊥) → IsDamaged1 bytes place
  damaged1 long is none = record {
    long = long;
    entries = entries;
    rest = r.rest;
    begins = record { whole = r.begins.whole ∙ ap (λ (n : ℕ). prefix1 entries ++ n ∷ r.rest) (sym gate_at1 ∙ is); fit = r.begins.fit };
    at = r.at;
    broken = λ h. none (subst HasEntry (sym rest_at1) h);
  }

  pub found1 : EMPTY_JOURNAL < length bytes → get_or bytes place 0 ≢ open_gate → Stands1 bytes entries
  found1 long ne = inr (record { long = long; gate = r.gate; rest = r.rest; begins = r.begins; closed = λ is. ne (gate_at1 ∙ is) })

-- ---- one list at most

walk_same1 : (fs hs : List Entry) (g k : ℕ) (r s : List ℕ) → AllByRecursion FitsEntry fs → AllByRecursion FitsEntry hs
    → flat_map gated_entry fs ++ g ∷ r ≡ flat_map gated_entry hs ++ k ∷ s → g ≢ open_gate → k ≢ open_gate → fs ≡ hs
walk_same1 [] [] g k r s fit_f fit_h same closed_g closed_k = refl
walk_same1 [] (h ∷ hs) g k r s fit_f fit_h same closed_g closed_k = absurd (closed_g (head_is g open_gate r ((entry_bytes h ++ flat_map gated_entry hs) ++ k ∷ s) same))
walk_same1 (f ∷ fs) [] g k r s fit_f fit_h same closed_g closed_k = absurd (closed_k (sym (head_is open_gate k ((entry_bytes f ++ flat_map gated_entry fs) ++ g ∷ r) s same)))
walk_same1 (f ∷ fs) (h ∷ hs) g k r s fit_f fit_h same closed_g closed_k =
    let xs = flat_map gated_entry fs ++ g ∷ r in
    let ys = flat_map gated_entry hs ++ k ∷ s in
    let tails : entry_bytes f ++ xs ≡ entry_bytes h ++ ys =
    sym (append_assoc (entry_bytes f) (flat_map gated_entry fs) (g ∷ r)) ∙ ap (λ (l : List ℕ). drop 1 l) same ∙ append_assoc (entry_bytes h) (flat_map gated_entry hs) (k ∷ s) in
    ap (λ (e : Entry). e ∷ fs) (unique_entry f h xs ys fit_f.0 fit_h.0 tails)
    ∙ ap (λ (l : List Entry). h ∷ l) (walk_same1 fs hs g k r s fit_f.1 fit_h.1 (unique_rest f h xs ys fit_f.0 fit_h.0 tails) closed_g closed_k)

pub stands_once1 : (bytes : List ℕ) (es fs : List Entry) → Stands1 bytes es → Stands1 bytes fs → es ≡ fs
stands_once1 bytes es fs first second = ⊎_elim
    (λ short. ⊎_elim (λ again. short.1 ∙ sym again.1) (λ long. absurd (omega (arith, short.0, long.long))) second)
    (λ long. ⊎_elim (λ short. absurd (omega (arith, short.0, long.long)))
    (λ again. walk_same1 es fs long.gate again.gate long.rest again.rest long.begins.fit again.begins.fit (ap (λ (l : List ℕ). drop 8 l) (sym long.begins.whole ∙ again.begins.whole)) long.closed again.closed) second)
    first

pub adds_entry : (bytes after : List ℕ) (old new : List Entry) (e : Entry) → ReadsEntry bytes e after → 0 < length after → new ≡ old ++ e ∷ [] → AddsEntry bytes old new (5 + length e.payload)
adds_entry bytes after old new e read some added = record { there = has_entry bytes after e read some; size_is = sym (length-entry e); added = added }
