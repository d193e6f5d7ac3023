-- What opening leaves.
use Rattle.std.proofs.Common.{◌≡◌, ◌≢◌, ◌⊎◌, inl, inr, ⊎_elim, ℕ, ◌<◌, ◌≤◌, true, List, [], ◌∷◌, ◌++◌, length, drop, refl, sym, ◌∙◌, ap, subst, arith, Option, Some}
use Rattle.std.proofs.lemmas.List.{drop_all}
use Rattle.std.specs.Option.{option_map}
use Rattle.ots_disk.specs.Disk.{put, Torn, After}
use Rattle.ots_disk.specs.Moments.{before_step}
use Rattle.ots_journal.specs.declared.limits.TheConstants.{EMPTY_JOURNAL}
use Rattle.ots_journal.specs.declared.entry.Entry.{Entry}
use Rattle.ots_journal.specs.declared.errors.JournalError.{JournalError}
use Rattle.ots_journal.specs.declared.errors.JournalError.TheVariants.{DiskFault, Full, OldVersion, NotAJournal, Damaged, OutOfMemory}
use Rattle.ots_journal.specs.Image.{magic, open_gate, Stands, StandsLong}
use Rattle.ots_journal.specs.Journal.{Keeps}
use Rattle.ots_journal.specs.Opening.{FoundTo, Refuses, IsGate, OpenedFrom, StoodFor}

zero_is_closed : 0 ≢ open_gate
zero_is_closed is = absurd (omega (arith, is))

-- ---- a file of at most EMPTY_JOURNAL bytes

pub empty_keeps : (told wrote : Option (List ℕ)) (later : List ℕ → Type 0) (entries : List Entry) → entries ≡ [] → ((b : List ℕ) → told ≡ Some b → length b ≤ EMPTY_JOURNAL)
    → wrote ≡ option_map (put 0 (magic ++ 0 ∷ [])) told → ((c : List ℕ) → later c → wrote ≡ Some c) → Keeps later entries [] true 8
empty_keeps told wrote later entries none short written only = record {
  groups = [];
  fit = tt;
  joined = none;
  place = refl;
  none_in_flight = λ _. refl;
  flight_fits = λ is. absurd (cc);
  each = λ c image.
      let was = before_step (put 0 (magic ++ 0 ∷ [])) told c (sym written ∙ only c image) in
      let nothing : drop 9 was.0 ≡ [] = drop_all 9 was.0 (short was.0 was.1) in
      record { gate = 0; rest = []; whole = was.2 ∙ ap (λ (l : List ℕ). (magic ++ 0 ∷ []) ++ l) nothing; closed = λ _. zero_is_closed; opened = λ is. absurd (zero_is_closed is) };
}

-- what a torn write of the first 9 bytes leaves
pub small_torn : (images settled : List ℕ → Type 0) → ((c : List ℕ) → settled c → images c) → ((c : List ℕ) → settled c → length c ≤ EMPTY_JOURNAL) → (c : List ℕ) → After (Torn 0 9) settled c → OpenedFrom images c
small_torn images settled fewer short c after =
    inr (omega (arith, after.2.no_longer, short after.0 after.1), (after.0, fewer after.0 after.1, short after.0 after.1))

-- ---- a longer file

module _ (bytes : List ℕ) (entries : List Entry) (place : ℕ) (long : EMPTY_JOURNAL < length bytes) (f : FoundTo bytes entries place) where
  abbrev found_long : StandsLong bytes entries
  found_long = record {
    long = long;
    groups = f.read.groups;
    gate = f.read.gate;
    rest = f.read.rest;
    begins = f.read.begins;
    closed = f.closed;
    joined = f.read.joined;
  }

  pub found_stands : Stands bytes entries
  found_stands = inr found_long

  pub found_gate : IsGate bytes place
  found_gate = inr (record { entries = entries; long = found_long; at = f.read.at })

pub found_keeps : (later : List ℕ → Type 0) (bytes : List ℕ) (entries : List Entry) (place : ℕ) → FoundTo bytes entries place → ((c : List ℕ) → later c → c ≡ bytes) → Keeps later entries [] true place
found_keeps later bytes entries place f only = record {
  groups = f.read.groups;
  fit = f.read.begins.fit;
  joined = f.read.joined;
  place = f.read.at;
  none_in_flight = λ _. refl;
  flight_fits = λ is. absurd (cc);
  each = λ c image. record { gate = f.read.gate; rest = f.read.rest; whole = only c image ∙ f.read.begins.whole; closed = λ _. f.closed; opened = λ is. absurd (f.closed is) };
}

-- the limit matters to `Full` alone
pub refuses_within : (limit : ℕ) (bytes : List ℕ) (e : JournalError) → Refuses (length bytes) bytes e → Refuses limit bytes e
refuses_within limit bytes DiskFault r = tt
refuses_within limit bytes (Full need most) r = absurd (omega (arith, r.2))
refuses_within limit bytes OldVersion r = r
refuses_within limit bytes NotAJournal r = r
refuses_within limit bytes (Damaged place) r = r
refuses_within limit bytes OutOfMemory r = tt

pub refuses_cause : (limit : ℕ) (bytes : List ℕ) (e : JournalError) → (e ≡ DiskFault) ⊎ (e ≡ OutOfMemory) → Refuses limit bytes e
refuses_cause limit bytes e either = ⊎_elim (λ is. subst (λ (f : JournalError). Refuses limit bytes f) (sym is) tt) (λ is. subst (λ (f : JournalError). Refuses limit bytes f) (sym is) tt) either

-- ---- moments

-- where each image stood for a list before, each stands for one of those
pub opened_stood : (images : List ℕ → Type 0) → ((c : List ℕ) → images c → (entries : List Entry) × Stands c entries) → (c : List ℕ) → OpenedFrom images c → StoodFor images c
opened_stood images stood c from = ⊎_elim
    (λ image. (c, (stood c image).0, image, (stood c image).1, (stood c image).1))
    (λ short. (short.1.0, [], short.1.1, inl (short.1.2, refl), inl (short.0, refl)))
    from
