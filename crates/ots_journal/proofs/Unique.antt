-- Bytes that stand for a list are refused for nothing that they hold.
use Rattle.std.proofs.Common.{◌≡◌, ◌≢◌, ⊎_elim, ℕ, ◌<◌, ◌≤◌, List, [], ◌∷◌, ◌++◌, length, take, drop, get_or, refl, sym, ◌∙◌, ap, arith, append_assoc, length-append}
use Rattle.std.proofs.lemmas.List.{drop_at, drop_more, take_at}
use Rattle.std.proofs.lemmas.Nat.{from_be_bytes-to_be_bytes_4}
use Rattle.std.specs.List.{flat_map, AllByRecursion}
use Rattle.std.specs.Int.{w32, to_be_bytes, from_be_bytes}
use Rattle.ots_journal.specs.declared.limits.TheConstants.{EMPTY_JOURNAL}
use Rattle.ots_journal.specs.declared.entry.Entry.{Entry}
use Rattle.ots_journal.specs.declared.errors.JournalError.{JournalError}
use Rattle.ots_journal.specs.declared.errors.JournalError.TheVariants.{DiskFault, Full, OldVersion, NotAJournal, Damaged, OutOfMemory}
use Rattle.ots_journal.specs.Image.{magic, open_gate, entry_bytes, entries_bytes, group_body, group_bytes, FitsEntry, FitsGroup, entries_of, prefix, Stands, StandsLong}
use Rattle.ots_journal.specs.Opening.{magic1, HasGroup, IsDamaged, Refuses, IsGate, IsOfBytes}
use Rattle.ots_journal.proofs.GroupReading.{entries_bound, unique_rest}

unique_group : (f h : List Entry) (xs ys : List ℕ) → FitsGroup f → FitsGroup h → group_body f ++ xs ≡ group_body h ++ ys → xs ≡ ys
unique_group f h xs ys fits_f fits_h same =
    let n = length (entries_bytes f) in
    let m = length (entries_bytes h) in
    let rests : entries_bytes f ++ xs ≡ entries_bytes h ++ ys = ap (λ (l : List ℕ). drop 6 l) same in
    let sizes : to_be_bytes w32 n ≡ to_be_bytes w32 m = ap (λ (l : List ℕ). take 4 (drop 2 l)) same in
    let is : n ≡ m =
    sym (from_be_bytes-to_be_bytes_4 n (omega (arith, fits_f.most, entries_bound f fits_f.payloads))) ∙ ap (from_be_bytes w32) sizes
    ∙ from_be_bytes-to_be_bytes_4 m (omega (arith, fits_h.most, entries_bound h fits_h.payloads)) in
    sym (drop_at (entries_bytes f) xs n refl) ∙ ap (λ (l : List ℕ). drop n l) rests ∙ drop_at (entries_bytes h) ys n (sym is)

pub head_is : (x y : ℕ) (xs ys : List ℕ) → x ∷ xs ≡ y ∷ ys → x ≡ y
head_is x y xs ys same = cc

walk : (fs hs : List (List Entry)) (g : ℕ) (r s : List ℕ) → AllByRecursion FitsGroup fs → AllByRecursion FitsGroup hs
    → flat_map group_bytes fs ++ open_gate ∷ r ≡ flat_map group_bytes hs ++ g ∷ s → g ≢ open_gate → (HasGroup r → ⊥) → ⊥
walk [] [] g r s fit_f fit_h same closed none = closed (sym (head_is open_gate g r s same))
walk [] (h ∷ hs) g r s fit_f fit_h same closed none =
    let more = flat_map group_bytes hs ++ g ∷ s in
    let some : 0 < length more = omega (arith, length-append (flat_map group_bytes hs) (g ∷ s)) in
    let whole : r ≡ group_body h ++ more = ap (λ (l : List ℕ). drop 1 l) same ∙ append_assoc (group_body h) (flat_map group_bytes hs) (g ∷ s) in
    none (record { group = h; fits = fit_h.0; next = get_or more 0 0; after = drop 1 more; whole = whole ∙ ap (λ (l : List ℕ). group_body h ++ l) (drop_more more 0 0 some) })
walk (f ∷ fs) [] g r s fit_f fit_h same closed none = closed (sym (head_is open_gate g ((group_body f ++ flat_map group_bytes fs) ++ open_gate ∷ r) s same))
walk (f ∷ fs) (h ∷ hs) g r s fit_f fit_h same closed none =
    let tails = sym (append_assoc (group_body f) (flat_map group_bytes fs) (open_gate ∷ r)) ∙ ap (λ (l : List ℕ). drop 1 l) same ∙ append_assoc (group_body h) (flat_map group_bytes hs) (g ∷ s) in
    walk fs hs g r s fit_f.1 fit_h.1 (unique_group f h (flat_map group_bytes fs ++ open_gate ∷ r) (flat_map group_bytes hs ++ g ∷ s) fit_f.0 fit_h.0 tails) closed none

begins_magic : (bytes : List ℕ) (entries : List Entry) → StandsLong bytes entries → take 8 bytes ≡ magic
begins_magic bytes entries s = ap (λ (l : List ℕ). take 8 l) s.begins.whole

magics_differ : magic ≡ magic1 → ⊥
magics_differ same = let is : 2 ≡ 1 = ap (λ (l : List ℕ). get_or l 6 0) same in absurd (omega (arith, is))

long_not_refused : (limit : ℕ) (bytes : List ℕ) (entries : List Entry) (e : JournalError) → StandsLong bytes entries → Refuses limit bytes e → IsOfBytes e → ⊥
long_not_refused limit bytes entries DiskFault s r of = of
long_not_refused limit bytes entries (Full need most) s r of = of
long_not_refused limit bytes entries OldVersion s r of = magics_differ (sym (begins_magic bytes entries s) ∙ r.1)
long_not_refused limit bytes entries NotAJournal s r of = r.2 (begins_magic bytes entries s)
long_not_refused limit bytes entries (Damaged place) s r of =
    let tails = ap (λ (l : List ℕ). drop 8 l) (sym r.begins.whole ∙ s.begins.whole) in
    walk r.groups s.groups s.gate r.rest s.rest r.begins.fit s.begins.fit tails s.closed r.broken
long_not_refused limit bytes entries OutOfMemory s r of = of

short_not_refused : (limit : ℕ) (bytes : List ℕ) (e : JournalError) → length bytes ≤ EMPTY_JOURNAL → Refuses limit bytes e → IsOfBytes e → ⊥
short_not_refused limit bytes DiskFault short r of = of
short_not_refused limit bytes (Full need most) short r of = of
short_not_refused limit bytes OldVersion short r of = absurd (omega (arith, short, r.0))
short_not_refused limit bytes NotAJournal short r of = absurd (omega (arith, short, r.0))
short_not_refused limit bytes (Damaged place) short r of = absurd (omega (arith, short, r.long))
short_not_refused limit bytes OutOfMemory short r of = of

pub not_refused : (limit : ℕ) (bytes : List ℕ) (entries : List Entry) (e : JournalError) → Stands bytes entries → Refuses limit bytes e → IsOfBytes e → ⊥
not_refused limit bytes entries e stands r of = ⊎_elim (λ short. short_not_refused limit bytes e short.0 r of) (λ long. long_not_refused limit bytes entries e long r of) stands

-- ---- bytes stand for one list at most

pub unique_entry : (e f : Entry) (r s : List ℕ) → FitsEntry e → FitsEntry f → entry_bytes e ++ r ≡ entry_bytes f ++ s → e ≡ f
unique_entry e f r s fits_e fits_f same =
    let n = length e.payload in
    let m = length f.payload in
    let rests : e.payload ++ r ≡ f.payload ++ s = ap (λ (l : List ℕ). drop 5 l) same in
    let sizes : to_be_bytes w32 n ≡ to_be_bytes w32 m = ap (λ (l : List ℕ). take 4 (drop 1 l)) same in
    let is : n ≡ m = sym (from_be_bytes-to_be_bytes_4 n (omega (arith, fits_e.1))) ∙ ap (from_be_bytes w32) sizes ∙ from_be_bytes-to_be_bytes_4 m (omega (arith, fits_f.1)) in
    let kinds : e.kind ≡ f.kind = ap (λ (l : List ℕ). get_or l 0 0) same in
    let payloads : e.payload ≡ f.payload = sym (take_at e.payload r n refl) ∙ ap (λ (l : List ℕ). take n l) rests ∙ take_at f.payload s n (sym is) in
    ap (λ (k : ℕ). let x : Entry = record { kind = k; payload = e.payload } in x) kinds ∙ ap (λ (p : List ℕ). let x : Entry = record { kind = f.kind; payload = p } in x) payloads

unique_entries : (es fs : List Entry) → AllByRecursion FitsEntry es → AllByRecursion FitsEntry fs → entries_bytes es ≡ entries_bytes fs → es ≡ fs
unique_entries [] [] fit_e fit_f same = refl
unique_entries [] (f ∷ fs) fit_e fit_f same = absurd (omega (arith, ap length same))
unique_entries (e ∷ es) [] fit_e fit_f same = absurd (omega (arith, ap length same))
unique_entries (e ∷ es) (f ∷ fs) fit_e fit_f same =
    ap (λ (x : Entry). x ∷ es) (unique_entry e f (entries_bytes es) (entries_bytes fs) fit_e.0 fit_f.0 same)
    ∙ ap (λ (l : List Entry). f ∷ l) (unique_entries es fs fit_e.1 fit_f.1 (unique_rest e f (entries_bytes es) (entries_bytes fs) fit_e.0 fit_f.0 same))

same_group : (f h : List Entry) (xs ys : List ℕ) → FitsGroup f → FitsGroup h → group_body f ++ xs ≡ group_body h ++ ys → f ≡ h
same_group f h xs ys fits_f fits_h same =
    let n = length (entries_bytes f) in
    let m = length (entries_bytes h) in
    let rests : entries_bytes f ++ xs ≡ entries_bytes h ++ ys = ap (λ (l : List ℕ). drop 6 l) same in
    let sizes : to_be_bytes w32 n ≡ to_be_bytes w32 m = ap (λ (l : List ℕ). take 4 (drop 2 l)) same in
    let is : n ≡ m =
    sym (from_be_bytes-to_be_bytes_4 n (omega (arith, fits_f.most, entries_bound f fits_f.payloads))) ∙ ap (from_be_bytes w32) sizes
    ∙ from_be_bytes-to_be_bytes_4 m (omega (arith, fits_h.most, entries_bound h fits_h.payloads)) in
    unique_entries f h fits_f.payloads fits_h.payloads (sym (take_at (entries_bytes f) xs n refl) ∙ ap (λ (l : List ℕ). take n l) rests ∙ take_at (entries_bytes h) ys n (sym is))

walk_same : (fs hs : List (List Entry)) (g k : ℕ) (r s : List ℕ) → AllByRecursion FitsGroup fs → AllByRecursion FitsGroup hs
    → flat_map group_bytes fs ++ g ∷ r ≡ flat_map group_bytes hs ++ k ∷ s → g ≢ open_gate → k ≢ open_gate → fs ≡ hs
walk_same [] [] g k r s fit_f fit_h same closed_g closed_k = refl
walk_same [] (h ∷ hs) g k r s fit_f fit_h same closed_g closed_k = absurd (closed_g (head_is g open_gate r ((group_body h ++ flat_map group_bytes hs) ++ k ∷ s) same))
walk_same (f ∷ fs) [] g k r s fit_f fit_h same closed_g closed_k = absurd (closed_k (sym (head_is open_gate k ((group_body f ++ flat_map group_bytes fs) ++ g ∷ r) s same)))
walk_same (f ∷ fs) (h ∷ hs) g k r s fit_f fit_h same closed_g closed_k =
    let xs = flat_map group_bytes fs ++ g ∷ r in
    let ys = flat_map group_bytes hs ++ k ∷ s in
    let tails : group_body f ++ xs ≡ group_body h ++ ys =
    sym (append_assoc (group_body f) (flat_map group_bytes fs) (g ∷ r)) ∙ ap (λ (l : List ℕ). drop 1 l) same ∙ append_assoc (group_body h) (flat_map group_bytes hs) (k ∷ s) in
    ap (λ (l : List Entry). l ∷ fs) (same_group f h xs ys fit_f.0 fit_h.0 tails)
    ∙ ap (λ (l : List (List Entry)). h ∷ l) (walk_same fs hs g k r s fit_f.1 fit_h.1 (unique_group f h xs ys fit_f.0 fit_h.0 tails) closed_g closed_k)

groups_once : (bytes : List ℕ) (es fs : List Entry) (first : StandsLong bytes es) (second : StandsLong bytes fs) → first.groups ≡ second.groups
groups_once bytes es fs first second =
    walk_same first.groups second.groups first.gate second.gate first.rest second.rest first.begins.fit second.begins.fit
    (ap (λ (l : List ℕ). drop 8 l) (sym first.begins.whole ∙ second.begins.whole)) first.closed second.closed

pub stands_once : (bytes : List ℕ) (es fs : List Entry) → Stands bytes es → Stands bytes fs → es ≡ fs
stands_once bytes es fs first second = ⊎_elim
    (λ short. ⊎_elim (λ again. short.1 ∙ sym again.1) (λ long. absurd (omega (arith, short.0, long.long))) second)
    (λ long. ⊎_elim (λ short. absurd (omega (arith, short.0, long.long)))
    (λ again. long.joined ∙ ap entries_of (groups_once bytes es fs long again) ∙ sym again.joined) second)
    first

pub gate_once : (bytes : List ℕ) (p q : ℕ) → IsGate bytes p → IsGate bytes q → p ≡ q
gate_once bytes p q first second = ⊎_elim
    (λ short. ⊎_elim (λ again. short.1 ∙ sym again.1) (λ long. let l = long.long.long in absurd (omega (arith, short.0, l))) second)
    (λ long. ⊎_elim (λ short. let l = long.long.long in absurd (omega (arith, short.0, l)))
    (λ again. long.at ∙ ap (λ (groups : List (List Entry)). length (prefix groups)) (groups_once bytes long.entries again.entries long.long again.long) ∙ sym again.at) second)
    first

-- ---- one refusal at most

walk_damaged : (fs hs : List (List Entry)) (r s : List ℕ) → AllByRecursion FitsGroup fs → AllByRecursion FitsGroup hs
    → flat_map group_bytes fs ++ open_gate ∷ r ≡ flat_map group_bytes hs ++ open_gate ∷ s → (HasGroup r → ⊥) → (HasGroup s → ⊥) → length (flat_map group_bytes fs) ≡ length (flat_map group_bytes hs)
walk_damaged [] [] r s fit_f fit_h same none_r none_s = refl
walk_damaged [] (h ∷ hs) r s fit_f fit_h same none_r none_s =
    let more = flat_map group_bytes hs ++ open_gate ∷ s in
    let some : 0 < length more = omega (arith, length-append (flat_map group_bytes hs) (open_gate ∷ s)) in
    let whole : r ≡ group_body h ++ more = ap (λ (l : List ℕ). drop 1 l) same ∙ append_assoc (group_body h) (flat_map group_bytes hs) (open_gate ∷ s) in
    absurd (none_r (record { group = h; fits = fit_h.0; next = get_or more 0 0; after = drop 1 more; whole = whole ∙ ap (λ (l : List ℕ). group_body h ++ l) (drop_more more 0 0 some) }))
walk_damaged (f ∷ fs) [] r s fit_f fit_h same none_r none_s =
    let more = flat_map group_bytes fs ++ open_gate ∷ r in
    let some : 0 < length more = omega (arith, length-append (flat_map group_bytes fs) (open_gate ∷ r)) in
    let whole : s ≡ group_body f ++ more = ap (λ (l : List ℕ). drop 1 l) (sym same) ∙ append_assoc (group_body f) (flat_map group_bytes fs) (open_gate ∷ r) in
    absurd (none_s (record { group = f; fits = fit_f.0; next = get_or more 0 0; after = drop 1 more; whole = whole ∙ ap (λ (l : List ℕ). group_body f ++ l) (drop_more more 0 0 some) }))
walk_damaged (f ∷ fs) (h ∷ hs) r s fit_f fit_h same none_r none_s =
    let xs = flat_map group_bytes fs ++ open_gate ∷ r in
    let ys = flat_map group_bytes hs ++ open_gate ∷ s in
    let tails : group_body f ++ xs ≡ group_body h ++ ys =
    sym (append_assoc (group_body f) (flat_map group_bytes fs) (open_gate ∷ r)) ∙ ap (λ (l : List ℕ). drop 1 l) same ∙ append_assoc (group_body h) (flat_map group_bytes hs) (open_gate ∷ s) in
    let group = ap (λ (l : List Entry). length (group_bytes l)) (same_group f h xs ys fit_f.0 fit_h.0 tails) in
    omega (
      arith,
      length-append (group_bytes f) (flat_map group_bytes fs),
      length-append (group_bytes h) (flat_map group_bytes hs),
      group,
      walk_damaged fs hs r s fit_f.1 fit_h.1 (unique_group f h xs ys fit_f.0 fit_h.0 tails) none_r none_s,
    )

damaged_once : (bytes : List ℕ) (p q : ℕ) → IsDamaged bytes p → IsDamaged bytes q → p ≡ q
damaged_once bytes p q first second =
    omega (
      arith,
      first.at,
      second.at,
      length-append magic (flat_map group_bytes first.groups),
      length-append magic (flat_map group_bytes second.groups),
      walk_damaged first.groups second.groups first.rest second.rest first.begins.fit second.begins.fit (ap (λ (l : List ℕ). drop 8 l) (sym first.begins.whole ∙ second.begins.whole)) first.broken second.broken,
    )

damaged_magic : (bytes : List ℕ) (p : ℕ) → IsDamaged bytes p → take 8 bytes ≡ magic
damaged_magic bytes p d = ap (λ (l : List ℕ). take 8 l) d.begins.whole

pub refused_once : (limit : ℕ) (bytes : List ℕ) (e f : JournalError) → Refuses limit bytes e → Refuses limit bytes f → IsOfBytes e → IsOfBytes f → e ≡ f
refused_once limit bytes DiskFault f r s of also = absurd of
refused_once limit bytes (Full need most) f r s of also = absurd of
refused_once limit bytes OutOfMemory f r s of also = absurd of
refused_once limit bytes OldVersion DiskFault r s of also = absurd also
refused_once limit bytes OldVersion (Full need most) r s of also = absurd also
refused_once limit bytes OldVersion OutOfMemory r s of also = absurd also
refused_once limit bytes OldVersion OldVersion r s of also = refl
refused_once limit bytes OldVersion NotAJournal r s of also = absurd (s.1 r.1)
refused_once limit bytes OldVersion (Damaged q) r s of also = absurd (magics_differ (sym (damaged_magic bytes q s) ∙ r.1))
refused_once limit bytes NotAJournal DiskFault r s of also = absurd also
refused_once limit bytes NotAJournal (Full need most) r s of also = absurd also
refused_once limit bytes NotAJournal OutOfMemory r s of also = absurd also
refused_once limit bytes NotAJournal OldVersion r s of also = absurd (r.1 s.1)
refused_once limit bytes NotAJournal NotAJournal r s of also = refl
refused_once limit bytes NotAJournal (Damaged q) r s of also = absurd (r.2 (damaged_magic bytes q s))
refused_once limit bytes (Damaged p) DiskFault r s of also = absurd also
refused_once limit bytes (Damaged p) (Full need most) r s of also = absurd also
refused_once limit bytes (Damaged p) OutOfMemory r s of also = absurd also
refused_once limit bytes (Damaged p) OldVersion r s of also = absurd (magics_differ (sym (damaged_magic bytes p r) ∙ s.1))
refused_once limit bytes (Damaged p) NotAJournal r s of also = absurd (s.2 (damaged_magic bytes p r))
refused_once limit bytes (Damaged p) (Damaged q) r s of also = ap (λ (n : ℕ). let e : JournalError = Damaged n in e) (damaged_once bytes p q r s)
