-- One call more of a disk in memory.
use Rattle.std.proofs.Common.{◌≡◌, ◌⊎◌, inl, inr, ⊎_elim, ℕ, ◌+◌, ◌||◌, ◌<◌, ◌≤◌, get_or, Bool, true, false, List, [], ◌∷◌, ◌++◌, length, take, refl, sym, ◌∙◌, ap, subst, arith, length-append, Result, Ok, Err, OnOk, OnErr, is_err, Some}
use Rattle.std.proofs.lemmas.Bool.{cases_lt}
use Rattle.std.proofs.lemmas.List.{take_all, take_more, take-append-le}
use Rattle.ots_disk.specs.Disk.{put, Torn, After, Follows, Elapses}
use Rattle.ots_disk.specs.History.{DiskState, start, after_of, after_write, after_calls, IsImage, ImagesSince}
use Rattle.ots_disk.specs.Laws.{torn_same, bytes_are_image}
use Rattle.ots_disk.specs.MemoryDisk.{MemoryDiskTold, state_of, is_past, fails, after, is_write}
use Rattle.ots_disk.specs.Notes.{NotesTold, is_full, is_next_listed, after_note}
use Rattle.ots_disk.specs.declared.disk_call.MadeCall.{MadeCall}
use Rattle.ots_disk.specs.declared.disk_call.DiskCall.{DiskCall}
use Rattle.ots_disk.specs.declared.disk_call.DiskCall.TheVariants.{Length, Read, Sync, Write}

after_push : (s : DiskState) (calls : List MadeCall) (m : MadeCall) → after_calls s (calls ++ m ∷ []) ≡ after_of m.call m.failed (after_calls s calls)
after_push s [] m = refl
after_push s (x ∷ calls) m = after_push (after_of x.call x.failed s) calls m

-- the state after one call more of a list
pub next_state : (s : DiskState) (calls : List MadeCall) (i : ℕ) (m : MadeCall) → i < length calls → m ≡ get_or calls i m → after_calls s (take (i + 1) calls) ≡ after_of m.call m.failed (after_calls s (take i calls))
next_state s calls i m lt is =
    ap (λ (l : List MadeCall). after_calls s l) (take_more calls i m lt ∙ ap (λ (x : MadeCall). take i calls ++ x ∷ []) (sym is)) ∙ after_push s (take i calls) m

-- ---- what a call leaves: it is noted, or it failed and is not

pub record IsNoted (d : MemoryDiskTold) (call : DiskCall) : Type 0 where
  pub failed : Bool
  pub calls : (after d call).notes.calls ≡ d.notes.calls ++ (record { call = call; failed = failed }) ∷ []
  pub fails_is : fails d call ≡ failed

pub record IsRefused (d : MemoryDiskTold) (call : DiskCall) : Type 0 where
  pub calls : (after d call).notes.calls ≡ d.notes.calls
  pub fails_is : fails d call ≡ true

both_cases : (d : MemoryDiskTold) (call : DiskCall) (past full : Bool) → is_past d call ≡ past → is_full d.notes ≡ full → IsNoted d call ⊎ IsRefused d call
both_cases d call true full is is2 = inr record { calls = rw is refl; fails_is = rw is refl }
both_cases d call false true is is2 = inr record { calls = rw (is, is2) refl; fails_is = rw (is, is2) refl }
both_cases d call false false is is2 = inl record { failed = is_next_listed d.notes; calls = rw (is, is2) refl; fails_is = rw (is, is2) refl }

cases_of : (d : MemoryDiskTold) (call : DiskCall) → IsNoted d call ⊎ IsRefused d call
cases_of d call = both_cases d call (is_past d call) (is_full d.notes) refl refl

-- ---- the state

module _ (first : List ℕ) where
  abbrev State : List MadeCall → DiskState
  State calls = after_calls (start first) calls

  take_old : (old : List MadeCall) (m : MadeCall) (k : ℕ) → k ≤ length old → State (take k (old ++ m ∷ [])) ≡ State (take k old)
  take_old old m k le = ap State (take-append-le k old (m ∷ []) le)

  elapses_push : (old : List MadeCall) (m : MadeCall) → Elapses (length old) (length (old ++ m ∷ [])) (ImagesSince first old) (ImagesSince first (old ++ m ∷ [])) (IsImage (State (old ++ m ∷ [])))
  elapses_push old m = record {
    later = omega (arith, length-append old (m ∷ []));
    nothing_else = λ t c le since. ⊎_elim
        (λ past. inr (subst (λ s. IsImage s c) (ap State (take_all since.0 (old ++ m ∷ []) (omega (arith, length-append old (m ∷ []), past)))) since.3))
        (λ within. inl (since.0, since.1, within, subst (λ s. IsImage s c) (take_old old m since.0 within) since.3))
        (cases_lt (length old) since.0);
    keeps = λ t c le since. (since.0, since.1, omega (arith, since.2, length-append old (m ∷ [])), subst (λ s. IsImage s c) (sym (take_old old m since.0 since.2)) since.3);
  }

  elapses_same : (old : List MadeCall) → Elapses (length old) (length old) (ImagesSince first old) (ImagesSince first old) (IsImage (State old))
  elapses_same old = record { later = omega arith; nothing_else = λ t c le since. inl since; keeps = λ t c le since. since }

  elapses_to : (old new : List MadeCall) (m : MadeCall) → (new ≡ old ++ m ∷ []) ⊎ (new ≡ old) → Elapses (length old) (length new) (ImagesSince first old) (ImagesSince first new) (IsImage (State new))
  elapses_to old new m either = ⊎_elim
      (λ e. subst (λ (l : List MadeCall). Elapses (length old) (length l) (ImagesSince first old) (ImagesSince first l) (IsImage (State l))) (sym e) (elapses_push old m))
      (λ e. subst (λ (l : List MadeCall). Elapses (length old) (length l) (ImagesSince first old) (ImagesSince first l) (IsImage (State l))) (sym e) (elapses_same old))
      either

pub state_noted : (d : MemoryDiskTold) (call : DiskCall) (n : IsNoted d call) → state_of (after d call) ≡ after_of call n.failed (state_of d)
state_noted d call n = ap (λ (l : List MadeCall). after_calls (start d.first) l) n.calls ∙ after_push (start d.first) d.notes.calls (record { call = call; failed = n.failed })

pub state_refused : (d : MemoryDiskTold) (call : DiskCall) → IsRefused d call → state_of (after d call) ≡ state_of d
state_refused d call r = ap (λ (l : List MadeCall). after_calls (start d.first) l) r.calls

-- ---- the clauses of a call, of the disk that it leaves

pub elapses_after : (d e : MemoryDiskTold) (call : DiskCall) → e ≡ after d call
    → Elapses (length d.notes.calls) (length e.notes.calls) (ImagesSince d.first d.notes.calls) (ImagesSince e.first e.notes.calls) (IsImage (state_of e))
elapses_after d e call is =
    subst (λ (x : MemoryDiskTold). Elapses (length d.notes.calls) (length x.notes.calls) (ImagesSince d.first d.notes.calls) (ImagesSince x.first x.notes.calls) (IsImage (state_of x))) (sym is)
    (⊎_elim
    (λ n. elapses_to d.first d.notes.calls (after d call).notes.calls (record { call = call; failed = n.failed }) (inl n.calls))
    (λ r. elapses_to d.first d.notes.calls (after d call).notes.calls (record { call = call; failed = true }) (inr r.calls))
    (cases_of d call))

pub on_ok : {T E : Type 0} (r : Result T E) (b : Bool) (P : Type 0) → is_err r ≡ b → (b ≡ false → P) → OnOk r P
on_ok (Ok x) false P is p = p refl
on_ok (Ok x) true P is p = absurd (cc)
on_ok (Err e) b P is p = tt

pub on_err : {T E : Type 0} (r : Result T E) (b : Bool) (P : Type 0) → is_err r ≡ b → (b ≡ true → P) → OnErr r P
on_err (Ok x) b P is p = tt
on_err (Err e) true P is p = p refl
on_err (Err e) false P is p = absurd (cc)

-- A call that writes nothing leaves what is read.
quiet : (call : DiskCall) (failed : Bool) (s : DiskState) → is_write call ≡ false → (after_of call failed s).bytes ≡ s.bytes
quiet Length failed s quiet_call = refl
quiet Read failed s quiet_call = refl
quiet (Write place piece) failed s quiet_call = absurd (cc)
quiet Sync true s quiet_call = refl
quiet Sync false s quiet_call = refl

pub same_after : (d e : MemoryDiskTold) (call : DiskCall) → e ≡ after d call → is_write call ≡ false → (state_of e).bytes ≡ (state_of d).bytes
same_after d e call is quiet_call = ap (λ (x : MemoryDiskTold). (state_of x).bytes) is ∙ ⊎_elim
    (λ n. ap (λ (s : DiskState). s.bytes) (state_noted d call n) ∙ quiet call n.failed (state_of d) quiet_call)
    (λ r. ap (λ (s : DiskState). s.bytes) (state_refused d call r))
    (cases_of d call)

no_more_of : (call : DiskCall) (failed : Bool) (s : DiskState) → is_write call ≡ false → IsImage s s.bytes → (c : List ℕ) → IsImage (after_of call failed s) c → IsImage s c
no_more_of Length failed s quiet_call reads c image = image
no_more_of Read failed s quiet_call reads c image = image
no_more_of (Write place piece) failed s quiet_call reads c image = absurd (cc)
no_more_of Sync true s quiet_call reads c image = image
no_more_of Sync false s quiet_call reads c image = subst (λ (l : List ℕ). IsImage s l) (sym image) reads

pub no_more_after : (d e : MemoryDiskTold) (call : DiskCall) → e ≡ after d call → is_write call ≡ false → (c : List ℕ) → IsImage (state_of e) c → IsImage (state_of d) c
no_more_after d e call is quiet_call c image = ⊎_elim
    (λ n. no_more_of call n.failed (state_of d) quiet_call (bytes_are_image d.first d.notes.calls (state_of d).bytes refl) c
    (subst (λ s. IsImage s c) (ap state_of is ∙ state_noted d call n) image))
    (λ r. subst (λ s. IsImage s c) (ap state_of is ∙ state_refused d call r) image)
    (cases_of d call)

-- After a good sync what is read is the only image, and after a failed one each image stays.
pub durable_after : (d e : MemoryDiskTold) → e ≡ after d Sync → fails d Sync ≡ false → (c : List ℕ) → IsImage (state_of e) c → Some (state_of d).bytes ≡ Some c
durable_after d e is good c image = ⊎_elim
    (λ n. let f : n.failed ≡ false = sym n.fails_is ∙ good in
    let to : state_of e ≡ after_of Sync false (state_of d) = ap state_of is ∙ state_noted d Sync n ∙ ap (λ (b : Bool). after_of Sync b (state_of d)) f in
    sym (ap Some (subst (λ s. IsImage s c) to image)))
    (λ r. absurd (cc))
    (cases_of d Sync)

pub stays_after : (d e : MemoryDiskTold) → e ≡ after d Sync → fails d Sync ≡ true → (c : List ℕ) → IsImage (state_of d) c → IsImage (state_of e) c
stays_after d e is bad c image = ⊎_elim
    (λ n. let f : n.failed ≡ true = sym n.fails_is ∙ bad in
    let to : state_of e ≡ state_of d = ap state_of is ∙ state_noted d Sync n ∙ ap (λ (b : Bool). after_of Sync b (state_of d)) f in
    subst (λ s. IsImage s c) (sym to) image)
    (λ r. subst (λ s. IsImage s c) (sym (ap state_of is ∙ state_refused d Sync r)) image)
    (cases_of d Sync)

-- ---- a write

pub written_after : (d e : MemoryDiskTold) (place : ℕ) (piece : List ℕ) → e ≡ after d (Write place piece) → fails d (Write place piece) ≡ false → (state_of e).bytes ≡ put place piece (state_of d).bytes
written_after d e place piece is good = ⊎_elim
    (λ n. let f : n.failed ≡ false = sym n.fails_is ∙ good in
    ap (λ (x : MemoryDiskTold). (state_of x).bytes) is ∙ ap (λ (s : DiskState). s.bytes) (state_noted d (Write place piece) n ∙ ap (λ (b : Bool). after_of (Write place piece) b (state_of d)) f))
    (λ r. absurd (cc))
    (cases_of d (Write place piece))

pub unwritten_after : (d e : MemoryDiskTold) (place : ℕ) (piece : List ℕ) → e ≡ after d (Write place piece) → fails d (Write place piece) ≡ true → (state_of e).bytes ≡ (state_of d).bytes
unwritten_after d e place piece is bad = ⊎_elim
    (λ n. let f : n.failed ≡ true = sym n.fails_is ∙ bad in
    ap (λ (x : MemoryDiskTold). (state_of x).bytes) is ∙ ap (λ (s : DiskState). s.bytes) (state_noted d (Write place piece) n ∙ ap (λ (b : Bool). after_of (Write place piece) b (state_of d)) f))
    (λ r. ap (λ (x : MemoryDiskTold). (state_of x).bytes) is ∙ ap (λ (s : DiskState). s.bytes) (state_refused d (Write place piece) r))
    (cases_of d (Write place piece))

pub tears_after : (d e : MemoryDiskTold) (place : ℕ) (piece : List ℕ) → e ≡ after d (Write place piece) → fails d (Write place piece) ≡ true → Torn place (length piece) (state_of d).bytes (state_of e).bytes
tears_after d e place piece is bad =
    subst (λ (b : List ℕ). Torn place (length piece) (state_of d).bytes b) (sym (unwritten_after d e place piece is bad)) (torn_same place (length piece) (state_of d).bytes)

torn_of : (place : ℕ) (piece : List ℕ) (failed : Bool) (s : DiskState) (c : List ℕ) → IsImage (after_write place piece failed s) c → After (Torn place (length piece)) (IsImage s) c
torn_of place piece true s c image = image
torn_of place piece false s c image = image

pub torn_after : (d e : MemoryDiskTold) (place : ℕ) (piece : List ℕ) → e ≡ after d (Write place piece) → Follows (Torn place (length piece)) (IsImage (state_of d)) (IsImage (state_of e))
torn_after d e place piece is c image = ⊎_elim
    (λ n. torn_of place piece n.failed (state_of d) c (subst (λ s. IsImage s c) (ap state_of is ∙ state_noted d (Write place piece) n) image))
    (λ r. (c, subst (λ s. IsImage s c) (ap state_of is ∙ state_refused d (Write place piece) r) image, torn_same place (length piece) c))
    (cases_of d (Write place piece))

-- ---- notes

noted_size : (n : NotesTold) (call : DiskCall) (full : Bool) → is_full n ≡ full → (length n.calls ≤ length (after_note n call).calls) × (full ≡ false → length (after_note n call).calls ≡ length n.calls + 1)
noted_size n call true is = rw is (omega arith, λ not. absurd (cc))
noted_size n call false is =
    let long = length-append n.calls ((record { call = call; failed = is_next_listed n }) ∷ []) in
    rw is (omega (arith, long), λ not. omega (arith, long))

noted_room : (n : NotesTold) (call : DiskCall) (full : Bool) → is_full n ≡ full → (after_note n call).room ≡ n.room
noted_room n call true is = rw is refl
noted_room n call false is = rw is refl

-- No call is lost, and one is gained where there is room.
pub record Grows (n e : NotesTold) : Type 0 where
  pub room : e.room ≡ n.room
  pub no_less : length n.calls ≤ length e.calls
  pub one_more : is_full n ≡ false → length e.calls ≡ length n.calls + 1

pub grows : (n e : NotesTold) (call : DiskCall) → e ≡ after_note n call → Grows n e
grows n e call is = subst (λ (x : NotesTold). Grows n x) (sym is) record {
  room = noted_room n call (is_full n) refl;
  no_less = (noted_size n call (is_full n) refl).0;
  one_more = (noted_size n call (is_full n) refl).1;
}

quiet_is_within : (d : MemoryDiskTold) (call : DiskCall) → is_write call ≡ false → is_past d call ≡ false
quiet_is_within d Length quiet_call = refl
quiet_is_within d Read quiet_call = refl
quiet_is_within d (Write place piece) quiet_call = absurd (cc)
quiet_is_within d Sync quiet_call = refl

after_within : (d : MemoryDiskTold) (n : NotesTold) (call : DiskCall) → is_past d call ≡ false → n ≡ after_note d.notes call → record d { notes = n } ≡ after d call
after_within d n call within is = rw within (ap (λ (x : NotesTold). let y : MemoryDiskTold = record d { notes = x } in y) is)

-- The bytes after the calls that are noted.
pub kept_quiet : (d : MemoryDiskTold) (n : NotesTold) (call : DiskCall) → is_write call ≡ false → n ≡ after_note d.notes call → (after_calls (start d.first) n.calls).bytes ≡ (state_of d).bytes
kept_quiet d n call quiet_call is = same_after d (record d { notes = n }) call (after_within d n call (quiet_is_within d call quiet_call) is) quiet_call

pub kept_failed : (d : MemoryDiskTold) (n : NotesTold) (place : ℕ) (piece : List ℕ) → is_past d (Write place piece) ≡ false → true ≡ (is_full d.notes || is_next_listed d.notes)
    → n ≡ after_note d.notes (Write place piece) → (after_calls (start d.first) n.calls).bytes ≡ (state_of d).bytes
kept_failed d n place piece within bad is =
    unwritten_after d (record d { notes = n }) place piece (after_within d n (Write place piece) within is) (rw within (sym bad))

pub kept_written : (d : MemoryDiskTold) (n : NotesTold) (place : ℕ) (piece : List ℕ) → is_past d (Write place piece) ≡ false → false ≡ (is_full d.notes || is_next_listed d.notes)
    → n ≡ after_note d.notes (Write place piece) → (after_calls (start d.first) n.calls).bytes ≡ put place piece (state_of d).bytes
kept_written d n place piece within good is =
    written_after d (record d { notes = n }) place piece (after_within d n (Write place piece) within is) (rw within (sym good))
