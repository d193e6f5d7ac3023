-- What the images of a journal stand for, at a gate that is closed, torn or open.
use Rattle.std.proofs.Common.{◌≡◌, ◌≢◌, inl, inr, ⊎_elim, ℕ, ◌+◌, ◌≤◌, Bool, true, false, List, [], ◌∷◌, ◌++◌, length, drop, refl, sym, ◌∙◌, ap, subst, arith, append_assoc, length-append, Result, Ok, Err, OnOk, OnErr, is_err}
use Rattle.std.proofs.lemmas.Bool.{cases_lt, cases_eq}
use Rattle.std.specs.List.{flat_map, AllByRecursion}
use Rattle.ots_disk.specs.Disk.{put, Torn}
use Rattle.ots_journal.specs.declared.limits.TheConstants.{EMPTY_JOURNAL}
use Rattle.ots_journal.specs.declared.entry.Entry.{Entry}
use Rattle.ots_journal.specs.Image.{open_gate, group_body, group_bytes, FitsGroup, entries_of, prefix, Stands}
use Rattle.ots_journal.specs.Journal.{AtGate, Keeps, StandsForEither}
use Rattle.ots_journal.proofs.Gates.{torn_left, put_after, torn_gate, put_gate}
use Rattle.ots_journal.proofs.Groups.{prefix_push, entries_push, fit_push, length-group_body}

-- ---- standing

few_groups : (groups : List (List Entry)) (gate : ℕ) (rest : List ℕ) → length (prefix groups ++ gate ∷ rest) ≤ EMPTY_JOURNAL → entries_of groups ≡ []
few_groups [] gate rest short = refl
few_groups (group ∷ groups) gate rest short =
    absurd (omega (arith, short, length-append (prefix (group ∷ groups)) (gate ∷ rest), length-append (group_bytes group) (flat_map group_bytes groups), length-group_body group))

pub stands_closed : (groups : List (List Entry)) (gate : ℕ) (rest c : List ℕ) → AllByRecursion FitsGroup groups → c ≡ prefix groups ++ gate ∷ rest → gate ≢ open_gate → Stands c (entries_of groups)
stands_closed groups gate rest c fit whole closed = ⊎_elim
    (λ long. inr (record { long = long; groups = groups; gate = gate; rest = rest; begins = record { whole = whole; fit = fit }; closed = closed; joined = refl }))
    (λ short. inl (short, few_groups groups gate rest (omega (arith, short, ap length whole))))
    (cases_lt EMPTY_JOURNAL (length c))

-- a gate that is open has the group in flight after it
pub opened_whole : (groups : List (List Entry)) (flight : List Entry) (gate next : ℕ) (rest after c : List ℕ) → c ≡ prefix groups ++ gate ∷ rest → gate ≡ open_gate → rest ≡ group_body flight ++ next ∷ after
    → c ≡ prefix (groups ++ flight ∷ []) ++ next ∷ after
opened_whole groups flight gate next rest after c whole is following =
    whole ∙ ap (λ (g : ℕ). prefix groups ++ g ∷ rest) is ∙ ap (λ (l : List ℕ). prefix groups ++ open_gate ∷ l) following ∙ sym (prefix_push groups flight (next ∷ after))

pub stands_either : (groups : List (List Entry)) (flight : List Entry) (is_sure : Bool) (c : List ℕ) → AllByRecursion FitsGroup groups → FitsGroup flight → AtGate groups flight is_sure c → StandsForEither (entries_of groups) flight c
stands_either groups flight is_sure c fit fits at = ⊎_elim
    (λ is. let o = at.opened is in
    inr (subst (λ (es : List Entry). Stands c es) (entries_push groups flight)
    (stands_closed (groups ++ flight ∷ []) o.0 o.1 c (fit_push groups flight fit fits) (opened_whole groups flight at.gate o.0 at.rest o.1 c at.whole is o.3) o.2)))
    (λ ne. inl (stands_closed groups at.gate at.rest c fit at.whole ne))
    (cases_eq at.gate open_gate)

pub stands_sure : (groups : List (List Entry)) (flight : List Entry) (c : List ℕ) → AllByRecursion FitsGroup groups → AtGate groups flight true c → Stands c (entries_of groups)
stands_sure groups flight c fit at = stands_closed groups at.gate at.rest c fit at.whole (at.closed refl)

module _ (images : List ℕ → Type 0) where
  pub keeps_either : (entries flight : List Entry) (is_sure : Bool) (gate : ℕ) → Keeps images entries flight is_sure gate → (c : List ℕ) → images c → StandsForEither entries flight c
  keeps_either entries flight true gate k c image =
      inl (subst (λ (es : List Entry). Stands c es) (sym k.joined) (stands_sure k.groups flight c k.fit (k.each c image)))
  keeps_either entries flight false gate k c image =
      subst (λ (es : List Entry). StandsForEither es flight c) (sym k.joined) (stands_either k.groups flight false c k.fit (k.flight_fits refl) (k.each c image))

  pub keeps_sure : (entries flight : List Entry) (is_sure : Bool) (gate : ℕ) → Keeps images entries flight is_sure gate → is_sure ≡ true → (c : List ℕ) → images c → Stands c entries
  keeps_sure entries flight true gate k is c image = subst (λ (es : List Entry). Stands c es) (sym k.joined) (stands_sure k.groups flight c k.fit (k.each c image))
  keeps_sure entries flight false gate k is c image = absurd (cc)

-- ---- the steps of an append

-- The group's bytes and a closed gate lie after a closed gate.
pub record Staged (groups : List (List Entry)) (flight : List Entry) (bytes : List ℕ) : Type 0 where
  pub gate : ℕ
  pub rest : List ℕ
  pub whole : bytes ≡ prefix groups ++ gate ∷ ((group_body flight ++ 0 ∷ []) ++ rest)
  pub closed : gate ≢ open_gate

pub torn_body : (groups : List (List Entry)) (old flight : List Entry) (n : ℕ) (d c : List ℕ) → AtGate groups old true d → Torn (length (prefix groups) + 1) n d c → AtGate groups flight false c
torn_body groups old flight n d c at torn =
    let r = torn_left (prefix groups) at.gate at.rest d at.whole n c torn in
    record { gate = at.gate; rest = r.0; whole = r.1; closed = λ is. at.closed refl; opened = λ is. absurd (at.closed refl is) }

pub put_body : (groups : List (List Entry)) (old flight : List Entry) (d : List ℕ) → AtGate groups old true d → Staged groups flight (put (length (prefix groups) + 1) (group_body flight ++ 0 ∷ []) d)
put_body groups old flight d at = record {
  gate = at.gate;
  rest = drop (length (group_body flight ++ 0 ∷ [])) at.rest;
  whole = put_after (prefix groups) at.gate at.rest d at.whole (group_body flight ++ 0 ∷ []);
  closed = at.closed refl;
}

zero_is_closed : 0 ≢ open_gate
zero_is_closed is = absurd (omega (arith, is))

pub staged_closed : (groups : List (List Entry)) (flight : List Entry) (d : List ℕ) → Staged groups flight d → AtGate groups flight false d
staged_closed groups flight d s = record { gate = s.gate; rest = (group_body flight ++ 0 ∷ []) ++ s.rest; whole = s.whole; closed = λ is. s.closed; opened = λ is. absurd (s.closed is) }

pub torn_opening : (groups : List (List Entry)) (flight : List Entry) (d c : List ℕ) → Staged groups flight d → Torn (length (prefix groups)) 1 d c → AtGate groups flight false c
torn_opening groups flight d c s torn =
    let h = torn_gate (prefix groups) s.gate ((group_body flight ++ 0 ∷ []) ++ s.rest) d s.whole c torn in
    record {
      gate = h.0;
      rest = (group_body flight ++ 0 ∷ []) ++ s.rest;
      whole = h.1;
      closed = λ is. absurd (cc);
      opened = λ is. (0, s.rest, zero_is_closed, append_assoc (group_body flight) (0 ∷ []) s.rest);
    }

pub put_opening : (groups : List (List Entry)) (flight : List Entry) (d : List ℕ) → Staged groups flight d → AtGate (groups ++ flight ∷ []) [] true (put (length (prefix groups)) (open_gate ∷ []) d)
put_opening groups flight d s =
    let c = put (length (prefix groups)) (open_gate ∷ []) d in
    let rest = (group_body flight ++ 0 ∷ []) ++ s.rest in
    record {
      gate = 0;
      rest = s.rest;
      whole = opened_whole groups flight open_gate 0 rest s.rest c (put_gate (prefix groups) s.gate rest d s.whole open_gate) refl (append_assoc (group_body flight) (0 ∷ []) s.rest);
      closed = λ is. zero_is_closed;
      opened = λ is. absurd (zero_is_closed is);
    }

-- ---- answers

pub on_err : {T E P : Type 0} (r : Result T E) → P → OnErr r P
on_err (Ok x) p = tt
on_err (Err e) p = p

pub on_ok : {T E P : Type 0} (r : Result T E) → P → OnOk r P
on_ok (Ok x) p = p
on_ok (Err e) p = tt

pub at_ok : {T E P : Type 0} (r : Result T E) → is_err r ≡ false → OnOk r P → P
at_ok (Ok x) is p = p
at_ok (Err e) is p = absurd (cc)
