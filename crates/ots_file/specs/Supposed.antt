-- What a file is supposed to have held, as long as its answers are those of an honest file that held it.
--
-- This is how the clauses on bytes and images speak of a file of the system, which tells nothing. Let `first` of
-- `FileCalls` be `supposed b` of the history and `honest` be `supposed_honest b` of it, for bytes b that the device is
-- supposed to have held. Then every clause of `FileCalls` is as it is for such a file, but `kept`, which says that a
-- call leaves `supposed b` as it was; by `supposed_kept` it does where its answer is one of an honest file. So this one
-- hypothesis, that each answer is honest, is all that is asked of the system. No function cites this page.
use Rattle.std.specs.Prelude.{◌≡◌, ◌≤◌, ℕ, ◌==◌, ◌&&◌, ◌||◌, nat_le, nat_lt, bytes_eq, Bool, true, false, List, []}
use Rattle.std.specs.Prelude.{◌∷◌, length, take, drop, Option, Some, None, if◌then◌else◌}
use Rattle.std.proofs.Common.{zero, suc, ap, refl, arith, ◌∙◌}
use Rattle.std.proofs.Math.Bool.{and-true}
use Rattle.std.proofs.lemmas.Bool.{and_parts, eqb-true, leb-true, eq-eqb, le-leb, lt-ltb}
use Rattle.std.specs.Cmp.Derive.{both_true}
use Rattle.std.proofs.lemmas.Slice.Eq.{bytes_eq-Decides}
use Rattle.ots_base.specs.Told.{IfTold}
use Rattle.ots_disk.specs.History.{DiskState}
use Rattle.ots_file.specs.Events.{FileEvent, replay, HonestEvent, IsHonest}
use Rattle.ots_file.specs.Events.FileEvent.{opened, folder_synced, pages_dropped, measured, got, wrote, synced}

abbrev pub answers_so : FileEvent → DiskState → Bool
answers_so (opened folder ok) s = true
answers_so (folder_synced folder ok) s = true
answers_so (pages_dropped ok) s = true
answers_so (measured true n) s = n == length s.bytes
answers_so (measured false n) s = true
answers_so (got place asked true bytes) s =
    bytes_eq bytes (take (length bytes) (drop place s.bytes)) &&
    (nat_le (length s.bytes) place || nat_lt 0 (length bytes))
answers_so (got place asked false bytes) s = true
answers_so (wrote place piece ok n) s = true
answers_so (synced ok) s = true

abbrev pub is_honest : List ℕ → List FileEvent → Bool
is_honest first [] = true
is_honest first (e ∷ earlier) = is_honest first earlier && answers_so e (replay first earlier)

abbrev pub supposed : List ℕ → List FileEvent → Option (List ℕ)
supposed first h = if is_honest first h then Some first else None

left_of : (a b : Bool) → (a || b) ≡ true → b ≡ false → a ≡ true
left_of true b is not = refl
left_of false b is not = absurd (cc)

event_law : (e : FileEvent) (s : DiskState) → answers_so e s ≡ true → HonestEvent e s
event_law (opened folder ok) s is = tt
event_law (folder_synced folder ok) s is = tt
event_law (pages_dropped ok) s is = tt
event_law (measured true n) s is = eqb-true n (length s.bytes) is
event_law (measured false n) s is = tt
event_law (got place asked true bytes) s is =
    let both = and_parts (bytes_eq bytes (take (length bytes) (drop place s.bytes)))
    (nat_le (length s.bytes) place || nat_lt 0 (length bytes)) is in (
      (bytes_eq-Decides bytes (take (length bytes) (drop place s.bytes))).0 both.0,
      λ none. leb-true (length s.bytes) place
          (left_of (nat_le (length s.bytes) place) (nat_lt 0 (length bytes)) both.1 (ap (λ (n : ℕ). nat_lt 0 n) none)),
    )
event_law (got place asked false bytes) s is = tt
event_law (wrote place piece ok n) s is = tt
event_law (synced ok) s is = tt

honest_if : (first : List ℕ) (h : List FileEvent) → is_honest first h ≡ true → IsHonest first h
honest_if first [] is = tt
honest_if first (e ∷ earlier) is =
    let both = and_parts (is_honest first earlier) (answers_so e (replay first earlier)) is in
    (honest_if first earlier both.0, event_law e (replay first earlier) both.1)

or_true : (a : Bool) → (a || true) ≡ true
or_true true = refl
or_true false = refl

by_flag : (first : List ℕ) (h : List FileEvent) (flag : Bool) → (flag ≡ true → IsHonest first h)
    → IfTold (if flag then Some first else None) (λ b. IsHonest b h)
by_flag first h true is = is refl
by_flag first h false is = tt

-- the member `honest` of `FileCalls` at `first = λ f. supposed b (history f)`
pub supposed_honest : (first : List ℕ) (h : List FileEvent) → IfTold (supposed first h) (λ b. IsHonest b h)
supposed_honest first h = by_flag first h (is_honest first h) (honest_if first h)

or_end : (n m place : ℕ) → (n ≡ 0 → m ≤ place) → (nat_le m place || nat_lt 0 n) ≡ true
or_end zero m place is = ap (λ (b : Bool). b || nat_lt 0 0) (le-leb m place (is refl))
or_end (suc n) m place is =
    ap (λ (b : Bool). nat_le m place || b) (lt-ltb 0 (suc n) (omega arith)) ∙ or_true (nat_le m place)

answer_is : (e : FileEvent) (s : DiskState) → HonestEvent e s → answers_so e s ≡ true
answer_is (opened folder ok) s is = refl
answer_is (folder_synced folder ok) s is = refl
answer_is (pages_dropped ok) s is = refl
answer_is (measured true n) s is = eq-eqb n (length s.bytes) is
answer_is (measured false n) s is = refl
answer_is (got place asked true bytes) s is =
    both_true ((bytes_eq-Decides bytes (take (length bytes) (drop place s.bytes))).1 is.0)
    (or_end (length bytes) (length s.bytes) place is.1)
answer_is (got place asked false bytes) s is = refl
answer_is (wrote place piece ok n) s is = refl
answer_is (synced ok) s is = refl

-- an honest answer keeps what is supposed
pub supposed_kept : (first : List ℕ) (e : FileEvent) (h : List FileEvent) → HonestEvent e (replay first h)
    → supposed first (e ∷ h) ≡ supposed first h
supposed_kept first e h is =
    ap (λ (flag : Bool). if flag then Some first else None)
    (ap (λ (flag : Bool). is_honest first h && flag) (answer_is e (replay first h) is) ∙ and-true (is_honest first h))
