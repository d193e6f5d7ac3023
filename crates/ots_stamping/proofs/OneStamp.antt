-- The proof of one stamped file, and its act.
use Rattle.std.proofs.Common.{◌≡◌, ◌<◌, ℕ, zero, suc, List, [], ◌∷◌, length, Option, Some, inl, inr, refl, ap, subst, arith}
use Rattle.std.specs.Prelude.{Result, Ok, Err, IfOk, slice_get}
use Rattle.ots_address.specs.Address.{AddressParts}
use Rattle.ots_base.specs.Cause.{Rose}
use Rattle.ots_base.specs.declared.limits.TheConstants.{MAX_PROOF_FILE}
use Rattle.ots_base.specs.declared.out_of_memory.OutOfMemory.{OutOfMemory as NoMemory}
use Rattle.ots_detached.specs.File.{IsFileOf, file_of}
use Rattle.ots_outside.specs.Shelf.{ShelfFaults, ShelfTold}
use Rattle.ots_tree.specs.declared.detached.Detached.{Detached}
use Rattle.ots_tree.specs.declared.token.Token.{Token}
use Rattle.ots_asking.specs.declared.outcome.Outcome.{Outcome}
use Rattle.ots_stamp.specs.declared.target.Target.{Target}
use Rattle.ots_stamp.specs.Stamped.{GathersForm, IsStampOf, good_trees}
use Rattle.ots_client_endings.specs.CarriedOut.{CarriesOn, DoesOrEnds, PrintsLast}
use Rattle.ots_client_endings.specs.Ending.{IsStampAt, makes, makes_stamp, prints}
use Rattle.ots_client_text.specs.Refusal.{refusal_text}
use Rattle.ots_stamping.specs.Answered.{KeepsStamped, StampedFiles}
use Rattle.ots_client_text.specs.Lines.{wrote_text}
use Rattle.ots_client_text.specs.declared.status.Status.{Status}
use Rattle.ots_client_text.specs.declared.status.Status.TheVariants.{OutOfMemory, TooBig}

some_at : {A : Type 0} (xs : List A) (i : ℕ) → i < length xs → (x : A) × (slice_get xs i ≡ Some x)
some_at [] i less = absurd (omega arith)
some_at (x ∷ xs) zero less = (x, refl)
some_at (x ∷ xs) (suc i) less = some_at xs i (omega arith)

pub stamp_of : (s : StampedFiles) (calendars : List AddressParts) (outcomes : List Outcome) (files : List (List ℕ)) (targets : List Target) (form : List Token) (i : ℕ)
    (r : Result Detached NoMemory) → record { calendars = calendars; outcomes = outcomes; files = files; targets = targets } ≡ s
    → KeepsStamped files targets outcomes form → i < length s.files
    → IfOk r (λ p. (t : Target) (trees : List (List Token)) → slice_get targets i ≡ Some t → GathersForm trees form → IsStampOf targets i t trees p)
    → IfOk r (IsStampAt s.targets (good_trees s.outcomes) i)
stamp_of s calendars outcomes files targets form i (Err e) is keeps less h = tt
stamp_of s calendars outcomes files targets form i (Ok p) is keeps less h =
    let same : length files ≡ length s.files = ap (λ (z : StampedFiles). length z.files) is in
    let count : length files ≡ length targets = keeps.count in
    let at = some_at targets i (omega (arith, less, same, count)) in
    subst (λ (z : StampedFiles). IsStampAt z.targets (good_trees z.outcomes) i p) is (at.0, at.1, h at.0 (good_trees outcomes) at.1 keeps.gathers)

-- ---- its act

module _ (targets : List Target) (trees : List (List Token)) (i : ℕ) (p : Detached) (stamp : IsStampAt targets trees i p) (name text : List ℕ) (old new : ShelfTold)
    (before now : ShelfFaults) (printing : Type 0) (taken taken_now : Option (List ℕ)) where
  -- a file that was made is the proof
  pub stamp_carried : (r : Result (Unit {0}) Status) → IsFileOf (file_of p) p
      → CarriesOn (makes name (file_of p) ∷ prints text ∷ []) old new before now printing taken taken_now r
      → CarriesOn (makes_stamp targets trees i name ∷ prints text ∷ []) old new before now printing taken taken_now r
  stamp_carried r file h = record {
    out = out r h.out;
    opened = h.opened;
    slots = h.slots;
    short = h.short;
    counts = h.counts;
    later = h.later;
  } where
    out : (r : Result (Unit {0}) Status) → DoesOrEnds (Rose before.writing now.writing) printing (makes name (file_of p) ∷ prints text ∷ []) old.names new.names taken taken_now r
        → DoesOrEnds (Rose before.writing now.writing) printing (makes_stamp targets trees i name ∷ prints text ∷ []) old.names new.names taken taken_now r
    out (Ok done) does = (p, stamp, file, does.0, does.1)
    out (Err s) ends = λ status more. inl (p, stamp, file, ends status more)

-- the same under another name
pub renamed : (printing : Type 0) (s : Status) (a b : List ℕ) (taken now : Option (List ℕ)) (r : Status) → a ≡ b → PrintsLast printing s (refusal_text a s) taken now r
    → PrintsLast printing s (refusal_text b s) taken now r
renamed printing s a b taken now r is h = subst (λ (z : List ℕ). PrintsLast printing s (refusal_text z s) taken now r) is h

pub renamed_acts : (a b n m : List ℕ) (p : Detached) (old new : ShelfTold) (before now : ShelfFaults) (printing : Type 0) (taken taken_now : Option (List ℕ))
    (r : Result (Unit {0}) Status) → a ≡ b → n ≡ m → CarriesOn (makes a (file_of p) ∷ prints (wrote_text n) ∷ []) old new before now printing taken taken_now r
    → CarriesOn (makes b (file_of p) ∷ prints (wrote_text m) ∷ []) old new before now printing taken taken_now r
renamed_acts a b n m p old new before now printing taken taken_now r first last h =
    subst (λ (z : List ℕ). CarriesOn (makes z (file_of p) ∷ prints (wrote_text m) ∷ []) old new before now printing taken taken_now r) first
    (subst (λ (z : List ℕ). CarriesOn (makes a (file_of p) ∷ prints (wrote_text z) ∷ []) old new before now printing taken taken_now r) last h)

-- A proof is too long, and that is told.
pub stamp_too_long : (targets : List Target) (trees : List (List Token)) (i : ℕ) (p : Detached) (name text : List ℕ) (told : ShelfTold) (faults : ShelfFaults) (printing : Type 0)
    (taken now : Option (List ℕ)) (r : Status) → IsStampAt targets trees i p → MAX_PROOF_FILE < length (file_of p)
    → PrintsLast printing TooBig (refusal_text name TooBig) taken now r
    → CarriesOn (makes_stamp targets trees i name ∷ prints text ∷ []) told told faults faults printing taken now (Err r)
stamp_too_long targets trees i p name text told faults printing taken now r stamp long last = record {
  out = λ status more. inr (inl (p, stamp, long, refl, last));
  opened = refl;
  slots = λ k. refl;
  short = λ enough. refl;
  counts = record { opening = refl; reading = refl };
  later = omega arith;
}

-- Memory ran out before.
pub stamp_short : (targets : List Target) (trees : List (List Token)) (i : ℕ) (name text : List ℕ) (told : ShelfTold) (faults : ShelfFaults) (printing : Type 0)
    (taken : Option (List ℕ)) → CarriesOn (makes_stamp targets trees i name ∷ prints text ∷ []) told told faults faults printing taken taken (Err OutOfMemory)
stamp_short targets trees i name text told faults printing taken = record {
  out = λ status more. inr (inr (refl, refl, refl));
  opened = refl;
  slots = λ k. refl;
  short = λ enough. refl;
  counts = record { opening = refl; reading = refl };
  later = omega arith;
}
