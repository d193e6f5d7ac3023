-- The proofs of stamped files, made one after the other.
use Rattle.std.proofs.Common.{◌≡◌, ◌<◌, ◌≤◌, ℕ, suc, ◌+◌, List, [], ◌∷◌, ◌++◌, length, take, drop, Option, refl, sym, ap, subst, ◌∙◌, add-one, append-nil, arith}
use Rattle.std.specs.Prelude.{slice_index_or}
use Rattle.std.proofs.Math.Seq.{take-suc}
use Rattle.std.proofs.lemmas.List.{drop_more, length-take-le, take-append-drop, take_all}
use Rattle.std.specs.Prelude.{Ok, Err}
use Rattle.ots_base.specs.Cause.{Rose}
use Rattle.ots_outside.specs.Shelf.{OnlyWriting, OnlyWriting-trans, ShelfFaults, ShelfTold}
use Rattle.ots_stamp.specs.Stamped.{good_trees}
use Rattle.ots_client_endings.specs.CarriedOut.{Carries, CarriesOn, CarriesOut, Does}
use Rattle.ots_stamping.specs.Answered.{StampedFiles, acts_at, acts_of_stamped}
use Rattle.ots_client_text.specs.declared.status.Status.{Status}
use Rattle.ots_client_endings.proofs.Carrying.{carries_later, does_more, does_then}
use Rattle.ots_tree.specs.declared.token.Token.{Token}
use Rattle.ots_stamp.specs.declared.target.Target.{Target}
use Rattle.ots_client_endings.specs.Ending.{Act, makes_stamp, prints}
use Rattle.ots_stamping.specs.Stamp.{stamp_acts}
use Rattle.ots_client_text.specs.Lines.{proof_name, wrote_text}

module _ (targets : List Target) (trees : List (List Token)) where
  joined : (k : ℕ) (xs ys : List (List ℕ)) → stamp_acts targets trees k (xs ++ ys) ≡ stamp_acts targets trees k xs ++ stamp_acts targets trees (k + length xs) ys
  joined k [] ys = let same : k ≡ k + 0 = omega arith in ap (λ (z : ℕ). stamp_acts targets trees z ys) same
  joined k (x ∷ xs) ys =
      let next : suc k + length xs ≡ k + suc (length xs) = omega arith in
      ap (λ (z : List Act). makes_stamp targets trees k (proof_name x) ∷ prints (wrote_text x) ∷ z)
      (joined (suc k) xs ys ∙ ap (λ (z : ℕ). stamp_acts targets trees (suc k) xs ++ stamp_acts targets trees z ys) next)

  -- the acts of the files after the first ones
  after : (files more : List (List ℕ)) (i : ℕ) → i < length files
      → stamp_acts targets trees 0 (take i files ++ more) ≡ stamp_acts targets trees 0 (take i files) ++ stamp_acts targets trees i more
  after files more i less =
      let count : 0 + length (take i files) ≡ i = let is = length-take-le i files (omega arith) in omega (arith, is) in
      joined 0 (take i files) more ∙ ap (λ (z : ℕ). stamp_acts targets trees 0 (take i files) ++ stamp_acts targets trees z more) count

  pub first_acts : (files : List (List ℕ)) (i : ℕ) → i < length files
      → stamp_acts targets trees 0 (take (i + 1) files) ≡ stamp_acts targets trees 0 (take i files) ++ stamp_acts targets trees i (slice_index_or files i [] ∷ [])
  first_acts files i less =
      let first : take (i + 1) files ≡ take i files ++ slice_index_or files i [] ∷ [] = ap (λ (z : ℕ). take z files) (add-one i) ∙ take-suc files i [] less in
      ap (stamp_acts targets trees 0) first ∙ after files (slice_index_or files i [] ∷ []) i less

  pub all_acts : (files : List (List ℕ)) (i : ℕ) → i < length files
      → stamp_acts targets trees 0 files
      ≡ stamp_acts targets trees 0 (take i files) ++ (stamp_acts targets trees i (slice_index_or files i [] ∷ []) ++ stamp_acts targets trees (suc i) (drop (i + 1) files))
  all_acts files i less =
      let whole : files ≡ take i files ++ slice_index_or files i [] ∷ drop (i + 1) files =
      sym (take-append-drop i files) ∙ ap (λ (z : List (List ℕ)). take i files ++ z) (drop_more files i [] less) in
      ap (stamp_acts targets trees 0) whole ∙ after files (slice_index_or files i [] ∷ drop (i + 1) files) i less

-- ---- the loop that makes them

-- The proofs of the first files were made, and told. All that is told of the shelf but its names stays.
pub record MadeSoFar (s : StampedFiles) (i : ℕ) (old new : ShelfTold) (before now : ShelfFaults) (taken taken_now : Option (List ℕ)) : Type 0 where
  pub does : Does (stamp_acts s.targets (good_trees s.outcomes) 0 (take i s.files)) old.names new.names taken taken_now
  pub opened : new.opened ≡ old.opened
  pub slots : (k : ℕ) → new.slots k ≡ old.slots k
  pub short : new.short ≡ old.short
  pub counts : OnlyWriting before now
  pub later : before.writing ≤ now.writing

pub none_made : (s : StampedFiles) (told : ShelfTold) (faults : ShelfFaults) (taken : Option (List ℕ)) → MadeSoFar s 0 told told faults faults taken taken
none_made s told faults taken = record {
  does = (refl, refl);
  opened = refl;
  slots = λ k. refl;
  short = refl;
  counts = record { opening = refl; reading = refl };
  later = omega arith;
}

module _ (s : StampedFiles) (i : ℕ) (old mid new : ShelfTold) (before between now : ShelfFaults) (P : Type 0) (taken taken_mid taken_now : Option (List ℕ))
    (so_far : MadeSoFar s i old mid before between taken taken_mid) (less : i < length s.files) where
  pub made_next : CarriesOn (acts_at s i) mid new between now P taken_mid taken_now (Ok tt) → MadeSoFar s (i + 1) old new before now taken taken_now
  made_next h = record {
    does = subst (λ (z : List Act). Does z old.names new.names taken taken_now) (sym (first_acts s.targets (good_trees s.outcomes) s.files i less))
        (does_more (stamp_acts s.targets (good_trees s.outcomes) 0 (take i s.files)) (acts_at s i) old.names mid.names new.names taken taken_mid taken_now so_far.does h.out);
    opened = h.opened ∙ so_far.opened;
    slots = λ k. h.slots k ∙ so_far.slots k;
    short = h.short (λ ran. cc) ∙ so_far.short;
    counts = OnlyWriting-trans before between now so_far.counts h.counts;
    later = let first = so_far.later in let last = h.later in omega (arith, first, last);
  }

  pub made_until : (Q : Type 0) (status r : Status) → (P → Q) → CarriesOn (acts_at s i) mid new between now P taken_mid taken_now (Err r)
      → Carries status (acts_of_stamped s) old new before now Q taken taken_now r
  made_until Q status r f h = record {
    out = subst (λ (z : List Act). CarriesOut (Rose before.writing now.writing) Q status z old.names new.names taken taken_now r)
        (sym (all_acts s.targets (good_trees s.outcomes) s.files i less))
        (does_then (Rose before.writing now.writing) Q status (stamp_acts s.targets (good_trees s.outcomes) 0 (take i s.files))
        (acts_at s i ++ stamp_acts s.targets (good_trees s.outcomes) (suc i) (drop (i + 1) s.files)) old.names mid.names new.names taken taken_mid taken_now r so_far.does
        (carries_later (Rose between.writing now.writing) (Rose before.writing now.writing) P Q (λ rose. let first = so_far.later in omega (arith, first, rose)) f status
        (acts_at s i ++ stamp_acts s.targets (good_trees s.outcomes) (suc i) (drop (i + 1) s.files)) mid.names new.names taken_mid taken_now r
        (h.out status (stamp_acts s.targets (good_trees s.outcomes) (suc i) (drop (i + 1) s.files)))));
    opened = h.opened ∙ so_far.opened;
    slots = λ k. h.slots k ∙ so_far.slots k;
    short = λ enough. h.short (λ ran. enough cc) ∙ so_far.short;
    counts = OnlyWriting-trans before between now so_far.counts h.counts;
    later = let first = so_far.later in let last = h.later in omega (arith, first, last);
  }

pub made_all : (s : StampedFiles) (i : ℕ) (old new : ShelfTold) (before now : ShelfFaults) (Q : Type 0) (taken taken_now : Option (List ℕ)) (status : Status)
    → MadeSoFar s i old new before now taken taken_now → length s.files ≤ i → Carries status (acts_of_stamped s) old new before now Q taken taken_now status
made_all s i old new before now Q taken taken_now status so_far past = record {
  out = subst (λ (z : List Act). CarriesOut (Rose before.writing now.writing) Q status z old.names new.names taken taken_now status)
      (append-nil (stamp_acts s.targets (good_trees s.outcomes) 0 (take i s.files)) ∙ ap (stamp_acts s.targets (good_trees s.outcomes) 0) (take_all i s.files past))
      (does_then (Rose before.writing now.writing) Q status (stamp_acts s.targets (good_trees s.outcomes) 0 (take i s.files)) [] old.names new.names new.names taken taken_now taken_now status
      so_far.does (refl, refl, refl));
  opened = so_far.opened;
  slots = so_far.slots;
  short = λ enough. so_far.short;
  counts = so_far.counts;
  later = so_far.later;
}
