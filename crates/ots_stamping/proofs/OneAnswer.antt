-- What `stamp` answers is the only answer, by what was drawn and heard of calendars.
use mathlib.Core.HLevel.{is_prop→PathP}
use Rattle.std.proofs.Common.{◌≡◌, ℕ, List, [], ◌∷◌, ◌++◌, length, map, get_or, drop, Some, None, refl, sym, ap, subst, ◌∙◌, arith}
use Rattle.std.proofs.Math.Nat.{ℕ_set}
use Rattle.ots_address.specs.Address.{AddressParts}
use Rattle.ots_client_endings.specs.Ending.{Ending, prints}
use Rattle.ots_client_endings.specs.Outside.{Outside}
use Rattle.ots_client_endings.specs.Reading.{RefusesInput}
use Rattle.ots_client_endings.proofs.OneInput.{not_hashed, one_refusal, one_under, target_or_not, target_refusal, with_list}
use Rattle.ots_client_inputs.specs.Target.{IsHashOf, RefusesTarget}
use Rattle.ots_client_text.specs.declared.status.Status.TheVariants.{Done}
use Rattle.ots_client_words.specs.Words.{Stamping}
use Rattle.ots_inputs.specs.Under.{HasUnder}
use Rattle.ots_ops.specs.Hashed.{hashed}
use Rattle.ots_ops.specs.declared.hash_op.HashOp.TheVariants.{Sha256}
use Rattle.ots_outside.specs.Shelf.{Names}
use Rattle.ots_stamp.specs.Stamped.{good_trees}
use Rattle.ots_stamp.specs.declared.target.Target.{Target}
use Rattle.ots_stamping.specs.Hashing.{AreHashed, WithHashes, are_hashed, one_refused}
use Rattle.ots_stamping.specs.Stamp.{AreStampTargets, Stamps, StampsFiles, calendars_text, no_nonce, stamp_acts, stamped, too_few}

-- ---- the files are hashed in one way

module _ (names : Names) where
  abbrev IsHashed : List ℕ → List ℕ → Type 0
  IsHashed name digest = HasUnder (Some names) name (λ bytes. IsHashOf Sha256 bytes digest)

  abbrev Refused : List ℕ → Ending → Type 0
  Refused name e = RefusesInput (Some names) name RefusesTarget e

  hashed_once : (name d e : List ℕ) → IsHashed name d → IsHashed name e → d ≡ e
  hashed_once name d e f g = f.2.1 ∙ ap (λ (z : List ℕ). hashed Sha256 z) (one_under names name f.0 g.0 f.1 g.1) ∙ sym g.2.1

  all_once : (files xs ys : List (List ℕ)) → AreHashed (Some names) files xs → AreHashed (Some names) files ys → xs ≡ ys
  all_once [] [] [] f g = refl
  all_once [] [] (y ∷ ys) f g = absurd g
  all_once [] (x ∷ xs) ys f g = absurd f
  all_once (n ∷ ns) [] ys f g = absurd f
  all_once (n ∷ ns) (x ∷ xs) [] f g = absurd g
  all_once (n ∷ ns) (x ∷ xs) (y ∷ ys) f g = let first = hashed_once n x y f.0 g.0 in let rest = all_once ns xs ys f.1 g.1 in λ i. first i ∷ rest i

  refused_once : (name : List ℕ) (d e : Ending) → Refused name d → Refused name e → d ≡ e
  refused_once name = one_refusal names name (IsHashOf Sha256) RefusesTarget (λ b x y f g. f.1 ∙ sym g.1) target_refusal (target_or_not Sha256)

  -- the first of two lists that share their names is refused
  first_refused : (xs ys later after : List (List ℕ)) (x y : List ℕ) (ds es : List (List ℕ)) (d e : Ending) → xs ++ x ∷ later ≡ ys ++ y ∷ after
      → AreHashed (Some names) xs ds → AreHashed (Some names) ys es → Refused x d → Refused y e → d ≡ e
  first_refused [] [] later after x y ds es d e same f g h k =
      refused_once y d e (subst (λ (z : List ℕ). Refused z d) (ap (λ (z : List (List ℕ)). get_or z 0 []) same) h) k
  first_refused [] (z ∷ ys) later after x y ds [] d e same f g h k = absurd g
  first_refused [] (z ∷ ys) later after x y ds (s ∷ es) d e same f g h k =
      absurd (not_hashed names z s d g.0 (subst (λ (w : List ℕ). Refused w d) (ap (λ (w : List (List ℕ)). get_or w 0 []) same) h))
  first_refused (z ∷ xs) [] later after x y [] es d e same f g h k = absurd f
  first_refused (z ∷ xs) [] later after x y (s ∷ ds) es d e same f g h k =
      absurd (not_hashed names z s e f.0 (subst (λ (w : List ℕ). Refused w e) (sym (ap (λ (w : List (List ℕ)). get_or w 0 []) same)) k))
  first_refused (z ∷ xs) (w ∷ ys) later after x y [] es d e same f g h k = absurd f
  first_refused (z ∷ xs) (w ∷ ys) later after x y (s ∷ ds) [] d e same f g h k = absurd g
  first_refused (z ∷ xs) (w ∷ ys) later after x y (s ∷ ds) (t ∷ es) d e same f g h k =
      first_refused xs ys later after x y ds es d e (ap (drop 1) same) f.1 g.1 h k

  -- where one is refused, not all are hashed
  not_all : (xs later : List (List ℕ)) (x : List ℕ) (ds : List (List ℕ)) (e : Ending) → AreHashed (Some names) (xs ++ x ∷ later) ds → Refused x e → ⊥
  not_all [] later x [] e f h = absurd f
  not_all [] later x (d ∷ ds) e f h = not_hashed names x d e f.0 h
  not_all (z ∷ xs) later x [] e f h = absurd f
  not_all (z ∷ xs) later x (d ∷ ds) e f h = not_all xs later x ds e f.1 h

  with_hashes : (files : List (List ℕ)) (P : List (List ℕ) → Ending → Type 0) (d e : Ending) → ((digests : List (List ℕ)) → P digests d → P digests e → d ≡ e)
      → WithHashes (Some names) files P d → WithHashes (Some names) files P e → d ≡ e
  with_hashes files P d e one (are_hashed xs f h) (are_hashed ys g k) = one ys (subst (λ (z : List (List ℕ)). P z d) (all_once files xs ys f g) h) k
  with_hashes files P d e one (are_hashed xs f h) (one_refused r) =
      absurd (not_all r.earlier r.later r.name xs e (subst (λ (z : List (List ℕ)). AreHashed (Some names) z xs) r.split f) r.refused)
  with_hashes files P d e one (one_refused r) (are_hashed ys g k) =
      absurd (not_all r.earlier r.later r.name ys d (subst (λ (z : List (List ℕ)). AreHashed (Some names) z ys) r.split g) r.refused)
  with_hashes files P d e one (one_refused r) (one_refused s) =
      first_refused r.earlier s.earlier r.later s.later r.name s.name r.digests s.digests d e (sym r.split ∙ s.split) r.hashed s.hashed r.refused s.refused

-- ---- the targets are the files with the nonces that were drawn

same_target : (s t : Target) → s.digest ≡ t.digest → s.nonce ≡ t.nonce → s ≡ t
same_target s t digest nonce = λ i. record {
  digest = digest i;
  nonce = nonce i;
  is_sha256 = is_prop→PathP (λ j. length (digest j) ≡ 32) (λ j. ℕ_set _ _) s.is_sha256 t.is_sha256 i;
  is_nonce = is_prop→PathP (λ j. length (nonce j) ≡ 16) (λ j. ℕ_set _ _) s.is_nonce t.is_nonce i;
}

same_targets : (xs ys : List Target) → map (λ (t : Target). t.digest) xs ≡ map (λ (t : Target). t.digest) ys → map (λ (t : Target). t.nonce) xs ≡ map (λ (t : Target). t.nonce) ys → xs ≡ ys
same_targets [] [] digests nonces = refl
same_targets [] (y ∷ ys) digests nonces = absurd cc
same_targets (x ∷ xs) [] digests nonces = absurd cc
same_targets (x ∷ xs) (y ∷ ys) digests nonces =
    let first = same_target x y (ap (λ (z : List (List ℕ)). get_or z 0 []) digests) (ap (λ (z : List (List ℕ)). get_or z 0 []) nonces) in
    let rest = same_targets xs ys (ap (drop 1) digests) (ap (drop 1) nonces) in λ i. first i ∷ rest i

module _ (o : Outside) (calendars : List AddressParts) (digests : List (List ℕ)) where
  targets_once : (xs ys : List Target) → AreStampTargets o calendars digests xs → AreStampTargets o calendars digests ys → xs ≡ ys
  targets_once xs ys f g =
      let drawn : Some (map (λ (t : Target). t.nonce) xs) ≡ Some (map (λ (t : Target). t.nonce) ys) = sym f.nonces_are ∙ g.nonces_are in
      same_targets xs ys (f.digests_are ∙ sym g.digests_are) cc

  drawn_or_not : (xs : List Target) → o.nonces ≡ None → AreStampTargets o calendars digests xs → ⊥
  drawn_or_not xs none f = let clash : None ≡ Some (map (λ (t : Target). t.nonce) xs) = sym none ∙ f.nonces_are in absurd cc

  stamps_once : (least : ℕ) (files : List (List ℕ)) (d e : Ending) → Stamps o least files calendars digests d → Stamps o least files calendars digests e → d ≡ e
  stamps_once least files d e (no_nonce none asked f) (no_nonce none' asked' g) = f ∙ sym g
  stamps_once least files d e (no_nonce none asked f) (too_few ts are few g) = absurd (drawn_or_not ts none are)
  stamps_once least files d e (no_nonce none asked f) (stamped ts are enough g) = absurd (drawn_or_not ts none are)
  stamps_once least files d e (too_few ts are few f) (no_nonce none asked g) = absurd (drawn_or_not ts none are)
  stamps_once least files d e (too_few ts are few f) (too_few us are' few' g) = f ∙ sym g
  stamps_once least files d e (too_few ts are few f) (stamped us are' enough g) = absurd (omega arith)
  stamps_once least files d e (stamped ts are enough f) (no_nonce none asked g) = absurd (drawn_or_not ts none are)
  stamps_once least files d e (stamped ts are enough f) (too_few us are' few g) = absurd (omega arith)
  stamps_once least files d e (stamped ts are enough f) (stamped us are' enough' g) =
      f
      ∙ ap (λ (z : List Target). record { status = Done; acts = prints (calendars_text calendars o.outcomes) ∷ stamp_acts z (good_trees o.outcomes) 0 files })
      (targets_once ts us are are')
      ∙ sym g

pub stamps : (o : Outside) (names : Names) (s : Stamping) (d e : Ending) → StampsFiles o (Some names) s d → StampsFiles o (Some names) s e → d ≡ e
stamps o names s d e =
    with_list s.calendars (λ calendars. WithHashes (Some names) s.files (Stamps o s.least s.files calendars)) d e
    (λ calendars. with_hashes names s.files (Stamps o s.least s.files calendars) d e (λ digests. stamps_once o calendars digests s.least s.files d e))
