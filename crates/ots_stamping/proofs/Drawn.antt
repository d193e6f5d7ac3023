-- Nonces that are drawn one after the other.
use Rattle.std.proofs.Common.{◌≡◌, ◌<◌, ◌≤◌, ◌+◌, ℕ, List, [], ◌∷◌, ◌++◌, length, take, get_or, Option, refl, sym, ap, subst, ◌∙◌, add-one, arith}
use Rattle.std.specs.Prelude.{map, IfErr, Result, Ok, Err}
use Rattle.ots_base.specs.Cause.{Rose}
use Rattle.ots_stamping.specs.declared.drawing.DrawError.{DrawError}
use Rattle.ots_stamping.specs.declared.drawing.DrawError.TheVariants.{NonceFault}
use Rattle.std.proofs.Math.Seq.{take-suc}
use Rattle.std.proofs.lemmas.List.{length-append, length-map, length-take, length-take-le, map-append}
use Rattle.ots_outside.specs.Streams.{Gives}
use Rattle.ots_stamp.specs.declared.target.Target.{Target}
use Rattle.ots_client_endings.specs.Outside.{Draws, DrawsSome}

module _ {N : Type 0} (left : N → Option (List ℕ)) where
  pub draws_more : (nonces : List (List ℕ)) (nonce : List ℕ) (old mid new : N) → Draws left nonces old mid → Gives (left mid) (left new) nonce → length nonce ≡ 16
      → Draws left (nonces ++ nonce ∷ []) old new
  draws_more [] nonce old mid new same gives size = (new, subst (λ (z : N). Gives (left z) (left new) nonce) same gives, size, refl)
  draws_more (n ∷ ns) nonce old mid new h gives size = (h.0, h.1, h.2, draws_more ns nonce h.0 mid new h.3 gives size)

  -- What a loop keeps that draws a nonce for each digest.
  pub record Drawn (faults : N → ℕ) (digests : List (List ℕ)) (i : ℕ) (targets : List Target) (old new : N) : Type 0 where
    pub digests_are : map (λ t. t.digest) targets ≡ take i digests
    pub draws : Draws left (map (λ t. t.nonce) targets) old new
    pub later : faults old ≤ faults new

  module _ {faults : N → ℕ} {digests : List (List ℕ)} {i : ℕ} {targets : List Target} {old mid : N} (so_far : Drawn faults digests i targets old mid) where
    count : length (map (λ (t : Target). t.nonce) targets) ≤ length digests
    count =
        let first = length-map targets (λ (t : Target). t.nonce) in
        let second = length-map targets (λ (t : Target). t.digest) in
        let third = ap length so_far.digests_are in
        let fourth = length-take i digests in
        omega (arith, first, second, third, fourth)

    at_most : i < length digests → length (map (λ (t : Target). t.nonce) targets) + 1 ≤ length digests
    at_most less =
        let first = length-map targets (λ (t : Target). t.nonce) in
        let second = length-map targets (λ (t : Target). t.digest) in
        let third = ap length so_far.digests_are in
        let fourth = length-take-le i digests (omega arith) in
        omega (arith, first, second, third, fourth, less)

    pub some_drawn : (new : N) → left new ≡ left mid → DrawsSome left (length digests) old new
    some_drawn new same = record { nonces = map (λ t. t.nonce) targets; few = count; mid = mid; draws = so_far.draws; left_stay = same }

    pub one_more_drawn : (new : N) (nonce : List ℕ) → i < length digests → Gives (left mid) (left new) nonce → length nonce ≡ 16 → DrawsSome left (length digests) old new
    one_more_drawn new nonce less gives size = record {
      nonces = map (λ t. t.nonce) targets ++ nonce ∷ [];
      few = let most = at_most less in let all = length-append (map (λ (t : Target). t.nonce) targets) (nonce ∷ []) in omega (arith, most, all);
      mid = new;
      draws = draws_more (map (λ t. t.nonce) targets) nonce old mid new so_far.draws gives size;
      left_stay = refl;
    }

    pub drawn_next : (new : N) (t : Target) (d : List ℕ) → i < length digests → t.digest ≡ get_or digests i d → Gives (left mid) (left new) t.nonce → faults mid ≤ faults new
        → Drawn faults digests (i + 1) (targets ++ t ∷ []) old new
    drawn_next new t d less is gives later = record {
      digests_are = map-append (λ u. u.digest) targets (t ∷ []) ∙ ap (λ (z : List (List ℕ)). z ++ t.digest ∷ []) so_far.digests_are
          ∙ ap (λ (z : List ℕ). take i digests ++ z ∷ []) is ∙ sym (ap (λ (z : ℕ). take z digests) (add-one i) ∙ take-suc digests i d less);
      draws = subst (λ (z : List (List ℕ)). Draws left z old new) (sym (map-append (λ u. u.nonce) targets (t ∷ [])))
          (draws_more (map (λ u. u.nonce) targets) t.nonce old mid new so_far.draws gives t.is_nonce);
      later = let first = so_far.later in omega (arith, first, later);
    }

-- an error of a draw that failed
pub failed_draw : {A : Type 0} (b n : ℕ) (r : Result A DrawError) → Rose b n → IfErr r (λ e. e ≡ NonceFault → Rose b n)
failed_draw b n (Ok x) rose = tt
failed_draw b n (Err e) rose = λ is. rose
