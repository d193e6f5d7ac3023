-- How runs of disk calls join: laws on moments, for those who make several calls.
use Rattle.std.specs.Prelude.{◌≡◌, ℕ, List, Option, Some, None}
use Rattle.std.specs.Option.{option_map}
use Rattle.std.proofs.Common.{inl, inr, ⊎_elim, arith}
use Rattle.ots_base.specs.Told.{IfTold}
use Rattle.ots_disk.specs.Disk.{Elapses, LeavesOnly}

module _ {D : Type 0} (clock : D → ℕ) (images_since : D → ℕ → List ℕ → Type 0) where
  -- before the first call
  pub started : (old : D) (P : List ℕ → Type 0) → ((c : List ℕ) → images_since old (clock old) c → P c)
      → LeavesOnly clock images_since old old P
  started old P here = record { later = omega arith; each = here; before = λ t c le left. inl left }

  -- one call more, after which each image has P
  pub goes_on : (old mid new : D) (P images : List ℕ → Type 0) → LeavesOnly clock images_since old mid P
      → Elapses (clock mid) (clock new) (images_since mid) (images_since new) images → ((c : List ℕ) → images c → P c)
      → LeavesOnly clock images_since old new P
  goes_on old mid new P images so_far time here = record {
    later = omega (arith, so_far.later, time.later);
    each = λ c left. ⊎_elim (so_far.each c) (here c) (time.nothing_else (clock old) c so_far.later left);
    before = λ t c le left. ⊎_elim (so_far.before t c le) (λ now. inr (here c now))
        (time.nothing_else t c (omega (arith, le, so_far.later)) left);
  }

  -- one run after another
  pub joined : (old mid new : D) (P Q R : List ℕ → Type 0) → LeavesOnly clock images_since old mid P
      → LeavesOnly clock images_since mid new Q
      → ((c : List ℕ) → P c → R c) → ((c : List ℕ) → Q c → R c) → LeavesOnly clock images_since old new R
  joined old mid new P Q R first second p q = record {
    later = omega (arith, first.later, second.later);
    each = λ c left. ⊎_elim (λ past. p c (first.each c past)) (q c) (second.before (clock old) c first.later left);
    before = λ t c le left. ⊎_elim (λ past. ⊎_elim inl (λ has. inr (p c has)) (first.before t c le past))
        (λ has. inr (q c has)) (second.before t c (omega (arith, le, first.later)) left);
  }

  pub weaker : (old new : D) (P Q : List ℕ → Type 0) → LeavesOnly clock images_since old new P
      → ((c : List ℕ) → P c → Q c) → LeavesOnly clock images_since old new Q
  weaker old new P Q run p = record {
    later = run.later;
    each = λ c left. p c (run.each c left);
    before = λ t c le left. ⊎_elim inl (λ has. inr (p c has)) (run.before t c le left);
  }

-- what holds of the bytes, if there are any
pub if_told : (told : Option (List ℕ)) (P : List ℕ → Type 0) → ((b : List ℕ) → told ≡ Some b → P b) → IfTold told P
if_told None P f = tt
if_told (Some b) P f = f b (λ _. Some b)

-- the bytes before a step that gave these
pub before_step : (step : List ℕ → List ℕ) (told : Option (List ℕ)) (c : List ℕ) → option_map step told ≡ Some c
    → (b : List ℕ) × (told ≡ Some b) × (c ≡ step b)
before_step step None c is = absurd (cc)
before_step step (Some b) c is = (b, λ _. Some b, cc)
