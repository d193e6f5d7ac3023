-- A proof that is completed where its tree is not too long.
use Rattle.std.proofs.Common.{◌≡◌, ℕ, ◌≤◌, List, length, Option, Some, None, refl, sym, subst, ◌∙◌}
use Rattle.std.specs.Prelude.{IfSome}
use Rattle.ots_ops.specs.HashOp.{digest_length}
use Rattle.ots_tree.specs.declared.token.Token.{Token}
use Rattle.ots_tree.specs.declared.detached.Detached.{Detached}
use Rattle.ots_tree.specs.Sound.{IsSoundPre}
use Rattle.ots_tree.specs.Wire.{spelled}
use Rattle.ots_pending.specs.Completed.{IsCompleted, IsCompletedWithin}
use Rattle.ots_pending.specs.Pairs.{PairAt}
use Rattle.ots_upgrade.specs.Upgrading.{CompletesWithin, HasTree}

pub sound_told : (proof : Detached) (pairs : List PairAt) (trees : List (Option (List Token))) (most : ℕ) (tree : Option (List Token)) → IsCompletedWithin proof pairs trees most tree
    → IfSome tree (IsSoundPre (length proof.digest) 0)
sound_told proof pairs trees most None h = tt
sound_told proof pairs trees most (Some t) h = subst (IsSoundPre (length proof.digest) 0) (sym h.told.1) h.sound

pub completes : (proof : Detached) (pairs : List PairAt) (trees asked : List (Option (List Token))) (most : ℕ) (tree : Option (List Token)) (result : Option Detached)
    → length proof.digest ≡ digest_length proof.hash → trees ≡ asked → IsCompletedWithin proof pairs trees most tree → HasTree proof tree result → CompletesWithin proof pairs asked most result
completes proof pairs trees asked most None None long same h is = record {
  made = record { hash = proof.hash; digest = proof.digest; tree = h.made; digest_of_hash = long; tree_sound = ∣ h.sound ∣₁ };
  hash = refl;
  digest = refl;
  tree = subst (λ (z : List (Option (List Token))). IsCompleted proof pairs z h.made) same h.completed;
  told = h.told;
}
completes proof pairs trees asked most None (Some made) long same h is = absurd is
completes proof pairs trees asked most (Some t) None long same h is = absurd is
completes proof pairs trees asked most (Some t) (Some made) long same h is =
    let e : made.tree ≡ h.made = is.2 ∙ h.told.1 in
    record {
      made = made;
      hash = is.0;
      digest = is.1;
      tree = subst (IsCompleted proof pairs asked) (sym e) (subst (λ (z : List (Option (List Token))). IsCompleted proof pairs z h.made) same h.completed);
      told = (subst (λ (z : List Token). length (spelled z) ≤ most) (sym e) h.told.0, refl);
    }
