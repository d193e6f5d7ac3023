-- Proofs that are made.
use Rattle.std.proofs.Common.{◌≡◌, ◌<◌, ℕ, List, length, Option, None, Some, refl, sym, subst, arith, length-append}
use Rattle.ots_archive_taken.specs.Taken.{IsTooBig}
use Rattle.ots_archive_taken.specs.inner.Making.{DraftMakes, IfFits, ProofMakes}
use Rattle.ots_detached.specs.File.{file_of, header}
use Rattle.ots_draft.specs.Draft.{IsTaken, IsTakenWithin}
use Rattle.ots_ops.specs.HashOp.{digest_length}
use Rattle.ots_ops.specs.declared.op.Op.{Op}
use Rattle.ots_pending.specs.Completed.{IsCompleted, IsCompletedWithin}
use Rattle.ots_pending.specs.Pairs.{PairAt}
use Rattle.ots_tree.specs.Wire.{spelled}
use Rattle.ots_tree.specs.declared.detached.Detached.{Detached}
use Rattle.ots_tree.specs.declared.token.Token.{Token}

-- a tree of too many bytes is too big with what stands before it
big_tree : (made : Detached) → 4194304 < length (spelled made.tree) → IsTooBig made
unfolding file_of
big_tree made more = omega (arith, more, length-append (header made.hash made.digest) (spelled made.tree))

-- ---- of a draft

pub draft_made : (proof : Detached) (ops : List Op) (trees : List (List Token)) (most : ℕ) (found result : Option Detached) (made : Detached) → IsTakenWithin proof ops trees most found
    → found ≡ Some made → IfFits made result → DraftMakes proof ops trees result
draft_made proof ops trees most found result made within is fits =
    let h : IsTakenWithin proof ops trees most (Some made) = subst (IsTakenWithin proof ops trees most) is within in
    record { made = made; taken = subst (IsTaken proof ops trees) (sym h.told.1) h.taken; told = fits }

pub draft_too_big : (proof : Detached) (ops : List Op) (trees : List (List Token)) (found : Option Detached) → IsTakenWithin proof ops trees 4194304 found
    → found ≡ None → DraftMakes proof ops trees None
draft_too_big proof ops trees found within is =
    let h : IsTakenWithin proof ops trees 4194304 None = subst (IsTakenWithin proof ops trees 4194304) is within in
    record { made = h.made; taken = h.taken; told = big_tree h.made h.told }

-- ---- of another proof

pub proof_made : (proof : Detached) (pairs : List PairAt) (trees : List (Option (List Token))) (most : ℕ) (found : Option (List Token)) (result : Option Detached) (made : Detached)
    → made.hash ≡ proof.hash → made.digest ≡ proof.digest → IsCompletedWithin proof pairs trees most found → found ≡ Some made.tree → IfFits made result
    → ProofMakes proof pairs trees result
proof_made proof pairs trees most found result made hash digest within is fits =
    let h : IsCompletedWithin proof pairs trees most (Some made.tree) = subst (IsCompletedWithin proof pairs trees most) is within in
    record { made = made; hash = hash; digest = digest; tree = subst (IsCompleted proof pairs trees) (sym h.told.1) h.completed; told = fits }

pub proof_too_big : (proof : Detached) (pairs : List PairAt) (trees : List (Option (List Token))) (found : Option (List Token)) → length proof.digest ≡ digest_length proof.hash
    → IsCompletedWithin proof pairs trees 4194304 found → found ≡ None → ProofMakes proof pairs trees None
proof_too_big proof pairs trees found long within is =
    let h : IsCompletedWithin proof pairs trees 4194304 None = subst (IsCompletedWithin proof pairs trees 4194304) is within in
    let made : Detached = record { hash = proof.hash; digest = proof.digest; tree = h.made; digest_of_hash = long; tree_sound = ∣ h.sound ∣₁ } in
    record { made = made; hash = refl; digest = refl; tree = h.completed; told = big_tree made h.told }
