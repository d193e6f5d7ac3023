-- What is told of a proof that was made.
use Rattle.std.proofs.Common.{◌≡◌, ◌≤◌, ℕ, List, length, Option, None, Some, refl, sym, subst}
use Rattle.std.specs.Prelude.{IfOk, Result}
use Rattle.ots_archive_taken.proofs.Giving.{if_ok}
use Rattle.ots_archive_taken.specs.Given.{AreTreesFor}
use Rattle.ots_archive_taken.specs.Taken.{AreStamps, IsTooBig, IsUpgradeBy, TakesDraft, TakesProof, same, stamps, stamps_too_big, upgrade_too_big, upgrades}
use Rattle.ots_archive_taken.specs.declared.taking.Taken.{Taken}
use Rattle.ots_archive_taken.specs.declared.taking.Taken.TheVariants.{TooBig}
use Rattle.ots_archive_taken.specs.inner.Making.{DraftMakes, IfFits, ProofMakes}
use Rattle.ots_archive_taken.specs.inner.Telling.{IsStamped, IsUpgraded, no_more, some_more}
use Rattle.ots_draft.specs.Draft.{IsTaken}
use Rattle.ots_ops.specs.declared.op.Op.{Op}
use Rattle.ots_pending.specs.Completed.{IsCompleted}
use Rattle.ots_pending.specs.Pairs.{ArePairs, PairAt}
use Rattle.ots_sheet.specs.Reply.{Answer}
use Rattle.ots_sheet.specs.declared.request.Kind.TheVariants.{Get}
use Rattle.ots_tree.specs.declared.detached.Detached.{Detached}
use Rattle.ots_tree.specs.declared.token.Token.{Token}

module _ (answers : List Answer) (proof : Detached) (ops : List Op) (least : ℕ) (trees lent : List (List Token)) where
  pub draft_stamped : (found : Option Detached) (made : Detached) (taken : Taken) → AreStamps answers proof trees → least ≤ length trees → lent ≡ trees → DraftMakes proof ops lent found
      → found ≡ Some made → IsStamped made taken → TakesDraft answers proof ops least taken
  draft_stamped found made taken are enough same_trees makes is told =
      let fits = subst (IfFits makes.made) is makes.told in
      let one : IsTaken proof ops trees made = subst (IsTaken proof ops trees) (sym fits.1) (subst (λ (z : List (List Token)). IsTaken proof ops z makes.made) same_trees makes.taken) in
      stamps trees made told.complete are enough one (λ big. fits.0 (subst IsTooBig fits.1 big)) told.is_complete told.is

  pub draft_told_big : (found : Option Detached) → AreStamps answers proof trees → least ≤ length trees → lent ≡ trees → DraftMakes proof ops lent found → found ≡ None
      → TakesDraft answers proof ops least TooBig
  draft_told_big found are enough same_trees makes is =
      stamps_too_big trees makes.made are enough (subst (λ (z : List (List Token)). IsTaken proof ops z makes.made) same_trees makes.taken) (subst (IfFits makes.made) is makes.told) refl

module _ (answers : List Answer) (proof : Detached) (pairs : List PairAt) (trees lent : List (Option (List Token))) where
  is_upgrade : (found : Option Detached) → ArePairs proof pairs → AreTreesFor answers Get pairs trees → lent ≡ trees → (makes : ProofMakes proof pairs lent found)
      → IsUpgradeBy answers proof makes.made
  is_upgrade found are each same_trees makes = record {
    pairs = pairs;
    are = are;
    given = trees;
    each = each;
    hash = makes.hash;
    digest = makes.digest;
    tree = subst (λ (z : List (Option (List Token))). IsCompleted proof pairs z makes.made.tree) same_trees makes.tree;
  }

  tells : (made : Detached) → IsUpgradeBy answers proof made → (IsTooBig made → ⊥) → (taken : Taken) → IsUpgraded proof made taken → TakesProof answers proof taken
  tells made upgrade fits taken (no_more complete have done is) = same made complete upgrade fits have done is
  tells made upgrade fits taken (some_more complete none done is) = upgrades made complete upgrade fits none done is

  pub proof_upgraded : {E : Type 0} (found : Option Detached) (made : Detached) (result : Result Taken E) → ArePairs proof pairs → AreTreesFor answers Get pairs trees → lent ≡ trees
      → ProofMakes proof pairs lent found → found ≡ Some made → IfOk result (IsUpgraded proof made) → IfOk result (TakesProof answers proof)
  proof_upgraded found made result are each same_trees makes is told =
      let fits = subst (IfFits makes.made) is makes.told in
      let upgrade : IsUpgradeBy answers proof made = subst (IsUpgradeBy answers proof) (sym fits.1) (is_upgrade found are each same_trees makes) in
      if_ok (IsUpgraded proof made) (TakesProof answers proof) result (tells made upgrade (λ big. fits.0 (subst IsTooBig fits.1 big))) told

  pub proof_told_big : (found : Option Detached) → ArePairs proof pairs → AreTreesFor answers Get pairs trees → lent ≡ trees → ProofMakes proof pairs lent found → found ≡ None
      → TakesProof answers proof TooBig
  proof_told_big found are each same_trees makes is =
      upgrade_too_big makes.made (is_upgrade found are each same_trees makes) (subst (IfFits makes.made) is makes.told) refl
