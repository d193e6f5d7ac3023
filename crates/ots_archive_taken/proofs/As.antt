-- What is taken is what the client makes of the same answers.
use Rattle.std.proofs.Common.{◌≡◌, ◌≤◌, ℕ, zero, suc, Bool, List, [], ◌∷◌, length, Option, Some, refl, sym, ap, subst, ◌∙◌}
use Rattle.std.specs.List.{AllByRecursion, slice_get}
use Rattle.std.specs.Prelude.{◌↔◌}
use Rattle.ots_archive_taken.proofs.DraftPairs.{draft_pairs}
use Rattle.ots_archive_taken.proofs.OneTaken.{one_trees}
use Rattle.ots_archive_taken.specs.As.{IsDraftAmong, IsProofWith}
use Rattle.ots_archive_taken.specs.Given.{AreTreesFor}
use Rattle.ots_archive_taken.specs.Taken.{AreStamps, IsComplete, IsDraftPair, IsTakenBy, IsTooBig, IsUpgradeBy, TakesDraft, few, of_draft, of_proof, stamps, stamps_too_big}
use Rattle.ots_archive_taken.specs.declared.taking.Taken.TheVariants.{Stamped}
use Rattle.ots_draft.proofs.Leads.{is_draft, way_leads}
use Rattle.ots_draft.proofs.OneDraft.{one_operations}
use Rattle.ots_draft.specs.Draft.{IsDraft, IsTaken}
use Rattle.ots_merkle.specs.CalendarTree.{root}
use Rattle.ots_ops.specs.Value.{value}
use Rattle.ots_ops.specs.declared.op.Op.{Op}
use Rattle.ots_pending.specs.Completed.{IsCompleted}
use Rattle.ots_pending.specs.Pairs.{ArePairs, PairAt}
use Rattle.ots_sheet.specs.Reply.{Answer}
use Rattle.ots_sheet.specs.Sheet.{AreAnswers}
use Rattle.ots_sheet.specs.declared.request.Kind.TheVariants.{Get}
use Rattle.ots_stamp.proofs.Founded.{are_hashes}
use Rattle.ots_stamp.specs.Stamped.{IsStampOf, leaf, leaves, to_root}
use Rattle.ots_stamp.specs.declared.target.Target.{Target}
use Rattle.ots_tree.specs.declared.detached.Detached.{Detached}
use Rattle.ots_tree.specs.declared.token.Token.{Token}
use Rattle.ots_upgrade.proofs.OneList.{one_list}

-- ---- completing

pub as_completed : (answers : List Answer) (proof made : Detached) (pairs : List PairAt) (trees : List (Option (List Token))) → AreAnswers answers → ArePairs proof pairs
    → AreTreesFor answers Get pairs trees → IsUpgradeBy answers proof made ↔ IsProofWith proof pairs trees made
as_completed answers proof made pairs trees ok are each = (
  (λ is.
      let same_pairs : is.pairs ≡ pairs = one_list proof is.pairs pairs is.are are in
      let same_trees = one_trees answers ok Get pairs is.given trees (subst (λ (ps : List PairAt). AreTreesFor answers Get ps is.given) same_pairs is.each) each in
      record {
        hash = is.hash;
        digest = is.digest;
        tree = subst (λ (z : List (Option (List Token))). IsCompleted proof pairs z made.tree) same_trees (subst (λ (ps : List PairAt). IsCompleted proof ps is.given made.tree) same_pairs is.tree);
      }),
  (λ is. record { pairs = pairs; are = are; given = trees; each = each; hash = is.hash; digest = is.digest; tree = is.tree }),
)

-- ---- stamping

leaf_there : (targets : List Target) (i : ℕ) (t : Target) → slice_get targets i ≡ Some t → slice_get (leaves targets) i ≡ Some (leaf t)
leaf_there [] i t at = absurd cc
leaf_there (u ∷ targets) zero t at = let is : u ≡ t = cc in ap (λ (z : Target). Some (leaf z)) is
leaf_there (u ∷ targets) (suc i) t at = leaf_there targets i t at

module _ (targets : List Target) (i : ℕ) (t : Target) (addresses : List (List ℕ)) (proof : Detached) (among : IsDraftAmong targets i t addresses proof) where
  drafted : IsDraft proof (to_root (leaves targets) i t)
  drafted = is_draft (leaves targets) i t addresses proof (are_hashes targets) (leaf_there targets i t among.there) among.some among.urls among.draft

  same_message : (m : List ℕ) (pairs : List PairAt) → value (to_root (leaves targets) i t) proof.digest ≡ Some m → AllByRecursion (IsDraftPair proof (to_root (leaves targets) i t)) pairs
      → AllByRecursion (λ p. p.pair.message ≡ m) pairs
  same_message m [] reached all = tt
  same_message m (p ∷ pairs) reached all =
      ((let here = all.0.reached in let o : Option (List ℕ) = Some p.pair.message in let is : o ≡ Some m = sym here ∙ reached in cc), same_message m pairs reached all.1)

  pub asks_root : (pairs : List PairAt) → ArePairs proof pairs → AllByRecursion (λ p. p.pair.message ≡ root (leaves targets)) pairs
  asks_root pairs are =
      same_message (root (leaves targets)) pairs
      (ap (value (to_root (leaves targets) i t)) among.draft.digest ∙ way_leads (leaves targets) i t (are_hashes targets) (leaf_there targets i t among.there))
      (draft_pairs proof (to_root (leaves targets) i t) pairs drafted are)

  -- what stamping makes
  stamp_of : (trees : List (List Token)) (made : Detached) → IsTaken proof (to_root (leaves targets) i t) trees made → IsStampOf targets i t trees made
  stamp_of trees made is = record { hash = is.hash ∙ among.draft.hash; digest = is.digest ∙ among.draft.digest; nodes = is.nodes; are = is.are; form = is.form }

  taken_of : (trees : List (List Token)) (made : Detached) → IsStampOf targets i t trees made → IsTaken proof (to_root (leaves targets) i t) trees made
  taken_of trees made is = record { hash = is.hash ∙ sym among.draft.hash; digest = is.digest ∙ sym among.draft.digest; nodes = is.nodes; are = is.are; form = is.form }

  stamps_of : (answers : List Answer) (least : ℕ) (made : Detached) (complete : Bool) → TakesDraft answers proof (to_root (leaves targets) i t) least (Stamped made complete)
      → (trees : List (List Token)) × AreStamps answers proof trees × (least ≤ length trees) × IsStampOf targets i t trees made
  stamps_of answers least made complete (few trees are less is) = absurd cc
  stamps_of answers least made complete (stamps_too_big trees other are enough taken big is) = absurd cc
  stamps_of answers least made complete (stamps trees other done are enough taken fits ends is) =
      let same_proof : made ≡ other = cc in (trees, are, enough, stamp_of trees made (subst (IsTaken proof (to_root (leaves targets) i t) trees) (sym same_proof) taken))

  pub as_stamped : (answers : List Answer) (least : ℕ) (made : Detached) (complete : Bool) → IsTakenBy answers proof least (Stamped made complete)
      → (trees : List (List Token)) × AreStamps answers proof trees × (least ≤ length trees) × IsStampOf targets i t trees made
  as_stamped answers least made complete (of_draft ops draft takes) =
      stamps_of answers least made complete (subst (λ (os : List Op). TakesDraft answers proof os least (Stamped made complete)) (one_operations proof ops (to_root (leaves targets) i t) draft drafted) takes)
  as_stamped answers least made complete (of_proof none takes) = absurd (none (to_root (leaves targets) i t) drafted)

  pub stamped_as : (answers : List Answer) (least : ℕ) (made : Detached) (complete : Bool) (trees : List (List Token)) → AreStamps answers proof trees → least ≤ length trees
      → IsStampOf targets i t trees made → (IsTooBig made → ⊥) → IsComplete complete made → IsTakenBy answers proof least (Stamped made complete)
  stamped_as answers least made complete trees are enough is fits ends =
      of_draft (to_root (leaves targets) i t) drafted (stamps trees made complete are enough (taken_of trees made is) fits ends refl)
