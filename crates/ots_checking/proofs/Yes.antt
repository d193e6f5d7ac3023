-- `verify` is done exactly where some path takes the target's digest to a given root.
use Rattle.std.proofs.Common.{◌≡◌, ℕ, List, Option, Some, None, inl, inr, refl, sym, ap, subst, ◌∙◌}
use Rattle.ots_checking.specs.Verified.{HasPerhapsTable, PrintsVerdict, Verifies, VerifiesBy, VerifiesProof, VerifiesTarget, WithPerhapsTable}
use Rattle.ots_checking.specs.Yes.{HasFiles, SaysYes}
use Rattle.ots_checking.proofs.OneAnswer.{given_table, given_target}
use Rattle.ots_client_endings.specs.Ending.{Ending}
use Rattle.ots_client_endings.specs.Outcome.{IsDoneExactlyWhere}
use Rattle.ots_client_endings.specs.Runs.{Moment, Runs}
use Rattle.ots_client_endings.proofs.OneInput.{given_proof}
use Rattle.ots_client_endings.proofs.Outcome.{only_prints, outcome}
use Rattle.ots_client_inputs.specs.Inputs.{Input}
use Rattle.ots_client_text.specs.Status.{verdict_status}
use Rattle.ots_client_text.specs.declared.status.Status.{Status}
use Rattle.ots_client_text.specs.declared.status.Status.TheVariants.{Done}
use Rattle.ots_client_words.specs.Words.{HeaderFile, Verification}
use Rattle.ots_headers.specs.HeaderTable.{Table}
use Rattle.ots_ops.specs.Hashed.{hashed}
use Rattle.ots_outside.specs.Shelf.{Names}
use Rattle.ots_tree.specs.declared.detached.Detached.{Detached}
use Rattle.ots_verdicts.specs.Confirmed.{IsVerdict}
use Rattle.ots_verdicts.specs.declared.verdicts.Chain.TheVariants as chain
use Rattle.ots_verdicts.specs.declared.verdicts.Verdict.{Verdict}
use Rattle.ots_verdicts.specs.declared.verdicts.Verdict.TheVariants.{Yes, NoDigest, NoPath}

-- the verdict that is printed is that on the files
given_perhaps : (names : Names) (file : Option HeaderFile) (table : Option Table) (P : Option Table → Ending → Type 0) (e : Ending)
    → HasPerhapsTable (Some names) file table → WithPerhapsTable (Some names) file P e → P table e
given_perhaps names None None P e has h = h
given_perhaps names None (Some table) P e has h = absurd has
given_perhaps names (Some file) None P e has h = absurd has
given_perhaps names (Some file) (Some table) P e has h = given_table names file (λ t. P (Some t)) table e has h

prints_verdict : (names : Names) (v : Verification) (b : Table) (l : Option Table) (p : Detached) (target : List ℕ) (e : Ending)
    → HasFiles names v b l p target → Verifies (Some names) v e → PrintsVerdict p b l (hashed p.hash target) e
prints_verdict names v b l p target e has h =
    given_target names v.target p.hash (PrintsVerdict p b l) (hashed p.hash target) e
    (has.of_target.0, has.of_target.1, (has.of_target.2.1, ap (hashed p.hash) (sym has.of_target.2.0)))
    (given_proof names v.proof (VerifiesTarget (Some names) v.target b l) p e has.of_proof
    (given_perhaps names v.litecoin l (VerifiesProof (Some names) v b) e has.of_litecoin
    (given_table names v.bitcoin (VerifiesBy (Some names) v) b e has.of_bitcoin h)))

-- a verdict is a yes exactly where a height is confirmed
yes_says : (p : Detached) (target : List ℕ) (b : Table) (l : Option Table) (v : Verdict) → IsVerdict p (hashed p.hash target) b l v → verdict_status v ≡ Done → SaysYes p target b l
yes_says p target b l (Yes chain.Bitcoin height time) is done = (is.0, chain.Bitcoin, height, is.1.confirmed)
yes_says p target b None (Yes chain.Litecoin height time) is done = absurd is.2
yes_says p target b (Some table) (Yes chain.Litecoin height time) is done = (is.0, chain.Litecoin, height, is.2.confirmed)
yes_says p target b l NoDigest is done = absurd cc
yes_says p target b l NoPath is done = absurd cc

says_yes : (p : Detached) (target : List ℕ) (b : Table) (l : Option Table) (v : Verdict) → IsVerdict p (hashed p.hash target) b l v → SaysYes p target b l → verdict_status v ≡ Done
says_yes p target b l (Yes c height time) is says = refl
says_yes p target b l NoDigest is says = absurd (is says.0)
says_yes p target b l NoPath is (same, chain.Bitcoin, height, confirmed) = absurd (is.1 height confirmed)
says_yes p target b None NoPath is (same, chain.Litecoin, height, confirmed) = absurd confirmed
says_yes p target b (Some table) NoPath is (same, chain.Litecoin, height, confirmed) = absurd (is.2 height confirmed)

pub done_exactly : (names : Names) (v : Verification) (b : Table) (l : Option Table) (p : Detached) (target : List ℕ) (inputs : List Input) (old new : Moment) (r : Status)
    → HasFiles names v b l p target → old.shelf.names ≡ Some names → Runs (λ told. Verifies told v) inputs old new r
    → IsDoneExactlyWhere old new (SaysYes p target b l) r
done_exactly names v b l p target inputs old new r has told h = elim (outcome (λ t. Verifies t v) inputs old new r h) [
  | inr excused ↦ inr excused
  | inl (e, a, may) ↦
      let verdict = prints_verdict names v b l p target e has (subst (λ (z : Option Names). Verifies z v e) told a) in
      let is = only_prints e r (verdict_status verdict.0) _ verdict.2 may in
      inl (λ done. yes_says p target b l verdict.0 verdict.1 (sym is ∙ done), λ says. is ∙ says_yes p target b l verdict.0 verdict.1 says)
]
