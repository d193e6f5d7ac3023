use Rattle.std.proofs.Common.{◌≡◌, ℕ, List, Some, ap, subst, sym}
use Rattle.ots_cycle.specs.Whole.{whole_path}
use Rattle.ots_examples.specs.OneHeader.{table}
use Rattle.ots_examples.specs.OneRound.{OneRound, commit, completed, entries, over, stamped}
use Rattle.ots_examples.proofs.Confirmed.{has_root, is_anchored, is_table, lone_proof}
use Rattle.ots_examples.proofs.Cycle.{files_cycle, over_fits}
use Rattle.ots_examples.proofs.laws.a_proof_of_it.Goals as goal
use Rattle.ots_headers.specs.HeaderTable.{root_at}
use Rattle.ots_merkle.specs.CalendarTree.{root}
use Rattle.ots_stamp.specs.Stamped.{leaves}
use Rattle.ots_store.specs.Order.{records_of}
use Rattle.ots_store.specs.Records.{Record}
use Rattle.ots_store.specs.declared.anchor.Anchor.{Anchor}
use Rattle.ots_verdicts.specs.Confirmed.{IsConfirmed}
use Rattle.ots_verdicts.specs.declared.verdicts.Chain.TheVariants as chain

pub returns-clause-proof : goal.returns-clause-proof
returns-clause-proof c = λ targets i t records uri commitment stamped completed cycle few is.
    let leads = c.a_cycle_is_confirmed.ensures.leads targets i t records uri commitment stamped completed cycle is in
    let short = c.a_cycle_is_confirmed.ensures.few targets i t records uri commitment stamped completed cycle few in
    lone_proof t (whole_path targets i t cycle) cycle.anchor.root leads short

pub returns-clause-anchored : goal.returns-clause-anchored
returns-clause-anchored c = is_anchored

pub returns-clause-table : goal.returns-clause-table
returns-clause-table c = is_table

pub returns-clause-root : goal.returns-clause-root
returns-clause-root c = has_root

pub returns-clause-confirmed : goal.returns-clause-confirmed
returns-clause-confirmed c = λ targets i t few is.
    let r : OneRound = over targets in
    let records : List Record = records_of (entries r) in
    let cycle = files_cycle targets in
    let anchored = is_anchored r (root (leaves targets)) r.uri (commit r) (stamped r) (completed r) cycle (over_fits targets) in
    let (proof, node, digest, tree, among) = returns-clause-proof c targets i t records r.uri (commit r) (stamped r) (completed r) cycle few is in
    let rooted = subst (λ (a : Anchor). root_at (table r) a.height ≡ Some a.root) (sym anchored) (has_root r) in (
      proof,
      digest,
      subst (λ (height : ℕ). IsConfirmed chain.Bitcoin (table r) proof height) (ap (λ (a : Anchor). a.height) anchored)
          (c.a_cycle_is_confirmed.ensures.confirmed targets i t records r.uri (commit r) (stamped r) (completed r) cycle proof node (table r) is digest tree among rooted),
    )
