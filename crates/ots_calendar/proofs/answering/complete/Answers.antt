use Rattle.std.proofs.Common.{◌≡◌, ◌-◌, ◌∙◌, ap, List, ℕ, refl}
use Rattle.std.proofs.lemmas.Result.{IfOk-weaker}
use Rattle.ots_anchor.specs.Path.{complete_way, hashed}
use Rattle.ots_attest.specs.declared.attestation.Attestation.TheVariants.{Bitcoin}
use Rattle.ots_merkle.specs.CalendarTree.{path}
use Rattle.ots_ops.specs.declared.op.Op.{Op}
use Rattle.ots_store.specs.Order.{commits_of}
use Rattle.ots_tree.specs.Made.{lone}
use Rattle.ots_tree.specs.Wire.{pre}
use Rattle.ots_calendar.specs.Values.{span}
use Rattle.ots_calendar.specs.declared.answer.Answer.TheVariants.{Complete}
use Rattle.ots_calendar.proofs.Asked.{way_is}
use Rattle.ots_calendar.proofs.answering.complete.Goals as goal

pub returns : goal.returns
returns g c =
    let commits = commits_of c.args.store.now.records in
    let anchor = c.args.anchor.now in
    let first = c.bounds-first.result.0 in
    let end = c.bounds-first.result.1 in
    let way : c.in_ok-way.way ≡ path (hashed (span first (end - first) commits)) (c.args.i - first) =
    c.in_ok-way.ensures ∙ ap (λ (l : List (List ℕ)). path (hashed (span first (end - first) l)) (c.args.i - first)) c.commitments.ensures in
    IfOk-weaker c.covered.result _ _
    (λ prepared e. e ∙ ap (λ (o : List Op). Complete (pre (lone o (Bitcoin anchor.height))))
    (way_is commits c.args.i first end anchor c.in_ok-way.way (complete_way c.in_ok-way.way anchor.prefix anchor.suffix anchor.branch) c.bounds-first.ensures.first c.bounds-first.ensures.end way refl))
    c.covered.ensures
