use Rattle.std.proofs.Common.{rules, ◌≡◌, ◌∙◌, Some, List, [], sym, ap}
use Rattle.ots_attest.specs.declared.attestation.Attestation.TheVariants as attestation
use Rattle.ots_tree.specs.declared.token.Token.{Token}
use Rattle.ots_tree.specs.Made.{lone}
use Rattle.ots_tree.specs.Wire.{pre}
use Rattle.ots_pending.proofs.Putting.{ready_some}
use Rattle.ots_pending.proofs.growing.ready_tree.Goals as goal

pub returns-clause-ready : goal.returns-clause-ready
returns-clause-ready c t is =
    let some : c.args.tree.now ≡ Some c.in_ok-copy-2.field-0 = search rules in
    let pending : c.in_ok-pending.pending ≡ pre (lone [] (attestation.Pending c.args.uri.now)) = search rules in
    ready_some t c.args.uri.now c.in_ok-copy-2.field-0 c.in_ok-pending.pending c.in_ok-beside.field-0 (is ∙ some) pending c.in_ok-beside.ensures

pub returns-clause-tree : goal.returns-clause-tree
returns-clause-tree c =
    let some : c.args.tree.now ≡ Some c.in_ok-copy-2.field-0 = search rules in
    let both = c.in_ok-beside.ensures in
    record { given = Some both.one; is = ap (λ (z : List Token). Some z) both.one_is ∙ sym some }
