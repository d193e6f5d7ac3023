use Rattle.std.proofs.Common.{arith, refl}
use Rattle.std.proofs.lemmas.Result.{err_from_is_err_and}
use Rattle.ots_block.proofs.Blocks.{keeps, kept_read, not_kept}
use Rattle.ots_block.proofs.block.keep.Goals as goal

pub returns-in_err-places : goal.returns-in_err-places
returns-in_err-places c =
    let p = err_from_is_err_and c.from_residual.result c.from_residual.ensures.1 in
    not_kept c.args.bytes.now c.in_err-places.field-0.0 c.from_residual.result c.in_err-places.ensures (rw (p.1, p.2) refl)

pub invariant_of-result : goal.invariant_of-result
invariant_of-result c =
    rw c.in_ok-bytes.ensures.items (keeps c.args.bytes.now c.in_ok-places.places.items (λ i. omega (arith, c.type_inv.bytes i)) c.in_ok-places.ensures)

pub returns : goal.returns
returns c =
    λ short. rw c.in_ok-bytes.ensures.items (kept_read c.args.bytes.now c.in_ok-places.places.items (λ i. omega (arith, c.type_inv.bytes i)) c.in_ok-places.ensures)
