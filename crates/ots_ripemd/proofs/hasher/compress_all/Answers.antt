use Rattle.std.proofs.Common.{◌≡◌, ◌+◌, ◌-◌, ◌*◌, ◌∙◌, refl, arith}
use Rattle.ots_ripemd.specs.Ripemd160.{pieces}
use Rattle.ots_ripemd.proofs.Chaining.{next_block}
use Rattle.ots_ripemd.proofs.hasher.compress_all.Goals as goal

pub loop-i-init : goal.loop-i-init
unfolding pieces
loop-i-init c = refl

pub loop-i-preserved : goal.loop-i-preserved
loop-i-preserved c =
    let i = c.loop-i.i in
    let width : 64 * i + 64 - 64 * i ≡ 64 = omega arith in
    c.compress-h.ensures ∙ next_block c.args.h c.loop-i.h c.args.bytes.now _ i c.loop-i.invariant (rw width refl)
