use Rattle.std.proofs.Common.{refl}
use Rattle.ots_attest.proofs.PayloadOrFault.{whole_height}
use Rattle.ots_attest.proofs.payload.read_height.Goals as goal

pub returns-else-used-payload : goal.returns-else-used-payload
returns-else-used-payload c =
    let at = (c.in-Value.ensures.value c.in-Value.height c.in-Value.used).0 refl in
    (at.small, whole_height c.in-Value.height c.in-Value.used c.args.payload.now at c.if-used-payload.false)
