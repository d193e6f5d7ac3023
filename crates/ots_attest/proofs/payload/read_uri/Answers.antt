use Rattle.std.proofs.Common.{refl}
use Rattle.ots_attest.proofs.payload.read_uri.Goals as goal

pub uri_after-requires : goal.uri_after-requires
uri_after-requires c = (c.in-Value.ensures.value c.in-Value.length c.in-Value.used).0 refl
