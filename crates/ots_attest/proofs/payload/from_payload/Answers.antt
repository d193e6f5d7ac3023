use Rattle.ots_attest.proofs.PayloadOrFault.{accepted, refused}
use Rattle.ots_attest.proofs.payload.from_payload.Goals as goal

pub returns-clause-accepts : goal.returns-clause-accepts
returns-clause-accepts c = accepted c.args.kind c.args.payload.now c.read_owned.result c.read_owned.ensures.ok c.read_owned.ensures.err

pub returns-clause-refuses : goal.returns-clause-refuses
returns-clause-refuses c = refused c.args.kind c.args.payload.now c.read_owned.result c.read_owned.ensures.ok c.read_owned.ensures.err
