use Rattle.ots_address.proofs.AddressLemmas.{no_parts}
use Rattle.ots_address.proofs.parse.read_parts.Goals as goal

pub returns-in-Some-clause-none : goal.returns-in-Some-clause-none
returns-in-Some-clause-none c = no_parts c.args.text.now c.in-Some.rest.now c.read_host_and_port.result c.in-Some.ensures.cases.1 c.read_host_and_port.ensures.none
