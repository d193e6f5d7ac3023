use Rattle.ots_address.proofs.AddressLemmas.{one_address}
use Rattle.ots_address.proofs.laws.one_host_and_port.Goals as goal

pub returns : goal.returns
returns c = one_address
