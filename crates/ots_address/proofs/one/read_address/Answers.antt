use Rattle.ots_address.proofs.OneLemmas.{several_refused, some_addresses}
use Rattle.ots_address.proofs.one.read_address.Goals as goal

pub only-requires : goal.only-requires
only-requires c = some_addresses c.args.word.now c.in_ok-addresses.addresses.items c.in_ok-addresses.ensures.ok

pub returns-clause-bad : goal.returns-clause-bad
returns-clause-bad c =
    several_refused c.args.word.now c.in_ok-addresses.addresses.items c.only.result c.in_ok-addresses.ensures.ok c.only.ensures
