use Rattle.ots_attest.proofs.Keys.{two_kinds, two_uris, two_bitcoin_heights, two_litecoin_heights, two_payloads}
use Rattle.ots_attest.proofs.laws.order_of_attestations.Goals as goal

pub returns : goal.returns
returns c = record {
  kinds = two_kinds;
  uris = two_uris;
  bitcoin = two_bitcoin_heights;
  litecoin = two_litecoin_heights;
  payloads = two_payloads;
}
