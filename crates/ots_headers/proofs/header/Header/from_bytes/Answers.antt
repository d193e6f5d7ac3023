use Rattle.std.proofs.Common.{rules, ap, ◌∙◌, take_all}
use Rattle.ots_headers.specs.Header.{serialized, header_in}
use Rattle.ots_headers.proofs.HeaderBytes.{serialized_in}
use Rattle.ots_headers.proofs.header.Header.from_bytes.Goals as goal

pub returns-clause-fields : goal.returns-clause-fields
unfolding header_in
returns-clause-fields c = λ i. record {
  version = c.number_at.ensures i;
  previous = c.hash_at.ensures i;
  root = c.hash_at-2.ensures i;
  time = c.number_at-2.ensures i;
  bits = c.number_at-3.ensures i;
  nonce = c.number_at-4.ensures i;
}

pub returns-clause-back : goal.returns-clause-back
returns-clause-back c =
    ap serialized (returns-clause-fields c) ∙ serialized_in c.args.bytes.now (search rules) (search rules) ∙ take_all 80 c.args.bytes.now (search rules)
