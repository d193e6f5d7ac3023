use Rattle.std.proofs.Common.{ap, ◌∙◌, rules, arith}
use Rattle.ots_headers.specs.Header.{header_in}
use Rattle.ots_headers.proofs.HeaderBytes.{header_in_prefix}
use Rattle.ots_block.proofs.block.header_from.Goals as goal

pub returns : goal.returns
returns c =
    c.from_bytes.ensures.fields ∙ ap header_in (search rules) ∙ header_in_prefix c.args.bytes.now c.requires (λ k. omega (arith, c.type_inv.bytes k))
