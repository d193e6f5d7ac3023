use Rattle.std.proofs.Common.{drop, ap, ◌∙◌, rules, arith, length-drop}
use Rattle.ots_headers.specs.Header.{header_in}
use Rattle.ots_headers.proofs.HeaderBytes.{header_in_prefix, rest_below}
use Rattle.ots_headers.proofs.headers.header_from.Goals as goal

pub returns : goal.returns
returns c =
    c.from_bytes.ensures.fields ∙ ap header_in (search rules) ∙ header_in_prefix (drop c.args.place c.args.bytes.now) (omega (arith, length-drop c.args.place c.args.bytes.now))
    (rest_below c.args.place c.args.bytes.now (λ k. omega (arith, c.type_inv.bytes k)))
