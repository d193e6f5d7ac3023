use Rattle.std.proofs.Common.{Some, sym, ap, ◌∙◌, rules, arith}
use Rattle.ots_headers.specs.HeaderTable.{header_at}
use Rattle.ots_headers.proofs.TableBytes.{header_there, no_header}
use Rattle.ots_headers.proofs.headers.Headers.at.Goals as goal

pub returns-then-place-len : goal.returns-then-place-len
returns-then-place-len c =
    sym (no_header c.self.inside.first c.args.height c.self.inside.bytes.items (omega arith) (omega arith)) ∙ ap (λ t. header_at t c.args.height) c.self.view_is

pub returns : goal.returns
returns c =
    ap Some (search rules) ∙ sym (header_there c.self.inside.first c.args.height c.self.inside.bytes.items (omega arith) (omega arith))
    ∙ ap (λ t. header_at t c.args.height) c.self.view_is
