use Rattle.std.proofs.Common.{◌∙◌, sym}
use Rattle.ots_printer.proofs.Pieces.{puts_as, puts_then}
use Rattle.ots_archive_text.proofs.Shown.{shown_plain, shown_escaped}
use Rattle.ots_archive_text.proofs.names.put_shown.Goals as goal

pub returns-then-is_escaped : goal.returns-then-is_escaped
returns-then-is_escaped g c = puts_as (shown_escaped c.args.name.now (sym c.is_escaped.ensures ∙ c.if-is_escaped.true)) (puts_then c.word.ensures c.put_escaped.ensures g.met.K.Sink.same_trans)

pub returns-else-is_escaped : goal.returns-else-is_escaped
returns-else-is_escaped g c = puts_as (shown_plain c.args.name.now (sym c.is_escaped.ensures ∙ c.if-is_escaped.false)) c.bytes.ensures
