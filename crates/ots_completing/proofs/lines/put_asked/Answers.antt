use Rattle.std.proofs.Common.{◌∙◌, arith}
use Rattle.std.specs.Option.{option_copied}
use Rattle.ots_printer.proofs.Pieces.{puts_as, puts_then}
use Rattle.ots_completing.proofs.AskedLines.{one_asked_more}
use Rattle.ots_completing.proofs.lines.put_asked.Goals as goal

pub loop-i-preserved : goal.loop-i-preserved
loop-i-preserved g c =
    puts_as (one_asked_more c.args.asked.now c.loop-i.i c.text.result.now (option_copied c.outcome.result) (omega arith)
    (λ a at. c.text.ensures.text ∙ c.uri.ensures a at) c.outcome.ensures)
    (puts_then c.loop-i.invariant c.put_pair.ensures g.met.K.Sink.same_trans)
