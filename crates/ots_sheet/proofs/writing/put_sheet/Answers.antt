use Rattle.std.proofs.Common.{arith}
use Rattle.ots_printer.proofs.Pieces.{puts_as, puts_nothing, puts_then}
use Rattle.ots_sheet.specs.Request.{request_line, request_parts}
use Rattle.ots_sheet.proofs.Lines.{one_more, sheet_pieces, then_more}
use Rattle.ots_sheet.proofs.writing.put_sheet.Goals as goal

pub loop-request-init : goal.loop-request-init
loop-request-init g c = record { put = puts_nothing g.met.K.Sink.same_refl _; sums = c.new-sum.ensures }

pub loop-request-preserved : goal.loop-request-preserved
loop-request-preserved g c =
    let more = one_more request_parts request_line c.args.requests.now c.loop-request.request-index _ c.loop-request-test.true in
    record {
      put = puts_as more (puts_then c.loop-request.invariant.put c.put_request.ensures.puts g.met.K.Sink.same_trans);
      sums = then_more _ _ _ _ _ c.put_request.ensures.sums c.loop-request.invariant.sums more;
    }

pub returns : goal.returns
returns g c =
    let t = g.met.K.Sink.same_trans in
    puts_as (sheet_pieces c.args.requests.now c.loop-request.request-index c.loop-request.sum c.digest.result (omega arith) c.loop-request.invariant.sums c.digest.ensures)
    (puts_then (puts_then (puts_then (puts_then (puts_then c.loop-request.invariant.put c.word.ensures t) c.number.ensures t) c.word-2.ensures t) c.hex.ensures t)
    c.word-3.ensures t)
