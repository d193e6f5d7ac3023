use Rattle.std.proofs.Common.{◌∙◌, get_or, length-set, arith}
use Rattle.ots_tickets.specs.Ready.{at_index}
use Rattle.ots_tickets.proofs.Places.{mapped_more, rest_more}
use Rattle.ots_tickets.proofs.rounds.set_index.Goals as goal

pub loop-i-preserved : goal.loop-i-preserved
loop-i-preserved c =
    let d = c.index-settled-i.result in
    let y = at_index c.args.index (get_or c.loop-i.settled c.loop-i.i d) in
    record {
      long = length-set c.loop-i.settled c.loop-i.i y ∙ c.loop-i.invariant.long;
      done = mapped_more (at_index c.args.index) c.loop-i.i c.loop-i.settled c.args.settled.now d (omega (arith, c.loop-i.invariant.long)) c.loop-i.invariant.long c.loop-i.invariant.done c.loop-i.invariant.rest;
      rest = rest_more c.loop-i.i y c.loop-i.settled c.args.settled.now (omega (arith, c.loop-i.invariant.long)) c.loop-i.invariant.rest;
    }
