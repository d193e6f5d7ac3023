use Rattle.std.proofs.Common.{ap, arith}
use Rattle.std.specs.Prelude.{zip}
use Rattle.std.proofs.lemmas.List.{take_all}
use Rattle.std.specs.List.{flat_map}
use Rattle.ots_printer.proofs.Pieces.{puts_as, puts_then}
use Rattle.ots_lines.specs.Lines.{calendar_line}
use Rattle.ots_lines.proofs.More.{one_pair_more, zip_length}
use Rattle.ots_lines.proofs.lines.put_calendars.Goals as goal

pub loop-at-preserved : goal.loop-at-preserved
loop-at-preserved g c =
    puts_as (one_pair_more calendar_line c.args.calendars.now c.args.outcomes.now c.loop-at.at (c.index-calendars-at.result, c.index-outcomes-at.result) c.requires c.loop-at-test.true c.index-calendars-at.is c.index-outcomes-at.is)
    (puts_then c.loop-at.invariant c.put_calendar.ensures g.met.K.Sink.same_trans)

pub returns : goal.returns
returns g c =
    puts_as (ap (flat_map calendar_line) (take_all c.loop-at.at (zip c.args.calendars.now c.args.outcomes.now)
    (let all = zip_length c.args.calendars.now c.args.outcomes.now c.requires in let done = c.loop-at-test.false in omega (arith, all, done))))
    c.loop-at.invariant
