use Rattle.std.proofs.Common.{ap}
use Rattle.std.specs.List.{flat_map}
use Rattle.ots_lines.specs.Lines.{calendar_line}
use Rattle.ots_printer.proofs.Pieces.{puts_as}
use Rattle.ots_gateway_words.proofs.Zipped.{zip_up_to}
use Rattle.ots_gateway_words.proofs.lines.put_outcomes.Goals as goal

pub returns : goal.returns
returns g c =
    puts_as (ap (flat_map calendar_line) (zip_up_to c.args.calendars.now c.args.outcomes.now c.min-asked.result c.min-asked.ensures))
    c.put_calendars.ensures
