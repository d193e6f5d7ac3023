use Rattle.ots_reader.proofs.Placed.{placed}
use Rattle.ots_reader.proofs.front.place_below.Goals as goal

pub returns-clause-stands : goal.returns-clause-stands
returns-clause-stands c = placed c.args.front.now c.args.shape c.lead.new.self c.requires.stands c.requires.none c.requires.shape c.lead.ensures.led c.lead.ensures.room
