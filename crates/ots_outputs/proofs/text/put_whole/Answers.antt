use Rattle.ots_printer.proofs.Pieces.{all_taken, prefix_taken}
use Rattle.ots_outputs.proofs.text.put_whole.Goals as goal

pub returns-in-Ok-clause-printed : goal.returns-in-Ok-clause-printed
returns-in-Ok-clause-printed g c = (
  c.put.ensures.put.0,
  c.put.ensures.put.1,
  all_taken c.put.ensures.put.2 c.finish.ensures.puts g.met.K.Sink.same_trans c.requires.empty c.finish.ensures.empty c.in-Ok.ensures.good,
)

pub returns-in-Err-clause-printed : goal.returns-in-Err-clause-printed
returns-in-Err-clause-printed g c = (
  c.put.ensures.put.0,
  c.put.ensures.put.1,
  prefix_taken c.put.ensures.put.2 c.finish.ensures.puts g.met.K.Sink.same_trans c.requires.empty c.requires.good c.in-Err.ensures.failed,
)
