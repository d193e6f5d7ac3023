use Rattle.ots_reader.proofs.Walk.{accepted, refuses}
use Rattle.ots_reader.proofs.reading.read_tree.Goals as goal

pub returns-clause-accepts : goal.returns-clause-accepts
returns-clause-accepts c = accepted c.args.shape.length c.args.shape.depth c.args.bytes.now c.feed_all.result c.requires.depth c.feed_all.ensures.ok c.feed_all.ensures.err

pub returns-clause-refuses : goal.returns-clause-refuses
returns-clause-refuses c = refuses c.args.shape.length c.args.shape.depth c.args.bytes.now c.feed_all.result c.requires.depth c.feed_all.ensures.ok c.feed_all.ensures.err
