use Rattle.std.proofs.Common.{ap}
use Rattle.ots_line_reader.specs.Lines.{Lines}
use Rattle.ots_line_reader.proofs.Stepped.{none_taken, taken}
use Rattle.ots_line_reader.proofs.reader.LineReader.take_line.Goals as goal

pub returns-in-Some : goal.returns-in-Some
returns-in-Some c =
    let self = c.self.inside in
    taken self.room self.held.start self.held.end c.args.searched c.args.self.now (ap (λ (z : Lines). z.held) c.self.view_is) c.self.invariant.1.order
    (rw c.self.told c.self.invariant.1.within) c.requires.within c.requires.searched c.in-Some.count c.in-Some.ensures.0 c.in-Some.ensures.1 c.self.told

pub returns-in-None : goal.returns-in-None
returns-in-None c =
    let self = c.self.inside in
    none_taken self.room self.held.start self.held.end c.args.searched c.args.self.now (ap (λ (z : Lines). z.held) c.self.view_is) c.self.invariant.1.order
    (rw c.self.told c.self.invariant.1.within) c.requires.within c.requires.searched c.in-None.ensures
