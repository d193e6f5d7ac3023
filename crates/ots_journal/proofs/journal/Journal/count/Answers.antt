use Rattle.std.proofs.Common.{length, ap, arith}
use Rattle.ots_journal.proofs.Sizes.{few_entries}
use Rattle.ots_journal.proofs.journal.Journal.count.Goals as goal

pub returns-clause-bound : goal.returns-clause-bound
returns-clause-bound g c =
    let j = c.self.inside in
    let k = c.self.invariant.0 in
    let w = c.self.invariant.1 in
    omega (arith, c.count.ensures, ap length k.joined, few_entries k.groups k.fit, k.place, w.gate_within, w.most)
