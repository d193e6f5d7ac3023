use Rattle.std.proofs.Common.{arith, ap, length}
use Rattle.std.proofs.lemmas.List.{length-map}
use Rattle.ots_stamp.specs.Stamped.{leaf}
use Rattle.ots_stamp.proofs.batch.Batch.depth.Goals as goal

-- at most 1024 files
pub returns-clause-most : goal.returns-clause-most
returns-clause-most c =
    let kept = c.self.invariant in
    c.depth.ensures.shallow 10 (omega (arith, ap length kept.ways_are, length-map c.self.inside.targets.items leaf, kept.most))
