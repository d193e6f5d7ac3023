use Rattle.std.proofs.Common.{arith}
use Rattle.ots_shared.proofs.Turns.{draws}
use Rattle.ots_shared.proofs.steps.draw.Goals as goal

pub fetch_add-requires : goal.fetch_add-requires
fetch_add-requires g c = let three = c.requires.own.1 in (c.requires.own.0, omega arith, draws _ _ _ _ _ c.requires.idle c.requires.share)
