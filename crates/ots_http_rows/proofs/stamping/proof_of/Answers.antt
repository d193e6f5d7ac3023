use Rattle.std.proofs.Common.{subst}
use Rattle.ots_stamp.specs.Stamped.{IsGatheredBelow}
use Rattle.ots_http_rows.proofs.stamping.proof_of.Goals as goal

-- What was gathered is sound below the root.
pub proof-requires-clause-sound : goal.proof-requires-clause-sound
proof-requires-clause-sound c =
    subst (IsGatheredBelow c.args.batch.now) c.in-Some.is
    (c.in_ok-good.ensures.below c.args.batch.now c.requires.sound)
