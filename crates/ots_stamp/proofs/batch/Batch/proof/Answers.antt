use Rattle.ots_canon.proofs.SoundResults.{sound_canon}
use Rattle.ots_stamp.proofs.FormBelow.{stamp_by_form}
use Rattle.ots_stamp.proofs.batch.Batch.proof.Goals as goal

pub proof_below-requires-clause-sound : goal.proof_below-requires-clause-sound
proof_below-requires-clause-sound c =
    let sound = c.requires.sound in
    (sound.0, sound.1, sound_canon _ sound.0 c.args.good.now c.in_ok-form.form sound.2 c.in_ok-form.ensures)

pub returns : goal.returns
returns c = stamp_by_form c.proof_below.result c.args.self.now c.args.i c.args.good.now c.in_ok-form.form c.in_ok-form.ensures c.proof_below.ensures
