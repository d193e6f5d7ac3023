use Rattle.ots_stamping.proofs.OneStamp.{stamp_of}
use Rattle.ots_stamping.proofs.replies.Stamped.proof.Goals as goal

pub returns : goal.returns
returns c = stamp_of c.args.self.now _ _ _ _ c.self.inside.form c.args.i c.proof_below.result c.self.view_is c.self.invariant c.requires c.proof_below.ensures
