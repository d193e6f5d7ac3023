use Rattle.std.proofs.Common.{◌∙◌}
use Rattle.ots_verifier.proofs.verifier.Verifier.feed.Goals as goal

pub invariant_of-self : goal.invariant_of-self
invariant_of-self c = (rw c.and.ensures (c.advance.ensures.come c.self.inside.fed.bytes c.self.invariant.0), c.advance.ensures.reserved ∙ c.self.invariant.1)
