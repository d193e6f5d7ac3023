use Rattle.std.proofs.Common.{ap, ◌∙◌}
use Rattle.ots_ripemd.specs.Ripemd160.{ripemd160, bytes_of}
use Rattle.ots_ripemd.proofs.Chaining.{keeps_padded}
use Rattle.ots_ripemd.proofs.hasher.Ripemd160.finalize.Goals as goal

pub returns : goal.returns
unfolding ripemd160
returns c =
    let keeps = c.self.invariant in
    rw (← c.self.view_is) (c.to_bytes.ensures ∙ ap bytes_of (c.compress_all.ensures ∙ keeps_padded _ _ _ _ _ keeps c.padded_end-length.ensures.bytes))
