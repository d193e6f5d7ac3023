use Rattle.std.proofs.Common.{ap, ◌∙◌}
use Rattle.ots_headers.specs.DoubleSha256.{double_sha256}
use Rattle.ots_block.proofs.Blocks.{id_of}
use Rattle.ots_block.proofs.block.Block.txid.Goals as goal

pub returns : goal.returns
returns c =
    c.double_sha256.ensures ∙ ap double_sha256 (c.deref.ensures.value ∙ c.in_ok-stripped.ensures.form) ∙ id_of c.args.self.now.transactions c.args.i c.requires
