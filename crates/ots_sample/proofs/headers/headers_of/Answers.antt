use Rattle.std.proofs.Common.{◌∙◌}
use Rattle.std.proofs.lemmas.Result.{IfOk-weaker}
use Rattle.ots_ops.proofs.AppliedLength.{length_of_hashed}
use Rattle.ots_ops.specs.declared.hash_op.HashOp.TheVariants.{Sha256}
use Rattle.ots_sample.proofs.Values.{is_sample_table}
use Rattle.ots_sample.proofs.headers.headers_of.Goals as goal

pub returns : goal.returns
returns c = IfOk-weaker c.table_of.result _ _
    (λ t is. is_sample_table c.args.paths c.from.result c.bytes.result.now c.value_of.result c.to_bytes.result t c.from.ensures (c.bytes.ensures.bytes ∙ c.requires.digest)
    (length_of_hashed Sha256 _) c.value_of.ensures (c.to_bytes.ensures.bytes ∙ c.header_with-header.ensures) is)
    c.table_of.ensures
