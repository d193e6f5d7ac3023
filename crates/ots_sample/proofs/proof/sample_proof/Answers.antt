use Rattle.std.proofs.lemmas.Result.{IfOk-weaker}
use Rattle.ots_sample.proofs.Items.{is_sample}
use Rattle.ots_sample.proofs.Lengths.{file_short}
use Rattle.ots_sample.proofs.proof.sample_proof.Goals as goal

pub read_back-requires : goal.read_back-requires
read_back-requires c = file_short c.args.paths _ c.requires.at_most c.in_ok-made.ensures

pub returns : goal.returns
returns c = IfOk-weaker c.canonical.result _ _ (λ q form. is_sample c.args.paths c.in_ok-made.made c.in_ok-read.read q c.requires.some c.in_ok-made.ensures c.in_ok-read.ensures form) c.canonical.ensures
