use Rattle.std.proofs.Common.{refl, ap, ◌∙◌, arith}
use Rattle.std.proofs.lemmas.Grind.{common_steps}
use Rattle.sha2.specs.Sha256.{sha256}
use Rattle.ots_sample.proofs.sampling.sample.Goals as goal

pub returns : goal.returns
returns c = record {
  proof = c.in_ok-proof.proof;
  is_proof = c.in_ok-proof.ensures;
  table = c.in_ok-headers.headers;
  is_table = c.in_ok-headers.ensures;
  paths = refl;
  size = grind (arith, common_steps);
  digest = c.digest.ensures ∙ ap sha256 (c.as_slice.ensures.value ∙ c.in_ok-file.ensures);
  verdict = c.in_ok-verdict.ensures.verdict;
}
