use Rattle.std.proofs.Common.{sym}
use Rattle.std.proofs.lemmas.Option.{get_or_from_slice_get, slice_get_within}
use Rattle.ots_canon.proofs.Insertion.{some_canon}
use Rattle.ots_canon.proofs.OneTree.{tree_exists}
use Rattle.ots_canon.proofs.SoundResults.{sound_canon}
use Rattle.ots_merkle.proofs.PathLaws.{path_leads}
use Rattle.ots_ops.proofs.AppliedLength.{length_of_applied}
use Rattle.ots_stamp.proofs.Founded.{sound_after}
use Rattle.ots_stamp.proofs.Provable.{has_proof, paths_some}
use Rattle.ots_stamp.proofs.batch.Batch.have_proofs.Goals as goal
use Rattle.ots_tree.proofs.Determined.{pre-apart}
use Rattle.ots_tree.proofs.MadePaths.{paths-chain, sound_under}

pub returns : goal.returns
returns c = λ i t trees is gathered.
    let targets = c.args.self.now in
    has_proof paths_some some_canon tree_exists paths-chain pre-apart
    sound_under sound_canon targets i t trees c.args.good.now c.tokens.ensures.limits
    (sound_after length_of_applied targets i t c.args.good.now path_leads (slice_get_within targets i t is)
    (sym (get_or_from_slice_get targets i t t is)) t.is_sha256 t.is_nonce c.requires.sound.0 c.requires.sound.1
    c.requires.sound.2) gathered
