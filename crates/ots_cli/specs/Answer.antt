-- What each command answers: how it ends, by what is under the names that it reads.
use Rattle.std.specs.Prelude.{◌≡◌, List, [], ◌∷◌, Option, Some, None}
use Rattle.ots_checking.specs.Chain.{ChecksFile, inputs_chained}
use Rattle.ots_checking.specs.Sampled.{Samples}
use Rattle.ots_checking.specs.Verified.{Verifies, inputs_verified}
use Rattle.ots_client_endings.specs.Ending.{Ending, refused}
use Rattle.ots_client_endings.specs.Outside.{Outside}
use Rattle.ots_client_inputs.specs.Inputs.{Input, proof_under}
use Rattle.ots_client_text.specs.declared.status.Status.TheVariants.{Usage}
use Rattle.ots_client_words.specs.Words.{ClientCommand, info, canon, merge, prune, verify, stamp, upgrade}
use Rattle.ots_client_words.specs.Words.{sample, chain}
use Rattle.ots_completing.specs.Upgrade.{Upgrades, inputs_upgraded}
use Rattle.ots_outside.specs.Shelf.{Names}
use Rattle.ots_rewriting.specs.Info.{TellsProof}
use Rattle.ots_rewriting.specs.Merged.{Joins}
use Rattle.ots_rewriting.specs.Rewritten.{Rewrites}
use Rattle.ots_rewriting.specs.declared.rewriting.Rewriting.TheVariants.{Canon, Prune}
use Rattle.ots_stamping.specs.Stamp.{StampsFilesAs, inputs_stamped}

-- Words of no command's form are refused. What `stamp` and `upgrade` answer rests on what happens outside, too.
abbrev pub Answers : (Outside → Type 0) → Option ClientCommand → Option Names → Ending → Type 0
Answers happens None told e = e ≡ refused [] Usage
Answers happens (Some (info proof)) told e = TellsProof told proof e
Answers happens (Some (canon from to)) told e = Rewrites Canon told from to e
Answers happens (Some (merge first second to)) told e = Joins told first second to e
Answers happens (Some (prune from to)) told e = Rewrites Prune told from to e
Answers happens (Some (verify v)) told e = Verifies told v e
Answers happens (Some (stamp s)) told e = StampsFilesAs happens told s e
Answers happens (Some (upgrade u)) told e = Upgrades happens told u e
Answers happens (Some (sample n)) told e = Samples n e
Answers happens (Some (chain c)) told e = ChecksFile told c e

-- What a command reads, in order: each is opened only once all before it are accepted.
abbrev pub inputs_read : Option ClientCommand → List Input
inputs_read None = []
inputs_read (Some (info proof)) = proof_under proof ∷ []
inputs_read (Some (canon from to)) = proof_under from ∷ []
inputs_read (Some (merge first second to)) = proof_under first ∷ proof_under second ∷ []
inputs_read (Some (prune from to)) = proof_under from ∷ []
inputs_read (Some (verify v)) = inputs_verified v
inputs_read (Some (stamp s)) = inputs_stamped s
inputs_read (Some (upgrade u)) = inputs_upgraded u
inputs_read (Some (sample n)) = []
inputs_read (Some (chain c)) = inputs_chained c
