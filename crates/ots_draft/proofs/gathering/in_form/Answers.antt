use Rattle.ots_draft.proofs.Gathers.{gathered_form}
use Rattle.ots_draft.proofs.gathering.in_form.Goals as goal

pub returns : goal.returns
returns c = λ nodes all. gathered_form c.fewer_paths.ensures nodes c.args.tree.now _ all c.in_ok-form.ensures c.spelled_length-bytes.ensures
