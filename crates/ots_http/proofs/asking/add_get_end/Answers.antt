use Rattle.ots_http.proofs.WriteLemmas.{three_more}
use Rattle.ots_http.proofs.asking.add_get_end.Goals as goal

pub returns : goal.returns
returns c = three_more c.args.draft.now _ _ _ _ _ _ c.add.ensures c.add_host.ensures.host c.add-2.ensures
