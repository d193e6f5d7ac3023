use Rattle.ots_draft.proofs.PostUris.{one_address, post_uri_is}
use Rattle.ots_draft.proofs.laws.post_uris.Goals as goal

pub returns-clause-uri : goal.returns-clause-uri
returns-clause-uri c = post_uri_is

pub returns-clause-one : goal.returns-clause-one
returns-clause-one c = one_address
