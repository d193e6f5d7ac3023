use Rattle.ots_attest.proofs.UriBytes.{is_uri}
use Rattle.ots_attest.proofs.uri_ref.UriRef.text.Goals as goal

pub returns-clause-limits : goal.returns-clause-limits
returns-clause-limits c = is_uri c.args.self.text.now c.args.self.greatest c.args.self.each
