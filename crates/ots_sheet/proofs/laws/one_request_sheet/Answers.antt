use Rattle.ots_sheet.proofs.OneSheet.{one_requests}
use Rattle.ots_sheet.proofs.laws.one_request_sheet.Goals as goal

pub returns : goal.returns
returns c = one_requests
