use Rattle.ots_sheet.proofs.OneSheet.{one_replies}
use Rattle.ots_sheet.proofs.laws.one_reply_sheet.Goals as goal

pub returns : goal.returns
returns c = one_replies
