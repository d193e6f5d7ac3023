use Rattle.ots_sheet.proofs.Orders.{lines_order}
use Rattle.ots_sheet.proofs.laws.one_order.Goals as goal

pub returns : goal.returns
returns c = lines_order
