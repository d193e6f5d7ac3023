use Rattle.std.proofs.Common.{sym, ◌∙◌}
use Rattle.ots_info.proofs.Dashes.{no_bytes, some_bytes}
use Rattle.ots_printer.proofs.Pieces.{puts_as}
use Rattle.ots_info.proofs.listing.put_payload.Goals as goal

pub returns-then-is_empty : goal.returns-then-is_empty
returns-then-is_empty g c = puts_as (sym (no_bytes _ (sym c.is_empty.ensures ∙ c.if-is_empty.true))) c.word.ensures

pub returns-else-is_empty : goal.returns-else-is_empty
returns-else-is_empty g c = puts_as (sym (some_bytes _ (sym c.is_empty.ensures ∙ c.if-is_empty.false))) c.hex.ensures
