use Rattle.std.proofs.Common.{take}
use Rattle.hex.specs.Hex.{encode_lower}
use Rattle.ots_printer.specs.Printing.{Puts}
use Rattle.ots_tree.specs.Wire.{spelled}
use Rattle.ots_calendar_text.proofs.lines.put_tokens.Given as goal

-- The digits of the tokens up to here were put.
abbrev pub invariant-loop-token : goal.invariant-loop-token
invariant-loop-token g l = Puts g.K.Sink.taken g.K.Sink.faults g.K.Sink.same (encode_lower (spelled (take l.token-index l.tokens))) l.fn.out l.out
