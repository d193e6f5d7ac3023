use Rattle.ots_printer.proofs.Pieces.{puts_as, puts_nothing, puts_then}
use Rattle.ots_calendar_text.proofs.Spelling.{encode-nothing, next_token}
use Rattle.ots_calendar_text.proofs.lines.put_tokens.Goals as goal

pub loop-token-init : goal.loop-token-init
loop-token-init g c = puts_as encode-nothing (puts_nothing g.met.K.Sink.same_refl _)

pub loop-token-preserved : goal.loop-token-preserved
loop-token-preserved g c =
    puts_as (next_token c.args.tokens.now c.loop-token.token-index _ _ c.loop-token-test.true c.token-item.is c.spell_token-length.ensures.spelled)
    (puts_then c.loop-token.invariant c.hex.ensures g.met.K.Sink.same_trans)
