use Rattle.std.proofs.Common.{sym, ◌∙◌}
use Rattle.ots_http.specs.RequestText.{request_bytes}
use Rattle.ots_conversation.proofs.Exchanging.{exchanges}
use Rattle.ots_conversation.proofs.conversation.exchange.Goals as goal

-- src/conversation.rt:43:1
pub returns-clause-exchanged : goal.returns-clause-exchanged
returns-clause-exchanged g c =
    exchanges (request_bytes c.args.address.now c.args.asked.now) _ _ _ _ _ _ _ c.write_request.result c.read_reply.result
    c.write_request.ensures.written (sym c.is_err.ensures.value ∙ c.if-is_err.false) c.write_request.ensures.cause.later
    c.read_reply.ensures.came c.read_reply.ensures.answer c.read_reply.ensures.cause
