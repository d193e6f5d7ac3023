use Rattle.std.proofs.Common.{refl, take}
use Rattle.ots_http.specs.ReplyText.{reply_bytes}
use Rattle.ots_http.proofs.Seen.{takes}
use Rattle.ots_gateway.specs.Round.{cut}
use Rattle.ots_gateway.proofs.sending.send.Goals as goal

pub returns-in-Err-clause-sends : goal.returns-in-Err-clause-sends
returns-in-Err-clause-sends g c =
    let prefix = c.in-Err.ensures.written.prefix in
    cut prefix.0 prefix.1 refl c.in-Err.ensures.cause.failed
    (takes (take prefix.0 (reply_bytes c.args.reply)) _ _ prefix.2)
