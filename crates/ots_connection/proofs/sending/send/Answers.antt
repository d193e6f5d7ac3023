use Rattle.std.proofs.Common.{refl, take}
use Rattle.ots_http.specs.ReplyText.{reply_bytes}
use Rattle.ots_connection.specs.Sending.{cut}
use Rattle.ots_http.proofs.Seen.{takes}
use Rattle.ots_connection.proofs.sending.send.Goals as goal

pub returns-clause-sends : goal.returns-clause-sends
returns-clause-sends g c =
    let prefix = c.in-Err.ensures.written.prefix in
    cut prefix.0 prefix.1 refl c.in-Err.ensures.cause.failed
    (takes (take prefix.0 (reply_bytes c.args.due.reply)) _ _ prefix.2)
