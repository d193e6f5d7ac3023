-- What is read of a link as the body of a reply. It serves the reader's code.
use Rattle.std.specs.Prelude.{◌≡◌, ℕ, List, Result, Ok, Err}
use Rattle.ots_http.specs.declared.fields.StatedLength.{StatedLength}
use Rattle.ots_http.specs.declared.reply.HttpReply.{HttpReply}
use Rattle.ots_http.specs.declared.reply.HttpReply.TheVariants.{Good, Status}
use Rattle.ots_http.specs.declared.reply.ReplyError.{ReplyError}
use Rattle.ots_http.specs.declared.reply.ReplyError.TheVariants.{TooLong, BadHttp, LinkFault, OutOfMemory}
use Rattle.ots_http.specs.ReplyTable.{good, status, too_long, bad_http, outcome_of_body}

-- The answer to this body, of which the fields state so much.
abbrev pub IsBodyAnswer : List ℕ → StatedLength → Result HttpReply ReplyError → Type 0
IsBodyAnswer body stated (Ok (Good taken)) = good taken ≡ outcome_of_body body stated
IsBodyAnswer body stated (Ok (Status n)) = status n ≡ outcome_of_body body stated
IsBodyAnswer body stated (Err TooLong) = too_long ≡ outcome_of_body body stated
IsBodyAnswer body stated (Err BadHttp) = bad_http ≡ outcome_of_body body stated
IsBodyAnswer body stated (Err LinkFault) = Unit {0}
IsBodyAnswer body stated (Err OutOfMemory) = Unit {0}
