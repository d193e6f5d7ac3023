-- The reply that is due for a request, and how the connection ended once it is written, by the table of this project's
-- HTTP profile.
use Rattle.std.specs.Prelude.{ℕ, ◌≤◌, List, Option, None, Some, length}
use Rattle.ots_calendar.specs.declared.answer.Answer.{Answer}
use Rattle.ots_calendar.specs.declared.answer.Answer.TheVariants as answer
use Rattle.ots_http.specs.ReplyText.{status_of}
use Rattle.ots_http.specs.declared.replying.Reply.TheVariants as reply
use Rattle.ots_http.specs.declared.word.Word.{Word}
use Rattle.ots_http.specs.declared.word.Word.TheVariants.{NotFound, Pending}
use Rattle.ots_round.specs.declared.ticket.Receipt.{Receipt}
use Rattle.ots_tree.specs.declared.token.Token.{Token}
use Rattle.ots_connection.specs.declared.due.Due.{Due}
use Rattle.ots_connection.specs.declared.due.TheConstants.{MAX_TOKENS}
use Rattle.ots_connection.specs.declared.served.Served.TheVariants.{Stamped, Replied}

-- The words, with the status that they stand with.
abbrev pub in_words : Word → Due
in_words word = record { reply = reply.Text (status_of word) word; served = Replied (status_of word) }

-- The tree of a commitment.
abbrev pub with_tree : List Token → Due
with_tree tree = record { reply = reply.Tree tree; served = Replied 200 }

-- By what the calendar answers of the commitment.
abbrev pub answered : Answer → Due
answered (answer.Complete tree) = with_tree tree
answered answer.Pending = in_words Pending
answered answer.Unknown = in_words NotFound

-- A tree that is answered has at most so many tokens.
abbrev pub IsShort : Answer → Type 0
IsShort (answer.Complete tree) = length tree ≤ MAX_TOKENS
IsShort answer.Pending = Unit {0}
IsShort answer.Unknown = Unit {0}

-- A page of the calendar's records, or that there is none for a number over their count.
abbrev pub paged : Option (List ℕ) → Due
paged None = in_words NotFound
paged (Some page) = record { reply = reply.Page page; served = Replied 200 }

-- The tree of a digest, whose commitment is stored as the receipt says.
abbrev pub stamp : List Token → Receipt → Due
stamp tree receipt = record { reply = reply.Tree tree; served = Stamped receipt }
