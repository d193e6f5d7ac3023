-- What is written to a link.
use Rattle.std.specs.Prelude.{◌≡◌, ◌≤◌, ℕ, length, take}
use Rattle.ots_base.specs.Cause.{Rose}
use Rattle.ots_http.specs.ReplyText.{reply_bytes}
use Rattle.ots_http.specs.Seen.{LinkSeen, Takes}
use Rattle.ots_connection.specs.declared.due.Due.{Due}
use Rattle.ots_connection.specs.declared.served.Served.{Served}
use Rattle.ots_connection.specs.declared.served.Served.TheVariants.{LinkFault}

-- The reply that is due was written whole, or a call of the link failed, and a prefix of it was written.
pub data Sends (due : Due) (old new : LinkSeen) (result : Served) : Type 0 where
  whole : result ≡ due.served → Takes (reply_bytes due.reply) old new → Sends due old new result
  cut : (n : ℕ) → n ≤ length (reply_bytes due.reply) → result ≡ LinkFault → Rose old.faults new.faults
      → Takes (take n (reply_bytes due.reply)) old new
      → Sends due old new result
