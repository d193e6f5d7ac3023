-- An honest calendar, and what a crash may leave of its mirror.
use Rattle.std.specs.Prelude.{◌≡◌, ℕ, List, ◌++◌, Some}
use Rattle.std.specs.List.{AllByRecursion}
use Rattle.ots_http.specs.ReplyTable.{IsOutcome, good}
use Rattle.ots_journal.specs.declared.entry.Entry.{Entry}
use Rattle.ots_journal.specs.Image.{Stands}
use Rattle.ots_mirror_pages.specs.Round.{IsHonest, IsPrefix}
use Rattle.ots_outside.specs.Dialer.{DialerTold, Sent}
use Rattle.ots_store.specs.Order.{records_of}
use Rattle.ots_store.specs.Records.{HasForm, Record}

-- Where it is a good reply whose body is a page for some number, the page has a run of these records from that number
-- on.
abbrev pub IsHonestReply : List Record → List ℕ → Type 0
IsHonestReply all reply = (body : List ℕ) → IsOutcome reply (good body) → IsHonest all body

-- The owner of all these records, which begin with those held, is honest: the replies are told, and each is honest,
-- whatever is lost, repeated or out of order.
pub record HonestOwner (all records : List Record) (told : DialerTold) : Type 0 where
  pub forms : AllByRecursion HasForm all
  pub begin : IsPrefix records all
  pub sent : List Sent
  pub sent_told : told.sent ≡ Some sent
  pub replies : List (List ℕ)
  pub replies_told : told.replies ≡ Some replies
  pub honest : AllByRecursion (IsHonestReply all) replies

-- An image stands for entries that begin with these and spell the first of all these records.
abbrev pub StandsAlong : List Entry → List Record → List ℕ → Type 0
StandsAlong found all c = (later : List Entry) × IsPrefix (records_of (found ++ later)) all × Stands c (found ++ later)
