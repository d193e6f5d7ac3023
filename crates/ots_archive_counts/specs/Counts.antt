-- How many requests of a sheet of replies came to what, calendar by calendar. Source: this project's profile. A body is
-- a timestamp where a tree is all of it (python-opentimestamps, opentimestamps/calendar.py: RemoteCalendar).
use Rattle.std.specs.Prelude.{◌≡◌, ◌&&◌, ℕ, Bool, true, false, List, [], ◌∷◌, bytes_eq, length, map}
use Rattle.std.specs.Cmp.Lexicographic.{slice_cmp}
use Rattle.std.specs.List.{AllByRecursion, count_by, list_any}
use Rattle.std.specs.List.Sorted.{IsStrictlySortedBy}
use Rattle.std.specs.Ordering.{nat_cmp}
use Rattle.ots_archive_counts.specs.declared.came.Came.{Came}
use Rattle.ots_archive_counts.specs.declared.came.Came.TheVariants.{Timestamp, Refused, BadBody}
use Rattle.ots_archive_counts.specs.declared.counting.AddressCounts.{AddressCounts}
use Rattle.ots_archive_text.specs.declared.lines.ReplyCounts.{ReplyCounts}
use Rattle.ots_asking.specs.Outcome.{IsOutcomeOfBody}
use Rattle.ots_asking.specs.declared.outcome.Outcome.TheVariants.{Tree, BadReply}
use Rattle.ots_reader.specs.declared.fault.Fault.{Fault}
use Rattle.ots_sheet.specs.Reply.{Answer, ReplyParts, Body, Status, Nothing}
use Rattle.ots_tree.specs.declared.token.Token.{Token}

-- What came of a request for a message of n bytes: status 200 with a body that is a tree below the message, or with
-- another; or another status, or no reply.
abbrev pub IsCameOf : ℕ → ReplyParts → Came → Type 0
IsCameOf n (Body body) Timestamp = (tree : List Token) × IsOutcomeOfBody n 0 body (Tree tree)
IsCameOf n (Body body) BadBody = (fault : Fault) × IsOutcomeOfBody n 0 body (BadReply fault)
IsCameOf n (Body body) Refused = ⊥
IsCameOf n (Status code) came = came ≡ Refused
IsCameOf n Nothing came = came ≡ Refused

-- the URL of a request, and what came of it
pub record Seen : Type 0 where
  pub url : List ℕ
  pub came : Came

pub record IsSeen (a : Answer) (s : Seen) : Type 0 where
  pub url : s.url ≡ a.request.url
  pub came : IsCameOf (length a.request.message) a.reply s.came

-- the same of each of these, in order
abbrev pub AreSeen : List Answer → List Seen → Type 0
AreSeen [] [] = Unit {0}
AreSeen [] (s ∷ seen) = ⊥
AreSeen (a ∷ answers) [] = ⊥
AreSeen (a ∷ answers) (s ∷ seen) = IsSeen a s × AreSeen answers seen

-- whether these came to the same
abbrev pub is_same : Came → Came → Bool
is_same Timestamp Timestamp = true
is_same Timestamp Refused = false
is_same Timestamp BadBody = false
is_same Refused Timestamp = false
is_same Refused Refused = true
is_same Refused BadBody = false
is_same BadBody Timestamp = false
is_same BadBody Refused = false
is_same BadBody BadBody = true

-- how many of the requests to a URL came to this
abbrev pub came_to : List ℕ → Came → List Seen → ℕ
came_to url came seen = count_by (λ s. bytes_eq s.url url && is_same came s.came) seen

abbrev pub counts_of : List ℕ → List Seen → ReplyCounts
counts_of url seen = record {
  ok = came_to url Timestamp seen;
  no = came_to url Refused seen;
  bad = came_to url BadBody seen;
}

-- What contracts see of the counts of a calendar.
pub record Counted : Type 0 where
  pub address : List ℕ
  pub counts : ReplyCounts

abbrev pub counted : AddressCounts → Counted
counted c = record { address = c.address.now; counts = c.counts }

-- their addresses, in order
abbrev pub addresses : List Counted → List (List ℕ)
addresses list = map (λ c. c.address) list

-- The counts of each address to which some request is, in the order of the addresses' bytes.
pub record AreCounts (answers : List Answer) (list : List Counted) : Type 0 where
  pub seen : List Seen
  pub are_seen : AreSeen answers seen
  pub rising : IsStrictlySortedBy (slice_cmp nat_cmp) (addresses list)
  pub members : (url : List ℕ) → list_any (λ c. bytes_eq c.address url) list ≡ list_any (λ s. bytes_eq s.url url) seen
  pub each : AllByRecursion (λ c. c.counts ≡ counts_of c.address seen) list
