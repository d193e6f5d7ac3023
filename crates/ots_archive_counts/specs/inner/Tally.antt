-- For the code that counts.
use Rattle.std.specs.Prelude.{◌≡◌, ◌<◌, ◌+◌, ◌^◌, ℕ, List, bytes_eq, length, Option, None, Some, if◌then◌else◌}
use Rattle.std.specs.BTreeMap.{BTreeMap, get_by}
use Rattle.std.specs.Cmp.Lexicographic.{slice_cmp}
use Rattle.std.specs.List.{list_any}
use Rattle.std.specs.Ordering.{nat_cmp}
use Rattle.ots_archive_counts.specs.Counts.{AreSeen, Counted, Seen, counts_of}
use Rattle.ots_archive_counts.specs.declared.came.Came.{Came}
use Rattle.ots_archive_counts.specs.declared.came.Came.TheVariants.{Timestamp, Refused, BadBody}
use Rattle.ots_archive_text.specs.declared.lines.ReplyCounts.{ReplyCounts}
use Rattle.ots_sheet.specs.Reply.{Answer}
use Rattle.std.specs.Borrow.{Bor}

-- counts under URLs
abbrev pub Map : Type 0
Map = BTreeMap (Bor (List ℕ)) ReplyCounts

-- an entry, as contracts see it
abbrev pub entry : Bor (List ℕ) × ReplyCounts → Counted
entry e = record { address = e.0.now; counts = e.1 }

-- what stands under a URL
abbrev pub at_url : Map → List ℕ → Option ReplyCounts
at_url m url = get_by (λ k. slice_cmp nat_cmp url k.now) m

-- what is to stand there
abbrev pub kept_at : List ℕ → List Seen → Option ReplyCounts
kept_at url seen = if list_any (λ s. bytes_eq s.url url) seen then Some (counts_of url seen) else None

-- The map has the counts of all that was seen.
pub record IsTally (seen : List Seen) (m : Map) : Type 0 where
  pub at : (url : List ℕ) → at_url m url ≡ kept_at url seen

-- It has those of these answers.
pub record TalliesAnswers (answers : List Answer) (m : Map) : Type 0 where
  pub seen : List Seen
  pub are : AreSeen answers seen
  pub tally : IsTally seen m

-- It has those of fewer than all that a number can count.
pub record HasRoom (m : Map) : Type 0 where
  pub seen : List Seen
  pub tally : IsTally seen m
  pub few : length seen + 1 < 2 ^ 64

-- counts with one more
abbrev pub one_more : ReplyCounts → Came → ReplyCounts
one_more c Timestamp = record { ok = c.ok + 1; no = c.no; bad = c.bad }
one_more c Refused = record { ok = c.ok; no = c.no + 1; bad = c.bad }
one_more c BadBody = record { ok = c.ok; no = c.no; bad = c.bad + 1 }

-- None of the counts is the greatest number.
pub record IsSmall (c : ReplyCounts) : Type 0 where
  pub ok : c.ok + 1 < 2 ^ 64
  pub no : c.no + 1 < 2 ^ 64
  pub bad : c.bad + 1 < 2 ^ 64
