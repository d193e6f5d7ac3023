-- How far the records are looked at. It serves the code alone.
use Rattle.std.specs.Prelude.{◌≡◌, ◌≤◌, ◌<◌, ◌^◌, ℕ, ◌+◌, List, length, take, slice_get, Some}
use Rattle.ots_store.specs.declared.anchor.Anchor.{Anchor}
use Rattle.ots_store.specs.declared.tip.Tip.{Tip}
use Rattle.ots_store.specs.Order.{commits_of, tips_of, covered_of}
use Rattle.ots_store.specs.Records.{Record, TipRecord, AnchorRecord}
use Rattle.ots_calendar.specs.declared.values.Seen.{Seen}

-- So many records were looked at: how many of them are tips, and how many commitments their anchors cover.
pub record IsSeen (records : List Record) (i : ℕ) (seen : Seen) : Type 0 where
  pub tips : seen.tips ≡ length (tips_of (take i records))
  pub covered : seen.covered ≡ covered_of (take i records)

-- The record at a place is this tip, which is over some of the commitments.
pub record IsTipAt (records : List Record) (i : ℕ) (tip : Tip) : Type 0 where
  pub is : slice_get records i ≡ Some (TipRecord tip)
  pub some : 1 ≤ tip.count
  pub within : tip.first + tip.count ≤ length (commits_of records)
  pub few : length (commits_of records) < 2 ^ 32
  pub before : length (tips_of (take i records)) ≤ i

-- The record at a place is this anchor, which is of some of the commitments.
pub record IsAnchorAt (records : List Record) (i : ℕ) (anchor : Anchor) : Type 0 where
  pub is : slice_get records i ≡ Some (AnchorRecord anchor)
  pub past : covered_of (take i records) < anchor.first + anchor.count
  pub some : 1 ≤ anchor.count
  pub within : anchor.first + anchor.count ≤ length (commits_of records)
  pub few : length (commits_of records) < 2 ^ 32
