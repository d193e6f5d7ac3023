-- What the values of a calendar's records say of its commitments.
use Rattle.std.specs.Prelude.{◌≡◌, ◌<◌, ℕ, List, length, take, slice_get, Some}
use Rattle.std.specs.List.{AllByRecursion}
use Rattle.ots_anchor.specs.Path.{hashed, led_to}
use Rattle.ots_merkle.specs.CalendarTree.{root}
pub use Rattle.ots_kept_trees.specs.Kept.{span}
use Rattle.ots_store.specs.declared.anchor.Anchor.{Anchor}
use Rattle.ots_store.specs.declared.tip.Tip.{Tip}
use Rattle.ots_store.specs.Order.{commits_of}
use Rattle.ots_store.specs.Records.{Record, CommitRecord, TipRecord, AnchorRecord}

-- A tip's root is that of the calendar's tree over its commitments.
abbrev pub IsTrueTip : List (List ℕ) → Tip → Type 0
IsTrueTip commits tip = tip.root ≡ root (hashed (span tip.first tip.count commits))

-- An anchor's root is what the path from each of its commitments leads to.
abbrev pub IsTrueAnchor : List (List ℕ) → Anchor → Type 0
IsTrueAnchor commits anchor = anchor.root ≡ led_to (span anchor.first anchor.count commits) anchor.prefix anchor.suffix
    anchor.branch

-- A record's values are right, where these are all commitments.
abbrev pub IsTrue : List (List ℕ) → Record → Type 0
IsTrue commits (CommitRecord commitment) = Unit {0}
IsTrue commits (TipRecord tip) = IsTrueTip commits tip
IsTrue commits (AnchorRecord anchor) = IsTrueAnchor commits anchor

abbrev pub AreTrue : List Record → Type 0
AreTrue records = AllByRecursion (IsTrue (commits_of records)) records

-- This record is the first whose values are not right.
pub record FirstUntrue (records : List Record) (i : ℕ) : Type 0 where
  pub there : i < length records
  pub before : AllByRecursion (IsTrue (commits_of records)) (take i records)
  pub untrue : (r : Record) → slice_get records i ≡ Some r → IsTrue (commits_of records) r → ⊥
