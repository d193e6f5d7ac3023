-- The order of a calendar's records.
use Rattle.std.specs.Prelude.{◌≡◌, ◌⊎◌, ◌<◌, ◌≤◌, ℕ, ◌+◌, max, Bool, nat_le, nat_lt, ◌&&◌, List, [], ◌∷◌, ◌++◌, length}
use Rattle.std.specs.Prelude.{take, map, slice_get, Some}
use Rattle.std.specs.List.{flat_map, AllByRecursion}
use Rattle.ots_journal.specs.declared.entry.Entry.{Entry}
use Rattle.ots_store.specs.declared.anchor.Anchor.{Anchor}
use Rattle.ots_store.specs.declared.tip.Tip.{Tip}
use Rattle.ots_store.specs.Records.{Record, CommitRecord, TipRecord, AnchorRecord, record_of, IsRecord}

abbrev pub commit_in : Record → List (List ℕ)
commit_in (CommitRecord commitment) = commitment ∷ []
commit_in (TipRecord tip) = []
commit_in (AnchorRecord anchor) = []

abbrev pub tip_in : Record → List Tip
tip_in (CommitRecord commitment) = []
tip_in (TipRecord tip) = tip ∷ []
tip_in (AnchorRecord anchor) = []

abbrev pub anchor_in : Record → List Anchor
anchor_in (CommitRecord commitment) = []
anchor_in (TipRecord tip) = []
anchor_in (AnchorRecord anchor) = anchor ∷ []

-- The commitments among records, the tips and the anchors, in order.
abbrev pub commits_of : List Record → List (List ℕ)
commits_of records = flat_map commit_in records

abbrev pub tips_of : List Record → List Tip
tips_of records = flat_map tip_in records

abbrev pub anchors_of : List Record → List Anchor
anchors_of records = flat_map anchor_in records

-- The index after the last one of a tip, and of an anchor.
abbrev pub tip_end : Tip → ℕ
tip_end tip = tip.first + tip.count

abbrev pub anchor_end : Anchor → ℕ
anchor_end anchor = anchor.first + anchor.count

-- The greatest end of the anchors, 0 where there is none: how many commitments are covered.
abbrev pub covered_by : List Anchor → ℕ
covered_by [] = 0
covered_by (anchor ∷ anchors) = max (anchor_end anchor) (covered_by anchors)

abbrev pub covered_of : List Record → ℕ
covered_of records = covered_by (anchors_of records)

-- An anchor covers an index.
abbrev pub covers : ℕ → Anchor → Bool
covers i anchor = nat_le anchor.first i && nat_lt i (anchor_end anchor)

-- One of the tips has this first index and this count.
abbrev pub HasSpan : ℕ → ℕ → List Tip → Type 0
HasSpan first count [] = ⊥
HasSpan first count (tip ∷ tips) = ((tip.first ≡ first) × (tip.count ≡ count)) ⊎ HasSpan first count tips

-- A tip begins with the first commitment that is not covered, and runs to the last one.
pub record FollowsTip (before : List Record) (tip : Tip) : Type 0 where
  pub begins : tip.first ≡ covered_of before
  pub some : 1 ≤ tip.count
  pub ends : tip_end tip ≡ length (commits_of before)

-- An anchor is of an earlier tip, and reaches past what is covered.
pub record FollowsAnchor (before : List Record) (anchor : Anchor) : Type 0 where
  pub tip : HasSpan anchor.first anchor.count (tips_of before)
  pub past : covered_of before < anchor_end anchor

-- A record may follow these.
abbrev pub Follows : List Record → Record → Type 0
Follows before (CommitRecord commitment) = Unit {0}
Follows before (TipRecord tip) = FollowsTip before tip
Follows before (AnchorRecord anchor) = FollowsAnchor before anchor

-- Each of these records may follow those before it.
abbrev pub InOrder : List Record → List Record → Type 0
InOrder before [] = Unit {0}
InOrder before (r ∷ records) = Follows before r × InOrder (before ++ r ∷ []) records

abbrev pub records_of : List Entry → List Record
records_of entries = map record_of entries

-- After these records, entries spell records, in order.
pub record AreRecords (before : List Record) (entries : List Entry) : Type 0 where
  pub each : AllByRecursion IsRecord entries
  pub order : InOrder before (records_of entries)

-- After these records, this entry is the first that spells none, or none that may follow.
pub record FirstBad (before : List Record) (entries : List Entry) (i : ℕ) : Type 0 where
  pub good : AreRecords before (take i entries)
  pub there : i < length entries
  pub bad : (entry : Entry) → slice_get entries i ≡ Some entry → IsRecord entry
      → Follows (before ++ records_of (take i entries)) (record_of entry) → ⊥
