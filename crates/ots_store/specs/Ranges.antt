-- What the order of records gives of tips and anchors, and a search by ranges rests on.
use Rattle.std.specs.Prelude.{◌≡◌, ◌⊎◌, ◌<◌, ◌≤◌, ℕ, List, [], ◌∷◌, length}
use Rattle.std.specs.List.{AllByRecursion}
use Rattle.ots_store.specs.declared.anchor.Anchor.{Anchor}
use Rattle.ots_store.specs.declared.tip.Tip.{Tip}
use Rattle.ots_store.specs.Records.{Record}
use Rattle.ots_store.specs.Order.{commits_of, tips_of, anchors_of, tip_end, anchor_end, covered_of}

-- Each anchor begins at or before the end of the one before it, and ends after that.
abbrev pub RisesFrom : ℕ → List Anchor → Type 0
RisesFrom base [] = Unit {0}
RisesFrom base (anchor ∷ anchors) = (anchor.first ≤ base) × (base < anchor_end anchor)
    × RisesFrom (anchor_end anchor) anchors

-- The end of the last anchor.
abbrev pub reach : ℕ → List Anchor → ℕ
reach base [] = base
reach base (anchor ∷ anchors) = reach (anchor_end anchor) anchors

abbrev pub EndsBy : ℕ → Anchor → Type 0
EndsBy i anchor = anchor_end anchor ≤ i

-- The first of these, where there is one, ends after an index.
abbrev pub BeginsAfter : ℕ → List Anchor → Type 0
BeginsAfter i [] = Unit {0}
BeginsAfter i (anchor ∷ anchors) = i < anchor_end anchor

-- A tip begins by what is covered, and ends by the last commitment.
abbrev pub IsWithin : ℕ → ℕ → Tip → Type 0
IsWithin covered commits tip = (tip.first ≤ covered) × (tip_end tip ≤ commits)

-- Each tip begins and ends no earlier than the one before it.
abbrev pub TipsRiseFrom : ℕ → ℕ → List Tip → Type 0
TipsRiseFrom first end [] = Unit {0}
TipsRiseFrom first end (tip ∷ tips) = (first ≤ tip.first) × (end ≤ tip_end tip)
    × TipsRiseFrom tip.first (tip_end tip) tips

-- A tip begins before an index, or at it and has fewer commitments.
abbrev pub Precedes : ℕ → ℕ → Tip → Type 0
Precedes first count tip = (tip.first < first) ⊎ ((tip.first ≡ first) × (tip.count < count))

pub record Orderly (records : List Record) : Type 0 where
  pub tips : AllByRecursion (IsWithin (covered_of records) (length (commits_of records))) (tips_of records)
  pub tips_rise : TipsRiseFrom 0 0 (tips_of records)
  pub rises : RisesFrom 0 (anchors_of records)
  pub within : covered_of records ≤ length (commits_of records)
