-- Which records are held in memory.
use Rattle.std.specs.Prelude.{◌≡◌, ℕ, List}
use Rattle.ots_store.specs.declared.anchor.Anchor.{Anchor}
use Rattle.ots_store.specs.declared.tip.Tip.{Tip}
use Rattle.ots_store.specs.Marked.{MarkedTold}
use Rattle.ots_store.specs.Order.{commits_of, tips_of, anchors_of}
use Rattle.ots_store.specs.Records.{Record}

pub record HeldTold : Type 0 where
  pub commitments : MarkedTold (List ℕ)
  pub tips : MarkedTold Tip
  pub anchors : MarkedTold Anchor
  -- how many commitments or tips more can be put in flight without taking memory
  pub spare : ℕ

-- These records are acknowledged, and those in flight after them.
pub record Holds (kept flight : List Record) (held : HeldTold) : Type 0 where
  pub commitments : held.commitments.kept ≡ commits_of kept
  pub commitments_flight : held.commitments.flight ≡ commits_of flight
  pub tips : held.tips.kept ≡ tips_of kept
  pub tips_flight : held.tips.flight ≡ tips_of flight
  pub anchors : held.anchors.kept ≡ anchors_of kept
  pub anchors_flight : held.anchors.flight ≡ anchors_of flight
