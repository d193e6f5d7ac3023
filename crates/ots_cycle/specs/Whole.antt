-- The path of a stamped file whose calendar was anchored.
use Rattle.std.specs.Prelude.{ℕ, List, ◌++◌}
use Rattle.ots_attest.specs.declared.attestation.Attestation.TheVariants.{Bitcoin}
use Rattle.ots_calendar.specs.Cycle.{IsCycle}
use Rattle.ots_merkle.specs.CalendarTree.{root}
use Rattle.ots_stamp.specs.Stamped.{leaves, to_root}
use Rattle.ots_stamp.specs.declared.target.Target.{Target}
use Rattle.ots_store.specs.Records.{Record}
use Rattle.ots_tree.specs.Wire.{Path}
use Rattle.ots_tree.specs.declared.token.Token.{Token}

-- From the digest of the i-th file to the root over all that were stamped with it, from there to the calendar's
-- commitment, and from there to the root of a block's transactions.
abbrev pub whole_path : (targets : List Target) → ℕ → Target → {records : List Record} {uri commitment : List ℕ}
    {stamped completed : List Token} → IsCycle records (root (leaves targets)) uri commitment stamped completed → Path
whole_path targets i t c = record {
  ops = to_root (leaves targets) i t ++ (c.first ++ c.second);
  end = Bitcoin c.anchor.height;
}
