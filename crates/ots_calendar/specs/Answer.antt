-- What a calendar answers of a commitment (opentimestamps-server, otsserver/calendar.py, Calendar.__getitem__).
use Rattle.std.specs.Prelude.{ℕ, ◌-◌, List, Option, None, Some, find}
use Rattle.ots_anchor.specs.Path.{complete_path}
use Rattle.ots_attest.specs.declared.attestation.Attestation.TheVariants.{Bitcoin}
use Rattle.ots_ops.specs.declared.op.Op.{Op}
use Rattle.ots_tree.specs.Made.{lone}
use Rattle.ots_tree.specs.Wire.{pre}
use Rattle.ots_store.specs.declared.anchor.Anchor.{Anchor}
use Rattle.ots_store.specs.Index.{least}
use Rattle.ots_store.specs.Order.{commits_of, anchors_of, covers}
use Rattle.ots_store.specs.Records.{Record}
use Rattle.ots_calendar.specs.declared.answer.Answer.{Answer}
use Rattle.ots_calendar.specs.declared.answer.Answer.TheVariants.{Unknown, Pending, Complete}
use Rattle.ots_calendar.specs.Values.{span}

-- from the commitment with this index to the root of the block of an anchor that covers it
abbrev pub way_in : List (List ℕ) → ℕ → Anchor → List Op
way_in commits i anchor = complete_path (span anchor.first anchor.count commits) (i - anchor.first) anchor.prefix
    anchor.suffix anchor.branch

-- by the first anchor that covers its index, where there is one
abbrev pub answer_at : List (List ℕ) → ℕ → Option Anchor → Answer
answer_at commits i None = Pending
answer_at commits i (Some anchor) = Complete (pre (lone (way_in commits i anchor) (Bitcoin anchor.height)))

-- by its least index, where it is stored
abbrev pub answer_of : List Record → Option ℕ → Answer
answer_of records None = Unknown
answer_of records (Some i) = answer_at (commits_of records) i (find (covers i) (anchors_of records))

abbrev pub answer : List Record → List ℕ → Answer
answer records commitment = answer_of records (least commitment (commits_of records))
