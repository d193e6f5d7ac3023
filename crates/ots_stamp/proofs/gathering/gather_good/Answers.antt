use Rattle.std.proofs.Common.{length, subst, sym, take}
use Rattle.std.proofs.lemmas.List.{take_all}
use Rattle.ots_asking.specs.Outcome.{AreSound}
use Rattle.ots_merkle.specs.CalendarTree.{root}
use Rattle.ots_stamp.specs.Stamped.{good_trees, leaves}
use Rattle.ots_stamp.proofs.Gathered.{gathers_none, gathers_tree, sound_below, sound_none, sound_tree}
use Rattle.ots_stamp.proofs.gathering.gather_good.Goals.{in-Tree+in_ok-copy+in_ok-beside_any, in_default}
use Rattle.ots_stamp.proofs.gathering.gather_good.Goals as goal

pub loop-outcome-preserved : goal.loop-outcome-preserved
loop-outcome-preserved c =
    let outcomes = c.args.outcomes.now in
    let i = c.loop-outcome.outcome-index in
    elim c.match-outcome.branch [
      | in-Tree+in_ok-copy+in_ok-beside_any w ↦ record {
        gathered =
            gathers_tree outcomes i c.outcome-item.result w.in-Tree.tree w.in_ok-copy.field-0 c.match-outcome.all w.in_ok-beside_any.field-0 c.loop-outcome-test.true c.outcome-item.is
            w.in-Tree.is w.in_ok-copy.ensures w.all-is (w.in_ok-beside_any.ensures.gathered (good_trees (take i outcomes)) c.loop-outcome.invariant.gathered);
        sound = λ n k.
            sound_tree outcomes i c.outcome-item.result w.in-Tree.tree w.in_ok-copy.field-0 c.loop-outcome.all c.match-outcome.all w.in_ok-beside_any.field-0 n k
            c.loop-outcome-test.true c.outcome-item.is w.in-Tree.is w.in_ok-copy.ensures w.all-is (c.loop-outcome.invariant.sound n k) (w.in_ok-beside_any.ensures.sound n k);
      }
      | in_default w ↦ record {
        gathered =
            gathers_none outcomes i c.outcome-item.result c.loop-outcome.all c.match-outcome.all c.loop-outcome-test.true c.outcome-item.is
            w.in_default.not-Tree w.all-is c.loop-outcome.invariant.gathered;
        sound = λ n k.
            sound_none outcomes i c.outcome-item.result c.loop-outcome.all c.match-outcome.all n k c.loop-outcome-test.true c.outcome-item.is w.all-is
            (c.loop-outcome.invariant.sound n k);
      }
    ]

pub returns-clause-sound : goal.returns-clause-sound
returns-clause-sound c = λ n k all.
    c.loop-outcome.invariant.sound n k (subst (AreSound n k) (sym (take_all c.loop-outcome.outcome-index c.args.outcomes.now c.loop-outcome-test.false)) all)

pub returns-clause-below : goal.returns-clause-below
returns-clause-below c = λ targets all. sound_below targets c.loop-outcome.all all.0 all.1 (returns-clause-sound c (length (root (leaves targets))) all.0 all.2)
