use Rattle.std.proofs.Common.{refl}
use Rattle.ots_asking.proofs.Questions.{nothing_asked, on_err}
use Rattle.ots_upgrade.proofs.AskedWith.{trees_same}
use Rattle.ots_upgrade.proofs.Pairwise.{all_asked, sound_outcomes}
use Rattle.ots_upgrade.specs.Upgrading.{questions}
use Rattle.ots_upgrade.proofs.upgrading.upgrade_with.Goals as goal

pub returns-in_err-pairs-clause-broken_off : goal.returns-in_err-pairs-clause-broken_off
returns-in_err-pairs-clause-broken_off g c =
    let some = c.one_list_of_pairs.ensures.some in
    on_err c.from_residual.result (record {
      pairs = some.0;
      are = some.1;
      conversed = nothing_asked g.D.Dialer.told g.D.Dialer.faults (questions c.args.calendars.now some.0) c.args.dialer.now;
    })

pub completed_by-requires-clause-sound : goal.completed_by-requires-clause-sound
completed_by-requires-clause-sound g c =
    rw c.deref.ensures.value (sound_outcomes c.args.calendars.now c.in_ok-pairs.pairs c.in_ok-outcomes.outcomes.items c.in_ok-outcomes.ensures.one_each c.in_ok-outcomes.ensures.asked.are)

pub returns-in_err-tree-clause-broken_off : goal.returns-in_err-tree-clause-broken_off
returns-in_err-tree-clause-broken_off g c =
    on_err c.from_residual-in_err-tree.result (record {
      pairs = c.in_ok-pairs.pairs;
      are = c.in_ok-pairs.ensures.pairs;
      conversed = all_asked g.D.Dialer.told g.D.Dialer.faults _ _ _ _ c.in_ok-outcomes.ensures.asked.conversed;
    })

pub returns-clause-upgraded : goal.returns-clause-upgraded
returns-clause-upgraded g c = record {
  pairs = c.in_ok-pairs.pairs;
  are = c.in_ok-pairs.ensures.pairs;
  asks = rw c.new-asked.ensures c.in_ok-outcomes.ensures.asked;
  hash = refl;
  digest = refl;
  tree =
      rw (c.new-asked.ensures, trees_same c.in_ok-pairs.pairs c.in_ok-outcomes.outcomes.items c.in_ok-outcomes.ensures.one_each, ← c.deref.ensures.value)
      c.in_ok-tree.ensures.completed;
}
