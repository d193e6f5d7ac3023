use Rattle.std.proofs.Common.{rules}
use Rattle.ots_inputs.proofs.Came.{opened_refused}
use Rattle.ots_archive_world.proofs.Under.{given, refused, there}
use Rattle.ots_archive_world.proofs.reader.read_under.Goals as goal

pub returns-in-Ok : goal.returns-in-Ok
returns-in-Ok g c = record {
  answer = given _ _ _ c.in_ok-slot.ensures.not_there (rw (c.new.ensures.shelf, c.new.ensures.slot) c.in_ok-slot.ensures.ok.left) c.in-Ok.item c.in-Ok.ensures.means;
  opened = search rules;
  refused = tt;
  kept = record {
    names = search rules;
    slots = search rules;
    short = search rules;
    later = search rules;
    writing = search rules;
  };
}

pub returns-in-Err : goal.returns-in-Err
returns-in-Err g c = record {
  answer = rw c.refused_source.ensures (refused _ _ _ c.in_ok-slot.ensures.not_there (rw (c.new.ensures.shelf, c.new.ensures.slot) c.in_ok-slot.ensures.ok.left) c.in-Err.error c.in-Err.ensures.means);
  opened = search rules;
  refused = rw c.refused_source.ensures (opened_refused (Unit {0}) c.args.name.now _ _ _ (there c.in-Err.error) (search rules));
  kept = record {
    names = search rules;
    slots = search rules;
    short = search rules;
    later = search rules;
    writing = search rules;
  };
}
