use Rattle.std.proofs.Common.{arith, ◌∙◌, sym}
use Rattle.ots_growing_tree.proofs.Levels.{empty_above, empty_room, no_runs}
use Rattle.ots_growing_tree.specs.declared.growing.TheConstants.{RUN}
use Rattle.ots_growing_tree.proofs.growing.Parts.new.Goals as goal

pub returns : goal.returns
returns c = record {
  few = omega arith;
  limit = omega arith;
  tail = c.in_ok-with_capacity.ensures.items;
  runs = c.new.ensures.items ∙ sym (no_runs RUN);
  above = empty_above c.in_ok-empty_levels.field-0.items c.new.result.items c.new.ensures.items c.in_ok-empty_levels.ensures.empty;
  levels = c.in_ok-empty_levels.ensures.count;
  tail_room = omega (arith, c.in_ok-with_capacity.ensures.capacity);
  runs_room = omega arith;
  room = empty_room c.in_ok-empty_levels.field-0.items _ (omega arith);
}
