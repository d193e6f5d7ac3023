use Rattle.std.proofs.Common.{◌≡◌, ◌+◌, ◌≤◌, ◌++◌}
use Rattle.std.specs.Prelude.{reverse, vec_len, vec_capacity}
use Rattle.ots_tickets.specs.Slots.{present}
use Rattle.ots_tickets.proofs.slots.add_settled.Given as goal

abbrev pub invariant-loop-item : goal.invariant-loop-item
invariant-loop-item l = record {
  all : present l.slots.items ++ reverse l.rest.items ≡ present l.fn.slots.items ++ l.fn.settled.items;
  room : vec_len l.slots + vec_len l.rest ≤ vec_capacity l.slots;
}

abbrev pub decreases-loop-item : goal.decreases-loop-item
decreases-loop-item l = vec_len l.rest
