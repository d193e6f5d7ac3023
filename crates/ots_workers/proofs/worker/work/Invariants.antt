use Rattle.std.proofs.Common.{◌≡◌, true, false, IfSome}
use Rattle.ots_connection.specs.Answered.{IsAnsweredWithin}
use Rattle.ots_shared.specs.Records.{StartsWith}
use Rattle.ots_shared.specs.Told.{IsPassOf}
use Rattle.ots_workers.proofs.worker.work.Given as goal

-- The pass keeps its seat, isn't holding, and has seen at least as much. A link that is called answered is.
abbrev pub invariant-loop : goal.invariant-loop
invariant-loop g l = record {
  can : (goal.iterator-loop g).can_next l.iterator';
  finite : (goal.iterator-loop g).is_finite l.iterator';
  seat : l.pass.seat ≡ l.fn.pass.seat;
  own : IsPassOf l.shared l.pass;
  free : l.pass.holding ≡ false;
  seen : StartsWith l.pass.seen l.fn.pass.seen;
  answered : IfSome l.last (λ last. last.1 ≡ true → IsAnsweredWithin l.pass.seen (g.A.Link.Link.told last.0) (g.A.Link.Link.faults last.0));
}
