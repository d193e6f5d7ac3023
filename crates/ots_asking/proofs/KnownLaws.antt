-- The laws of replies and of trees, by which a reply and a body have one outcome.
use Rattle.std.proofs.Common.{refl}
use Rattle.ots_asking.proofs.OneOutcome.{Laws}
use Rattle.ots_http.proofs.OneAnswer.{one_outcome}
use Rattle.ots_reader.proofs.OneFault.{never_both_lem, one_fault_lem}
use Rattle.ots_reader.proofs.Walk.{one_tree_at}

pub known_laws : Laws
known_laws = record {
  one_reply = one_outcome;
  never_both = λ n k t rest f shape sound has. never_both_lem n k _ f t rest shape.depth has sound refl;
  one_fault = one_fault_lem;
  one_tree = one_tree_at;
}
