use Rattle.std.proofs.Common.{◌≡◌, ◌++◌, take, drop, IsTrue}
use Rattle.std.specs.Option.{is_none}
use Rattle.std.specs.List.{list_any}
use Rattle.ots_merkle.specs.Row.{added}
use Rattle.ots_merkle.proofs.row.add.Given as goal

abbrev pub invariant-loop-place : goal.invariant-loop-place
invariant-loop-place l = record {
  sum : added l.initial.row l.leaf ≡ take l.place l.row ++ added (drop l.place l.row) l.carried;
  room : IsTrue (list_any is_none (drop l.place l.row));
}
