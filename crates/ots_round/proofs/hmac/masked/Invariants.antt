use Rattle.std.proofs.Common.{◌≡◌, take, drop, length}
use Rattle.ots_round.specs.Hmac.{masked}
use Rattle.ots_round.proofs.hmac.masked.Given as goal

abbrev pub invariant-loop-place : goal.invariant-loop-place
invariant-loop-place l = record {
  long : length l.bytes ≡ length l.block;
  done : take l.place l.bytes ≡ masked l.mask (take l.place l.block);
  rest : drop l.place l.bytes ≡ drop l.place l.block;
}
