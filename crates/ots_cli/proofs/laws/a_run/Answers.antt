use Rattle.std.proofs.Common.{[], refl, arith}
use Rattle.ots_cli.proofs.laws.a_run.Goals as goal

pub returns : goal.returns
returns c = λ replies slots bytes later now. record {
  sent = [];
  sent_is = refl;
  replies_are = refl;
  bytes_are = refl;
  heard = λ rose. omega (arith, rose);
  drawn = λ rose. omega (arith, rose);
}
