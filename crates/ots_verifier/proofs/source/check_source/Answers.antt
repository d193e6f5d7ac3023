use Rattle.std.proofs.Common.{rules, ◌∙◌, arith}
use Rattle.ots_verifier.proofs.Sourced.{all_fed, count_more, fed_more}
use Rattle.ots_verifier.proofs.source.check_source.Goals as goal

pub returns-then-count-eq0-clause-input : goal.returns-then-count-eq0-clause-input
returns-then-count-eq0-clause-input g c =
    let w = c.loop-came.invariant in
    let few = w.at_most in
    let checks = rw (w.bitcoin, w.litecoin) at c.finish.ensures.checks in
    all_fed _ _ _ _ _ c.loop-came.verifier.bytes _ _ c.finish.result c.answered.result c.if-count-eq0.true w.fed c.in_ok-count.ensures.bytes.0 (c.in_ok-count.ensures.bytes.1 c.if-count-eq0.true (search rules))
    (omega (arith, w.came)) checks c.answered.ensures

pub loop-came-preserved : goal.loop-came-preserved
loop-came-preserved g c =
    let w = c.loop-came.invariant in
    record {
      bitcoin = c.feed.ensures.bitcoin ∙ w.bitcoin;
      litecoin = c.feed.ensures.litecoin ∙ w.litecoin;
      fed = fed_more _ _ _ _ _ _ c.in_ok-count.count w.fed c.in_ok-count.ensures.bytes.0 c.feed.ensures.bytes;
      came = count_more c.loop-came.verifier.bytes _ _ _ c.in_ok-count.count w.came c.in_ok-count.ensures.room c.feed.ensures.bytes;
      at_most = search rules;
      later = search rules;
      same = search rules;
    }
