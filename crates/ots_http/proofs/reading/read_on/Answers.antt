use Rattle.std.proofs.Common.{arith, rules}
use Rattle.ots_http.proofs.BufferLemmas.{grows, came_after, whole_there}
use Rattle.ots_http.proofs.reading.read_on.Goals as goal

pub loop-at-preserved : goal.loop-at-preserved
loop-at-preserved g c =
    let more = c.in_ok-count.ensures.more in
    let grown = grows _ _ _ _ _ _ _ _ _ _ c.loop-at.invariant.least (omega arith) c.loop-at.invariant.prefix c.loop-at.invariant.gives more in
    record {
      least = omega arith;
      most = omega (arith, more.within);
      prefix = grown.prefix;
      gives = grown.gives;
      later = search rules;
      same = search rules;
    }

pub returns-then-count-eq0-clause-came : goal.returns-then-count-eq0-clause-came
returns-then-count-eq0-clause-came g c =
    let more = c.in_ok-count.ensures.more in
    let grown = grows _ _ _ _ _ _ _ _ _ _ c.loop-at.invariant.least (omega arith) c.loop-at.invariant.prefix c.loop-at.invariant.gives more in
    came_after _ _ c.read_after.new.buffer c.args.filled _ _ grown.gives (omega (arith, more.within))

pub returns-clause-whole : goal.returns-clause-whole
returns-clause-whole g c =
    whole_there _ _ _ _ _ _ _ _ c.loop-at.invariant.least (omega arith) (omega arith) c.min.ensures c.loop-at.invariant.prefix c.loop-at.invariant.gives
