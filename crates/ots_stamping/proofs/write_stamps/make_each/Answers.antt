use Rattle.std.proofs.Common.{rules, arith}
use Rattle.ots_stamping.proofs.Acts.{made_all, made_next, made_until, none_made}
use Rattle.ots_stamping.proofs.write_stamps.make_each.Goals as goal

pub loop-i-init : goal.loop-i-init
loop-i-init g c = (none_made _ _ _ _, search rules)

pub returns-in-Err-clause-made : goal.returns-in-Err-clause-made
returns-in-Err-clause-made g c =
    made_until _ _ _ _ _ _ _ _ _ _ _ _ c.loop-i.invariant.0 (search rules) _ _ _ (λ rose. let first = c.loop-i.invariant.1.later in omega (arith, first, rose)) c.in-Err.ensures.made

pub returns-in-Err-clause-sink : goal.returns-in-Err-clause-sink
returns-in-Err-clause-sink g c = record {
  later = let first = c.loop-i.invariant.1.later in let last = c.in-Err.ensures.sink.later in omega (arith, first, last);
  same = g.met.K.Sink.same_trans _ _ _ c.loop-i.invariant.1.same c.in-Err.ensures.sink.same;
}

pub loop-i-preserved : goal.loop-i-preserved
loop-i-preserved g c = (
  made_next _ _ _ _ _ _ _ _ _ _ _ _ c.loop-i.invariant.0 (search rules) c.in-Ok.ensures.made,
  record {
    later = let first = c.loop-i.invariant.1.later in let last = c.in-Ok.ensures.sink.later in omega (arith, first, last);
    same = g.met.K.Sink.same_trans _ _ _ c.loop-i.invariant.1.same c.in-Ok.ensures.sink.same;
  },
)

pub returns-clause-made : goal.returns-clause-made
returns-clause-made g c = made_all _ _ _ _ _ _ _ _ _ _ c.loop-i.invariant.0 (search rules)

pub returns-clause-sink : goal.returns-clause-sink
returns-clause-sink g c = c.loop-i.invariant.1
