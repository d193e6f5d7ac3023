use Rattle.std.proofs.Common.{rules}
use Rattle.ots_tree.proofs.Gathered.{token_gathered, prefix_of_tokens}
use Rattle.ots_tree.proofs.spelling.spell_tokens.Goals as goal

pub returns-in_err-filled-clause-prefix : goal.returns-in_err-filled-clause-prefix
returns-in_err-filled-clause-prefix g c = prefix_of_tokens _ _ _ c.args.tokens.now c.loop-token.token-index _ c.loop-token.invariant.gathered c.in_err-filled.ensures.prefix

pub loop-token-preserved : goal.loop-token-preserved
loop-token-preserved g c = record {
  in_range = search rules;
  gathered = token_gathered _ _ _ c.args.tokens.now c.loop-token.token-index _ _ _ _ c.loop-token-test.true c.token-item.is c.gather-filled.ensures.gathered c.loop-token.invariant.gathered c.in_ok-filled.ensures.gathered;
  later = search rules;
  same = search rules;
}

pub returns-clause-prefix : goal.returns-clause-prefix
returns-clause-prefix g c = prefix_of_tokens _ _ _ c.args.tokens.now c.loop-token.token-index _ c.loop-token.invariant.gathered c.write_all.ensures.prefix
