use Rattle.std.proofs.Common.{arith, refl}
use Rattle.ots_tree.proofs.Numbered.{kept_length}
use Rattle.ots_tree.proofs.PathLengths.{walk_stops, walk_goes, walk_ends}
use Rattle.ots_tree.proofs.sound.all_pass.Goals as goal

pub bounds-depths-at : goal.bounds-depths-at
bounds-depths-at c = omega (arith, kept_length _ _ c.requires.kept)

pub returns-then-not-passes : goal.returns-then-not-passes
returns-then-not-passes c = (
  λ e. absurd cc,
  λ some. absurd (walk_stops c.args.tokens.now c.args.depths.now c.args.above c.loop-at.at _ c.loop-at.lengths _ (kept_length _ _ c.requires.kept) c.loop-at-test.true c.index-tokens-at.is c.if-not-passes.ensures c.loop-at.invariant.walk some),
)

pub loop-at-preserved : goal.loop-at-preserved
loop-at-preserved c = record {
  room = omega (arith, c.passes.auto.lengths, c.loop-at.invariant.room);
  walk = walk_goes c.args.tokens.now c.args.depths.now c.args.above c.loop-at.at _ c.loop-at.lengths c.passes.new.lengths _ (kept_length _ _ c.requires.kept) c.loop-at-test.true c.index-tokens-at.is c.if-not-passes.ensures c.loop-at.invariant.walk;
}

pub returns : goal.returns
returns c = (
  λ e. walk_ends c.args.tokens.now c.args.depths.now c.args.above c.loop-at.at c.loop-at.lengths _ (kept_length _ _ c.requires.kept) c.loop-at-test.false c.loop-at.invariant.walk,
  λ some. refl,
)
