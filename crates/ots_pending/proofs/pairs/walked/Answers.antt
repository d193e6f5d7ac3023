use Rattle.std.proofs.Common.{arith, ℕ, List, [], ◌∙◌, ◌++◌, refl, ap, get_or}
use Rattle.ots_tree.specs.Kept.{beside}
use Rattle.ots_tree.specs.PendingWalk.{added, ended, followed, walked}
use Rattle.ots_tree.proofs.Numbered.{kept_length}
use Rattle.ots_tree.proofs.PendingPaths.{walk_goes, walk_ends}
use Rattle.ots_pending.specs.Pairs.{pairs_of}
use Rattle.ots_pending.specs.Listed.{with_found}
use Rattle.ots_pending.proofs.Once.{all_found}
use Rattle.ots_pending.proofs.pairs.walked.Goals as goal

pub bounds-depths-at : goal.bounds-depths-at
bounds-depths-at c = omega (arith, kept_length _ _ c.requires)

pub loop-at-init : goal.loop-at-init
loop-at-init c = record {
  kept = c.no_pairs-listing.ensures.kept;
  numbers = c.in_ok-path.ensures.none c.no_pairs-listing.result.messages;
  way = record {
    ended = 0;
    found = [];
    left = ap (λ (z : List (List ℕ)). walked 0 z (beside c.args.tokens.now c.args.depths.now)) c.in_ok-path.ensures.message;
    pairs = c.no_pairs-listing.ensures.none;
  };
}

pub loop-at-preserved : goal.loop-at-preserved
loop-at-preserved c =
    let way = c.loop-at.invariant.way in
    let note = c.in_ok-note.ensures in
    let follow = c.in_ok-follow.ensures in
    let x = c.index-tokens-at.result in
    let d = get_or c.args.depths.now c.loop-at.at 0 in
    let more = added x d way.ended c.loop-at.path.messages in
    record {
      kept = note.kept;
      numbers = follow.numbers c.note.new.listing.messages note.numbers;
      way = record {
        ended = ended x way.ended;
        found = way.found ++ more;
        left = walk_goes c.args.tokens.now c.args.depths.now c.loop-at.at way.ended (ended x way.ended) x c.loop-at.path.messages c.follow.new.path.messages way.found (way.found ++ more) _
            (kept_length _ _ c.requires) c.loop-at-test.true c.index-tokens-at.is refl refl (follow.messages ∙ ap (followed x d) note.path) way.left;
        pairs = note.pairs way.ended ∙ ap (with_found more) way.pairs ∙ all_found way.found more;
      };
    }

pub returns-clause-pairs : goal.returns-clause-pairs
returns-clause-pairs c =
    let way = c.loop-at.invariant.way in
    way.pairs ∙ ap pairs_of (walk_ends c.args.tokens.now c.args.depths.now c.loop-at.at way.ended c.loop-at.path.messages way.found _ (kept_length _ _ c.requires) c.loop-at-test.false way.left)
