use Rattle.std.proofs.Common.{◌≤◌, min, arith, ◌∙◌, ◌∷◌, [], ap, get_or, false}
use Rattle.std.proofs.lemmas.Bool.{leb-true}
use Rattle.ots_tree.specs.Kept.{beside}
use Rattle.ots_tree.specs.PendingWalk.{followed}
use Rattle.ots_tree.proofs.Numbered.{kept_length}
use Rattle.ots_pending.specs.Grown.{GrowsInPart, IsBetween}
use Rattle.ots_pending.specs.Listed.{pairs_in}
use Rattle.ots_pending.proofs.Putting.{part_goes, part_ends, puts}
use Rattle.ots_pending.proofs.Windows.{walk_goes, stops_before, gets_answer}
use Rattle.ots_pending.proofs.growing.grown.Goals as goal

pub bounds-depths-at : goal.bounds-depths-at
bounds-depths-at c = omega (arith, kept_length _ _ c.requires.tree)

pub loop-at-preserved : goal.loop-at-preserved
loop-at-preserved c =
    let pairs = pairs_in c.args.listing.now in
    let all_tokens = beside c.args.tokens.now c.args.depths.now in
    let path = c.in_ok-tree.ensures.path in
    let tree = c.in_ok-tree.ensures.tree in
    let follow = c.in_ok-follow.ensures in
    let x = c.index-tokens-at.result in
    let d = get_or c.args.depths.now c.loop-at.at 0 in
    let from = c.args.window.from in
    let room = c.args.window.room in
    let l = c.loop-at in
    let count = c.ended_after-count.ensures in
    let next = c.next_after-next.ensures in
    let goes = c.is_within-goes_on.result in
    record {
      numbers = follow.numbers c.args.listing.now.messages path.numbers;
      on = walk_goes pairs c.args.ready.now x d l.path.messages _ from room l.at l.count l.next l.length c.length_put.result c.ended_after-count.result c.next_after-next.result
          c.saturating_add-length.result goes l.invariant.on c.is_within-goes_on.ensures tree c.length_put.ensures count next c.saturating_add-length.ensures;
      part = λ given all stop total less.
          let p = puts pairs given c.args.ready.now l.after_fork x d l.path.messages goes _ all tree in
          let before = stops_before pairs c.args.ready.now x d l.path.messages _ from room l.at l.count l.next l.length c.length_put.result c.ended_after-count.result c.next_after-next.result
          c.saturating_add-length.result goes l.invariant.on c.is_within-goes_on.ensures tree c.length_put.ensures count next stop less in
          part_goes pairs given (IsBetween from stop) total c.args.tokens.now c.args.depths.now l.at l.count c.ended_after-count.result l.after_fork c.is_fork-after_fork.result x l.path.messages
          c.follow.new.path.messages goes _ l.made.items c.put.new.made.items (GrowsInPart pairs given (IsBetween from stop) total false 0 (c.args.digest ∷ []) all_tokens)
          c.is_fork-after_fork.ensures (kept_length _ _ c.requires.tree) c.loop-at-test.true c.index-tokens-at.is p
          (gets_answer pairs given from room l.at l.count l.next l.length c.ended_after-count.result c.next_after-next.result stop d l.path.messages p.node x goes l.invariant.on count next less p.may p.must)
          c.in_ok-put.ensures (follow.messages ∙ ap (followed x d) path.same) count (l.invariant.part given all stop total before);
    }

pub returns-clause-grows : goal.returns-clause-grows
returns-clause-grows c given all =
    let pairs = pairs_in c.args.listing.now in
    let all_tokens = beside c.args.tokens.now c.args.depths.now in
    let from = c.args.window.from in
    let l = c.loop-at in
    let most : min l.next l.count ≤ l.next = omega arith in
    record {
      count = l.count;
      part = part_ends pairs given (IsBetween from l.next) c.args.tokens.now c.args.depths.now l.at l.count l.after_fork l.path.messages l.made.items
          (GrowsInPart pairs given (IsBetween from l.next) l.count false 0 (c.args.digest ∷ []) all_tokens) (kept_length _ _ c.requires.tree) c.loop-at-test.false
          (l.invariant.part given all l.next l.count most);
      whole = λ is. leb-true l.count l.next is;
    }
