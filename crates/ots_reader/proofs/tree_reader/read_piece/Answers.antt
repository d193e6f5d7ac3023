use Rattle.ots_reader.proofs.WithinPiece.{pushed, read_more, read_ended, read_whole}
use Rattle.ots_reader.proofs.tree_reader.read_piece.Goals as goal

pub loop-next-preserved : goal.loop-next-preserved
loop-next-preserved c =
    let w = c.loop-next in
    let brings = rw c.in-Some.is at c.in_ok-next.ensures.next in
    let leaves = rw (c.in_ok-next.was, c.in-Some.is) at c.next.follows.holds-at-none in
    let kept = pushed w.tokens c.push.new.self _ _ c.in_ok-push.ensures.pushed c.in_ok-to_owned.ensures in
    read_more c.args.reader.now w.reader c.next.follows.lender-at-none c.args.piece.now w.tokens c.push.new.self w.at c.in-Some.next w.invariant brings leaves c.if-next.false kept

pub returns-in_default-clause-read : goal.returns-in_default-clause-read
returns-in_default-clause-read c =
    let w = c.loop-next in
    let reading = rw c.in_default.is at c.in_ok-next.ensures.next in
    let leaves = rw (c.in_ok-next.was, c.in_default.is) at c.next.follows.holds-at-none in
    read_whole c.args.reader.now w.reader c.next.follows.lender-at-none c.args.piece.now w.tokens w.at w.invariant reading leaves

pub returns-then-next-clause-read : goal.returns-then-next-clause-read
returns-then-next-clause-read c =
    let w = c.loop-next in
    let brings = rw c.in-Some.is at c.in_ok-next.ensures.next in
    let kept = pushed w.tokens c.push.new.self _ _ c.in_ok-push.ensures.pushed c.in_ok-to_owned.ensures in
    read_ended c.args.reader.now w.reader c.args.piece.now w.tokens c.push.new.self w.at c.in-Some.next w.invariant brings c.if-next.true kept
