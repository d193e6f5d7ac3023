use Rattle.std.proofs.Common.{ap, arith}
use Rattle.std.specs.Option.{option_copied}
use Rattle.ots_reader.specs.Tokens.{Tokens}
use Rattle.ots_verifier.proofs.OneToken.{may_come, rest_of, followed_more, followed_whole, followed_piece, taken}
use Rattle.ots_verifier.proofs.following.follow_piece.Goals as goal

pub returns-in_default-clause-finds : goal.returns-in_default-clause-finds
returns-in_default-clause-finds c = λ digest h.
    let w = c.loop-next in
    let leaves = rw (c.in_ok-next.was, c.in_default.is) at c.next.follows.holds-at-none in
    followed_piece c.args.bitcoin.now (option_copied c.args.litecoin) digest c.args.following.now.reader w.following.reader c.next.follows.lender-at-none w.following.messages.position w.following.best
    c.args.piece.now w.at (w.invariant.0 digest h) (rw c.in_default.is at c.in_ok-next.ensures.next) leaves

pub follow-open-requires : goal.follow-open-requires
follow-open-requires c =
    let w = c.loop-next in
    let b = rw c.in-Some.is at c.in_ok-next.ensures.next in
    let d = c.requires.follows in
    let i = w.invariant.0 d.0 d.1 in
    may_come c.args.bitcoin.now (option_copied c.args.litecoin) d.0 w.following.reader w.following.messages.position w.following.best (rest_of w.at c.args.piece.now) c.in-Some.next i.follows b

pub returns-then-next-clause-finds : goal.returns-then-next-clause-finds
returns-then-next-clause-finds c = λ digest h.
    let w = c.loop-next in
    let m = w.following.messages.position in
    let b = rw c.in-Some.is at c.in_ok-next.ensures.next in
    let t = taken c.args.bitcoin.now (option_copied c.args.litecoin) _ m w.following.best c.follow-open.new.self.position _ _ _ c.follow-open.ensures.step c.last-message.ensures c.noted-following.ensures in
    followed_whole c.args.bitcoin.now (option_copied c.args.litecoin) digest c.args.following.now.reader w.following.reader m c.follow-open.new.self.position w.following.best _ c.args.piece.now w.at
    c.in-Some.next (w.invariant.0 digest h) b c.if-next.true t

pub loop-next-preserved : goal.loop-next-preserved
loop-next-preserved c =
    let w = c.loop-next in
    let m = w.following.messages.position in
    let b = rw c.in-Some.is at c.in_ok-next.ensures.next in
    let leaves = rw (c.in_ok-next.was, c.in-Some.is) at c.next.follows.holds-at-none in
    let t = taken c.args.bitcoin.now (option_copied c.args.litecoin) _ m w.following.best c.follow-open.new.self.position _ _ _ c.follow-open.ensures.step c.last-message.ensures c.noted-following.ensures in
    let reader = ap (λ (z : Tokens). z.reserved) leaves in (
      (
          λ digest h. followed_more c.args.bitcoin.now (option_copied c.args.litecoin) digest c.args.following.now.reader w.following.reader c.next.follows.lender-at-none m c.follow-open.new.self.position
          w.following.best _ c.args.piece.now w.at c.in-Some.next (w.invariant.0 digest h) b leaves c.if-next.false t
          ),
      omega (arith, reader, c.follow-open.ensures.reserved, w.invariant.1),
    )
