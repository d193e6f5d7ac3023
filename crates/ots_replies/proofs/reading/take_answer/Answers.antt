use Rattle.std.proofs.Common.{arith}
use Rattle.ots_replies.proofs.Taken.{is_last, take_is}
use Rattle.ots_replies.proofs.reading.take_answer.Goals as goal

pub returns-in_ok-push-in-Some : goal.returns-in_ok-push-in-Some
returns-in_ok-push-in-Some c =
    take_is c.args.store.now c.push.new.self c.args.line.now c.in-Some.shape c.requires.good (omega arith) c.in-Some.ensures.some c.in_ok-push-in-Some.ensures
    c.ends_in_order.result c.ends_in_order.ensures

pub returns-in-None : goal.returns-in-None
returns-in-None c a few good text = c.in-None.ensures.none a (is_last c.args.store.now a good) text
