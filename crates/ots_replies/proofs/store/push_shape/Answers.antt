use Rattle.std.proofs.Common.{arith}
use Rattle.ots_replies.proofs.Stored.{adds_body, body_small}
use Rattle.ots_replies.proofs.store.push_shape.Goals as goal

pub overflow_cast-result : goal.overflow_cast-result
overflow_cast-result c =
    let a = c.requires in
    let small = body_small c.args.shape.now.outcome c.in-Body.digits a.0.reply c.in-Body.is a.2.outcome a.1.1 in
    omega (arith, small)

pub returns-in_ok-push_hex-in-Body-clause-kept : goal.returns-in_ok-push_hex-in-Body-clause-kept
returns-in_ok-push_hex-in-Body-clause-kept c a is shows =
    adds_body c.args.shape.now a c.in-Body.digits c.args.bytes.now.items c.extend_from_slice.new.self.items c.push_hex.new.bytes.items c.push_hex-in-Body.new.bytes.items c.in-Body.is is shows
    c.in_ok-extend_from_slice.ensures.items c.in_ok-push_hex.ensures.pushed c.in_ok-push_hex-in-Body.ensures.pushed
