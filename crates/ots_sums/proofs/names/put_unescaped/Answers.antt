use Rattle.std.proofs.Common.{◌-◌, length, take, drop, ap, arith, length-drop}
use Rattle.std.proofs.lemmas.List.{take_rest}
use Rattle.ots_sums.proofs.Naming.{no_more, one_spelled}
use Rattle.ots_sums.proofs.names.put_unescaped.Goals as goal

pub returns-in_default : goal.returns-in_default
returns-in_default c =
    let u = c.loop-at.invariant in
    let text = c.args.text.now in
    let at = c.loop-at.at in
    let rest = take (length text - at) (drop at text) in (
      no_more text c.args.names.now.items c.loop-at.names.items at u rest (take_rest text at)
          (omega (arith, c.loop-at-test.true, ap length (take_rest text at), length-drop at text)) c.in_default.ensures,
      (u.name, u.put),
    )

pub loop-at-preserved : goal.loop-at-preserved
loop-at-preserved c =
    let u = c.loop-at.invariant in
    let text = c.args.text.now in
    let at = c.loop-at.at in
    let rest = take (length text - at) (drop at text) in
    one_spelled text c.args.names.now.items c.loop-at.names.items at u c.push.new.self.items rest c.in-Some.byte c.in-Some.length (take_rest text at) c.in-Some.ensures.0 c.in-Some.ensures.2
    (omega (arith, u.within, c.in-Some.ensures.2, ap length (take_rest text at), length-drop at text)) c.in_ok-push.ensures.items
