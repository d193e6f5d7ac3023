use Rattle.std.proofs.Common.{◌-◌, length, take, drop, arith, length-drop}
use Rattle.std.proofs.lemmas.List.{take_all}
use Rattle.ots_inputs.proofs.Lining.{all_taken, one_taken}
use Rattle.ots_inputs.proofs.lines.take_lines.Goals as goal

pub loop-used-preserved : goal.loop-used-preserved
loop-used-preserved g c =
    let bytes = c.args.bytes.now in
    let used = c.loop-used.used in
    let few = c.loop-used.invariant.few in
    let room = c.if-len-MAX_LINES.false in
    let len = c.len-in-loop-used.ensures in
    let most = c.MAX_LINES.ensures in
    one_taken g.L.Line.is_item g.L.Line.MAX_LINE g.L.Line.MAX_LINES bytes (take (length bytes - used) (drop used bytes)) c.args.items.now.items c.loop-used.items.items c.push.new.self.items used c.in-Whole.size c.in-Whole.item c.loop-used.invariant
    (omega (arith, few, room, len, most)) (take_all (length bytes - used) (drop used bytes) (omega (arith, length-drop used bytes))) c.in-Whole.ensures c.in_ok-push-in-Whole.ensures.items

pub returns-clause-ok : goal.returns-clause-ok
returns-clause-ok g c =
    all_taken g.met.L.Line.form c.args.bytes.now c.args.items.now.items c.loop-used.items.items c.loop-used.used c.loop-used.invariant (omega (arith, c.loop-used-test.false))
