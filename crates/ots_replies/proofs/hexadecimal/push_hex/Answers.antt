use Rattle.std.proofs.Common.{rules}
use Rattle.ots_replies.proofs.Digits.{half}
use Rattle.ots_replies.proofs.Stored.{pushed}
use Rattle.ots_replies.proofs.hexadecimal.push_hex.Goals as goal

pub returns-clause-pushed : goal.returns-clause-pushed
returns-clause-pushed c more are text =
    let count = half c.args.digits.now more text in
    pushed c.args.bytes.now.items more c.resize.new.self.items c.deref_mut.result.now c.decode_after.new.bytes _ c.len-start.result _ c.resize.new.self.len (search rules) count (search rules)
    c.in_ok-resize.ensures.items c.deref_mut.ensures.value (c.decode_after.ensures more are text (search (rules, count)))
