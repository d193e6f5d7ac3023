use Rattle.std.proofs.Common.{◌≡◌, ◌≢◌, [], take, get_or, arith}
use Rattle.std.proofs.lemmas.Grind.{common_steps}
use Rattle.std.proofs.lemmas.List.{take_rest}
use Rattle.ots_journal.specs.Image.{open_gate}
use Rattle.ots_journal.specs.Opening.{magic1}
use Rattle.ots_journal.proofs.OldReading.{first_gate1, next_gate1, found1, damaged1, place_within1}
use Rattle.ots_journal.proofs.version1.read_version1.Goals as goal

pub loop-gate-init : goal.loop-gate-init
loop-gate-init c =
    let is : take 8 c.args.bytes.now ≡ magic1 = grind (arith, common_steps) in
    let none : c.new-entries.result.items ≡ [] = c.new-entries.ensures.items in
    rw none (first_gate1 c.args.bytes.now c.if-bytes-le-EMPTY_JOURNAL.false is)

pub bounds-bytes-gate : goal.bounds-bytes-gate
bounds-bytes-gate c = place_within1 c.args.bytes.now c.loop-gate.entries.items c.loop-gate.gate c.loop-gate.invariant

pub loop-gate-preserved : goal.loop-gate-preserved
loop-gate-preserved c =
    let is : get_or c.args.bytes.now c.loop-gate.gate 0 ≡ open_gate = c.loop-gate-test.true in
    let read = rw (c.in-Some.is, take_rest) at c.in_ok-size.ensures in
    next_gate1 c.args.bytes.now c.loop-gate.entries.items c.loop-gate.gate c.loop-gate.invariant c.next_entry.new.entries.items c.in-Some.size is read

pub returns-clause-ok : goal.returns-clause-ok
returns-clause-ok c =
    let ne : get_or c.args.bytes.now c.loop-gate.gate 0 ≢ open_gate = λ is. grind (arith, common_steps) in
    found1 c.args.bytes.now c.loop-gate.entries.items c.loop-gate.gate c.loop-gate.invariant c.if-bytes-le-EMPTY_JOURNAL.false ne

pub returns-in-None-clause-err : goal.returns-in-None-clause-err
returns-in-None-clause-err c =
    let is : get_or c.args.bytes.now c.loop-gate.gate 0 ≡ open_gate = c.loop-gate-test.true in
    let none = rw (c.in-None.is, take_rest) at c.in_ok-size.ensures in
    damaged1 c.args.bytes.now c.loop-gate.entries.items c.loop-gate.gate c.loop-gate.invariant c.if-bytes-le-EMPTY_JOURNAL.false is none
