use Rattle.std.proofs.Common.{◌≡◌, ◌≢◌, ◌+◌, [], take, get_or, arith}
use Rattle.std.proofs.lemmas.Grind.{common_steps}
use Rattle.std.specs.List.{AllByRecursion}
use Rattle.ots_journal.specs.Image.{magic, open_gate}
use Rattle.ots_journal.specs.Stored.{entries_at, EndsBy}
use Rattle.ots_journal.proofs.GroupReading.{first_gate, next_gate, found}
use Rattle.ots_journal.proofs.Places.{ends_later}
use Rattle.ots_journal.proofs.finding.find_entries.Goals as goal

pub loop-gate-init : goal.loop-gate-init
loop-gate-init c =
    let is : take 8 c.args.bytes.now ≡ magic = grind (arith, common_steps) in
    let none : c.new-places.result.items ≡ [] = c.new-places.ensures.items in
    rw none (record { read = first_gate c.args.bytes.now c.requires.long is; within = tt })

pub read_group-requires-clause-within : goal.read_group-requires-clause-within
read_group-requires-clause-within c = ends_later c.loop-gate.gate (c.loop-gate.gate + 1) c.loop-gate.places.items (omega arith) c.loop-gate.invariant.within

pub loop-gate-preserved : goal.loop-gate-preserved
loop-gate-preserved c =
    let bytes = c.args.bytes.now in
    let is : get_or bytes c.loop-gate.gate 0 ≡ open_gate = c.loop-gate-test.true in
    let read = rw c.in-Some.is at c.in_ok-size.ensures.found in
    let within : AllByRecursion (EndsBy (c.loop-gate.gate + 1 + c.in-Some.size)) c.read_group.new.places.items = rw c.in-Some.is at c.in_ok-size.ensures.within in
    record {
      read = next_gate bytes (entries_at bytes c.loop-gate.places.items) c.loop-gate.gate c.loop-gate.invariant.read (entries_at bytes c.read_group.new.places.items) c.in-Some.size is read;
      within = ends_later (c.loop-gate.gate + 1 + c.in-Some.size) (c.loop-gate.gate + (1 + c.in-Some.size)) c.read_group.new.places.items (omega arith) within;
    }

pub returns-clause-ok : goal.returns-clause-ok
returns-clause-ok c =
    let ne : get_or c.args.bytes.now c.loop-gate.gate 0 ≢ open_gate = λ is. grind (arith, common_steps) in
    found c.args.bytes.now (entries_at c.args.bytes.now c.loop-gate.places.items) c.loop-gate.gate c.loop-gate.invariant.read ne
