use Rattle.std.proofs.Common.{◌<◌, ◌^◌, [], ◌∷◌, refl, ap, arith}
use Rattle.std.specs.Prelude.{Ok}
use Rattle.ots_connection.specs.Stamping.{none, put, again, busy, no_memory}
use Rattle.ots_connection.proofs.Held.{and_then}
use Rattle.ots_connection.proofs.stamping.stamp_at.Goals as goal

pub returns-in-Some-clause-comes : goal.returns-in-Some-clause-comes
returns-in-Some-clause-comes g c =
    let early : c.args.second < 2 ^ 32 = omega arith in
    let p = c.in-Ok.ensures.puts in
    let s = c.in-Some.ensures.settles in
    let t = c.in-Ok.ensures.ticket in
    (p.0 ∷ s.0 ∷ [], and_then _ _ _ p.0 (s.0 ∷ []) (omega arith) p.1 s.1, put p.0 s.0 early refl p.2 s.2 (rw (← t.0, ← t.1) s.3))

pub returns-in-None-clause-comes : goal.returns-in-None-clause-comes
returns-in-None-clause-comes g c =
    let early : c.args.second < 2 ^ 32 = omega arith in
    let p = c.in-Ok.ensures.puts in
    let s = c.in-None.ensures.settles in
    let l = c.put_again.ensures.settles in
    (p.0 ∷ s.0 ∷ l.0 ∷ [], and_then _ _ _ p.0 (s.0 ∷ l.0 ∷ []) (omega arith) p.1 (and_then _ _ _ s.0 (l.0 ∷ []) (omega arith) s.1 l.1), again p.0 s.0 l.0 early refl p.2 s.3 l.2)

pub returns-in-Err-Busy-clause-comes : goal.returns-in-Err-Busy-clause-comes
returns-in-Err-Busy-clause-comes g c =
    let early : c.args.second < 2 ^ 32 = omega arith in
    let p = rw c.in-Err-Busy.field-0-is at c.in-Err-Busy.ensures.puts in
    (p.0 ∷ [], p.1, none p.0 early refl (busy p.2.0 (p.2.1, ap Ok c.in_words.ensures.due)))

pub returns-in-Err-OutOfMemory-clause-comes : goal.returns-in-Err-OutOfMemory-clause-comes
returns-in-Err-OutOfMemory-clause-comes g c =
    let early : c.args.second < 2 ^ 32 = omega arith in
    let p = rw c.in-Err-OutOfMemory.field-0-is at c.in-Err-OutOfMemory.ensures.puts in
    (p.0 ∷ [], p.1, none p.0 early refl (no_memory p.2.0 p.2.1 _ refl))
