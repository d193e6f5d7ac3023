use Rattle.std.proofs.Common.{◌++◌, ◌∷◌, [], ◌∙◌, ap, arith, length}
use Rattle.std.proofs.lemmas.Bool.Decides.{nat_tests}
use Rattle.ots_journal.specs.declared.entry.Entry.{Entry}
use Rattle.ots_mirror_pages.proofs.Reading.{none_begins, one_more}
use Rattle.ots_mirror_pages.proofs.page.read_entries.Goals as goal

pub returns-in_default-clause-bad : goal.returns-in_default-clause-bad
returns-in_default-clause-bad c = λ bad all are.
    none_begins c.args.bytes.now c.loop-left.left.now c.loop-left.entries (grind (arith, nat_tests)) c.in_default.ensures.none c.loop-left.invariant all are

pub loop-left-preserved : goal.loop-left-preserved
loop-left-preserved c =
    let e : Entry = record { kind = c.in-Some.kind; payload = c.in-Some.payload.now } in
    one_more c.args.bytes.now c.loop-left.left.now c.in-Some.rest.now c.loop-left.entries c.push.new.self e
    (c.in_ok-push.ensures ∙ ap (λ (x : Entry). c.loop-left.entries ++ x ∷ []) c.in_ok-copy_of.ensures.entry)
    (omega (arith, ap length c.items.ensures)) c.in-Some.ensures.some c.loop-left.invariant
