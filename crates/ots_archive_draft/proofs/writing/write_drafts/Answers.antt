use Rattle.std.proofs.Common.{arith}
use Rattle.std.proofs.lemmas.List.{length-map}
use Rattle.ots_archive_draft.specs.Writing.{read_batch}
use Rattle.ots_archive_draft.proofs.Turns.{all_written, writes_ends, writes_next}
use Rattle.ots_archive_draft.proofs.writing.write_drafts.Goals as goal

pub returns-in-Err-clause-ends : goal.returns-in-Err-clause-ends
returns-in-Err-clause-ends g c =
    writes_ends (read_batch c.args.batch) c.loop-index.index (let test = c.loop-index-test.true in omega (arith, test, length-map c.args.batch.names.now (λ s. s.now))) _ _ _ _ c.loop-index.invariant _ c.in-Err.ensures

pub loop-index-preserved : goal.loop-index-preserved
loop-index-preserved g c = rw c.both-all_made.ensures
    (writes_next (read_batch c.args.batch) c.loop-index.index (let test = c.loop-index-test.true in omega (arith, test, length-map c.args.batch.names.now (λ s. s.now))) _ _ _ _ c.loop-index.invariant _ c.in-Ok.ensures)

pub returns-clause-made : goal.returns-clause-made
returns-clause-made g c = all_written (read_batch c.args.batch) c.loop-index.index _ _ _ (let test = c.loop-index-test.false in omega (arith, test, length-map c.args.batch.names.now (λ s. s.now))) c.loop-index.invariant
