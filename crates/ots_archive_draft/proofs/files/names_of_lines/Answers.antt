use Rattle.std.proofs.Common.{refl, sym, arith}
use Rattle.ots_archive_draft.proofs.Turns.{named_next, no_text}
use Rattle.ots_archive_draft.specs.Files.{NamesLines}
use Rattle.ots_archive_draft.proofs.files.names_of_lines.Goals as goal

pub returns-then-len-gt-MAX_NAMES : goal.returns-then-len-gt-MAX_NAMES
returns-then-len-gt-MAX_NAMES g c = NamesLines.many _ (omega (arith, c.len.ensures, c.if-len-gt-MAX_NAMES.true)) c.refuse.ensures refl

pub returns-in-Err : goal.returns-in-Err
returns-in-Err g c = rw (sym c.loop-index.invariant.1)
    (no_text c.args.sums.now c.loop-index.index c.name-bytes.result.now c.loop-index.names.items _ _ _ (omega (arith, c.len.ensures, c.if-len-gt-MAX_NAMES.false)) c.name-bytes.ensures
    c.in-Err.ensures.cases.0 c.loop-index.invariant.0 c.refuse-in-Err.ensures)

pub loop-index-preserved : goal.loop-index-preserved
loop-index-preserved g c = rw c.in-Ok-push.ensures.items (
  named_next c.args.sums.now c.loop-index.index c.name-bytes.result.now c.loop-index.names.items c.in-Ok.name c.name-bytes.ensures c.in-Ok.ensures.cases.1 c.in-Ok.ensures.cases.0
      c.loop-index.invariant.0,
  c.loop-index.invariant.1,
)
