use Rattle.std.proofs.Common.{sym, ap, Some, ◌∙◌}
use Rattle.ots_archive_steps.proofs.Items.{got}
use Rattle.ots_archive_take.proofs.Seen.{all_apart, is_twice, none_seen, seen_next}
use Rattle.ots_archive_take.proofs.names.first_twice.Goals as goal

pub loop-index-init : goal.loop-index-init
loop-index-init c = none_seen c.args.names.now c.new-seen.result c.new-seen.ensures.empty

pub returns-in-Ok-false-clause-some : goal.returns-in-Ok-false-clause-some
returns-in-Ok-false-clause-some c =
    is_twice c.args.names.now c.loop-index.index c.loop-index.seen c.bytes.result c.loop-index.invariant
    (got c.args.names.now c.loop-index.index c.index-names-index.result c.loop-index-test.true c.index-names-index.is ∙ ap Some (sym c.bytes.ensures))
    (sym c.in-Ok-false.field-0-test ∙ c.in-Ok-false.ensures.added)

pub loop-index-preserved : goal.loop-index-preserved
loop-index-preserved c =
    seen_next c.args.names.now c.loop-index.index c.loop-index.seen c.insert.new.self c.bytes.result c.loop-index.invariant
    (got c.args.names.now c.loop-index.index c.index-names-index.result c.loop-index-test.true c.index-names-index.is ∙ ap Some (sym c.bytes.ensures))
    (sym c.in-Ok-true.field-0-test ∙ c.in-Ok-true.ensures.added) c.in-Ok-true.ensures.updates.0

pub returns-clause-none : goal.returns-clause-none
returns-clause-none c = all_apart c.args.names.now c.loop-index.index c.loop-index.seen c.loop-index-test.false c.loop-index.invariant
