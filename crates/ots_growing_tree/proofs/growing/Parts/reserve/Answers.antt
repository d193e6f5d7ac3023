use Rattle.std.proofs.Common.{arith, ◌∙◌, ◌/◌, ap, length, subst, sym}
use Rattle.std.proofs.lemmas.Result.{on_ok_weaker}
use Rattle.ots_growing_tree.specs.TreeParts.{AreAbove, AreKept, HasRoom}
use Rattle.ots_growing_tree.specs.declared.growing.TheConstants.{RUN}
use Rattle.ots_growing_tree.proofs.Levels.{kept_above, kept_count, kept_room, written}
use Rattle.ots_growing_tree.proofs.growing.Parts.reserve.Goals as goal

pub returns-clause-kept : goal.returns-clause-kept
returns-clause-kept c = λ leaves before is.
    let levels = c.reserve_levels.new.levels in
    let kept = subst (λ z. AreKept z levels) c.deref_mut.ensures.value c.reserve_levels.ensures.kept in
    let back = written c.args.self.now.above.len c.args.self.now.above.items levels c.args.self.now.above.ok.0 (kept_count _ _ kept) in
    record {
      few = is.few;
      limit = is.limit;
      tail = is.tail;
      runs = c.reserve_to.ensures.items ∙ is.runs;
      above = subst (λ z. AreAbove z c.reserve_to.new.level.items) (sym back) (subst (AreAbove levels) (sym c.reserve_to.ensures.items) (kept_above _ _ _ kept is.above));
      levels = ap length back ∙ kept_count _ _ kept ∙ is.levels;
      tail_room = is.tail_room;
      runs_room = omega (arith, is.runs_room, c.reserve_to.ensures.kept);
      room = subst (λ z. HasRoom z (before / RUN)) (sym back) (kept_room _ _ _ kept is.room);
    }

pub returns-clause-room : goal.returns-clause-room
returns-clause-room c =
    let levels = c.reserve_levels.new.levels in
    let kept = subst (λ z. AreKept z levels) c.deref_mut.ensures.value c.reserve_levels.ensures.kept in
    let back = written c.args.self.now.above.len c.args.self.now.above.items levels c.args.self.now.above.ok.0 (kept_count _ _ kept) in
    on_ok_weaker c.reserve_levels.result (λ room leaves before is few. record {
      few = few;
      limit = c.requires.total;
      tail = is.tail;
      runs = c.reserve_to.ensures.items ∙ is.runs;
      above = subst (λ z. AreAbove z c.reserve_to.new.level.items) (sym back) (subst (AreAbove levels) (sym c.reserve_to.ensures.items) (kept_above _ _ _ kept is.above));
      levels = ap length back ∙ kept_count _ _ kept ∙ is.levels;
      tail_room = is.tail_room;
      runs_room = c.in_ok-reserve_to.ensures.room;
      room = subst (λ z. HasRoom z (c.args.total / RUN)) (sym back) room;
    }) c.reserve_levels.ensures.room
