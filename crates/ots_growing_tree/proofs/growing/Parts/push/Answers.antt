use Rattle.std.proofs.Common.{arith, ◌∙◌, ◌/◌, ◌++◌, ◌∷◌, [], ap, subst, sym, length, length-append}
use Rattle.std.specs.Prelude.{is_ok}
use Rattle.ots_growing_tree.specs.TreeParts.{AreAbove, HasRoom}
use Rattle.ots_merkle.specs.CalendarTree.{root}
use Rattle.ots_growing_tree.specs.declared.growing.TheConstants.{RUN}
use Rattle.ots_growing_tree.proofs.Levels.{leaf_closes, leaf_in_tail, one_more, pushed_items, run_room, written}
use Rattle.ots_growing_tree.proofs.growing.Parts.push.Goals as goal

pub unwrap-requires-then-len-eq-RUN : goal.unwrap-requires-then-len-eq-RUN
unwrap-requires-then-len-eq-RUN c =
    let is = c.requires.2 in
    let tail = pushed_items c.push.result c.args.self.now.tail.items c.args.leaf c.push.new.self.items (ap is_ok c.unwrap.ensures) c.push.ensures.items in
    let full = sym c.push.new.self.ok.0 ∙ sym c.len.ensures ∙ c.if-len-eq-RUN.true in
    c.push-then-len-eq-RUN.ensures.succeeds
    (omega (arith, c.args.self.now.runs.ok.0, is.runs_room, run_room c.requires.0 c.requires.1 c.args.leaf _ _ _ c.requires.3 is.tail tail full is.runs))

pub close_group-requires-clause-few : goal.close_group-requires-clause-few
close_group-requires-clause-few c =
    let is = c.requires.2 in
    let tail = pushed_items c.push.result c.args.self.now.tail.items c.args.leaf c.push.new.self.items (ap is_ok c.unwrap.ensures) c.push.ensures.items in
    let full = sym c.push.new.self.ok.0 ∙ sym c.len.ensures ∙ c.if-len-eq-RUN.true in
    let made = pushed_items c.push-then-len-eq-RUN.result c.args.self.now.runs.items c.root.result c.push-then-len-eq-RUN.new.self.items (ap is_ok c.unwrap-then-len-eq-RUN.ensures)
    c.push-then-len-eq-RUN.ensures.items in
    omega (
      arith,
      is.limit,
      run_room c.requires.0 c.requires.1 c.args.leaf _ _ _ c.requires.3 is.tail tail full is.runs,
      ap length (c.deref-then-len-eq-RUN.ensures.value ∙ made),
      length-append c.args.self.now.runs.items (c.root.result ∷ []),
    )

pub close_group-requires-clause-room : goal.close_group-requires-clause-room
close_group-requires-clause-room c =
    let is = c.requires.2 in
    let tail = pushed_items c.push.result c.args.self.now.tail.items c.args.leaf c.push.new.self.items (ap is_ok c.unwrap.ensures) c.push.ensures.items in
    let full = sym c.push.new.self.ok.0 ∙ sym c.len.ensures ∙ c.if-len-eq-RUN.true in
    let made = pushed_items c.push-then-len-eq-RUN.result c.args.self.now.runs.items c.root.result c.push-then-len-eq-RUN.new.self.items (ap is_ok c.unwrap-then-len-eq-RUN.ensures)
    c.push-then-len-eq-RUN.ensures.items in (
      c.requires.1 / RUN,
      subst (λ z. HasRoom z (c.requires.1 / RUN)) (sym c.deref_mut.ensures.value) is.room,
      omega (
        arith,
        run_room c.requires.0 c.requires.1 c.args.leaf _ _ _ c.requires.3 is.tail tail full is.runs,
        ap length (c.deref-then-len-eq-RUN.ensures.value ∙ made),
        length-append c.args.self.now.runs.items (c.root.result ∷ []),
      ),
    )

pub returns-then-len-eq-RUN : goal.returns-then-len-eq-RUN
returns-then-len-eq-RUN c = λ leaves total is less.
    let tail = pushed_items c.push.result c.args.self.now.tail.items c.args.leaf c.push.new.self.items (ap is_ok c.unwrap.ensures) c.push.ensures.items in
    let full = sym c.push.new.self.ok.0 ∙ sym c.len.ensures ∙ c.if-len-eq-RUN.true in
    let made = pushed_items c.push-then-len-eq-RUN.result c.args.self.now.runs.items c.root.result c.push-then-len-eq-RUN.new.self.items (ap is_ok c.unwrap-then-len-eq-RUN.ensures)
    c.push-then-len-eq-RUN.ensures.items in
    let own = c.root.ensures ∙ ap root c.deref.ensures.value in
    let closes = leaf_closes leaves c.args.leaf c.args.self.now.tail.items c.push.new.self.items c.push-then-len-eq-RUN.new.self.items is.tail tail full
    (made ∙ (λ i. is.runs i ++ own i ∷ [])) in
    let levels = c.close_group.new.above in
    let count = c.close_group.ensures.count ∙ ap length c.deref_mut.ensures.value in
    let back = written c.args.self.now.above.len c.args.self.now.above.items levels c.args.self.now.above.ok.0 count in
    record {
      few = one_more leaves c.args.leaf total less;
      limit = is.limit;
      tail = c.clear.ensures.items ∙ closes.0;
      runs = closes.1;
      above = subst (λ z. AreAbove z c.push-then-len-eq-RUN.new.self.items) (sym back) (subst (AreAbove levels) c.deref-then-len-eq-RUN.ensures.value c.close_group.ensures.above);
      levels = ap length back ∙ count ∙ is.levels;
      tail_room = omega (arith, is.tail_room, c.push.ensures.capacity, c.clear.ensures.capacity);
      runs_room = omega (arith, is.runs_room, c.push-then-len-eq-RUN.ensures.capacity);
      room = subst (λ z. HasRoom z (total / RUN)) (sym back) (c.close_group.ensures.room (total / RUN) (subst (λ z. HasRoom z (total / RUN)) (sym c.deref_mut.ensures.value) is.room));
    }

pub returns-else-len-eq-RUN : goal.returns-else-len-eq-RUN
returns-else-len-eq-RUN c = λ leaves total is less.
    let tail = pushed_items c.push.result c.args.self.now.tail.items c.args.leaf c.push.new.self.items (ap is_ok c.unwrap.ensures) c.push.ensures.items in
    let same = leaf_in_tail leaves c.args.leaf c.args.self.now.tail.items c.push.new.self.items is.tail tail
    (λ full. c.if-len-eq-RUN.false (c.len.ensures ∙ c.push.new.self.ok.0 ∙ full)) in
    record {
      few = one_more leaves c.args.leaf total less;
      limit = is.limit;
      tail = same.0;
      runs = is.runs ∙ same.1;
      above = is.above;
      levels = is.levels;
      tail_room = omega (arith, is.tail_room, c.push.ensures.capacity);
      runs_room = is.runs_room;
      room = is.room;
    }
