use Rattle.std.proofs.Common.{◌≡◌, ◌∙◌, List, length, Option, ℕ, sym, subst, ap}
use Rattle.std.proofs.lemmas.List.{with_items_is}
use Rattle.std.specs.Vec.{with_items}
use Rattle.ots_pending.specs.OnPath.{kept_at, FindsNumber, IsFound}
use Rattle.ots_pending.proofs.Walking.{numbered, length_kept}
use Rattle.ots_pending.proofs.walk.number_at.Goals as goal

pub returns : goal.returns
returns c =
    let number = c.in-Some-2.number in
    let kept : c.keep.new.numbers ≡ kept_at c.args.path.now.numbers.items c.args.depth number =
    c.keep.ensures ∙ ap (λ (z : List (Option ℕ)). kept_at z c.args.depth number) c.deref_mut.ensures.value in
    let long : length c.keep.new.numbers ≡ c.args.path.now.numbers.len =
    ap (λ (z : List (Option ℕ)). length z) kept ∙ length_kept c.args.path.now.numbers.items c.args.depth number ∙ sym c.args.path.now.numbers.ok.0 in
    let found : IsFound c.args.messages.now c.number.new.messages c.args.path.now.messages c.args.depth number =
    subst (FindsNumber c.args.messages.now c.number.new.messages c.args.path.now.messages c.args.depth) c.in-Some-2.is c.in_ok-number.ensures.number in
    numbered c.args.messages.now c.number.new.messages c.args.path.now
    (record { messages = c.number.new.self; numbers = with_items c.args.path.now.numbers c.keep.new.numbers }) c.args.depth found.message number
    c.requires.numbers found.numbered found.distinct found.here c.in_ok-number.ensures.same (with_items_is c.args.path.now.numbers c.keep.new.numbers long ∙ kept)
