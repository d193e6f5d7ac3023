use Rattle.std.proofs.Common.{◌≡◌, ◌∙◌, List, Option, ℕ, length, sym, subst, ap}
use Rattle.std.specs.Vec.{with_items}
use Rattle.std.proofs.lemmas.List.{with_items_is}
use Rattle.ots_pending.specs.Grown.{IsKnownAt}
use Rattle.ots_pending.specs.OnPath.{kept_at, HasNumber}
use Rattle.ots_pending.proofs.Walking.{length_kept}
use Rattle.ots_pending.proofs.FoundPairs.{keeps_noted}
use Rattle.ots_pending.proofs.finding.known_at.Goals as goal

pub returns-clause-path : goal.returns-clause-path
returns-clause-path c =
    let number = c.in-Some-2.number in
    let kept : c.keep.new.numbers ≡ kept_at c.args.path.now.numbers.items c.args.depth number =
    c.keep.ensures ∙ ap (λ (z : List (Option ℕ)). kept_at z c.args.depth number) c.deref_mut.ensures.value in
    let long : length c.keep.new.numbers ≡ c.args.path.now.numbers.len =
    ap (λ (z : List (Option ℕ)). length z) kept ∙ length_kept c.args.path.now.numbers.items c.args.depth number ∙ sym c.args.path.now.numbers.ok.0 in
    let found : HasNumber c.args.messages.now c.args.path.now.messages c.args.depth number =
    subst (IsKnownAt c.args.messages.now c.args.path.now.messages c.args.depth) c.in-Some-2.is c.in_ok-number.ensures.number in
    keeps_noted c.args.messages.now c.args.path.now
    (record { messages = c.place.new.self; numbers = with_items c.args.path.now.numbers c.keep.new.numbers })
    c.args.depth number found.message c.requires.distinct c.requires.numbers found.there found.here c.in_ok-number.ensures.same
    (with_items_is c.args.path.now.numbers c.keep.new.numbers long ∙ kept)
