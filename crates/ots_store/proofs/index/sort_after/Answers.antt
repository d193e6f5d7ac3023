use Rattle.std.proofs.Common.{◌≡◌, ◌∙◌, ◌-◌, ℕ, length, drop, arith, rules}
use Rattle.std.proofs.lemmas.List.{length-take-le, length-drop}
use Rattle.std.proofs.lemmas.Fn.{always_returns_same}
use Rattle.std.proofs.lemmas.List.Sorted.{IsPermutation-put_mid, ranks_by, sorted_far}
use Rattle.std.specs.Ordering.{is_lt}
use Rattle.ots_store.specs.Places.{key_at, key_cmp}
use Rattle.ots_store.proofs.Keys.{key_total}
use Rattle.ots_store.proofs.Merged.{part_rises}
use Rattle.ots_store.proofs.index.sort_after.Goals as goal

pub returns-clause-moves : goal.returns-clause-moves
returns-clause-moves c = IsPermutation-put_mid c.args.from (length c.args.places.now - c.args.from) c.args.places.now c.sort_unstable_by.new.self c.sort_unstable_by.ensures.permutation

pub returns-clause-after : goal.returns-clause-after
returns-clause-after c =
    let all = c.args.all.now in
    let lt = λ (a b : ℕ). is_lt (key_cmp (key_at all a) (key_at all b)) in
    let order = ranks_by key_total (key_at all) in
    let rises = c.sort_unstable_by.ensures.sorted lt order (always_returns_same _ _ _ (λ a r f' k. search rules)) in
    let size : length c.sort_unstable_by.new.self ≡ length c.args.places.now - c.args.from = c.sort_unstable_by.ensures.len ∙ length-take-le (length c.args.places.now - c.args.from) (drop c.args.from c.args.places.now) (let rest = length-drop c.args.from c.args.places.now in omega arith) in
    part_rises c.args.from c.args.places.now c.sort_unstable_by.new.self all c.requires size (λ i j d le within. sorted_far lt order c.sort_unstable_by.new.self rises i j d le within)
