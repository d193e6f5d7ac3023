use Rattle.std.proofs.Common.{rules, ◌≡◌, ℕ, length, arith}
use Rattle.std.specs.Ordering.{is_lt}
use Rattle.std.proofs.lemmas.Fn.{always_returns_same}
use Rattle.std.proofs.lemmas.List.Sorted.{ranks_by, sorted_far}
use Rattle.ots_store.specs.Places.{key_at, key_cmp}
use Rattle.ots_store.proofs.Keys.{key_total}
use Rattle.ots_store.proofs.Placed.{sorted}
use Rattle.ots_store.proofs.index.Index.of.Goals as goal

pub returns : goal.returns
returns c =
    let all = c.args.all.now in
    let lt = λ (a b : ℕ). is_lt (key_cmp (key_at all a) (key_at all b)) in
    let order = ranks_by key_total (key_at all) in
    let rises = c.sort_unstable_by.ensures.sorted lt order (always_returns_same _ _ _ (λ a r f' k. search rules)) in
    let count : length c.in_ok-places.places.items ≡ length all = omega (arith, c.in_ok-places.ensures.count) in
    sorted (length all) c.in_ok-places.places.items c.sort_unstable_by.new.self.items all count c.in_ok-places.ensures.each c.sort_unstable_by.ensures.permutation
    (λ i j d le within. sorted_far lt order c.sort_unstable_by.new.self.items rises i j d le within)
