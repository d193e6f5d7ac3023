use Rattle.std.proofs.Common.{◌≡◌, ◌<◌, ◌+◌, ◌++◌, ◌∷◌, [], ℕ, Bool, List, true, length, drop, get_or, vec_len, vec_capacity, sym, ◌∙◌, ap, subst, arith}
use Rattle.std.proofs.lemmas.List.{take_at, get_or_append_left}
use Rattle.std.proofs.lemmas.List.Sorted.{length_permutation}
use Rattle.std.specs.List.Sorted.{IsPermutation}
use Rattle.std.specs.Prelude.{if◌then◌else◌, is_ok}
use Rattle.ots_store.specs.Places.{Indexes, Are}
use Rattle.ots_store.proofs.Placed.{are_more, are_moved}
use Rattle.ots_store.proofs.index.Index.catch_up.Goals as goal

pub loop-place-preserved : goal.loop-place-preserved
loop-place-preserved c =
    let n = c.loop-place.place in
    let places = c.loop-place.self.places.items in
    let before = c.loop-place.invariant in
    let room : vec_len c.loop-place.self.places < vec_capacity c.loop-place.self.places = omega (arith, c.requires.room, before.room, before.are.count, c.loop-place-test.true) in
    let done : is_ok c.push.result ≡ true = c.push.ensures.succeeds room in
    let items : c.push.new.self.items ≡ places ++ n ∷ [] = c.push.ensures.items ∙ ap (λ (b : Bool). if b then places ++ n ∷ [] else places) done in
    record {
      are = subst (Are (n + 1)) (sym items) (are_more n places before.are);
      prefix = λ i lt. ap (λ (l : List ℕ). get_or l i 0) items ∙ get_or_append_left places (n ∷ []) 0 i (omega (arith, before.are.count)) ∙ before.prefix i lt;
      room = omega (arith, before.room, c.push.ensures.capacity);
    }

pub merge-requires-clause-are : goal.merge-requires-clause-are
merge-requires-clause-are c =
    let places = c.loop-place.self.places.items in
    let moves : IsPermutation places c.sort_after.new.places = subst (λ (l : List ℕ). IsPermutation l c.sort_after.new.places) c.as_mut_slice-places.ensures.value c.sort_after.ensures.moves in
    let same = length_permutation places c.sort_after.new.places moves in
    subst (λ (n : ℕ). Are n c.sort_after.new.places) (sym (same ∙ c.loop-place.invariant.are.count)) (are_moved c.loop-place.place places c.sort_after.new.places c.loop-place.invariant.are moves)

pub returns-clause-indexes : goal.returns-clause-indexes
returns-clause-indexes c =
    let all = c.args.all.now in
    let places = c.loop-place.self.places.items in
    let sorted = c.sort_after.new.places in
    let merged = c.merge.new.places in
    let moves : IsPermutation places sorted = subst (λ (l : List ℕ). IsPermutation l sorted) c.as_mut_slice-places.ensures.value c.sort_after.ensures.moves in
    let same = length_permutation places sorted moves in
    let count = c.merge.ensures.are.count in
    let whole : length sorted ≡ length all = omega (arith, same, c.loop-place.invariant.are.count, c.loop-place-test.false, c.requires.before) in
    subst (λ (l : List ℕ). Indexes (length all) l all) (sym (take_at merged (drop (length merged) places) c.loop-place.self.places.len (omega (arith, count, same))))
    (subst (λ (n : ℕ). Indexes n merged all) whole c.merge.ensures)
