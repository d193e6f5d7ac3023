use Rattle.std.proofs.Common.{rules, ◌≡◌, ℕ, List, ◌+◌, ◌-◌, ◌*◌, ◌/◌, ◌%◌, ◌∙◌, length, refl, arith, take_at}
use Rattle.std.proofs.lemmas.List.{take_rest}
use Rattle.std.proofs.lemmas.Slice.{take-put_mid, overwrites}
use Rattle.ots_ripemd.specs.Hasher.{rest}
use Rattle.ots_ripemd.proofs.Chaining.{keeps_short, keeps_long}
use Rattle.ots_ripemd.proofs.Writing.{filled_block}
use Rattle.ots_ripemd.proofs.hasher.Ripemd160.update.Goals as goal

pub invariant_of-self : goal.invariant_of-self
invariant_of-self c =
    let keeps = c.self.invariant in
    let few = rw (← c.self.view_is) at c.requires in
    let copied = c.copy_from_slice.ensures.after in
    let used : ℕ = c.self.inside.count % 64 in
    rw c.and.ensures (keeps_short _ _ _ _ c.args.bytes.now _ _ keeps (omega arith) refl (omega (arith, keeps.counted, few))
    (rw copied (take-put_mid used _ c.self.inside.block c.args.bytes.now (used + length c.args.bytes.now) refl (omega arith))))

pub invariant_of-self-2 : goal.invariant_of-self-2
invariant_of-self-2 c =
    let keeps = c.self.invariant in
    let few = rw (← c.self.view_is) at c.requires in
    let more : List ℕ = c.split_at.result.1.now in
    let filled = filled_block c.self.inside.block _ _ more c.args.bytes.now (c.self.inside.count % 64) (64 - c.self.inside.count % 64) (omega arith) c.copy_from_slice-2.ensures.after c.split_at.ensures.by_index.0 in
    let begun : c.copy_from_slice-3.new.self ≡ rest more = c.copy_from_slice-3.ensures.after ∙ take_rest more (64 * (length more / 64)) in
    rw c.and.ensures (keeps_long _ _ _ _ _ _ _ c.args.bytes.now more _ _ keeps filled (search (rules, overwrites)) refl (omega (arith, keeps.counted, few))
    c.compress.ensures c.compress_all-self-inside.ensures (rw begun (take_at (rest more) _ (length (rest more)) refl)))
