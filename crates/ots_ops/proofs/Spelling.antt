-- Writing an operation.
use borrow.Rule.Slice.PartMut.{put_mid, mid_of}
use Rattle.std.proofs.Common.{◌≡◌, ℕ, suc, ◌≤◌, List, [], ◌∷◌, ◌++◌, length, take, drop, slice_set, refl, sym, subst, ap, ◌∙◌, inl, inr, arith, append-nil, length-append}
use Rattle.std.specs.Prelude.{◌⊎◌}
use Rattle.std.proofs.lemmas.List.{drop_all, take_all}
use Rattle.ots_varint.specs.Varuint.{varuint, varbytes}
use Rattle.ots_ops.specs.declared.op.Op.{Op}
use Rattle.ots_ops.specs.declared.op.Op.TheVariants.{Append, Prepend}
use Rattle.ots_ops.specs.Operation.{tag, after_tag, spell}
use Rattle.ots_varint.proofs.OneNumber.{varuint_at_most_two}

-- an argument after its length, which has one or two bytes
pub argument_fits : (argument : List ℕ) → length argument ≤ 4096 → length (varbytes argument) ≤ 4098
unfolding varbytes
argument_fits argument few =
    omega (arith, length-append (varuint (length argument)) argument, varuint_at_most_two (length argument) (omega arith))

-- a tag and what follows it, written at the start
after_written : (t : ℕ) (after old new : List ℕ) → length old ≡ 4099 → new ≡ after ++ drop (length after) (mid_of 1 4098 (slice_set old 0 t))
    → put_mid 1 4098 (slice_set old 0 t) new ≡ t ∷ (after ++ drop (suc (length after)) old)
after_written t after [] new long e = absurd (omega arith)
after_written t after (o ∷ old) new long e =
    let all : take 4098 old ≡ old = take_all 4098 old (omega arith) in
    let none : drop 4098 old ≡ [] = drop_all 4098 old (omega arith) in
    rw (none, append-nil new, e, all) refl

-- an argument after its length follows the tag
after_is : (o : Op) (argument : List ℕ) → (o ≡ Append argument) ⊎ (o ≡ Prepend argument) → after_tag o ≡ varbytes argument
after_is o argument (inl e) = ap after_tag e
after_is o argument (inr e) = ap after_tag e

-- an operation with an argument, written at the start
pub operation_written : (o : Op) (t : ℕ) (argument bytes old new : List ℕ) → t ≡ tag o → (o ≡ Append argument) ⊎ (o ≡ Prepend argument) → bytes ≡ argument
    → length old ≡ 4099 → new ≡ varbytes bytes ++ drop (length (varbytes bytes)) (mid_of 1 4098 (slice_set old 0 t))
    → put_mid 1 4098 (slice_set old 0 t) new ≡ spell o ++ drop (length (spell o)) old
operation_written o t argument bytes old new tagged is same long e =
    let after : after_tag o ≡ varbytes bytes = after_is o argument is ∙ ap varbytes (sym same) in
    let written : new ≡ after_tag o ++ drop (length (after_tag o)) (mid_of 1 4098 (slice_set old 0 t)) =
    subst (λ (z : List ℕ). new ≡ z ++ drop (length z) (mid_of 1 4098 (slice_set old 0 t))) (sym after) e in
    rw (← tagged) (after_written t (after_tag o) old new long written)
