use Rattle.std.proofs.Common.{◌≡◌, ◌+◌, ◌-◌, ◌%◌, ◌∙◌, length, refl, arith}
use Rattle.std.proofs.lemmas.List.{drop-replicate}
use Rattle.std.specs.Int.{to_le_bytes, w64}
use Rattle.ots_ripemd.proofs.Writing.{padded_bytes}
use Rattle.ots_ripemd.proofs.hasher.padded_end.Goals as goal
use Rattle.ots_ripemd.proofs.hasher.padded_end.Goals.{then-rest, else-rest}

pub returns-clause-bytes : goal.returns-clause-bytes
returns-clause-bytes c =
    let rest = c.args.rest.now in
    let end : c.if-rest.length ≡ length rest + 1 + (119 - length rest) % 64 + 8 =
    elim c.if-rest.branch [ then-rest w ↦ omega arith | else-rest w ↦ omega arith ] in
    let bits = c.copy_from_slice-2.ensures.after ∙ c.to_le_bytes.ensures in
    padded_bytes rest _ _ _ (to_le_bytes w64 c.args.bits) c.if-rest.length _ c.copy_from_slice.ensures.after (drop-replicate (length rest) 128 0) (omega arith) bits refl end
