-- Lemmas on what reads give.
use Rattle.std.proofs.Common.{◌≡◌, ◌+◌, ℕ, List, ◌++◌, length, take, drop, refl, ◌∙◌, arith}
use Rattle.std.proofs.Math.Seq.{take-add}
use Rattle.std.proofs.lemmas.Grind.{common_steps}
use Rattle.std.proofs.lemmas.List.{take-append-le}
use Rattle.ots_outside.proofs.Inputs.{next_and_rest}
use Rattle.ots_outside.specs.Dialer.{ReplyTold, ReplyGives}

-- What is told of these bytes, once a prefix of them was read.
abbrev pub read_to : List ℕ → ℕ → ReplyTold
read_to all place = record { left = drop place all; given = take place all }

-- The next n bytes were copied to the start of a buffer.
pub gives_next : (all out rest : List ℕ) (place n : ℕ) → n ≡ length out → out ≡ take n (drop place all)
    → ReplyGives (take n (out ++ rest)) (read_to all place) (read_to all (place + n))
gives_next all out rest place n fits is =
    let prefix : take n (out ++ rest) ≡ take n (drop place all) =
    take-append-le n out rest (omega (arith, fits)) ∙ (let whole : take n out ≡ out = grind (arith, common_steps) in whole) ∙ is in
    record {
      left = next_and_rest all out rest place n fits is;
      given = rw (prefix, ← take-add) refl;
    }
