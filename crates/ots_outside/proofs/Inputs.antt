-- Lemmas on what reads give and writes take.
use Rattle.std.proofs.Common.{◌≡◌, ◌≤◌, ◌+◌, ℕ, List, ◌++◌, length, take, drop, arith, sym, Option}
use Rattle.std.proofs.Math.Seq.{take-add}
use Rattle.std.proofs.lemmas.Grind.{common_steps}
use Rattle.std.proofs.lemmas.List.{take-append-drop, take-append-le, drop-drop}
use Rattle.ots_outside.specs.Streams.{Gives, Takes, Gives-trans, Takes-trans}

-- The next n bytes were copied to the start of a buffer, and the bytes past them are left.
pub next_and_rest : (all out rest : List ℕ) (place n : ℕ) → n ≡ length out → out ≡ take n (drop place all)
    → drop place all ≡ take n (out ++ rest) ++ drop (place + n) all
next_and_rest all out rest place n fits is =
    let whole : take n out ≡ out = grind (arith, common_steps) in
    let fit : n ≤ length out = omega arith in
    rw (take-append-le n out rest fit, whole, is, ← drop-drop n place all) (sym (take-append-drop n (drop place all)))

-- A prefix of k bytes was written, and then the next n.
pub wrote_more : (a b c : Option (List ℕ)) (bytes : List ℕ) (k n : ℕ) (next : List ℕ) → next ≡ take n (drop k bytes)
    → Takes a b (take k bytes) → Takes b c next → Takes a c (take (k + n) bytes)
wrote_more a b c bytes k n next is old new = rw (take-add, ← is) (Takes-trans a b c _ _ old new)

-- n more bytes were read after the first k.
pub filled_more : (a b c : Option (List ℕ)) (old new : List ℕ) (k n : ℕ) → take k new ≡ take k old
    → Gives a b (take k old) → Gives b c (take n (drop k new)) → Gives a c (take (k + n) new)
filled_more a b c old new k n same first next = rw (take-add, same) (Gives-trans a b c _ _ first next)
