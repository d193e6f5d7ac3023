-- Bytes after their number.
use Rattle.std.proofs.Common.{◌≡◌, ℕ, ◌+◌, ◌-◌, ◌≤◌, List, ◌++◌, length, take, drop, refl, sym, ap, ◌∙◌, arith, append_assoc, length-append, length-drop}
use Rattle.std.proofs.lemmas.List.{drop-drop, length-take-le, take-append-drop}
use Rattle.ots_varint.specs.Varuint.{varuint, varbytes}
use Rattle.ots_varint.specs.Reading.{IsSpelledAt}

-- n bytes after the number n, which `used` bytes spell
pub record IsAfter (n used : ℕ) (bytes x : List ℕ) : Type 0 where
  pub size : length x ≡ n
  pub spelled : bytes ≡ varbytes x ++ drop (used + n) bytes
  pub len : used + n ≡ length (varbytes x)

pub after : (n used : ℕ) (bytes : List ℕ) → IsSpelledAt bytes n used → used + n ≤ length bytes → IsAfter n used bytes (take n (drop used bytes))
unfolding varbytes
after n used bytes at room =
    let x = take n (drop used bytes) in
    let size : length x ≡ n = length-take-le n (drop used bytes) (omega (arith, length-drop used bytes)) in
    record {
      size = size;
      spelled = rw (size, append_assoc (varuint n) x (drop (used + n) bytes))
          (at.prefix ∙ ap (λ (z : List ℕ). varuint n ++ z) (sym (take-append-drop n (drop used bytes)) ∙ ap (λ (z : List ℕ). x ++ z) (drop-drop n used bytes)));
      len = rw size (omega (arith, length-append (varuint n) x, at.len));
    }

-- the bytes from `used` to `used + n`, as a slice names them
pub same_slice : (n used : ℕ) (bytes : List ℕ) → take (used + n - used) (drop used bytes) ≡ take n (drop used bytes)
same_slice n used bytes = let e : used + n - used ≡ n = omega arith in rw e refl
