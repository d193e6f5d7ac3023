-- Numbers at the start of bytes.
use Rattle.std.proofs.Common.{◌≡◌, ◌<◌, ◌≤◌, ◌^◌, ℕ, ◌+◌, zero, suc, List, [], ◌∷◌, ◌++◌, length, take, drop, get_or, refl, sym, ◌∙◌, ap, arith, take-append-drop}
use Rattle.std.proofs.lemmas.List.{length-take-le, get_or-drop}
use Rattle.std.proofs.lemmas.Nat.{be_bytes_8}
use Rattle.std.specs.Int.{w64, to_be_bytes}
use Rattle.ots_store.specs.Records.{number}

-- each is a byte
abbrev pub AreBytes : List ℕ → Type 0
AreBytes bytes = (i : ℕ) → get_or bytes i 0 < 256

pub number_small : (bytes : List ℕ) → 8 ≤ length bytes → AreBytes bytes → number bytes < 2 ^ 64
number_small [] long small = absurd (omega arith)
number_small (a ∷ []) long small = absurd (omega arith)
number_small (a ∷ b ∷ []) long small = absurd (omega arith)
number_small (a ∷ b ∷ c ∷ []) long small = absurd (omega arith)
number_small (a ∷ b ∷ c ∷ d ∷ []) long small = absurd (omega arith)
number_small (a ∷ b ∷ c ∷ d ∷ e ∷ []) long small = absurd (omega arith)
number_small (a ∷ b ∷ c ∷ d ∷ e ∷ f ∷ []) long small = absurd (omega arith)
number_small (a ∷ b ∷ c ∷ d ∷ e ∷ f ∷ g ∷ []) long small = absurd (omega arith)
number_small (a ∷ b ∷ c ∷ d ∷ e ∷ f ∷ g ∷ h ∷ rest) long small =
    let a_small : a < 256 = small 0 in
    let b_small : b < 256 = small 1 in
    let c_small : c < 256 = small 2 in
    let d_small : d < 256 = small 3 in
    let e_small : e < 256 = small 4 in
    let f_small : f < 256 = small 5 in
    let g_small : g < 256 = small 6 in
    let h_small : h < 256 = small 7 in
    omega arith

pub bytes_after : (n : ℕ) (bytes : List ℕ) → AreBytes bytes → AreBytes (drop n bytes)
bytes_after n bytes small i = rw (get_or-drop n bytes i 0) (small (n + i))

bytes_taken : (n : ℕ) (bytes : List ℕ) → AreBytes bytes → AreBytes (take n bytes)
bytes_taken zero bytes small i = omega arith
bytes_taken (suc n) [] small i = omega arith
bytes_taken (suc n) (b ∷ bytes) small zero = small 0
bytes_taken (suc n) (b ∷ bytes) small (suc i) = bytes_taken n bytes (λ k. small (suc k)) i

-- the spelling of the number at the start, and what lies after it
pub number_again : (bytes : List ℕ) → 8 ≤ length bytes → AreBytes bytes → bytes ≡ to_be_bytes w64 (number bytes) ++ drop 8 bytes
number_again bytes long small =
    sym (take-append-drop 8 bytes) ∙ ap (λ (l : List ℕ). l ++ drop 8 bytes) (sym (be_bytes_8 (take 8 bytes) (number bytes) (length-take-le 8 bytes long) (bytes_taken 8 bytes small) refl))
