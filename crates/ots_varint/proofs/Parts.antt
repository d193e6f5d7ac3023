-- A spelling written part by part.
use borrow.Rule.Slice.PartMut.{put_mid, mid_of}
use Rattle.std.proofs.Common.{◌≡◌, ℕ, suc, ◌+◌, List, [], ◌∷◌, ◌++◌, length, take, drop, refl, sym, ap, arith, append_assoc, length-append, length-drop, append-nil}
use Rattle.std.proofs.Math.ListN.{set}
use Rattle.std.proofs.lemmas.List.{drop-drop, drop_at, take_at, take_all, drop_all}

-- what is left k bytes, of n, where a spelling begins with s
left_after : (n k : ℕ) (s out middle : List ℕ) → length s ≡ k → middle ≡ s ++ drop k out → k + n ≡ length middle → mid_of k n middle ≡ drop k out
left_after n k s out middle len is whole =
    rw (is, drop_at s (drop k out) k len) (take_all n (drop k out) (omega (arith, ap length is, length-append s (drop k out))))

-- s stands at the start, and t is then written at the start of what follows
pub in_parts : (n k : ℕ) (s t out middle new : List ℕ) → length s ≡ k → middle ≡ s ++ drop k out → k + n ≡ length middle → new ≡ t ++ drop (length t) (mid_of k n middle)
    → put_mid k n middle new ≡ (s ++ t) ++ drop (length (s ++ t)) out
in_parts n k s t out middle new len is whole e =
    let after = left_after n k s out middle len is whole in
    let none : drop n (drop k middle) ≡ [] = drop_all n (drop k middle) (omega (arith, length-drop k middle)) in
    let prefix : take k middle ≡ s = rw is (take_at s (drop k out) k len) in
    let both : length (s ++ t) ≡ k + length t = omega (arith, length-append s t) in
    rw (prefix, none, append-nil new, both, e, after, drop-drop (length t) k out) (sym (append_assoc s t (drop (k + length t) out)))

-- a first byte is written
pub set_first : (n b : ℕ) (out : List ℕ) → length out ≡ suc n → (set out 0 b ≡ (b ∷ []) ++ drop 1 out) × (1 + n ≡ length (set out 0 b))
set_first n b [] len = absurd (omega arith)
set_first n b (x ∷ out) len = (refl, omega arith)
