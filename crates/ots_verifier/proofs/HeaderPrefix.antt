-- What is wrong with a header shows in the first 65 bytes.
use Rattle.std.proofs.Common.{◌≡◌, ℕ, ◌+◌, ◌<◌, ◌≤◌, Bool, true, false, cond, List, [], ◌∷◌, ◌++◌, length, take, Option, Some, None, refl, sym, ap, ◌∙◌, arith, length-append}
use Rattle.std.specs.Prelude.{slice_get, nat_eq}
use Rattle.std.specs.Cmp.Lexicographic.{pointwise, same_text}
use Rattle.std.proofs.lemmas.List.{take-append-le, take_all}
use Rattle.std.proofs.lemmas.Bool.{le-ltb}
use Rattle.std.proofs.lemmas.Option.{slice_get-get_or}
use Rattle.std.proofs.lemmas.List.{get_or_append_left}
use Rattle.ots_base.specs.Table.{first_line}
use Rattle.ots_detached.specs.File.{magic}
use Rattle.ots_detached.specs.FileFault.{header_fault, magic_fault, version_fault, hash_fault, digest_fault, digest_length_of}

differ : (r : Bool) (xs ys : List ℕ) → r ≡ pointwise nat_eq xs ys → length ys < length xs → r ≡ false
differ true xs ys e low = let same = ap length (same_text xs ys e) in absurd (omega arith)
differ false xs ys e low = refl

no_front : (b : List ℕ) → 65 ≤ length b → pointwise nat_eq b (take (length b) magic) ≡ false
no_front b long = differ (pointwise nat_eq b (take (length b) magic)) b (take (length b) magic) refl (omega (arith, ap length (take_all (length b) magic (omega arith))))

magic_there : (x y : List ℕ) → 65 ≤ length x → magic_fault (x ++ y) ≡ magic_fault x
magic_there x y long = rw (take-append-le 31 x y (omega arith), no_front x long, no_front (x ++ y) (omega (arith, length-append x y))) refl

-- a byte of the prefix
same_at : (x y : List ℕ) (i : ℕ) → i < length x → slice_get (x ++ y) i ≡ slice_get x i
same_at x y i low =
    slice_get-get_or (x ++ y) i 0 (omega (arith, length-append x y)) ∙ ap Some (get_or_append_left x y 0 i low) ∙ sym (slice_get-get_or x i 0 low)

few_bytes : (b : Bool) → cond b 32 20 ≤ 32
few_bytes true = omega arith
few_bytes false = omega arith

short_digest : (o : Option ℕ) → digest_length_of o ≤ 32
short_digest None = omega arith
short_digest (Some b) = few_bytes (nat_eq b 0x08)

whole_digest : (b : List ℕ) → 65 ≤ length b → digest_fault b ≡ None
whole_digest b long = rw (le-ltb (length b) (33 + digest_length_of (slice_get b 32)) (omega (arith, short_digest (slice_get b 32)))) refl

-- as far as the header's longest goes
pub prefix_fault : (x y : List ℕ) → 65 ≤ length x → header_fault (x ++ y) ≡ header_fault x
unfolding header_fault
prefix_fault x y long =
    let m = magic_there x y long in
    let v : version_fault (x ++ y) ≡ version_fault x = rw (same_at x y 31 (omega arith)) refl in
    let h : hash_fault (x ++ y) ≡ hash_fault x = rw (same_at x y 32 (omega arith)) refl in
    let d : digest_fault (x ++ y) ≡ digest_fault x = whole_digest (x ++ y) (omega (arith, length-append x y)) ∙ sym (whole_digest x long) in
    λ i. first_line (m i ∷ v i ∷ h i ∷ d i ∷ [])
