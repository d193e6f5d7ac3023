-- A part of places that is exchanged with the one after it, or sorted, and what is in order then.
use Rattle.std.proofs.Common.{◌≡◌, ◌⊎◌, inl, inr, ◌<◌, ◌≤◌, ◌+◌, ◌-◌, ℕ, Bool, true, false, List, [], ◌++◌, length, take, drop, get_or, refl, sym, ◌∙◌, ap, subst, arith}
use Rattle.std.proofs.lemmas.List.{get_or_default, get_or_append_left, get_or-append_right, get_or-take, get_or-drop, length-take-le, length-drop}
use Rattle.std.proofs.lemmas.List.Sorted.{IsPermutation-put_mid, length_permutation}
use Rattle.std.proofs.lemmas.Cmp.{upto}
use Rattle.std.specs.List.{RotatedLeft}
use Rattle.std.specs.List.Sorted.{IsPermutation}
use Rattle.std.specs.Ordering.{is_lt, is_gt}
use borrow.Rule.Slice.PartMut.{put_mid, mid_of, post_of}
use Rattle.ots_store.specs.Places.{IsParted, Exchanged, Rises, IsWithin, nothing, key_at, key_cmp}
use Rattle.ots_store.proofs.Keys.{lt_is_gt, not_gt, key_total}
use Rattle.ots_store.proofs.Placed.{split}

-- ---- what stands where after a write to a part

part_below : (a k : ℕ) (xs ys : List ℕ) (i : ℕ) → i < a → a ≤ length xs → get_or (put_mid a k xs ys) i 0 ≡ get_or xs i 0
part_below a k xs ys i lt fits =
    get_or_append_left (take a xs) (ys ++ post_of a k xs) 0 i (let size = length-take-le a xs fits in omega arith) ∙ get_or-take a xs i 0 lt

part_at : (a k : ℕ) (xs ys : List ℕ) (i : ℕ) → i < length ys → a ≤ length xs → get_or (put_mid a k xs ys) (a + i) 0 ≡ get_or ys i 0
part_at a k xs ys i lt fits =
    get_or-append_right (take a xs) (ys ++ post_of a k xs) a (a + i) 0 (length-take-le a xs fits) (omega arith)
    ∙ ap (λ (n : ℕ). get_or (ys ++ post_of a k xs) n 0) (omega arith) ∙ get_or_append_left ys (post_of a k xs) 0 i lt

part_above : (a k : ℕ) (xs ys : List ℕ) (i : ℕ) → a + k ≤ i → length ys ≡ k → a ≤ length xs → get_or (put_mid a k xs ys) i 0 ≡ get_or xs i 0
part_above a k xs ys i le size fits =
    get_or-append_right (take a xs) (ys ++ post_of a k xs) a i 0 (length-take-le a xs fits) (omega arith)
    ∙ get_or-append_right ys (post_of a k xs) k (i - a) 0 size (omega arith)
    ∙ get_or-drop k (drop a xs) (i - a - k) 0 ∙ get_or-drop a xs (k + (i - a - k)) 0 ∙ ap (λ (n : ℕ). get_or xs n 0) (omega arith)

module _ (low middle high : ℕ) (xs ys : List ℕ) (le : low ≤ middle) (le' : middle ≤ high) (fits : high ≤ length xs) (moved : IsPermutation (mid_of low (high - low) xs) ys)
    (turned : RotatedLeft (mid_of low (high - low) xs) ys (length (mid_of low (high - low) xs)) (middle - low)) where
  size : length (mid_of low (high - low) xs) ≡ high - low
  size = length-take-le (high - low) (drop low xs) (let rest = length-drop low xs in omega arith)

  sized : length ys ≡ high - low
  sized = length_permutation (mid_of low (high - low) xs) ys moved ∙ size

  inside : (i : ℕ) → i < high - low → get_or (mid_of low (high - low) xs) i 0 ≡ get_or xs (low + i) 0
  inside i lt = get_or-take (high - low) (drop low xs) i 0 lt ∙ get_or-drop low xs i 0

  pub exchanged : Exchanged low middle high xs (put_mid low (high - low) xs ys)
  exchanged = record {
    count = length_permutation xs (put_mid low (high - low) xs ys) (IsPermutation-put_mid low (high - low) xs ys moved);
    prefix = λ i lt. part_below low (high - low) xs ys i lt (omega arith);
    first = λ i lt. part_at low (high - low) xs ys i (omega (arith, sized)) (omega arith) ∙ turned.0 i 0 (omega (arith, size)) ∙ inside (i + (middle - low)) (omega arith) ∙ ap (λ (n : ℕ). get_or xs n 0) (omega arith);
    second = λ i lt.
        let q = high - middle + i in
        ap (λ (n : ℕ). get_or (put_mid low (high - low) xs ys) n 0) (omega arith)
        ∙ part_at low (high - low) xs ys q (omega (arith, sized)) (omega arith)
        ∙ turned.1 q 0 (omega (arith, size)) (omega (arith, size)) ∙ ap (λ (n : ℕ). get_or (mid_of low (high - low) xs) n 0) (omega (arith, size)) ∙ inside i (omega arith);
    back = λ i past. part_above low (high - low) xs ys i (omega arith) sized (omega arith);
  }

-- ---- a part that is sorted

pub part_prefix : (from : ℕ) (xs ys : List ℕ) (i : ℕ) → from ≤ length xs → i < from → get_or (put_mid from (length xs - from) xs ys) i 0 ≡ get_or xs i 0
part_prefix from xs ys i fits lt = part_below from (length xs - from) xs ys i lt fits

pub part_rises : (from : ℕ) (xs ys : List ℕ) (all : List (List ℕ)) → from ≤ length xs → length ys ≡ length xs - from
    → ((i j : ℕ) (d : ℕ) → i ≤ j → j < length ys → is_lt (key_cmp (key_at all (get_or ys j d)) (key_at all (get_or ys i d))) ≡ false)
    → (i j : ℕ) → from ≤ i → i ≤ j → j < length xs → is_gt (key_cmp (key_at all (get_or (put_mid from (length xs - from) xs ys) i 0)) (key_at all (get_or (put_mid from (length xs - from) xs ys) j 0))) ≡ false
part_rises from xs ys all fits size up i j past le lt =
    let at : (k : ℕ) → from ≤ k → k < length xs → get_or (put_mid from (length xs - from) xs ys) k 0 ≡ get_or ys (k - from) 0 =
    λ k past below. ap (λ (n : ℕ). get_or (put_mid from (length xs - from) xs ys) n 0) (omega arith) ∙ part_at from (length xs - from) xs ys (k - from) (omega arith) fits in
    subst (λ (p : ℕ). is_gt (key_cmp (key_at all p) (key_at all (get_or (put_mid from (length xs - from) xs ys) j 0))) ≡ false) (sym (at i past (omega arith)))
    (subst (λ (p : ℕ). is_gt (key_cmp (key_at all (get_or ys (i - from) 0)) (key_at all p)) ≡ false) (sym (at j (omega arith) lt))
    (sym (lt_is_gt (key_at all (get_or ys (j - from) 0)) (key_at all (get_or ys (i - from) 0))) ∙ up (i - from) (j - from) 0 (omega arith) (omega arith)))

-- ---- one place of the second part in the first

pub prefix_rises : (high left : ℕ) (xs : List ℕ) (all : List (List ℕ)) → high ≤ length xs → IsParted high left xs all → Rises (take high xs) all
prefix_rises high left xs all fits parted i j le lt =
    let size = length-take-le high xs fits in
    let below : j < high = omega (arith, size) in
    subst (λ (p : ℕ). is_gt (key_cmp (key_at all p) (key_at all (get_or (take high xs) j 0))) ≡ false) (sym (get_or-take high xs i 0 (omega arith)))
    (subst (λ (p : ℕ). is_gt (key_cmp (key_at all (get_or xs i 0)) (key_at all p)) ≡ false) (sym (get_or-take high xs j 0 below)) (parted i j le (omega arith) (λ p q. absurd (omega arith))))

-- where a place of the new list stood in the old one
data Stood (at high left : ℕ) (k r : ℕ) : Type 0 where
  prefix : k < at → r ≡ k → Stood at high left k r
  last : at ≤ k → k < at + left → r + at ≡ high + k → Stood at high left k r
  moved : at + left ≤ k → k < high + left → r + left ≡ k → Stood at high left k r
  back : high + left ≤ k → r ≡ k → Stood at high left k r

module _ (all : List (List ℕ)) (xs ys : List ℕ) (at high left : ℕ) (le : at ≤ high) (fits : high + (left + 1) ≤ length xs) (parted : IsParted high (left + 1) xs all) (x : Exchanged at high (high + (left + 1)) xs ys)
    (before : (j : ℕ) → j < at → is_lt (key_cmp (key_at all (get_or xs j 0)) (key_at all (get_or xs (high + left) 0))) ≡ true)
    (after : (j : ℕ) → at ≤ j → j < high → is_lt (key_cmp (key_at all (get_or xs j 0)) (key_at all (get_or xs (high + left) 0))) ≡ false) where
  abbrev In : ℕ → ℕ → Type 0
  In r s = is_gt (key_cmp (key_at all (get_or xs r 0)) (key_at all (get_or xs s 0))) ≡ false

  stood_past : (k : ℕ) → at + (left + 1) ≤ k → ((k < high + (left + 1)) ⊎ (high + (left + 1) ≤ k)) → (r : ℕ) × Stood at high (left + 1) k r × (get_or ys k 0 ≡ get_or xs r 0)
  stood_past k past (inl lt) =
      (k - (left + 1), moved past lt (omega arith), ap (λ (n : ℕ). get_or ys n 0) (omega arith) ∙ x.second (k - (at + (left + 1))) (omega arith) ∙ ap (λ (n : ℕ). get_or xs n 0) (omega arith))
  stood_past k past (inr le) = (k, back le refl, x.back k le)

  stood_from : (k : ℕ) → at ≤ k → ((k < at + (left + 1)) ⊎ (at + (left + 1) ≤ k)) → (r : ℕ) × Stood at high (left + 1) k r × (get_or ys k 0 ≡ get_or xs r 0)
  stood_from k past (inl lt) = (high + (k - at), last past lt (omega arith), ap (λ (n : ℕ). get_or ys n 0) (omega arith) ∙ x.first (k - at) (omega arith))
  stood_from k past (inr le) = stood_past k le (split k (high + (left + 1)))

  stood_by : (k : ℕ) → ((k < at) ⊎ (at ≤ k)) → (r : ℕ) × Stood at high (left + 1) k r × (get_or ys k 0 ≡ get_or xs r 0)
  stood_by k (inl lt) = (k, prefix lt refl, x.prefix k lt)
  stood_by k (inr le) = stood_from k le (split k (at + (left + 1)))

  rise : (i k r s : ℕ) → i ≤ k → k < length xs → (i < at → at ≤ k → at + left ≤ k) → Stood at high (left + 1) i r → Stood at high (left + 1) k s → In r s
  rise i k r s up lt but (prefix a is) (prefix b is') = parted r s (omega arith) (omega arith) (λ p q. absurd (omega arith))
  rise i k r s up lt but (prefix a is) (last b c is') =
      let here : s ≡ high + left = let past = but a b in omega arith in
      subst (λ (n : ℕ). In r n) (sym here) (not_gt (key_cmp (key_at all (get_or xs r 0)) (key_at all (get_or xs (high + left) 0))) (before r (omega arith)))
  rise i k r s up lt but (prefix a is) (moved b c is') = parted r s (omega arith) (omega arith) (λ p q. absurd (omega arith))
  rise i k r s up lt but (prefix a is) (back b is') = parted r s (omega arith) (omega arith) (λ p q. omega arith)
  rise i k r s up lt but (last a b is) (prefix c is') = absurd (omega arith)
  rise i k r s up lt but (last a b is) (last c d is') = parted r s (omega arith) (omega arith) (λ p q. absurd (omega arith))
  rise i k r s up lt but (last a b is) (moved c d is') =
      upto key_total (key_at all (get_or xs r 0)) (key_at all (get_or xs (high + left) 0)) (key_at all (get_or xs s 0))
      (parted r (high + left) (omega arith) (omega arith) (λ p q. absurd (omega arith)))
      (sym (lt_is_gt (key_at all (get_or xs s 0)) (key_at all (get_or xs (high + left) 0))) ∙ after s (omega arith) (omega arith))
  rise i k r s up lt but (last a b is) (back c is') = parted r s (omega arith) (omega arith) (λ p q. absurd (omega arith))
  rise i k r s up lt but (moved a b is) (prefix c is') = absurd (omega arith)
  rise i k r s up lt but (moved a b is) (last c d is') = absurd (omega arith)
  rise i k r s up lt but (moved a b is) (moved c d is') = parted r s (omega arith) (omega arith) (λ p q. absurd (omega arith))
  rise i k r s up lt but (moved a b is) (back c is') = parted r s (omega arith) (omega arith) (λ p q. omega arith)
  rise i k r s up lt but (back a is) (prefix c is') = absurd (omega arith)
  rise i k r s up lt but (back a is) (last c d is') = absurd (omega arith)
  rise i k r s up lt but (back a is) (moved c d is') = absurd (omega arith)
  rise i k r s up lt but (back a is) (back c is') = parted r s (omega arith) (omega arith) (λ p q. absurd (omega arith))

  pub sunk : IsParted at left ys all
  sunk i k up lt but =
      let a = stood_by i (split i at) in
      let b = stood_by k (split k at) in
      subst (λ (p : ℕ). is_gt (key_cmp (key_at all p) (key_at all (get_or ys k 0))) ≡ false) (sym a.2)
      (subst (λ (p : ℕ). is_gt (key_cmp (key_at all (get_or xs a.0 0)) (key_at all p)) ≡ false) (sym b.2) (rise i k a.0 b.0 up (omega (arith, x.count)) but a.1 b.1))

-- the same as the search answers it, by the places before `high` alone
module _ (all : List (List ℕ)) (xs ys : List ℕ) (at high left : ℕ) (some : 0 < left) (le : at ≤ high) (fits : high + left ≤ length xs) (within : IsWithin (length all) xs) where
  abbrev Last : ℕ
  Last = get_or xs (high + left - 1) 0

  place_is : Last ≡ get_or xs (high + (left - 1)) 0
  place_is = ap (λ (n : ℕ). get_or xs n 0) (omega arith)

  at_last : (b : Bool) (j : ℕ) → j < high → is_lt (key_cmp (key_at all (get_or (take high xs) j 0)) (get_or all Last [], Last)) ≡ b → is_lt (key_cmp (key_at all (get_or xs j 0)) (key_at all (get_or xs (high + (left - 1)) 0))) ≡ b
  at_last b j lt h =
      subst (λ (p : ℕ). is_lt (key_cmp (key_at all (get_or xs j 0)) (key_at all p)) ≡ b) place_is
      (subst (λ (c : List ℕ). is_lt (key_cmp (key_at all (get_or xs j 0)) (c, Last)) ≡ b) (get_or_default all Last [] nothing (within (high + left - 1) (omega arith)))
      (subst (λ (p : ℕ). is_lt (key_cmp (key_at all p) (get_or all Last [], Last)) ≡ b) (get_or-take high xs j 0 lt) h))

  pub sunk_last : IsParted high left xs all → Exchanged at high (high + left) xs ys
      → ((j : ℕ) → j < at → is_lt (key_cmp (key_at all (get_or (take high xs) j 0)) (get_or all Last [], Last)) ≡ true)
      → ((j : ℕ) → at ≤ j → j < length (take high xs) → is_lt (key_cmp (key_at all (get_or (take high xs) j 0)) (get_or all Last [], Last)) ≡ false) → IsParted at (left - 1) ys all
  sunk_last parted x before after =
      let one : left ≡ left - 1 + 1 = omega arith in
      let size : length (take high xs) ≡ high = length-take-le high xs (omega arith) in
      sunk all xs ys at high (left - 1) le (omega arith) (subst (λ (n : ℕ). IsParted high n xs all) one parted) (subst (λ (n : ℕ). Exchanged at high (high + n) xs ys) one x)
      (λ j lt. at_last true j (omega arith) (before j lt)) (λ j past lt. at_last false j lt (after j past (omega arith)))
