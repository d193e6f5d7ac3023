-- What is read is spelled so, and what is spelled so is read.
use Rattle.std.proofs.Common.{◌≡◌, ℕ, zero, suc, ◌+◌, ◌^◌, ◌<◌, ◌≤◌, Bool, true, false, cond, ltb, eqb, List, [], ◌∷◌, ◌++◌, length, get_or, take, drop, Result, Ok, Err, refl, sym, ap, subst, ◌∙◌, append_assoc, arith, inl, inr}
use Rattle.std.specs.Int.{Width, w16, w32, w64, byte_len, from_le_bytes, to_le_bytes}
use Rattle.std.specs.List.{flat_map, AllByRecursion}
use Rattle.std.proofs.lemmas.Bool.{cases_lt, ltb-false, le-ltb, lt-ltb, eqb-true, eqb-false, ne_eqb}
use Rattle.std.proofs.lemmas.List.{take_at, drop_at, take-append-drop, length-append, length-take, length-take-le, get_or-drop, get_or-take, get_or_past}
use Rattle.std.proofs.lemmas.Nat.{le_bytes_2, le_bytes_4, le_bytes_8, from_le_bytes-to_le_bytes_2, from_le_bytes-to_le_bytes_4, from_le_bytes-to_le_bytes_8}
use Rattle.ots_block.specs.declared.fault.BlockReason.TheVariants.{Truncated, NonMinimal, TooLarge}
use Rattle.ots_block.specs.Compact.{compact}
use Rattle.ots_block.specs.Transaction.{sized, counted, IsSized, AreCounted}
use Rattle.ots_block.specs.Reading.{Halt, Read, ◌>>=◌, run_at, in_range, wide_at, compact_at, sized_at, many_at, counted_at}

abbrev pub IsBytes : List ℕ → Type 0
IsBytes bytes = (i : ℕ) → get_or bytes i 0 < 256

pub IsBytes-drop : (n : ℕ) (bytes : List ℕ) → IsBytes bytes → IsBytes (drop n bytes)
IsBytes-drop n bytes h i = rw get_or-drop (h (n + i))

IsBytes-take : (n : ℕ) (bytes : List ℕ) → IsBytes bytes → IsBytes (take n bytes)
IsBytes-take n bytes h i =
    elim (cases_lt i n) [
      | inl lt ↦ rw (get_or-take n bytes i 0 lt) (h i)
      | inr le ↦ rw (get_or_past (take n bytes) i 0 (omega (arith, length-take n bytes))) (omega arith)
    ]

-- the value of a step that did not halt
pub bind_ok : {A B : Type 0} (r : Result A Halt) (f : A → Result B Halt) (y : B) → (r >>= f) ≡ Ok y → (x : A) × (r ≡ Ok x) × (f x ≡ Ok y)
bind_ok (Ok x) f y e = (x, refl, e)
bind_ok (Err h) f y e = absurd cc

-- a test that did not halt
pub guard_ok : {A : Type 0} (b : Bool) (h : Halt) (r : Result A Halt) (y : A) → cond b (Err h) r ≡ Ok y → (b ≡ false) × (r ≡ Ok y)
guard_ok true h r y e = absurd cc
guard_ok false h r y e = (refl, e)

abbrev done : {A : Type 0} → A → Result A Halt
done x = Ok x

pub ok_is : {A : Type 0} (x y : A) → done x ≡ done y → x ≡ y
ok_is x y e = cc

-- what was read off the prefix
pub record Takes (bytes text rest : List ℕ) : Type 0 where
  pub parts : bytes ≡ text ++ rest
  pub rest_fits : IsBytes rest

pub Takes-then : (a x b y c : List ℕ) → Takes a x b → Takes b y c → Takes a (x ++ y) c
Takes-then a x b y c p q = record { parts = p.parts ∙ ap (λ (t : List ℕ). x ++ t) q.parts ∙ sym (append_assoc x y c); rest_fits = q.rest_fits }

-- A field: its values, their spelling and its reading belong together.
pub record IsField {A : Type 0} (Is : A → Type 0) (text : A → List ℕ) (one : List ℕ → Read A) : Type 0 where
  pub takes : (bytes : List ℕ) (x : A) (rest : List ℕ) → IsBytes bytes → one bytes ≡ Ok (x, rest) → Takes bytes (text x) rest × Is x
  pub again : (x : A) (rest : List ℕ) → Is x → one (text x ++ rest) ≡ Ok (x, rest)

-- ---- runs

abbrev pub same_bytes : List ℕ → List ℕ
same_bytes bytes = bytes

pub run_takes : (n : ℕ) (bytes x rest : List ℕ) → IsBytes bytes → run_at n bytes ≡ Ok (x, rest) → Takes bytes x rest × (length x ≡ n)
unfolding run_at
run_takes n bytes x rest fits e =
    let g = guard_ok (ltb (length bytes) n) (record { left = length bytes; reason = Truncated }) (Ok (take n bytes, drop n bytes)) (x, rest) e in
    let long : n ≤ length bytes = ltb-false _ _ g.0 in
    let whole : Takes bytes (take n bytes) (drop n bytes) = record { parts = sym (take-append-drop n bytes); rest_fits = IsBytes-drop n bytes fits } in
    subst (λ (p : List ℕ × List ℕ). Takes bytes p.0 p.1 × (length p.0 ≡ n)) (ok_is (take n bytes, drop n bytes) (x, rest) g.1)
    (whole, length-take-le n bytes long)

pub run_again : (n : ℕ) (x rest : List ℕ) → length x ≡ n → run_at n (x ++ rest) ≡ Ok (x, rest)
unfolding run_at
run_again n x rest len =
    let long : ltb (length (x ++ rest)) n ≡ false = le-ltb _ _ (omega (arith, length-append x rest)) in
    rw (long, take_at x rest n len, drop_at x rest n len) refl

pub run_field : (n : ℕ) → IsField (λ x. length x ≡ n) same_bytes (run_at n)
run_field n = record { takes = run_takes n; again = run_again n }

-- ---- numbers

record IsWide (w : Width) (limit : ℕ) : Type 0 where
  len : (n : ℕ) → length (to_le_bytes w n) ≡ byte_len w
  back : (bytes : List ℕ) → length bytes ≡ byte_len w → IsBytes bytes → to_le_bytes w (from_le_bytes w bytes) ≡ bytes
  number : (n : ℕ) → n < limit → from_le_bytes w (to_le_bytes w n) ≡ n
  below : (bytes : List ℕ) → IsBytes bytes → from_le_bytes w bytes < limit

wide16 : IsWide w16 (2 ^ 16)
wide16 = record {
  len = λ n. refl;
  back = λ bytes len fits. le_bytes_2 bytes _ len fits refl;
  number = λ n lt. from_le_bytes-to_le_bytes_2 n lt;
  below = λ bytes fits. omega (arith, fits 0, fits 1);
}

wide32 : IsWide w32 (2 ^ 32)
wide32 = record {
  len = λ n. refl;
  back = λ bytes len fits. le_bytes_4 bytes _ len fits refl;
  number = λ n lt. from_le_bytes-to_le_bytes_4 n lt;
  below = λ bytes fits. omega (arith, fits 0, fits 1, fits 2, fits 3);
}

wide64 : IsWide w64 (2 ^ 64)
wide64 = record {
  len = λ n. refl;
  back = λ bytes len fits. le_bytes_8 bytes _ len fits refl;
  number = λ n lt. from_le_bytes-to_le_bytes_8 n lt;
  below = λ bytes fits. omega (arith, fits 0, fits 1, fits 2, fits 3, fits 4, fits 5, fits 6, fits 7);
}

-- a number after the first byte of its form
wide_takes : (w : Width) (limit least : ℕ) → IsWide w limit → (bytes following : List ℕ) (n : ℕ) (rest : List ℕ) → IsBytes following
    → wide_at w least bytes following ≡ Ok (n, rest) → Takes following (to_le_bytes w n) rest × (least ≤ n) × (n < limit) × (n ≤ 4194304)
wide_takes w limit least wide bytes following n rest fits e =
    let m : ℕ = from_le_bytes w (take (byte_len w) following) in
    let after : List ℕ = drop (byte_len w) following in
    let g = guard_ok (ltb (length following) (byte_len w)) (record { left = length bytes; reason = Truncated }) (in_range least bytes m after) (n, rest) e in
    let h = guard_ok (ltb m least) (record { left = length bytes; reason = NonMinimal }) _ (n, rest) g.1 in
    let k = guard_ok (ltb 4194304 m) (record { left = length bytes; reason = TooLarge }) (Ok (m, after)) (n, rest) h.1 in
    let long : byte_len w ≤ length following = ltb-false _ _ g.0 in
    let prefix : to_le_bytes w m ≡ take (byte_len w) following =
    wide.back (take (byte_len w) following) (length-take-le (byte_len w) following long) (IsBytes-take (byte_len w) following fits) in
    let whole : Takes following (to_le_bytes w m) after =
    record { parts = rw prefix (sym (take-append-drop (byte_len w) following)); rest_fits = IsBytes-drop (byte_len w) following fits } in
    subst (λ (p : ℕ × List ℕ). Takes following (to_le_bytes w p.0) p.1 × (least ≤ p.0) × (p.0 < limit) × (p.0 ≤ 4194304)) (ok_is (m, after) (n, rest) k.1)
    (whole, ltb-false _ _ h.0, wide.below (take (byte_len w) following) (IsBytes-take (byte_len w) following fits), ltb-false _ _ k.0)

wide_again : (w : Width) (limit least : ℕ) → IsWide w limit → (bytes : List ℕ) (n : ℕ) (rest : List ℕ) → least ≤ n → n < limit → n ≤ 4194304
    → wide_at w least bytes (to_le_bytes w n ++ rest) ≡ Ok (n, rest)
wide_again w limit least wide bytes n rest low high few =
    let len = wide.len n in
    let long : ltb (length (to_le_bytes w n ++ rest)) (byte_len w) ≡ false = le-ltb _ _ (omega (arith, length-append (to_le_bytes w n) rest)) in
    rw (long, take_at (to_le_bytes w n) rest (byte_len w) len, drop_at (to_le_bytes w n) rest (byte_len w) len, wide.number n high, le-ltb n least low, le-ltb 4194304 n few) refl

-- the four forms
pub compact_1 : (n : ℕ) → n < 0xfd → compact n ≡ n ∷ []
unfolding compact
compact_1 n few = rw (lt-ltb n 0xfd few) refl

pub compact_3 : (n : ℕ) → 0xfd ≤ n → n < 2 ^ 16 → compact n ≡ 0xfd ∷ to_le_bytes w16 n
unfolding compact
compact_3 n low high = rw (le-ltb n 0xfd low, lt-ltb n (2 ^ 16) high) refl

pub compact_5 : (n : ℕ) → 2 ^ 16 ≤ n → n < 2 ^ 32 → compact n ≡ 0xfe ∷ to_le_bytes w32 n
unfolding compact
compact_5 n low high = rw (le-ltb n 0xfd (omega arith), le-ltb n (2 ^ 16) low, lt-ltb n (2 ^ 32) high) refl

-- which form the first byte begins
compact_by : (first : ℕ) (bytes following : List ℕ) (n : ℕ) (rest : List ℕ) (a b c : Bool) → eqb first 0xfd ≡ a → eqb first 0xfe ≡ b → eqb first 0xff ≡ c
    → first < 256 → IsBytes following
    → cond a (wide_at w16 0xfd bytes following) (cond b (wide_at w32 (2 ^ 16) bytes following) (cond c (wide_at w64 (2 ^ 32) bytes following) (Ok (first, following)))) ≡ Ok (n, rest)
    → Takes (first ∷ following) (compact n) rest × (n ≤ 4194304)
compact_by first bytes following n rest true b c ea eb ec byte fits e =
    let t = wide_takes w16 (2 ^ 16) 0xfd wide16 bytes following n rest fits e in
    let is : first ≡ 0xfd = eqb-true first 0xfd ea in
    (record { parts = rw (compact_3 n t.1 t.2, is) (ap (λ (z : List ℕ). 0xfd ∷ z) t.0.parts); rest_fits = t.0.rest_fits }, t.3)
compact_by first bytes following n rest false true c ea eb ec byte fits e =
    let t = wide_takes w32 (2 ^ 32) (2 ^ 16) wide32 bytes following n rest fits e in
    let is : first ≡ 0xfe = eqb-true first 0xfe eb in
    (record { parts = rw (compact_5 n t.1 t.2, is) (ap (λ (z : List ℕ). 0xfe ∷ z) t.0.parts); rest_fits = t.0.rest_fits }, t.3)
compact_by first bytes following n rest false false true ea eb ec byte fits e =
    let t = wide_takes w64 (2 ^ 64) (2 ^ 32) wide64 bytes following n rest fits e in
    absurd (omega (arith, t.1, t.3))
compact_by first bytes following n rest false false false ea eb ec byte fits e =
    let few : first < 0xfd = omega (arith, eqb-false first 0xfd ea, eqb-false first 0xfe eb, eqb-false first 0xff ec) in
    subst (λ (p : ℕ × List ℕ). Takes (first ∷ following) (compact p.0) p.1 × (p.0 ≤ 4194304)) (ok_is (first, following) (n, rest) e)
    (record { parts = rw (compact_1 first few) refl; rest_fits = fits }, omega arith)

IsBytes-following : (first : ℕ) (bytes : List ℕ) → IsBytes (first ∷ bytes) → IsBytes bytes
IsBytes-following first bytes h i = h (suc i)

pub compact_takes : (bytes : List ℕ) (n : ℕ) (rest : List ℕ) → IsBytes bytes → compact_at bytes ≡ Ok (n, rest) → Takes bytes (compact n) rest × (n ≤ 4194304)
unfolding compact_at
compact_takes [] n rest fits e = absurd cc
compact_takes (first ∷ following) n rest fits e =
    compact_by first (first ∷ following) following n rest (eqb first 0xfd) (eqb first 0xfe) (eqb first 0xff) refl refl refl (fits 0) (IsBytes-following first following fits) e

one_again : (n : ℕ) (rest : List ℕ) → n < 0xfd → compact_at (n ∷ rest) ≡ Ok (n, rest)
unfolding compact_at
one_again n rest few =
    rw (ne_eqb n 0xfd (λ is. absurd (omega arith)), ne_eqb n 0xfe (λ is. absurd (omega arith)), ne_eqb n 0xff (λ is. absurd (omega arith))) refl

two_again : (n : ℕ) (rest : List ℕ) → 0xfd ≤ n → n < 2 ^ 16 → compact_at (0xfd ∷ to_le_bytes w16 n ++ rest) ≡ Ok (n, rest)
unfolding compact_at
two_again n rest low high = wide_again w16 (2 ^ 16) 0xfd wide16 (0xfd ∷ to_le_bytes w16 n ++ rest) n rest low high (omega arith)

four_again : (n : ℕ) (rest : List ℕ) → 2 ^ 16 ≤ n → n ≤ 4194304 → compact_at (0xfe ∷ to_le_bytes w32 n ++ rest) ≡ Ok (n, rest)
unfolding compact_at
four_again n rest low few = wide_again w32 (2 ^ 32) (2 ^ 16) wide32 (0xfe ∷ to_le_bytes w32 n ++ rest) n rest low (omega arith) few

pub compact_again : (n : ℕ) (rest : List ℕ) → n ≤ 4194304 → compact_at (compact n ++ rest) ≡ Ok (n, rest)
compact_again n rest few =
    elim (cases_lt n 0xfd) [
      | inl one ↦ ap (λ (z : List ℕ). compact_at (z ++ rest)) (compact_1 n one) ∙ one_again n rest one
      | inr more ↦
          elim (cases_lt n (2 ^ 16)) [
            | inl two ↦ ap (λ (z : List ℕ). compact_at (z ++ rest)) (compact_3 n more two) ∙ two_again n rest more two
            | inr four ↦ ap (λ (z : List ℕ). compact_at (z ++ rest)) (compact_5 n four (omega arith)) ∙ four_again n rest four few
          ]
    ]

-- ---- after a number

pub sized_field : IsField IsSized sized sized_at
unfolding sized_at
sized_field = record {
  takes = λ bytes x rest fits e.
      let n = bind_ok (compact_at bytes) (λ n. run_at n.0 n.1) (x, rest) e in
      let t = compact_takes bytes n.0.0 n.0.1 fits n.1 in
      let r = run_takes n.0.0 n.0.1 x rest t.0.rest_fits n.2 in
      let both = Takes-then bytes (compact n.0.0) n.0.1 x rest t.0 r.0 in
      (subst (λ (k : ℕ). Takes bytes (compact k ++ x) rest) (sym r.1) both, omega (arith, t.1, r.1));
  again = λ x rest few.
      ap sized_at (append_assoc (compact (length x)) x rest) ∙ rw (compact_again (length x) (x ++ rest) few) (run_again (length x) x rest refl);
}

-- ---- one thing after the other

pub many_takes : {A : Type 0} (Is : A → Type 0) (text : A → List ℕ) (one : List ℕ → Read A) → IsField Is text one
    → (n : ℕ) (bytes : List ℕ) (xs : List A) (rest : List ℕ) → IsBytes bytes → many_at one n bytes ≡ Ok (xs, rest)
    → Takes bytes (flat_map text xs) rest × AllByRecursion Is xs × (length xs ≡ n)
unfolding many_at
many_takes {A = A} Is text one field zero bytes xs rest fits e =
    subst (λ (p : List A × List ℕ). Takes bytes (flat_map text p.0) p.1 × AllByRecursion Is p.0 × (length p.0 ≡ 0)) (ok_is ([], bytes) (xs, rest) e)
    (record { parts = refl; rest_fits = fits }, tt, refl)
many_takes {A = A} Is text one field (suc n) bytes xs rest fits e =
    let a = bind_ok (one bytes) (λ x. many_at one n x.1 >>= λ o. Ok (x.0 ∷ o.0, o.1)) (xs, rest) e in
    let b = bind_ok (many_at one n a.0.1) (λ o. Ok (a.0.0 ∷ o.0, o.1)) (xs, rest) a.2 in
    let t = field.takes bytes a.0.0 a.0.1 fits a.1 in
    let u = many_takes Is text one field n a.0.1 b.0.0 b.0.1 t.0.rest_fits b.1 in
    subst (λ (p : List A × List ℕ). Takes bytes (flat_map text p.0) p.1 × AllByRecursion Is p.0 × (length p.0 ≡ suc n)) (ok_is (a.0.0 ∷ b.0.0, b.0.1) (xs, rest) b.2)
    (Takes-then bytes (text a.0.0) a.0.1 (flat_map text b.0.0) b.0.1 t.0 u.0, (t.1, u.1), ap suc u.2)

pub many_again : {A : Type 0} (Is : A → Type 0) (text : A → List ℕ) (one : List ℕ → Read A) → IsField Is text one
    → (xs : List A) (rest : List ℕ) → AllByRecursion Is xs → many_at one (length xs) (flat_map text xs ++ rest) ≡ Ok (xs, rest)
unfolding many_at
many_again {A = A} Is text one field [] rest all = refl
many_again {A = A} Is text one field (x ∷ xs) rest all =
    ap (many_at one (suc (length xs))) (append_assoc (text x) (flat_map text xs) rest)
    ∙ rw (field.again x (flat_map text xs ++ rest) all.0, many_again Is text one field xs rest all.1) refl

pub counted_field : {A : Type 0} (Is : A → Type 0) (text : A → List ℕ) (one : List ℕ → Read A) → IsField Is text one
    → IsField (AreCounted Is) (counted text) (counted_at one)
unfolding counted_at
counted_field Is text one field = record {
  takes = λ bytes xs rest fits e.
      let n = bind_ok (compact_at bytes) (λ n. many_at one n.0 n.1) (xs, rest) e in
      let t = compact_takes bytes n.0.0 n.0.1 fits n.1 in
      let r = many_takes Is text one field n.0.0 n.0.1 xs rest t.0.rest_fits n.2 in
      let both = Takes-then bytes (compact n.0.0) n.0.1 (flat_map text xs) rest t.0 r.0 in
      (subst (λ (k : ℕ). Takes bytes (compact k ++ flat_map text xs) rest) (sym r.2) both, record { most = omega (arith, t.1, r.2); each = r.1 });
  again = λ xs rest all.
      ap (counted_at one) (append_assoc (compact (length xs)) (flat_map text xs) rest)
      ∙ rw (compact_again (length xs) (flat_map text xs ++ rest) all.most) (many_again Is text one field xs rest all.each);
}
