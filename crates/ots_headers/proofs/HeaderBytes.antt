-- The bytes of a header and the header at the start of bytes, each from the other.
use Rattle.std.proofs.Common.{◌≡◌, ℕ, zero, suc, ◌+◌, ◌^◌, ◌<◌, ◌≤◌, List, [], ◌∷◌, ◌++◌, length, get_or, take, drop, refl, sym, ap, ◌∙◌, arith, lit<, append_assoc, append-nil, length-append, length-drop, length-take-le, take-add, drop-drop, take_all, take_at, drop_at}
use Rattle.std.proofs.lemmas.Nat.{le_bytes_4, from_le_bytes-to_le_bytes_4}
use Rattle.std.specs.Int.{w32, to_le_bytes, from_le_bytes}
use Rattle.ots_headers.specs.declared.header.Header.{Header}
use Rattle.ots_headers.specs.Header.{serialized, IsHeader, number_at, hash_at, header_in}

-- the elements of a prefix of bytes
prefix_below : (n : ℕ) (l : List ℕ) → ((i : ℕ) → get_or l i 0 < 256) → (i : ℕ) → get_or (take n l) i 0 < 256
prefix_below zero l below i = lit< tt
prefix_below (suc n) [] below i = lit< tt
prefix_below (suc n) (x ∷ xs) below zero = below 0
prefix_below (suc n) (x ∷ xs) below (suc i) = prefix_below n xs (λ j. below (suc j)) i

-- the elements after a prefix of bytes
pub rest_below : (n : ℕ) (l : List ℕ) → ((i : ℕ) → get_or l i 0 < 256) → (i : ℕ) → get_or (drop n l) i 0 < 256
rest_below zero l below i = below i
rest_below (suc n) [] below i = lit< tt
rest_below (suc n) (x ∷ xs) below i = rest_below n xs (λ j. below (suc j)) i

field_below : (place : ℕ) (b : List ℕ) → ((i : ℕ) → get_or b i 0 < 256) → (i : ℕ) → get_or (take 4 (drop place b)) i 0 < 256
field_below place b below = prefix_below 4 (drop place b) (rest_below place b below)

number_back : (place : ℕ) (b : List ℕ) → place + 4 ≤ length b → ((i : ℕ) → get_or b i 0 < 256)
    → to_le_bytes w32 (number_at place b) ≡ take 4 (drop place b)
number_back place b fits below =
    le_bytes_4 (take 4 (drop place b)) (number_at place b) (length-take-le 4 (drop place b) (omega (arith, length-drop place b)))
    (field_below place b below) refl

number_below : (place : ℕ) (b : List ℕ) → ((i : ℕ) → get_or b i 0 < 256) → number_at place b < 2 ^ 32
number_below place b below =
    let h0 = field_below place b below 0 in
    let h1 = field_below place b below 1 in
    let h2 = field_below place b below 2 in
    let h3 = field_below place b below 3 in
    omega arith

next : (place n m : ℕ) (b : List ℕ) → take n (drop place b) ++ take m (drop (place + n) b) ≡ take (n + m) (drop place b)
next place n m b = rw (take-add n m (drop place b), drop-drop n place b) refl

fields : (b : List ℕ)
    → take 4 (drop 0 b) ++ take 32 (drop 4 b) ++ take 32 (drop 36 b) ++ take 4 (drop 68 b) ++ take 4 (drop 72 b) ++ take 4 (drop 76 b) ≡ take 80 b
fields b = rw (next 0 4 32 b, next 0 36 32 b, next 0 68 4 b, next 0 72 4 b, next 0 76 4 b) refl

serialized_of : (h : Header) (b : List ℕ) → to_le_bytes w32 h.version ≡ take 4 (drop 0 b) → h.previous ≡ hash_at 4 b → h.root ≡ hash_at 36 b
    → to_le_bytes w32 h.time ≡ take 4 (drop 68 b) → to_le_bytes w32 h.bits ≡ take 4 (drop 72 b) → to_le_bytes w32 h.nonce ≡ take 4 (drop 76 b)
    → serialized h ≡ take 80 b
serialized_of h b version previous root time bits nonce =
    (λ i. version i ++ previous i ++ root i ++ time i ++ bits i ++ nonce i) ∙ fields b

-- the bytes of the header at the start are the prefix
pub serialized_in : (b : List ℕ) → 80 ≤ length b → ((i : ℕ) → get_or b i 0 < 256) → serialized (header_in b) ≡ take 80 b
unfolding header_in
serialized_in b fits below =
    serialized_of (header_in b) b (number_back 0 b (omega arith) below) refl refl
    (number_back 68 b (omega arith) below) (number_back 72 b (omega arith) below) (number_back 76 b (omega arith) below)

pub is_header_in : (b : List ℕ) → 80 ≤ length b → ((i : ℕ) → get_or b i 0 < 256) → IsHeader (header_in b)
unfolding header_in
is_header_in b fits below = record {
  version = number_below 0 b below;
  previous = length-take-le 32 (drop 4 b) (omega (arith, length-drop 4 b));
  root = length-take-le 32 (drop 36 b) (omega (arith, length-drop 36 b));
  time = number_below 68 b below;
  bits = number_below 72 b below;
  nonce = number_below 76 b below;
}

pub length_serialized : (h : Header) → IsHeader h → length (serialized h) ≡ 80
length_serialized h ok = simp length-append (omega (arith, ok.previous, ok.root))

-- what stands after two hashes
after_hashes : (p r y : List ℕ) (n : ℕ) → length p ≡ 32 → length r ≡ 32 → drop (32 + (32 + n)) (p ++ (r ++ y)) ≡ drop n y
after_hashes p r y n lp lr =
    sym (drop-drop (32 + n) 32 (p ++ (r ++ y))) ∙ ap (drop (32 + n)) (drop_at p (r ++ y) 32 lp)
    ∙ sym (drop-drop n 32 (r ++ y)) ∙ ap (drop n) (drop_at r y 32 lr)

laid : (h : Header) (rest : List ℕ) → serialized h ++ rest
    ≡ to_le_bytes w32 h.version ++ (h.previous ++ (h.root ++ (to_le_bytes w32 h.time ++ (to_le_bytes w32 h.bits ++ (to_le_bytes w32 h.nonce ++ rest)))))
laid h rest = simp append_assoc

-- bytes that begin with those of a header have that header at their start
pub header_in_serialized : (h : Header) (rest : List ℕ) → IsHeader h → header_in (serialized h ++ rest) ≡ h
unfolding header_in
header_in_serialized h rest ok =
    let y : List ℕ = to_le_bytes w32 h.time ++ (to_le_bytes w32 h.bits ++ (to_le_bytes w32 h.nonce ++ rest)) in
    let past : (n : ℕ) → drop (32 + (32 + n)) (h.previous ++ (h.root ++ y)) ≡ drop n y =
    λ n. after_hashes h.previous h.root y n ok.previous ok.root in
    let version : number_at 0 (serialized h ++ rest) ≡ h.version = from_le_bytes-to_le_bytes_4 h.version ok.version in
    let previous : hash_at 4 (serialized h ++ rest) ≡ h.previous = ap (hash_at 4) (laid h rest) ∙ take_at h.previous (h.root ++ y) 32 ok.previous in
    let root : hash_at 36 (serialized h ++ rest) ≡ h.root =
    ap (hash_at 36) (laid h rest) ∙ ap (take 32) (drop_at h.previous (h.root ++ y) 32 ok.previous) ∙ take_at h.root y 32 ok.root in
    let time : number_at 68 (serialized h ++ rest) ≡ h.time =
    ap (number_at 68) (laid h rest) ∙ ap (λ l. from_le_bytes w32 (take 4 l)) (past 0) ∙ from_le_bytes-to_le_bytes_4 h.time ok.time in
    let bits : number_at 72 (serialized h ++ rest) ≡ h.bits =
    ap (number_at 72) (laid h rest) ∙ ap (λ l. from_le_bytes w32 (take 4 l)) (past 4) ∙ from_le_bytes-to_le_bytes_4 h.bits ok.bits in
    let nonce : number_at 76 (serialized h ++ rest) ≡ h.nonce =
    ap (number_at 76) (laid h rest) ∙ ap (λ l. from_le_bytes w32 (take 4 l)) (past 8) ∙ from_le_bytes-to_le_bytes_4 h.nonce ok.nonce in
    λ i. record { version = version i; previous = previous i; root = root i; time = time i; bits = bits i; nonce = nonce i }

pub after_serialized : (h : Header) (rest : List ℕ) → IsHeader h → drop 80 (serialized h ++ rest) ≡ rest
after_serialized h rest ok = drop_at (serialized h) rest 80 (length_serialized h ok)

-- the header at the start is that of the prefix alone
pub header_in_prefix : (b : List ℕ) → 80 ≤ length b → ((i : ℕ) → get_or b i 0 < 256) → header_in (take 80 b) ≡ header_in b
header_in_prefix b fits below =
    ap header_in (sym (serialized_in b fits below) ∙ sym (append-nil (serialized (header_in b))))
    ∙ header_in_serialized (header_in b) [] (is_header_in b fits below)

put_next : (k n : ℕ) (f b b′ : List ℕ) → length f ≡ n → take (k + length f) b′ ≡ take k b ++ f → take (k + n) b′ ≡ take k b ++ f
put_next k n f b b′ l e = ap (λ m. take (k + m) b′) (sym l) ∙ e

-- fields that are put one after another are the bytes
pub put_all : (f1 f2 f3 f4 f5 f6 b1 b2 b3 b4 b5 b6 : List ℕ)
    → length f1 ≡ 4 → length f2 ≡ 32 → length f3 ≡ 32 → length f4 ≡ 4 → length f5 ≡ 4 → length f6 ≡ 4 → length b6 ≡ 80
    → take (0 + length f1) b1 ≡ f1
    → take (4 + length f2) b2 ≡ take 4 b1 ++ f2
    → take (36 + length f3) b3 ≡ take 36 b2 ++ f3
    → take (68 + length f4) b4 ≡ take 68 b3 ++ f4
    → take (72 + length f5) b5 ≡ take 72 b4 ++ f5
    → take (76 + length f6) b6 ≡ take 76 b5 ++ f6
    → b6 ≡ f1 ++ f2 ++ f3 ++ f4 ++ f5 ++ f6
put_all f1 f2 f3 f4 f5 f6 b1 b2 b3 b4 b5 b6 l1 l2 l3 l4 l5 l6 whole e1 e2 e3 e4 e5 e6 =
    let p1 : take 4 b1 ≡ f1 = put_next 0 4 f1 [] b1 l1 e1 in
    let p2 : take 36 b2 ≡ f1 ++ f2 = put_next 4 32 f2 b1 b2 l2 e2 ∙ ap (λ l. l ++ f2) p1 in
    let p3 : take 68 b3 ≡ f1 ++ f2 ++ f3 = put_next 36 32 f3 b2 b3 l3 e3 ∙ ap (λ l. l ++ f3) p2 in
    let p4 : take 72 b4 ≡ f1 ++ f2 ++ f3 ++ f4 = put_next 68 4 f4 b3 b4 l4 e4 ∙ ap (λ l. l ++ f4) p3 in
    let p5 : take 76 b5 ≡ f1 ++ f2 ++ f3 ++ f4 ++ f5 = put_next 72 4 f5 b4 b5 l5 e5 ∙ ap (λ l. l ++ f5) p4 in
    sym (take_all 80 b6 (omega arith)) ∙ put_next 76 4 f6 b5 b6 l6 e6 ∙ ap (λ l. l ++ f6) p5

pub header_again : (h : Header) → IsHeader h → header_in (serialized h) ≡ h
header_again h ok = ap header_in (sym (append-nil (serialized h))) ∙ header_in_serialized h [] ok

-- headers with the same bytes are the same
pub same_header : (h k : Header) (x y : List ℕ) → x ≡ serialized h → header_in x ≡ h → y ≡ serialized k → header_in y ≡ k
    → serialized h ≡ serialized k → h ≡ k
same_header h k x y ex hx ey hy e = sym hx ∙ ap header_in (ex ∙ e ∙ sym ey) ∙ hy
