-- Where the way of a ticket leads.
use Rattle.std.proofs.Common.{◌≡◌, ℕ, zero, suc, ◌+◌, ◌<◌, ◌≤◌, Bool, true, false, cond, List, [], ◌∷◌, ◌++◌, length, take, drop, map, get_or, Option, Some, None, refl, sym, ap, ◌∙◌, append_assoc, length-append, arith}
use Rattle.std.specs.Prelude.{option_and_then, slice_get}
use Rattle.std.specs.Int.{w32, to_be_bytes}
use Rattle.std.proofs.lemmas.Bool.{le-leb}
use Rattle.std.proofs.lemmas.List.{take_at, drop_at, length-map, get_or-map}
use Rattle.std.proofs.lemmas.Option.{get_or_from_slice_get, slice_get_within}
use Rattle.sha2.specs.Sha256.{sha256}
use Rattle.sha2.proofs.Facts256.{length-sha256}
use Rattle.ots_ops.specs.Apply.{apply}
use Rattle.ots_ops.specs.Value.{value}
use Rattle.ots_ops.specs.declared.op.Op.{Op}
use Rattle.ots_ops.specs.declared.op.Op.TheVariants.{Sha256, Append, Prepend}
use Rattle.ots_merkle.specs.Hashes.{AreHashes}
use Rattle.ots_merkle.specs.CalendarTree.{root_within, root, path}
use Rattle.ots_round.specs.Hmac.{hmac_sha256}
use Rattle.ots_round.specs.Round.{leaf, leaves, mac, signed, commitment, round_commitment, way, round_way}
use Rattle.ots_round.specs.declared.ticket.Ticket.{Ticket}

-- ---- the parts of a commitment

pub root_part : (key : List ℕ) (second : ℕ) (root : List ℕ) → length root ≡ 32 → take 32 (drop 4 (commitment key second root)) ≡ root
root_part key second root long = take_at root (mac key (signed second root)) 32 long

pub mac_part : (key : List ℕ) (second : ℕ) (root : List ℕ) → length root ≡ 32 → drop 36 (commitment key second root) ≡ mac key (signed second root)
mac_part key second root long = drop_at root (mac key (signed second root)) 32 long

-- ---- a root has 32 bytes

length_chosen : (which : Bool) (x y : List ℕ) → length x ≡ 32 → length y ≡ 32 → length (cond which x y) ≡ 32
length_chosen true x y lx ly = lx
length_chosen false x y lx ly = ly

first_hash : (hashes : List (List ℕ)) → AreHashes hashes → 0 < length hashes → length (get_or hashes 0 []) ≡ 32
first_hash [] are some = absurd (omega arith)
first_hash (hash ∷ hashes) are some = are.0

length_within : (h : ℕ) (hashes : List (List ℕ)) → AreHashes hashes → 0 < length hashes → length (root_within h hashes) ≡ 32
unfolding root_within
length_within zero hashes are some = first_hash hashes are some
length_within (suc h) hashes are some = length_chosen _ _ _ (length_within h hashes are some) (length-sha256 _)

pub length_root : (hashes : List (List ℕ)) → AreHashes hashes → 0 < length hashes → length (root hashes) ≡ 32
unfolding root
length_root hashes are some = length_within (length hashes) hashes are some

pub are_leaves : (tickets : List Ticket) → AreHashes (leaves tickets)
are_leaves [] = tt
are_leaves (t ∷ tickets) = (length-sha256 (t.leaf ++ t.nonce), are_leaves tickets)

-- ---- each operation

pub hash_of : (m : List ℕ) → length m ≤ 4096 → apply Sha256 m ≡ Some (sha256 m)
hash_of m short = rw (le-leb 0 (length m) (omega arith), le-leb (length m) 4096 short) refl

pub appended : (a m : List ℕ) → length m + length a ≤ 4096 → apply (Append a) m ≡ Some (m ++ a)
appended a m short = rw (le-leb 0 (length m) (omega arith), le-leb (length m) 4096 (omega arith), le-leb (length m + length a) 4096 short) refl

prepended : (a m : List ℕ) → length a + length m ≤ 4096 → apply (Prepend a) m ≡ Some (a ++ m)
prepended a m short = rw (le-leb 0 (length m) (omega arith), le-leb (length m) 4096 (omega arith), le-leb (length a + length m) 4096 short) refl

pub value_then : (a b : List Op) (m : Option (List ℕ)) → option_and_then (value (a ++ b)) m ≡ option_and_then (value b) (option_and_then (value a) m)
value_then a b None = refl
value_then [] b (Some m) = refl
value_then (o ∷ a) b (Some m) = value_then a b (apply o m)

pub one_more : (o : Op) (ops : List Op) (m n : List ℕ) → apply o m ≡ Some n → value (o ∷ ops) m ≡ value ops n
one_more o ops m n e = ap (option_and_then (value ops)) e

taken_few : (n : ℕ) (l : List ℕ) → length (take n l) ≤ n
taken_few zero l = omega arith
taken_few (suc n) [] = omega arith
taken_few (suc n) (x ∷ l) = omega (arith, taken_few n l)

-- ---- the whole

-- a way whose path leads from the leaf to a root
pub way_leads : (digest nonce : List ℕ) (path : List Op) (key : List ℕ) (second : ℕ) (r : List ℕ)
    → length digest ≤ 64 → length nonce ≡ 16 → length r ≡ 32 → value path (sha256 (digest ++ nonce)) ≡ Some r
    → value (way nonce path (commitment key second r)) digest ≡ Some (commitment key second r)
way_leads digest nonce path key second r few sixteen long leads =
    let c : List ℕ = commitment key second r in
    let tail : List Op = Prepend (to_be_bytes w32 second) ∷ Append (drop 36 c) ∷ [] in
    let m : List ℕ = mac key (signed second r) in
    let eight : length m ≤ 8 = taken_few 8 (hmac_sha256 key (signed second r)) in
    one_more (Append nonce) (Sha256 ∷ (path ++ tail)) digest (digest ++ nonce) (appended nonce digest (omega arith))
    ∙ one_more Sha256 (path ++ tail) (digest ++ nonce) (sha256 (digest ++ nonce)) (hash_of (digest ++ nonce) (omega (arith, length-append digest nonce)))
    ∙ value_then path tail (Some (sha256 (digest ++ nonce)))
    ∙ ap (option_and_then (value tail)) leads
    ∙ one_more (Prepend (to_be_bytes w32 second)) (Append (drop 36 c) ∷ []) r (signed second r) (prepended (to_be_bytes w32 second) r (omega arith))
    ∙ ap (λ (a : List ℕ). value (Append a ∷ []) (signed second r)) (mac_part key second r long)
    ∙ one_more (Append m) [] (signed second r) c (appended m (signed second r) (omega arith))

pub leads_in_round : (key : List ℕ) (second : ℕ) (tickets : List Ticket) (i : ℕ) (ticket : Ticket)
    → ((hashes : List (List ℕ)) (j : ℕ) → AreHashes hashes → j < length hashes → value (path hashes j) (get_or hashes j []) ≡ Some (root hashes))
    → length ticket.leaf ≤ 64 → length ticket.nonce ≡ 16 → slice_get tickets i ≡ Some ticket
    → value (round_way key second tickets i ticket) ticket.leaf ≡ Some (round_commitment key second tickets)
leads_in_round key second tickets i ticket up few sixteen is =
    let less : i < length tickets = slice_get_within tickets i ticket is in
    let here : get_or (leaves tickets) i [] ≡ leaf ticket = get_or-map leaf tickets i ticket [] less ∙ ap leaf (get_or_from_slice_get tickets i ticket ticket is) in
    let inside : i < length (leaves tickets) = omega (arith, length-map tickets leaf) in
    way_leads ticket.leaf ticket.nonce (path (leaves tickets) i) key second (root (leaves tickets)) few sixteen (length_root (leaves tickets) (are_leaves tickets) (omega arith))
    (ap (value (path (leaves tickets) i)) (sym here) ∙ up (leaves tickets) i (are_leaves tickets) inside)

-- ---- leaves, one after another

one : (i : ℕ) → i + 1 ≡ suc i
one i = omega arith

taken : {A B : Type 0} (f : A → B) (xs : List A) (i : ℕ) (x : A) → i < length xs → x ≡ get_or xs i x
    → take (suc i) (map f xs) ≡ take i (map f xs) ++ f x ∷ []
taken f [] i x less is = absurd (omega arith)
taken f (y ∷ xs) zero x less is = ap (λ z. f z ∷ []) (sym is)
taken f (y ∷ xs) (suc i) x less is = ap (λ rest. f y ∷ rest) (taken f xs i x (omega arith) is)

pub up_to : {A B : Type 0} (f : A → B) (xs : List A) (i : ℕ) (x : A) → i < length xs → x ≡ get_or xs i x
    → take (i + 1) (map f xs) ≡ take i (map f xs) ++ f x ∷ []
up_to f xs i x less is = rw (one i) (taken f xs i x less is)

-- ---- the operations, one after another

pub way_made : (nonce c a1 a2 a3 : List ℕ) (path o0 o1 o2 o3 o4 o5 : List Op) → o0 ≡ [] → a1 ≡ nonce → o1 ≡ o0 ++ Append a1 ∷ [] → o2 ≡ o1 ++ Sha256 ∷ [] → o3 ≡ o2 ++ path
    → a2 ≡ take 4 c → o4 ≡ o3 ++ Prepend a2 ∷ [] → a3 ≡ drop 36 c → o5 ≡ o4 ++ Append a3 ∷ [] → o5 ≡ way nonce path c
way_made nonce c a1 a2 a3 path o0 o1 o2 o3 o4 o5 e0 f1 e1 e2 e3 f2 e4 f3 e5 =
    let a : o1 ≡ Append nonce ∷ [] = e1 ∙ (λ i. e0 i ++ Append (f1 i) ∷ []) in
    let b : o3 ≡ Append nonce ∷ Sha256 ∷ path = e3 ∙ ap (λ (l : List Op). l ++ path) (e2 ∙ ap (λ (l : List Op). l ++ Sha256 ∷ []) a) in
    let d : o4 ≡ Append nonce ∷ Sha256 ∷ (path ++ Prepend (take 4 c) ∷ []) = e4 ∙ (λ i. b i ++ Prepend (f2 i) ∷ []) in
    e5 ∙ (λ i. d i ++ Append (f3 i) ∷ [])
    ∙ ap (λ (l : List Op). Append nonce ∷ Sha256 ∷ l) (append_assoc path (Prepend (take 4 c) ∷ []) (Append (drop 36 c) ∷ []))
