-- A block's branch is short, and has hashes in it.
use Rattle.std.proofs.Common.{◌≡◌, ℕ, zero, suc, ◌+◌, ◌-◌, ◌/◌, ◌%◌, ◌^◌, ◌<◌, ◌≤◌, List, [], ◌∷◌, length, get_or, map, nat_lt, nat_eq, Bool, true, false, cond, refl, arith}
use Rattle.std.proofs.lemmas.Bool.{ltb-true}
use Rattle.std.proofs.Math.Nat.{pow-suc}
use Rattle.std.specs.List.{AllByRecursion}
use Rattle.sha2.proofs.Facts256.{length-sha256}
use Rattle.ots_merkle.specs.Hashes.{AreHashes}
use Rattle.ots_merkle.specs.declared.branch.Side.{Side}
use Rattle.ots_merkle.specs.declared.branch.Side.TheVariants.{Left, Right}
use Rattle.ots_merkle.specs.BlockTree.{paired, neighbour, branch_within, block_branch}
use Rattle.ots_merkle.proofs.Blocks.{length_paired}
use Rattle.ots_block.specs.Transaction.{Transaction, txid}
use Rattle.ots_block.specs.Block.{Contents, txids}
use Rattle.ots_store.specs.Records.{HasHash}

shorter : (b : Bool) (h : ℕ) (step : Side × List ℕ) (rest : List (Side × List ℕ)) → (b ≡ true → length rest + 1 ≤ h) → length (cond b (step ∷ rest) []) ≤ h
shorter true h step rest up = omega (arith, up refl)
shorter false h step rest up = omega arith

pub branch_short : (n h : ℕ) (hashes : List (List ℕ)) (i : ℕ) → length hashes ≤ 2 ^ h → length (branch_within n hashes i) ≤ h
unfolding branch_within
branch_short zero h hashes i few = omega arith
branch_short (suc n) zero hashes i few =
    shorter (nat_lt 1 (length hashes)) 0 (neighbour hashes i) (branch_within n (paired hashes) (i / 2)) (λ is. absurd (let more = ltb-true 1 (length hashes) is in omega arith))
branch_short (suc n) (suc h) hashes i few =
    let half = length_paired hashes in
    let fits : length (paired hashes) ≤ 2 ^ h = omega (arith, half.1, few, pow-suc 2 h) in
    let up = branch_short n h (paired hashes) (i / 2) fits in
    shorter (nat_lt 1 (length hashes)) (suc h) (neighbour hashes i) (branch_within n (paired hashes) (i / 2)) (λ is. omega arith)

-- ---- hashes

are_paired : (hashes : List (List ℕ)) → AreHashes (paired hashes)
are_paired [] = tt
are_paired (last ∷ []) = (length-sha256 _, tt)
are_paired (left ∷ right ∷ hashes) = (length-sha256 _, are_paired hashes)

hash_or : (hashes : List (List ℕ)) (i : ℕ) (d : List ℕ) → AreHashes hashes → length d ≡ 32 → length (get_or hashes i d) ≡ 32
hash_or [] i d are long = long
hash_or (x ∷ hashes) zero d are long = are.0
hash_or (x ∷ hashes) (suc i) d are long = hash_or hashes i d are.1 long

hash_at : (hashes : List (List ℕ)) (i : ℕ) → AreHashes hashes → i < length hashes → length (get_or hashes i []) ≡ 32
hash_at [] i are less = absurd (omega arith)
hash_at (x ∷ hashes) zero are less = are.0
hash_at (x ∷ hashes) (suc i) are less = hash_at hashes i are.1 (omega arith)

neighbour_hash : (b : Bool) (hashes : List (List ℕ)) (i : ℕ) → AreHashes hashes → i < length hashes → HasHash (cond b (Right, get_or hashes (i + 1) (get_or hashes i [])) (Left, get_or hashes (i - 1) []))
neighbour_hash true hashes i are less = hash_or hashes (i + 1) (get_or hashes i []) are (hash_at hashes i are less)
neighbour_hash false hashes i are less = hash_at hashes (i - 1) are (omega arith)

all_or : (b : Bool) (step : Side × List ℕ) (rest : List (Side × List ℕ)) → HasHash step → AllByRecursion HasHash rest → AllByRecursion HasHash (cond b (step ∷ rest) [])
all_or true step rest one all = (one, all)
all_or false step rest one all = tt

branch_within_hashes : (n : ℕ) (hashes : List (List ℕ)) (i : ℕ) → AreHashes hashes → i < length hashes → AllByRecursion HasHash (branch_within n hashes i)
unfolding branch_within
branch_within_hashes zero hashes i are less = tt
branch_within_hashes (suc n) hashes i are less =
    let half = length_paired hashes in
    all_or (nat_lt 1 (length hashes)) (neighbour hashes i) (branch_within n (paired hashes) (i / 2)) (neighbour_hash (nat_eq (i % 2) 0) hashes i are less)
    (branch_within_hashes n (paired hashes) (i / 2) (are_paired hashes) (omega (arith, half.0)))

pub branch_is_short : (hashes : List (List ℕ)) (i : ℕ) → length hashes ≤ 2 ^ 32 → length (block_branch hashes i) ≤ 32
unfolding block_branch
branch_is_short hashes i few = branch_short (length hashes) 32 hashes i few

pub branch_hashes : (hashes : List (List ℕ)) (i : ℕ) → AreHashes hashes → i < length hashes → AllByRecursion HasHash (block_branch hashes i)
unfolding block_branch
branch_hashes hashes i are less = branch_within_hashes (length hashes) hashes i are less

are_ids : (transactions : List Transaction) → AreHashes (map txid transactions)
are_ids [] = tt
are_ids (t ∷ transactions) = (length-sha256 _, are_ids transactions)

pub ids_hashes : (block : Contents) → AreHashes (txids block)
ids_hashes block = are_ids block.transactions
