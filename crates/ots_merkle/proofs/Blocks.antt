-- Laws of a block's tree.
use Rattle.std.proofs.Common.{◌≡◌, ℕ, zero, suc, ◌+◌, ◌-◌, ◌*◌, ◌/◌, ◌%◌, ◌<◌, ◌≤◌, List, [], ◌∷◌, ◌++◌, length, get_or, nat_lt, nat_eq, Bool, true, false, refl, sym, ap, ◌∙◌, arith, append_assoc}
use Rattle.std.proofs.lemmas.Bool.{lt-ltb, le-ltb, ltb-true, ltb-false, eqb-false}
use Rattle.ots_merkle.specs.Hashes.{block_node}
use Rattle.ots_merkle.specs.declared.branch.Side.{Side}
use Rattle.ots_merkle.specs.declared.branch.Side.TheVariants.{Left, Right}
use Rattle.ots_merkle.specs.BlockTree.{paired, block_root_within, block_root, neighbour, branch_within, block_branch, above, climbed}

-- how many hashes the level above has
pub length_paired : (hashes : List (List ℕ)) → (length hashes ≤ 2 * length (paired hashes)) × (2 * length (paired hashes) ≤ length hashes + 1)
length_paired [] = (omega arith, omega arith)
length_paired (last ∷ []) = (omega arith, omega arith)
length_paired (left ∷ right ∷ hashes) =
    let rest = length_paired hashes in (omega (arith, rest.0), omega (arith, rest.1))

root_up : (n : ℕ) (hashes : List (List ℕ)) → 1 < length hashes → block_root_within (suc n) hashes ≡ block_root_within n (paired hashes)
unfolding block_root_within
root_up n hashes more = rw (lt-ltb 1 (length hashes) more) refl

root_here : (n : ℕ) (hashes : List (List ℕ)) → length hashes ≤ 1 → block_root_within n hashes ≡ get_or hashes 0 []
unfolding block_root_within
root_here zero hashes few = refl
root_here (suc n) hashes few = rw (le-ltb 1 (length hashes) few) refl

branch_up : (n : ℕ) (hashes : List (List ℕ)) (i : ℕ) → 1 < length hashes
    → branch_within (suc n) hashes i ≡ neighbour hashes i ∷ branch_within n (paired hashes) (i / 2)
unfolding branch_within
branch_up n hashes i more = rw (lt-ltb 1 (length hashes) more) refl

branch_here : (n : ℕ) (hashes : List (List ℕ)) (i : ℕ) → length hashes ≤ 1 → branch_within n hashes i ≡ []
unfolding branch_within
branch_here zero hashes i few = refl
branch_here (suc n) hashes i few = rw (le-ltb 1 (length hashes) few) refl

-- any number of levels will do that is not less than the number of hashes
same_root : (n m : ℕ) (hashes : List (List ℕ)) (more : Bool) → nat_lt 1 (length hashes) ≡ more → length hashes ≤ n → length hashes ≤ m
    → block_root_within n hashes ≡ block_root_within m hashes
same_root n m hashes false e fn fm =
    root_here n hashes (ltb-false 1 (length hashes) e) ∙ sym (root_here m hashes (ltb-false 1 (length hashes) e))
same_root zero m hashes true e fn fm = absurd (let h = ltb-true 1 (length hashes) e in omega arith)
same_root (suc n) zero hashes true e fn fm = absurd (let h = ltb-true 1 (length hashes) e in omega arith)
same_root (suc n) (suc m) hashes true e fn fm =
    let more : 1 < length hashes = ltb-true 1 (length hashes) e in
    let half = length_paired hashes in
    root_up n hashes more
    ∙ same_root n m (paired hashes) (nat_lt 1 (length (paired hashes))) refl (omega arith) (omega arith)
    ∙ sym (root_up m hashes more)

same_branch : (n m : ℕ) (hashes : List (List ℕ)) (i : ℕ) (more : Bool) → nat_lt 1 (length hashes) ≡ more → length hashes ≤ n → length hashes ≤ m
    → branch_within n hashes i ≡ branch_within m hashes i
same_branch n m hashes i false e fn fm =
    branch_here n hashes i (ltb-false 1 (length hashes) e) ∙ sym (branch_here m hashes i (ltb-false 1 (length hashes) e))
same_branch zero m hashes i true e fn fm = absurd (let h = ltb-true 1 (length hashes) e in omega arith)
same_branch (suc n) zero hashes i true e fn fm = absurd (let h = ltb-true 1 (length hashes) e in omega arith)
same_branch (suc n) (suc m) hashes i true e fn fm =
    let more : 1 < length hashes = ltb-true 1 (length hashes) e in
    let half = length_paired hashes in
    branch_up n hashes i more
    ∙ ap (λ b. neighbour hashes i ∷ b) (same_branch n m (paired hashes) (i / 2) (nat_lt 1 (length (paired hashes))) refl (omega arith) (omega arith))
    ∙ sym (branch_up m hashes i more)

-- the two cases of a level
pub root_of_few : (hashes : List (List ℕ)) → length hashes ≤ 1 → block_root hashes ≡ get_or hashes 0 []
unfolding block_root
root_of_few hashes few = root_here (length hashes) hashes few

pub root_of_more : (hashes : List (List ℕ)) → 1 < length hashes → block_root hashes ≡ block_root (paired hashes)
unfolding block_root
root_of_more hashes more =
    let half = length_paired hashes in
    let n : ℕ = length hashes - 1 in
    ap (λ k. block_root_within k hashes) {x = length hashes} {y = suc n} (omega arith)
    ∙ root_up n hashes more
    ∙ same_root n (length (paired hashes)) (paired hashes) (nat_lt 1 (length (paired hashes))) refl (omega arith) (omega arith)

pub branch_of_few : (hashes : List (List ℕ)) (i : ℕ) → length hashes ≤ 1 → block_branch hashes i ≡ []
unfolding block_branch
branch_of_few hashes i few = branch_here (length hashes) hashes i few

pub branch_of_more : (hashes : List (List ℕ)) (i : ℕ) → 1 < length hashes
    → block_branch hashes i ≡ neighbour hashes i ∷ block_branch (paired hashes) (i / 2)
unfolding block_branch
branch_of_more hashes i more =
    let half = length_paired hashes in
    let n : ℕ = length hashes - 1 in
    ap (λ k. branch_within k hashes i) {x = length hashes} {y = suc n} (omega arith)
    ∙ branch_up n hashes i more
    ∙ ap (λ b. neighbour hashes i ∷ b)
    (same_branch n (length (paired hashes)) (paired hashes) (i / 2) (nat_lt 1 (length (paired hashes))) refl (omega arith) (omega arith))

-- two hashes further on, the neighbour is that of the rest
two_further : (left right : List ℕ) (hashes : List (List ℕ)) (i : ℕ) (even : Bool) → nat_eq (i % 2) 0 ≡ even
    → neighbour (left ∷ right ∷ hashes) (suc (suc i)) ≡ neighbour hashes i
two_further left right hashes i true e =
    let f : nat_eq (suc (suc i) % 2) 0 ≡ true = ap (λ k. nat_eq k 0) {x = suc (suc i) % 2} {y = i % 2} (omega arith) ∙ e in
    let p = ap (λ k. get_or (left ∷ right ∷ hashes) k (get_or hashes i [])) {x = suc (suc i) + 1} {y = suc (suc (i + 1))} (omega arith) in
    rw (f, e) (λ j. (Right, p j))
two_further left right hashes i false e =
    let f : nat_eq (suc (suc i) % 2) 0 ≡ false = ap (λ k. nat_eq k 0) {x = suc (suc i) % 2} {y = i % 2} (omega arith) ∙ e in
    let odd = eqb-false (i % 2) 0 e in
    let p = ap (λ k. get_or (left ∷ right ∷ hashes) k []) {x = suc (suc i) - 1} {y = suc (suc (i - 1))} (omega arith) in
    rw (f, e) (λ j. (Left, p j))

-- a hash and its neighbour make the hash above them
pub pair_above : (hashes : List (List ℕ)) (i : ℕ) → i < length hashes
    → above (neighbour hashes i) (get_or hashes i []) ≡ get_or (paired hashes) (i / 2) []
pair_above [] i within = absurd (omega arith)
pair_above (last ∷ []) zero within = refl
pair_above (last ∷ []) (suc i) within = absurd (omega arith)
pair_above (left ∷ right ∷ hashes) zero within = refl
pair_above (left ∷ right ∷ hashes) (suc zero) within = refl
pair_above (left ∷ right ∷ hashes) (suc (suc i)) within =
    ap (λ s. above s (get_or hashes i [])) (two_further left right hashes i (nat_eq (i % 2) 0) refl)
    ∙ pair_above hashes i (omega arith)
    ∙ ap (λ k. get_or (block_node left right ∷ paired hashes) k []) {x = suc (i / 2)} {y = suc (suc i) / 2} (omega arith)

-- so a branch leads to the root
leads_by : (n : ℕ) (hashes : List (List ℕ)) (i : ℕ) (more : Bool) → nat_lt 1 (length hashes) ≡ more → length hashes ≤ n → i < length hashes
    → climbed (block_branch hashes i) (get_or hashes i []) ≡ block_root hashes
leads_by n hashes i false e fits within =
    let few : length hashes ≤ 1 = ltb-false 1 (length hashes) e in
    ap (λ b. climbed b (get_or hashes i [])) (branch_of_few hashes i few)
    ∙ ap (λ k. get_or hashes k []) {x = i} {y = 0} (omega arith)
    ∙ sym (root_of_few hashes few)
leads_by zero hashes i true e fits within = absurd (omega arith)
leads_by (suc n) hashes i true e fits within =
    let more : 1 < length hashes = ltb-true 1 (length hashes) e in
    let half = length_paired hashes in
    ap (λ b. climbed b (get_or hashes i [])) (branch_of_more hashes i more)
    ∙ ap (climbed (block_branch (paired hashes) (i / 2))) (pair_above hashes i within)
    ∙ leads_by n (paired hashes) (i / 2) (nat_lt 1 (length (paired hashes))) refl (omega arith) (omega arith)
    ∙ sym (root_of_more hashes more)

pub branch_leads : (hashes : List (List ℕ)) (i : ℕ) → i < length hashes → climbed (block_branch hashes i) (get_or hashes i []) ≡ block_root hashes
branch_leads hashes i within = leads_by (length hashes) hashes i (nat_lt 1 (length hashes)) refl (omega arith) within

-- the code's step up a level
pub branch_further : (branch longer : List (Side × List ℕ)) (step : Side × List ℕ) (hashes next : List (List ℕ)) (i : ℕ) (whole : List (Side × List ℕ))
    → branch ++ block_branch hashes i ≡ whole → 1 < length hashes → longer ≡ branch ++ step ∷ [] → step ≡ neighbour hashes i → next ≡ paired hashes
    → longer ++ block_branch next (i / 2) ≡ whole
branch_further branch longer step hashes next i whole e more l s n =
    (λ j. l j ++ block_branch (n j) (i / 2))
    ∙ append_assoc branch (step ∷ []) (block_branch (paired hashes) (i / 2))
    ∙ ap (λ x. branch ++ x ∷ block_branch (paired hashes) (i / 2)) s
    ∙ ap (λ b. branch ++ b) (sym (branch_of_more hashes i more))
    ∙ e

-- the only hash of the highest level
pub only_one : (hashes : List (List ℕ)) (hash whole : List ℕ) → 1 ≤ length hashes → length hashes ≤ 1 → hash ≡ get_or hashes 0 hash
    → block_root hashes ≡ whole → hash ≡ whole
only_one [] hash whole least few h e = absurd (omega arith)
only_one (x ∷ hashes) hash whole least few h e = h ∙ sym (root_of_few (x ∷ hashes) few) ∙ e
