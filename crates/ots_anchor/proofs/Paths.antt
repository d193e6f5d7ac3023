-- Where a complete path leads.
use Rattle.std.proofs.Common.{◌≡◌, ℕ, zero, suc, ◌+◌, ◌<◌, ◌≤◌, Bool, true, false, cond, List, [], ◌∷◌, ◌++◌, length, take, get_or, Option, Some, None, refl, sym, ap, subst, ◌∙◌, append_assoc, length-append, arith}
use Rattle.std.specs.Prelude.{option_and_then, Result, Ok, Err, IfOk, OnOk}
use Rattle.std.proofs.lemmas.Bool.{le-leb}
use Rattle.std.proofs.lemmas.List.{append-nil, take_more}
use Rattle.sha2.specs.Sha256.{sha256}
use Rattle.sha2.proofs.Facts256.{length-sha256}
use Rattle.ots_headers.specs.DoubleSha256.{double_sha256}
use Rattle.ots_ops.specs.Apply.{apply}
use Rattle.ots_ops.specs.Value.{value}
use Rattle.ots_ops.specs.declared.op.Op.{Op}
use Rattle.ots_ops.specs.declared.op.Op.TheVariants.{Sha256, Append, Prepend}
use Rattle.ots_merkle.specs.Hashes.{AreHashes}
use Rattle.ots_merkle.specs.CalendarTree.{root_within, root, path}
use Rattle.ots_merkle.specs.BlockTree.{above, climbed}
use Rattle.ots_merkle.specs.declared.branch.Side.{Side}
use Rattle.ots_merkle.specs.declared.branch.Side.TheVariants.{Left, Right}
use Rattle.ots_anchor.specs.Path.{hashed, before, after, beside, twice, climb, complete_path, complete_way, led_to, AreSteps}

-- ---- the operations

pub climb-append : (a b : List (Side × List ℕ)) → climb (a ++ b) ≡ climb a ++ climb b
climb-append [] b = refl
climb-append (step ∷ a) b = ap (λ (ops : List Op). beside step ∷ Sha256 ∷ Sha256 ∷ ops) (climb-append a b)

pub all_added : (way : List Op) (prefix suffix : List ℕ) (branch : List (Side × List ℕ))
    → ((((((Sha256 ∷ []) ++ way) ++ before prefix) ++ after suffix) ++ twice) ++ climb branch) ≡ complete_way way prefix suffix branch
unfolding complete_way
all_added way prefix suffix branch = simp append_assoc

-- one neighbour more
pub branch_further : (start ops longer : List Op) (branch : List (Side × List ℕ)) (i : ℕ) (d : Side × List ℕ) → i < length branch
    → ops ≡ start ++ climb (take i branch) → longer ≡ ops ++ climb (get_or branch i d ∷ []) → longer ≡ start ++ climb (take (i + 1) branch)
branch_further start ops longer branch i d inside so_far more =
    more ∙ ap (λ (z : List Op). z ++ climb (get_or branch i d ∷ [])) so_far
    ∙ append_assoc start (climb (take i branch)) (climb (get_or branch i d ∷ []))
    ∙ ap (λ (z : List Op). start ++ z) (sym (climb-append (take i branch) (get_or branch i d ∷ [])) ∙ ap climb (sym (take_more branch i d inside)))

steps_more : (branch : List (Side × List ℕ)) (step : Side × List ℕ) → AreSteps branch → length step.1 ≡ 32 → AreSteps (branch ++ step ∷ [])
steps_more [] step all one = (one, tt)
steps_more (s ∷ branch) step all one = (all.0, steps_more branch step all.1 one)

pub steps_further : (branch : List (Side × List ℕ)) (i : ℕ) (d : Side × List ℕ) → i < length branch → AreSteps (take i branch)
    → length (get_or branch i d).1 ≡ 32 → AreSteps (take (i + 1) branch)
steps_further branch i d inside so_far one =
    subst AreSteps (sym (take_more branch i d inside)) (steps_more (take i branch) (get_or branch i d) so_far one)

pub chained : (prefix suffix : List ℕ) (branch : List (Side × List ℕ)) (way o1 o2 o3 o4 o5 o6 : List Op)
    → o1 ≡ Sha256 ∷ [] → o2 ≡ o1 ++ way → o3 ≡ o2 ++ before prefix → o4 ≡ o3 ++ after suffix → o5 ≡ o4 ++ twice
    → o6 ≡ o5 ++ climb branch → o6 ≡ complete_way way prefix suffix branch
chained prefix suffix branch way o1 o2 o3 o4 o5 o6 e1 e2 e3 e4 e5 e6 =
    e6 ∙ ap (λ (z : List Op). z ++ climb branch) (e5 ∙ ap (λ (z : List Op). z ++ twice) (e4 ∙ ap (λ (z : List Op). z ++ after suffix)
    (e3 ∙ ap (λ (z : List Op). z ++ before prefix) (e2 ∙ ap (λ (z : List Op). z ++ way) e1))))
    ∙ all_added way prefix suffix branch

-- ---- each of them

hash_of : (m : List ℕ) → length m ≤ 4096 → apply Sha256 m ≡ Some (sha256 m)
hash_of m short = rw (le-leb 0 (length m) (omega arith), le-leb (length m) 4096 short) refl

appended : (a m : List ℕ) → length m + length a ≤ 4096 → apply (Append a) m ≡ Some (m ++ a)
appended a m short = rw (le-leb 0 (length m) (omega arith), le-leb (length m) 4096 (omega arith), le-leb (length m + length a) 4096 short) refl

prepended : (a m : List ℕ) → length a + length m ≤ 4096 → apply (Prepend a) m ≡ Some (a ++ m)
prepended a m short = rw (le-leb 0 (length m) (omega arith), le-leb (length m) 4096 (omega arith), le-leb (length a + length m) 4096 short) refl

value_then : (a b : List Op) (m : Option (List ℕ)) → option_and_then (value (a ++ b)) m ≡ option_and_then (value b) (option_and_then (value a) m)
value_then a b None = refl
value_then [] b (Some m) = refl
value_then (o ∷ a) b (Some m) = value_then a b (apply o m)

one_more : (o : Op) (ops : List Op) (m n : List ℕ) → apply o m ≡ Some n → value (o ∷ ops) m ≡ value ops n
one_more o ops m n e = ap (option_and_then (value ops)) e

value_before : (prefix m : List ℕ) (ops : List Op) → length prefix + length m ≤ 4096 → value (before prefix ++ ops) m ≡ value ops (prefix ++ m)
value_before [] m ops short = refl
value_before (b ∷ bytes) m ops short = one_more (Prepend (b ∷ bytes)) ops m ((b ∷ bytes) ++ m) (prepended (b ∷ bytes) m short)

value_after : (suffix m : List ℕ) (ops : List Op) → length m + length suffix ≤ 4096 → value (after suffix ++ ops) m ≡ value ops (m ++ suffix)
value_after [] m ops short = ap (value ops) (sym (append-nil m))
value_after (b ∷ bytes) m ops short = one_more (Append (b ∷ bytes)) ops m (m ++ (b ∷ bytes)) (appended (b ∷ bytes) m short)

value_twice : (m : List ℕ) (ops : List Op) → length m ≤ 4096 → value (twice ++ ops) m ≡ value ops (double_sha256 m)
value_twice m ops short =
    one_more Sha256 (Sha256 ∷ ops) m (sha256 m) (hash_of m short)
    ∙ one_more Sha256 ops (sha256 m) (double_sha256 m) (hash_of (sha256 m) (omega (arith, length-sha256 m)))

value_step : (step : Side × List ℕ) (ops : List Op) (m : List ℕ) → length step.1 ≡ 32 → length m ≡ 32
    → value (beside step ∷ Sha256 ∷ Sha256 ∷ ops) m ≡ value ops (above step m)
value_step (Left, other) ops m long hash =
    one_more (Prepend other) (twice ++ ops) m (other ++ m) (prepended other m (omega arith))
    ∙ value_twice (other ++ m) ops (omega (arith, length-append other m))
value_step (Right, other) ops m long hash =
    one_more (Append other) (twice ++ ops) m (m ++ other) (appended other m (omega arith))
    ∙ value_twice (m ++ other) ops (omega (arith, length-append m other))

length_above : (step : Side × List ℕ) (m : List ℕ) → length (above step m) ≡ 32
length_above (Left, other) m = length-sha256 (sha256 (other ++ m))
length_above (Right, other) m = length-sha256 (sha256 (m ++ other))

value_climb : (branch : List (Side × List ℕ)) (m : List ℕ) → AreSteps branch → length m ≡ 32 → value (climb branch) m ≡ Some (climbed branch m)
value_climb [] m all hash = refl
value_climb (step ∷ branch) m all hash =
    value_step step (climb branch) m all.0 hash ∙ value_climb branch (above step m) all.1 (length_above step m)

-- ---- the calendar's root

length_chosen : (which : Bool) (x y : List ℕ) → length x ≡ 32 → length y ≡ 32 → length (cond which x y) ≡ 32
length_chosen true x y lx ly = lx
length_chosen false x y lx ly = ly

first_hash : (leaves : List (List ℕ)) → AreHashes leaves → 0 < length leaves → length (get_or leaves 0 []) ≡ 32
first_hash [] are some = absurd (omega arith)
first_hash (leaf ∷ leaves) are some = are.0

length_within : (h : ℕ) (leaves : List (List ℕ)) → AreHashes leaves → 0 < length leaves → length (root_within h leaves) ≡ 32
unfolding root_within
length_within zero leaves are some = first_hash leaves are some
length_within (suc h) leaves are some = length_chosen _ _ _ (length_within h leaves are some) (length-sha256 _)

length_root : (leaves : List (List ℕ)) → AreHashes leaves → 0 < length leaves → length (root leaves) ≡ 32
unfolding root
length_root leaves are some = length_within (length leaves) leaves are some

are_hashed : (commitments : List (List ℕ)) → AreHashes (hashed commitments)
are_hashed [] = tt
are_hashed (c ∷ commitments) = (length-sha256 c, are_hashed commitments)

leaf_of : (commitments : List (List ℕ)) (i : ℕ) → i < length commitments → sha256 (get_or commitments i []) ≡ get_or (hashed commitments) i []
leaf_of [] i inside = absurd (omega arith)
leaf_of (c ∷ commitments) zero inside = refl
leaf_of (c ∷ commitments) (suc i) inside = leaf_of commitments i (omega arith)

some_hashed : (commitments : List (List ℕ)) → 0 < length commitments → 0 < length (hashed commitments)
some_hashed [] some = some
some_hashed (c ∷ commitments) some = omega arith

-- ---- the whole

pub leads : (commitments : List (List ℕ)) (i : ℕ) (prefix suffix : List ℕ) (branch : List (Side × List ℕ)) → i < length commitments
    → length (get_or commitments i []) ≡ 44 → length prefix + 32 + length suffix ≤ 4096 → AreSteps branch
    → value (path (hashed commitments) i) (get_or (hashed commitments) i []) ≡ Some (root (hashed commitments))
    → value (complete_path commitments i prefix suffix branch) (get_or commitments i []) ≡ Some (led_to commitments prefix suffix branch)
unfolding complete_path complete_way
leads commitments i prefix suffix branch inside long short steps up =
    let c : List ℕ = get_or commitments i [] in
    let leaves : List (List ℕ) = hashed commitments in
    let r : List ℕ = root leaves in
    let lr : length r ≡ 32 = length_root leaves (are_hashed commitments) (some_hashed commitments (omega arith)) in
    let at_root : List Op = before prefix ++ (after suffix ++ (twice ++ climb branch)) in
    let whole : List ℕ = (prefix ++ r) ++ suffix in
    one_more Sha256 (path leaves i ++ at_root) c (sha256 c) (hash_of c (omega arith))
    ∙ ap (value (path leaves i ++ at_root)) (leaf_of commitments i inside)
    ∙ value_then (path leaves i) at_root (Some (get_or leaves i []))
    ∙ ap (option_and_then (value at_root)) up
    ∙ value_before prefix r (after suffix ++ (twice ++ climb branch)) (omega arith)
    ∙ value_after suffix (prefix ++ r) (twice ++ climb branch) (omega (arith, length-append prefix r))
    ∙ value_twice whole (climb branch) (omega (arith, length-append (prefix ++ r) suffix, length-append prefix r))
    ∙ value_climb branch (double_sha256 whole) steps (length-sha256 (sha256 whole))

-- what is made of a path
pub path_made : {E : Type 0} (r : Result (List Op) E) (commitments : List (List ℕ)) (i : ℕ) (prefix suffix : List ℕ) (branch : List (Side × List ℕ)) (way : List Op) → way ≡ path (hashed commitments) i
    → IfOk r (λ ops. ops ≡ complete_way way prefix suffix branch) → IfOk r (λ ops. ops ≡ complete_path commitments i prefix suffix branch)
unfolding complete_path
path_made (Ok ops) commitments i prefix suffix branch way is made = made ∙ ap (λ (w : List Op). complete_way w prefix suffix branch) is
path_made (Err e) commitments i prefix suffix branch way is made = made

pub made_leads : {E : Type 0} (r : Result (List Op) E) (commitments : List (List ℕ)) (i : ℕ) (prefix suffix : List ℕ) (branch : List (Side × List ℕ))
    → IfOk r (λ ops. ops ≡ complete_path commitments i prefix suffix branch) → OnOk r (AreSteps branch)
    → i < length commitments → length (get_or commitments i []) ≡ 44 → length prefix + 32 + length suffix ≤ 4096
    → value (path (hashed commitments) i) (get_or (hashed commitments) i []) ≡ Some (root (hashed commitments))
    → IfOk r (λ ops. value ops (get_or commitments i []) ≡ Some (led_to commitments prefix suffix branch))
made_leads (Ok ops) commitments i prefix suffix branch made steps inside long short up =
    ap (λ (o : List Op). value o (get_or commitments i [])) made ∙ leads commitments i prefix suffix branch inside long short steps up
made_leads (Err e) commitments i prefix suffix branch made steps inside long short up = steps
