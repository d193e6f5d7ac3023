-- How many bytes a completed proof has at least.
use Rattle.std.proofs.Common.{◌≡◌, ◌+◌, ◌-◌, ◌^◌, ◌<◌, ◌≤◌, ℕ, suc, min, Bool, true, false, not, List, [], ◌∷◌, ◌++◌, map, length, get_or, drop, Option, Some, None, Result, Ok, Err, refl, sym, ap, subst, ◌∙◌, arith}
use Rattle.std.specs.Prelude.{option_and_then, option_map, IfOk}
use Rattle.std.specs.Option.{is_some}
use Rattle.std.specs.List.{flat_map, slice_get}
use Rattle.ots_attest.specs.declared.attestation.Attestation.{Attestation}
use Rattle.ots_attest.specs.declared.attestation.Attestation.TheVariants as attestation
use Rattle.ots_tree.specs.declared.token.Token.{Token}
use Rattle.ots_tree.specs.declared.token.TokenAt.{TokenAt}
use Rattle.ots_tree.specs.declared.detached.Detached.{Detached}
use Rattle.ots_tree.specs.Kept.{beside, IsKept}
use Rattle.ots_tree.specs.PendingWalk.{followed}
use Rattle.ots_tree.specs.Sound.{IsSound, IsSoundPre}
use Rattle.ots_tree.specs.Wire.{Node, Path, paths, pre, spelled}
use Rattle.ots_tree.proofs.Determined.{same_pre}
use Rattle.ots_tree.proofs.Numbered.{beside_at, kept_beside}
use Rattle.ots_canon.specs.Canonical.{IsCanonical, IsCanonTree, IsCanonOf}
use Rattle.ots_canon.specs.Order.{Has}
use Rattle.ots_pending.specs.Pairs.{PairAt}
use Rattle.ots_pending.specs.Completed.{answer_to, gained, IsCompleted}
use Rattle.ots_pending.specs.Grown.{answer_at, length_put, tree_at, AreTrees, IsPairOf, IsPutFor}
use Rattle.ots_pending.specs.Least.{around, taken_after, free_answer, length_of, disjoint_length, AreCanonical}
use Rattle.ots_pending.proofs.Completion.{gains_all, same_gains}
use Rattle.ots_pending.proofs.Disjoint.{least_of_grafted}
use Rattle.ots_pending.proofs.Grafts.{grafted, grafted_canonical, grafted_gains}
use Rattle.ots_pending.proofs.Lists.{none_some}
use Rattle.ots_pending.proofs.Putting.{given_at, given_long}
use Rattle.ots_pending.proofs.Shorter.{shorter_node, AreIn}
use Rattle.ots_pending.proofs.SoundTrees.{gave}

-- ---- the tree at a token

tree_of_answer : (pairs : List PairAt) (given : List (Option Node)) (trees : List (Option (List Token))) (x : Token) (depth : ℕ) (messages : List (List ℕ)) (place : Option ℕ)
    → map (option_map pre) given ≡ trees → length given ≡ length pairs → IsPairOf pairs x depth messages place
    → tree_at trees place ≡ option_map pre (answer_at pairs given x depth messages)
tree_of_answer pairs given trees x depth messages None given_are long is = sym (ap (option_map pre) (is given))
tree_of_answer pairs given trees x depth messages (Some i) given_are long is =
    ap (option_and_then (λ r. r)) (given_at given trees i (answer_at pairs given x depth messages) given_are (is.answer given long))

tree_of_free : (pairs : List PairAt) (given : List (Option Node)) (trees : List (Option (List Token))) (x : Token) (depth : ℕ) (messages : List (List ℕ)) (here : Option ℕ) (is_free : Bool) (tree : Option (List Token))
    → map (option_map pre) given ≡ trees → length given ≡ length pairs → is_some here ≡ not is_free → IsPutFor pairs trees x depth messages is_free tree
    → tree ≡ option_map pre (free_answer here (answer_at pairs given x depth messages))
tree_of_free pairs given trees x depth messages None true tree given_are long e is = is.tree_is ∙ tree_of_answer pairs given trees x depth messages is.place given_are long is.is
tree_of_free pairs given trees x depth messages None false tree given_are long e is = absurd cc
tree_of_free pairs given trees x depth messages (Some d) true tree given_are long e is = absurd cc
tree_of_free pairs given trees x depth messages (Some d) false tree given_are long e is = is

put_length : (answer : Option Node) → length_put (option_map pre answer) ≤ length_of answer
put_length None = omega arith
put_length (Some t) = omega arith

put_taken : (here : Option ℕ) (depth : ℕ) (answer : Option Node) → taken_after here depth (option_map pre answer) ≡ taken_after here depth answer
put_taken here depth None = refl
put_taken here depth (Some t) = refl

-- ---- the walk goes on

pub counts_on : (pairs : List PairAt) (given : List (Option Node)) (trees : List (Option (List Token))) (tokens : List Token) (depths : List ℕ) (i total put new most : ℕ) (x : Token)
    (messages next : List (List ℕ)) (taken here after : Option ℕ) (is_free : Bool) (tree : Option (List Token))
    → map (option_map pre) given ≡ trees → length given ≡ length pairs → length depths ≡ length tokens → i < length tokens → x ≡ get_or tokens i x
    → here ≡ around taken (get_or depths i 0) → is_some here ≡ not is_free → IsPutFor pairs trees x (get_or depths i 0) messages is_free tree
    → put ≡ length_put tree → new ≡ min (total + put) (2 ^ 64 - 1) → after ≡ taken_after here (get_or depths i 0) tree → next ≡ followed x (get_or depths i 0) messages
    → total + disjoint_length pairs given taken messages (drop i (beside tokens depths)) ≤ most
    → new + disjoint_length pairs given after next (drop (i + 1) (beside tokens depths)) ≤ most
counts_on pairs given trees tokens depths i total put new most x messages next taken here after is_free tree given_are long same in_range is here_is free_is put_for put_is new_is after_is next_is low =
    let d = get_or depths i 0 in
    let rest = drop (i + 1) (beside tokens depths) in
    let answer = free_answer here (answer_at pairs given x d messages) in
    let tree_is : tree ≡ option_map pre answer = tree_of_free pairs given trees x d messages here is_free tree given_are long free_is put_for in
    let short : length_put tree ≤ length_of answer = subst (λ (z : Option (List Token)). length_put z ≤ length_of answer) (sym tree_is) (put_length answer) in
    let taken_is : after ≡ taken_after here d answer = after_is ∙ ap (taken_after here d) tree_is ∙ put_taken here d answer in
    let token = ap (λ (z : List TokenAt). disjoint_length pairs given taken messages z) (beside_at tokens depths i x same in_range is) in
    let one = ap (λ (z : Option ℕ). length_of (free_answer z (answer_at pairs given x d messages))
    + disjoint_length pairs given (taken_after z d (free_answer z (answer_at pairs given x d messages))) (followed x d messages) rest) here_is in
    let left = ap (λ (z : Option ℕ). disjoint_length pairs given z next rest) taken_is ∙ ap (λ (z : List (List ℕ)). disjoint_length pairs given (taken_after here d answer) z rest) next_is in
    omega arith

-- ---- canonical trees

-- what was given is trees
pub trees_given : (trees : List (Option (List Token))) → AreCanonical trees → AreTrees trees
trees_given [] h = record { given = []; are = refl }
trees_given (None ∷ trees) h =
    let others = trees_given trees (λ i ts at. h (suc i) ts at) in
    record { given = None ∷ others.given; are = ap (λ (z : List (Option (List Token))). None ∷ z) others.are }
trees_given (Some ts ∷ trees) h =
    let others = trees_given trees (λ i us at. h (suc i) us at) in
    let one = h 0 ts refl in
    record { given = Some one.node ∷ others.given; are = λ i. Some (one.are i) ∷ others.are i }

canonical_given : (given : List (Option Node)) (trees : List (Option (List Token))) (i : ℕ) (t : Node) → map (option_map pre) given ≡ trees → AreCanonical trees → slice_get given i ≡ Some (Some t)
    → IsCanonical t
canonical_given given trees i t given_are canonical at =
    let c = canonical i (pre t) (given_at given trees i (Some t) given_are at) in
    subst IsCanonical (same_pre c.node t c.are) c.canonical

module _ (pairs : List PairAt) (given : List (Option Node)) (trees : List (Option (List Token))) (given_are : map (option_map pre) given ≡ trees) (canonical : AreCanonical trees) where
  canonical_answer : (a : Attestation) (m : Option (List ℕ)) (t : Node) → answer_to pairs given a m ≡ Some t → IsCanonical t
  canonical_answer (attestation.Pending uri) (Some m) t e =
      let g = gave (record { uri = uri; message = m }) pairs given t e in
      canonical_given given trees g.place t given_are canonical g.gave
  canonical_answer (attestation.Pending uri) None t e = absurd (none_some t e)
  canonical_answer (attestation.Bitcoin height) m t e = absurd (none_some t e)
  canonical_answer (attestation.Litecoin height) m t e = absurd (none_some t e)
  canonical_answer (attestation.Unknown other) m t e = absurd (none_some t e)

-- ---- what is counted is in the completed tree

canonical_form : (ps : List Path) (form : List Token) (t : Node) → IsCanonTree ps form → pre t ≡ form → IsCanonical t
canonical_form ps form t c are = subst IsCanonical (same_pre c.node t (c.are ∙ sym are)) c.is_tree.canonical

module _ (proof : Detached) (pairs : List PairAt) (trees : List (Option (List Token))) (form made : List Token) (canon : IsCanonOf proof.tree form) (canonical : AreCanonical trees)
    (c : IsCompleted proof pairs trees made) where
  abbrev m : Option (List ℕ)
  m = Some proof.digest

  -- the paths of the grafted tree are those of the completed one
  grafted_in : (t : Node) → pre t ≡ form → AreIn (paths (grafted pairs c.given m t)) (paths c.form.node)
  grafted_in t are p has =
      let node : canon.node ≡ c.node = same_pre canon.node c.node (canon.are ∙ sym c.tree) in
      let in_form = (gains_all pairs c.given m (paths t) p).0 (grafted_gains pairs c.given m t p has) in
      let in_proof = (same_gains proof pairs trees c.given form c.given_are canon t are p).0 in_form in
      let in_node : Has (paths c.node ++ flat_map (gained pairs c.given m) (paths c.node)) p =
      subst (λ (z : Node). Has (paths z ++ flat_map (gained pairs c.given m) (paths z)) p) node in_proof in
      subst (λ (z : List Path). Has z p) (sym c.form.is_tree.same) ((c.form.is_canon.same p).0 in_node)

  pub no_more : (depths : List ℕ) → IsKept form depths → IsSoundPre (length proof.digest) 0 form
      → disjoint_length pairs c.given None (proof.digest ∷ []) (beside form depths) ≤ length (spelled made)
  no_more depths kept sound =
      let t = kept.node in
      let t_canonical = canonical_form (paths canon.node) form t canon.form kept.tokens_are in
      let t_sound : IsSound (length proof.digest) 0 t = subst (IsSound (length proof.digest) 0) (same_pre sound.0 t (sound.2 ∙ sym kept.tokens_are)) sound.1 in
      let g_canonical = grafted_canonical pairs c.given (canonical_answer pairs c.given trees c.given_are canonical) m t t_canonical in
      let counted = least_of_grafted pairs c.given t (length proof.digest) proof.digest t_canonical t_sound in
      let all = ap (λ (z : List TokenAt). disjoint_length pairs c.given None (proof.digest ∷ []) z) (kept_beside form depths kept) in
      let less = shorter_node (grafted pairs c.given m t) c.form.node g_canonical c.form.is_tree.canonical (grafted_in t kept.tokens_are) in
      let made_is = ap (λ (z : List Token). length (spelled z)) c.form.are in
      omega arith

if_less : {E : Type 0} (r : Result ℕ E) (n k : ℕ) → IfOk r (λ least. least ≤ n) → n ≤ k → IfOk r (λ least. least ≤ k)
if_less (Ok least) n k h less = let low = h in omega arith
if_less (Err e) n k h less = h

pub is_least : {E : Type 0} (r : Result ℕ E) (proof : Detached) (pairs kept_pairs : List PairAt) (trees : List (Option (List Token))) (form seen made : List Token) (depths kept_digest : List ℕ)
    → IsCanonOf proof.tree form → length trees ≡ length pairs → AreCanonical trees → IsKept form depths → IsSoundPre (length proof.digest) 0 form
    → kept_pairs ≡ pairs → seen ≡ form → kept_digest ≡ proof.digest
    → ((given : List (Option Node)) → map (option_map pre) given ≡ trees → length given ≡ length kept_pairs
    → IfOk r (λ least. least ≤ disjoint_length kept_pairs given None (kept_digest ∷ []) (beside seen depths)))
    → IsCompleted proof pairs trees made → IfOk r (λ least. least ≤ length (spelled made))
is_least r proof pairs kept_pairs trees form seen made depths kept_digest canon long canonical kept sound pairs_are seen_is digest_is counted c =
    let given_long : length c.given ≡ length kept_pairs =
    given_long c.given trees c.given_are ∙ long ∙ sym (ap (λ (z : List PairAt). length z) pairs_are) in
    let all : disjoint_length kept_pairs c.given None (kept_digest ∷ []) (beside seen depths) ≡ disjoint_length pairs c.given None (proof.digest ∷ []) (beside form depths) =
    ap (λ (z : List PairAt). disjoint_length z c.given None (kept_digest ∷ []) (beside seen depths)) pairs_are
    ∙ ap (λ (z : List Token). disjoint_length pairs c.given None (kept_digest ∷ []) (beside z depths)) seen_is
    ∙ ap (λ (z : List ℕ). disjoint_length pairs c.given None (z ∷ []) (beside form depths)) digest_is in
    let less = no_more proof pairs trees form made canon canonical c depths kept sound in
    if_less r (disjoint_length kept_pairs c.given None (kept_digest ∷ []) (beside seen depths)) (length (spelled made)) (counted c.given c.given_are given_long) (omega arith)
