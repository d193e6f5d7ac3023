-- The pairs of a draft.
use Rattle.std.proofs.Common.{◌≡◌, ◌≤◌, ◌+◌, ℕ, Bool, true, false, cond, List, [], ◌∷◌, map, length, max, Option, Some, None, refl, sym, ap, subst, ◌∙◌, arith}
use Rattle.std.specs.Prelude.{◌&&◌, bytes_eq, not}
use Rattle.std.specs.List.{AllByRecursion, filter}
use Rattle.std.proofs.lemmas.Slice.Eq.{bytes_eq-Decides}
use Rattle.ots_archive_taken.proofs.GivenTrees.{sound_there}
use Rattle.ots_archive_taken.specs.Given.{AreGoodTrees, AreTreesFor, good}
use Rattle.ots_archive_taken.specs.Taken.{IsDraftPair}
use Rattle.ots_attest.specs.declared.attestation.Attestation.{Attestation}
use Rattle.ots_attest.specs.declared.attestation.Attestation.TheVariants.{Pending}
use Rattle.ots_draft.specs.Draft.{IsDraft, IsPost, Waits}
use Rattle.ots_ops.specs.Value.{value}
use Rattle.ots_ops.specs.declared.op.Op.{Op}
use Rattle.ots_pending.specs.Pairs.{ArePairs, Pair, PairAt, asked_by, at_depth, deepest, is_same, once}
use Rattle.ots_sheet.specs.Reply.{Answer}
use Rattle.ots_sheet.specs.declared.request.Kind.{Kind}
use Rattle.ots_tree.proofs.Closing.{all-append}
use Rattle.ots_tree.proofs.Determined.{same_pre}
use Rattle.ots_tree.specs.Pending.{asked, pending_from}
use Rattle.ots_tree.specs.Sound.{IsSoundPre}
use Rattle.ots_tree.specs.Wire.{Node, Path, paths}
use Rattle.ots_tree.specs.declared.detached.Detached.{Detached}
use Rattle.ots_tree.specs.declared.pending.PendingAt.{PendingAt}
use Rattle.ots_tree.specs.declared.token.Token.{Token}

-- ---- lists

all_weaker : {X : Type 0} (P Q : X → Type 0) → ((x : X) → P x → Q x) → (xs : List X) → AllByRecursion P xs → AllByRecursion Q xs
all_weaker P Q f [] h = tt
all_weaker P Q f (x ∷ xs) h = (f x h.0, all_weaker P Q f xs h.1)

one_other : (Q : Pair → Type 0) (b : Bool) (q : Pair) (qs : List Pair) → Q q → AllByRecursion Q qs → AllByRecursion Q (cond b (q ∷ qs) qs)
one_other Q true q qs h all = (h, all)
one_other Q false q qs h all = all

all_others : (p : Pair) (Q : Pair → Type 0) (qs : List Pair) → AllByRecursion Q qs → AllByRecursion Q (filter (λ q. not (is_same p q)) qs)
all_others p Q [] h = tt
all_others p Q (q ∷ qs) h = one_other Q (not (is_same p q)) q (filter (λ r. not (is_same p r)) qs) h.0 (all_others p Q qs h.1)

all_once : (Q : Pair → Type 0) (ps : List Pair) → AllByRecursion Q ps → AllByRecursion Q (once ps)
all_once Q [] h = tt
all_once Q (p ∷ ps) h = (h.0, all_others p Q (once ps) (all_once Q ps h.1))

same_itself : (p : Pair) → is_same p p ≡ true
same_itself p =
    ap (λ (z : Bool). z && bytes_eq p.message p.message) ((bytes_eq-Decides p.uri p.uri).1 refl) ∙ (bytes_eq-Decides p.message p.message).1 refl

-- ---- pending paths

-- a pending path of a draft
record IsDraftEnd (ops : List Op) (m : List ℕ) (x : PendingAt) : Type 0 where
  address : List ℕ
  post : IsPost x.uri address
  message : x.message ≡ m
  depth : x.depth ≡ length ops

module _ (proof : Detached) (ops : List Op) (m : List ℕ) (reached : value ops proof.digest ≡ Some m) (long : length m ≡ 32) where
  one_end : (n : ℕ) (p : Path) → Waits ops p → AllByRecursion (IsDraftEnd ops m) (asked n (length p.ops) p.end (value p.ops proof.digest))
  one_end n p waits =
      subst (λ (a : Attestation). AllByRecursion (IsDraftEnd ops m) (asked n (length p.ops) a (value p.ops proof.digest))) (sym waits.pending)
      (subst (λ (os : List Op). AllByRecursion (IsDraftEnd ops m) (asked n (length os) (Pending waits.uri) (value os proof.digest))) (sym waits.same)
      (subst (λ (v : Option (List ℕ)). AllByRecursion (IsDraftEnd ops m) (asked n (length ops) (Pending waits.uri) v)) (sym reached)
      (record { address = waits.address; post = waits.post; message = refl; depth = refl }, tt)))

  all_ends : (n : ℕ) (ps : List Path) → AllByRecursion (Waits ops) ps → AllByRecursion (IsDraftEnd ops m) (pending_from proof.digest n ps)
  all_ends n [] h = tt
  all_ends n (p ∷ ps) h =
      all-append (IsDraftEnd ops m) (asked n (length p.ops) p.end (value p.ops proof.digest)) (pending_from proof.digest (n + 1) ps) (one_end n p h.0) (all_ends (n + 1) ps h.1)

  -- ---- their depths

  low_or_not : (b : Bool) (d e : ℕ) → d ≡ length ops → e ≤ length ops → cond b (max d e) e ≤ length ops
  low_or_not true d e h k = omega arith
  low_or_not false d e h k = k

  deepest_low : (p : Pair) (xs : List PendingAt) → AllByRecursion (IsDraftEnd ops m) xs → deepest p xs ≤ length ops
  deepest_low p [] h = omega arith
  deepest_low p (x ∷ xs) h = low_or_not (is_same p (asked_by x)) x.depth (deepest p xs) h.0.depth (deepest_low p xs h.1)

  -- what is asked for, at least so deep
  record IsDeep (xs : List PendingAt) (p : Pair) : Type 0 where
    address : List ℕ
    post : IsPost p.uri address
    message : p.message ≡ m
    deep : length ops ≤ deepest p xs

  high_or_not : (b : Bool) (d e : ℕ) → b ≡ true → d ≡ length ops → length ops ≤ cond b (max d e) e
  high_or_not true d e is h = omega arith
  high_or_not false d e is h = absurd cc

  higher : (b : Bool) (d e : ℕ) → length ops ≤ e → length ops ≤ cond b (max d e) e
  higher true d e h = omega arith
  higher false d e h = h

  all_deep : (xs : List PendingAt) → AllByRecursion (IsDraftEnd ops m) xs → AllByRecursion (IsDeep xs) (map asked_by xs)
  all_deep [] h = tt
  all_deep (x ∷ xs) h = (
    record {
      address = h.0.address;
      post = h.0.post;
      message = h.0.message;
      deep = high_or_not (is_same (asked_by x) (asked_by x)) x.depth (deepest (asked_by x) xs) (same_itself (asked_by x)) h.0.depth;
    },
    all_weaker (IsDeep xs) (IsDeep (x ∷ xs))
        (λ p is. record { address = is.address; post = is.post; message = is.message; deep = higher (is_same p (asked_by x)) x.depth (deepest p xs) is.deep })
        (map asked_by xs) (all_deep xs h.1),
  )

  -- ---- their pairs

  draft_pair : (xs : List PendingAt) → AllByRecursion (IsDraftEnd ops m) xs → (p : Pair) → IsDeep xs p → IsDraftPair proof ops (at_depth xs p)
  draft_pair xs h p is = record {
    address = is.address;
    post = is.post;
    reached = reached ∙ ap (λ (z : List ℕ). Some z) (sym is.message);
    long = ap length is.message ∙ long;
    depth = (let low = deepest_low p xs h in let deep = is.deep in omega (arith, low, deep));
  }

  all_pairs : (xs : List PendingAt) → AllByRecursion (IsDraftEnd ops m) xs → (ps : List Pair) → AllByRecursion (IsDeep xs) ps
      → AllByRecursion (IsDraftPair proof ops) (map (at_depth xs) ps)
  all_pairs xs h [] all = tt
  all_pairs xs h (p ∷ ps) all = (draft_pair xs h p all.0, all_pairs xs h ps all.1)

pub draft_pairs : (proof : Detached) (ops : List Op) (pairs : List PairAt) → IsDraft proof ops → ArePairs proof pairs → AllByRecursion (IsDraftPair proof ops) pairs
draft_pairs proof ops pairs draft are =
    let node : draft.node ≡ are.pending.node = same_pre draft.node are.pending.node (draft.are ∙ sym are.pending.tree) in
    let wait = subst (λ (t : Node). AllByRecursion (Waits ops) (paths t)) node draft.wait in
    let ends = subst (AllByRecursion (IsDraftEnd ops draft.message)) (sym are.pending.are) (all_ends proof ops draft.message draft.reached draft.hash_long 0 (paths are.pending.node) wait) in
    subst (AllByRecursion (IsDraftPair proof ops)) (sym are.are)
    (all_pairs proof ops draft.message draft.reached draft.hash_long are.found ends (once (map asked_by are.found))
    (all_once (IsDeep proof ops draft.message draft.reached draft.hash_long are.found) (map asked_by are.found) (all_deep proof ops draft.message draft.reached draft.hash_long are.found ends)))

-- ---- the trees that are given for them

sound_given : (answers : List Answer) (kind : Kind) (proof : Detached) (ops : List Op) (pairs : List PairAt) (given : List (Option (List Token)))
    → AllByRecursion (IsDraftPair proof ops) pairs → AreTreesFor answers kind pairs given → AllByRecursion (IsSoundPre 32 (length ops)) (good given)
sound_given answers kind proof ops [] [] all are = tt
sound_given answers kind proof ops [] (t ∷ given) all are = absurd are
sound_given answers kind proof ops (p ∷ pairs) [] all are = absurd are
sound_given answers kind proof ops (p ∷ pairs) (None ∷ given) all are = sound_given answers kind proof ops pairs given all.1 are.1
sound_given answers kind proof ops (p ∷ pairs) (Some tree ∷ given) all are = (
  subst (λ (n : ℕ). IsSoundPre 32 n tree) all.0.depth (subst (λ (n : ℕ). IsSoundPre n p.depth tree) all.0.long (sound_there answers kind p tree are.0)),
  sound_given answers kind proof ops pairs given all.1 are.1,
)

pub sound_good : (answers : List Answer) (kind : Kind) (proof : Detached) (ops : List Op) (pairs : List PairAt) (trees : List (List Token)) → IsDraft proof ops → ArePairs proof pairs
    → AreGoodTrees answers kind pairs trees → AllByRecursion (IsSoundPre 32 (length ops)) trees
sound_good answers kind proof ops pairs trees draft are is =
    subst (AllByRecursion (IsSoundPre 32 (length ops))) (sym is.good_are) (sound_given answers kind proof ops pairs is.given (draft_pairs proof ops pairs draft are) is.each)
