-- A walk that counts no answer in or below a node in which one was counted counts no more than the grafted tree has.
use Rattle.std.proofs.Common.{◌≡◌, ℕ, zero, suc, ◌+◌, ◌<◌, ◌≤◌, Bool, cond, List, [], ◌∷◌, ◌++◌, length, take, Option, None, Some, refl, ap, subst, ◌∙◌, arith, append_assoc, add-one}
use Rattle.std.specs.Prelude.{option_and_then, option_to_list}
use Rattle.std.specs.List.{AllByRecursion, slice_get}
use Rattle.std.proofs.lemmas.Bool.{le-leb, lt-leb}
use Rattle.std.proofs.lemmas.List.{append-nil}
use Rattle.ots_ops.specs.declared.op.Op.{Op}
use Rattle.ots_ops.specs.Apply.{apply}
use Rattle.ots_attest.specs.declared.attestation.Attestation.{Attestation}
use Rattle.ots_tree.specs.declared.token.Token.{Token}
use Rattle.ots_tree.specs.declared.token.Token.TheVariants as token
use Rattle.ots_tree.specs.declared.token.TokenAt.{TokenAt}
use Rattle.ots_tree.specs.Listed.{at_depth, listed, listed_item}
use Rattle.ots_tree.specs.PendingWalk.{followed, result_at}
use Rattle.ots_tree.specs.Sound.{IsSoundPath, IsSound}
use Rattle.ots_tree.specs.Wire.{Node, Item, last, more, attested, step, paths, paths_of_item, bytes}
use Rattle.ots_tree.proofs.Closing.{all-append, all-left, all-right, down, step_leads}
use Rattle.ots_canon.specs.Canonical.{IsCanonical}
use Rattle.ots_pending.specs.Pairs.{PairAt}
use Rattle.ots_pending.specs.Completed.{answer_to}
use Rattle.ots_pending.specs.Grown.{answer_at}
use Rattle.ots_pending.specs.Least.{around, taken_after, free_answer, length_of, disjoint_length}
use Rattle.ots_pending.proofs.GrownTrees.{Messages, after_depth, up_to_depth, Same, here_still, same_above, cap-low}
use Rattle.ots_pending.proofs.Grafts.{or_else, answer_or, answer_of, grafted, grafted_below, grafted_item, no_answer}
use Rattle.ots_pending.proofs.Shorter.{length_more, length_step}

-- ---- nodes with an answer

-- above this depth no token is in a node with an answer that was counted
abbrev IsOpen : ℕ → Option ℕ → Type 0
IsOpen d taken = (e : ℕ) → e < d → around taken e ≡ None

open_above : (d : ℕ) → IsOpen d (Some d)
open_above d e less = ap (λ (b : Bool). cond b (Some d) None) (lt-leb d e less)

stays_in : (k d : ℕ) → k ≤ d → around (Some k) d ≡ Some k
stays_in k d low = ap (λ (b : Bool). cond b (Some k) None) (le-leb k d low)

-- ---- messages that stay

still_up_to : (f : List ℕ → Option (List ℕ)) (ms : Messages) (k d : ℕ) → k ≤ d → take (suc k) (take (suc d) ms ++ option_to_list (option_and_then f (slice_get ms d))) ≡ take (suc k) ms
still_up_to f [] k d low = refl
still_up_to f (m ∷ ms) zero zero low = refl
still_up_to f (m ∷ ms) zero (suc d) low = refl
still_up_to f (m ∷ ms) (suc k) zero low = absurd (omega arith)
still_up_to f (m ∷ ms) (suc k) (suc d) low = ap (λ (z : Messages). m ∷ z) (still_up_to f ms k d (omega arith))

followed_still : (x : Token) (k d : ℕ) (ms : Messages) → k ≤ d → take (suc k) (followed x d ms) ≡ take (suc k) ms
followed_still token.Fork k d ms low = refl
followed_still (token.Op o) k d ms low =
    ap (λ (z : ℕ). take (suc k) (take z ms ++ option_to_list (result_at o d ms))) (add-one d) ∙ still_up_to (apply o) ms k d low
followed_still (token.Attestation a) k d ms low = refl

-- first up to one place in the walk, then up to a later one
same_on : (d : ℕ) (old middle new : Messages) → Same d old middle → Same d middle new → Same d old new
same_on d old middle new one other = record { is = other.is ∙ one.is }

-- ---- tokens in or below a node

abbrev IsDeep : ℕ → TokenAt → Type 0
IsDeep k l = k ≤ l.depth

mutual
  deep_node : (t : Node) (k d : ℕ) → k ≤ d → k ≤ 255 → AllByRecursion (IsDeep k) (listed d t)
  deep_node (last i) k d low short = deep_item i k d low short
  deep_node (more i t) k d low short = (omega arith, all-append (IsDeep k) (listed_item d i) (listed d t) (deep_item i k d low short) (deep_node t k d low short))

  deep_item : (i : Item) (k d : ℕ) → k ≤ d → k ≤ 255 → AllByRecursion (IsDeep k) (listed_item d i)
  deep_item (attested a) k d low short = (omega arith, tt)
  deep_item (step o t) k d low short = (omega arith, deep_node t k (suc d) (omega arith) short)

module _ (pairs : List PairAt) (given : List (Option Node)) where
  -- ---- a token

  counts : (taken here : Option ℕ) (x : Token) (d : ℕ) (ms : Messages) (ls : List TokenAt) (answer : Option Node) → answer_at pairs given x d ms ≡ answer → around taken d ≡ here
      → disjoint_length pairs given taken ms (record { token = x; depth = d } ∷ ls)
      ≡ length_of (free_answer here answer) + disjoint_length pairs given (taken_after here d (free_answer here answer)) (followed x d ms) ls
  counts taken here x d ms ls answer e at =
      ap (λ (z : Option Node). length_of (free_answer (around taken d) z) + disjoint_length pairs given (taken_after (around taken d) d (free_answer (around taken d) z)) (followed x d ms) ls) e
      ∙ ap (λ (z : Option ℕ). length_of (free_answer z answer) + disjoint_length pairs given (taken_after z d (free_answer z answer)) (followed x d ms) ls) at

  -- in a node in which no answer was counted
  counts_answer : (taken : Option ℕ) (x : Token) (d : ℕ) (ms : Messages) (ls : List TokenAt) (answer : Option Node) → d ≤ 255 → answer_at pairs given x d ms ≡ answer → around taken d ≡ None
      → disjoint_length pairs given taken ms (at_depth d x ∷ ls) ≡ length_of answer + disjoint_length pairs given (taken_after None d answer) (followed x d ms) ls
  counts_answer taken x d ms ls answer short e at =
      ap (λ (z : ℕ). disjoint_length pairs given taken ms (record { token = x; depth = z } ∷ ls)) (cap-low d short) ∙ counts taken None x d ms ls answer e at

  -- ---- in a node with an answer that was counted

  record Passes (k : ℕ) (ms : Messages) (part rest : List TokenAt) : Type 0 where
    after : Messages
    same : Same k ms after
    walk : disjoint_length pairs given (Some k) ms (part ++ rest) ≡ disjoint_length pairs given (Some k) after rest

  passes : (part : List TokenAt) (k : ℕ) (ms : Messages) (rest : List TokenAt) → AllByRecursion (IsDeep k) part → Passes k ms part rest
  passes [] k ms rest deep = record { after = ms; same = record { is = refl }; walk = refl }
  passes (l ∷ part) k ms rest deep =
      let p = passes part k (followed l.token l.depth ms) rest deep.1 in
      let one = counts (Some k) (Some k) l.token l.depth ms (part ++ rest) (answer_at pairs given l.token l.depth ms) refl (stays_in k l.depth deep.0) in
      let others = p.walk in
      record {
        after = p.after;
        same = record { is = p.same.is ∙ followed_still l.token k l.depth ms deep.0 };
        walk = omega arith;
      }

  -- ---- a part of the walk: the messages up to depth d are the same after it, and above depth k no token is in a node
  -- with an answer that was counted

  record Counts (d k : ℕ) (ms : Messages) (taken : Option ℕ) (part rest : List TokenAt) (most : ℕ) : Type 0 where
    after : Messages
    node : Option ℕ
    same : Same d ms after
    is_open : IsOpen k node
    low : disjoint_length pairs given taken ms (part ++ rest) ≤ most + disjoint_length pairs given node after rest

  last_end : (a : Attestation) (d : ℕ) (m : Option (List ℕ)) (ms : Messages) (taken : Option ℕ) (rest : List TokenAt) (x : Option Node) → answer_to pairs given a m ≡ x
      → d ≤ 255 → slice_get ms d ≡ m → around taken d ≡ None
      → Counts d d ms taken (at_depth d (token.Attestation a) ∷ []) rest (length (bytes (answer_or x (last (attested a)))))
  last_end a d m ms taken rest None e short here at =
      let one = counts_answer taken (token.Attestation a) d ms rest None short (ap (answer_to pairs given a) here ∙ e) at in
      record { after = ms; node = None; same = record { is = refl }; is_open = λ i less. refl; low = omega arith }
  last_end a d m ms taken rest (Some b) e short here at =
      let one = counts_answer taken (token.Attestation a) d ms rest (Some b) short (ap (answer_to pairs given a) here ∙ e) at in
      record { after = ms; node = Some d; same = record { is = refl }; is_open = open_above d; low = omega arith }

  one_more : (y : Option Node) (i : Item) (u : Node) → length (bytes (answer_or y u)) ≤ length (bytes (answer_or y (more i u)))
  one_more None i u = omega (arith, length_more i u)
  one_more (Some b) i u = omega arith

  more_end : (a : Attestation) (t u : Node) (d : ℕ) (m : Option (List ℕ)) (ms : Messages) (taken : Option ℕ) (rest : List TokenAt) (x y : Option Node) → answer_to pairs given a m ≡ x
      → d ≤ 255 → slice_get ms d ≡ m → around taken d ≡ None → Counts d d ms None (listed d t) rest (length (bytes (answer_or y u)))
      → Counts d d ms taken (listed d (more (attested a) t)) rest (length (bytes (answer_or (or_else x y) (more (attested a) u))))
  more_end a t u d m ms taken rest None y e short here at others =
      let fork = counts_answer taken token.Fork d ms (at_depth d (token.Attestation a) ∷ (listed d t ++ rest)) None short refl at in
      let one = counts_answer None (token.Attestation a) d ms (listed d t ++ rest) None short (ap (answer_to pairs given a) here ∙ e) refl in
      let low = others.low in
      let longer = one_more y (attested a) u in
      record { after = others.after; node = others.node; same = others.same; is_open = others.is_open; low = omega arith }
  more_end a t u d m ms taken rest (Some b) y e short here at others =
      let fork = counts_answer taken token.Fork d ms (at_depth d (token.Attestation a) ∷ (listed d t ++ rest)) None short refl at in
      let one = counts_answer None (token.Attestation a) d ms (listed d t ++ rest) (Some b) short (ap (answer_to pairs given a) here ∙ e) refl in
      let p = passes (listed d t) d ms rest (deep_node t d d (omega arith) short) in
      let walk = p.walk in
      record { after = p.after; node = Some d; same = p.same; is_open = open_above d; low = omega arith }

  -- the messages on the path below an operation
  abbrev deeper : Op → ℕ → Messages → Messages
  deeper o d ms = take (suc d) ms ++ option_to_list (option_and_then (apply o) (slice_get ms d))

  step_counts : (o : Op) (t : Node) (d : ℕ) (ms : Messages) (taken : Option ℕ) (rest : List TokenAt) (most : ℕ) → d ≤ 255 → around taken d ≡ None
      → Counts (suc d) (suc d) (deeper o d ms) None (listed (suc d) t) rest most → Counts d (suc d) ms taken (listed_item d (step o t)) rest most
  step_counts o t d ms taken rest most short at p =
      let op = counts_answer taken (token.Op o) d ms (listed (suc d) t ++ rest) None short refl at in
      let deep = ap (λ (z : ℕ). disjoint_length pairs given None (take z ms ++ option_to_list (result_at o d ms)) (listed (suc d) t ++ rest)) (add-one d) in
      let low = p.low in
      record { after = p.after; node = p.node; same = record { is = (same_above d (deeper o d ms) p.after p.same).is ∙ up_to_depth (apply o) ms d }; is_open = p.is_open; low = omega arith }

  record Descends (o : Op) (t : Node) (d : ℕ) (m : Option (List ℕ)) (ms : Messages) : Type 0 where
    short : d ≤ 255
    length_below : ℕ
    sound : IsSound length_below (suc d) t
    there : slice_get (deeper o d ms) (suc d) ≡ option_and_then (apply o) m

  descends : (o : Op) (t : Node) (d k : ℕ) (m : Option (List ℕ)) (ms : Messages) → AllByRecursion (IsSoundPath k d) (paths_of_item (step o t)) → slice_get ms d ≡ m → Descends o t d m ms
  descends o t d k m ms h here =
      let l = step_leads o t k d h in
      let room = l.room in
      record {
        short = omega arith;
        length_below = l.result;
        sound = subst (λ (z : ℕ). IsSound l.result z t) (add-one d) (down o k d l.result l.is (paths t) h);
        there = after_depth (apply o) ms d ∙ ap (option_and_then (apply o)) here;
      }

  node_counts : (t : Node) (d k : ℕ) (m : Option (List ℕ)) (ms : Messages) (taken : Option ℕ) (rest : List TokenAt) → IsCanonical t → IsSound k d t → slice_get ms d ≡ m → around taken d ≡ None
      → Counts d d ms taken (listed d t) rest (length (bytes (grafted pairs given m t)))
  node_counts (last (attested a)) d k m ms taken rest c h here at =
      let short = h.0.short in
      last_end a d m ms taken rest (answer_to pairs given a m) refl (omega arith) here at
  node_counts (last (step o t)) d k m ms taken rest c h here at =
      let b = descends o t d k m ms h here in
      let next = option_and_then (apply o) m in
      let p = step_counts o t d ms taken rest (length (bytes (grafted pairs given next t))) b.short at
      (node_counts t (suc d) b.length_below next (deeper o d ms) None rest c b.sound b.there refl) in
      let low = p.low in
      record { after = p.after; node = p.node; same = p.same; is_open = λ i less. p.is_open i (omega arith); low = omega (arith, length_step o (grafted pairs given next t)) }
  node_counts (more (attested a) t) d k m ms taken rest c h here at =
      let short = h.0.short in
      more_end a t (grafted_below pairs given m t) d m ms taken rest (answer_to pairs given a m) (answer_of pairs given m t) refl (omega arith) here at
      (node_counts t d k m ms None rest c.2 h.1 here refl)
  node_counts (more (step o u) t) d k m ms taken rest c h here at =
      let b = descends o u d k m ms (all-left (IsSoundPath k d) (paths_of_item (step o u)) (paths t) h) here in
      let next = option_and_then (apply o) m in
      let fork = counts_answer taken token.Fork d ms ((listed_item d (step o u) ++ listed d t) ++ rest) None b.short refl at in
      let parts = ap (λ (z : List TokenAt). disjoint_length pairs given None ms z) (append_assoc (listed_item d (step o u)) (listed d t) rest) in
      let p = step_counts o u d ms None (listed d t ++ rest) (length (bytes (grafted pairs given next u))) b.short refl
      (node_counts u (suc d) b.length_below next (deeper o d ms) None (listed d t ++ rest) c.0 b.sound b.there refl) in
      let q = node_counts t d k m p.after p.node rest c.2 (all-right (IsSoundPath k d) (paths_of_item (step o u)) (paths t) h) (here_still d ms p.after m here p.same) (p.is_open d (omega arith)) in
      let first = p.low in
      let others = q.low in
      let none = no_answer pairs given m o t c.2 c.1 in
      let one = ap (λ (z : Option Node). length (bytes (answer_or z (grafted_below pairs given m t)))) none in
      let all = ap (λ (z : Option Node). length (bytes (answer_or z (grafted_below pairs given m (more (step o u) t))))) none in
      record {
        after = q.after;
        node = q.node;
        same = same_on d ms p.after q.after p.same q.same;
        is_open = q.is_open;
        low = omega (arith, length_more (grafted_item pairs given m (step o u)) (grafted_below pairs given m t), length_step o (grafted pairs given next u));
      }

  pub least_of_grafted : (t : Node) (k : ℕ) (m : List ℕ) → IsCanonical t → IsSound k 0 t → disjoint_length pairs given None (m ∷ []) (listed 0 t) ≤ length (bytes (grafted pairs given (Some m) t))
  least_of_grafted t k m c h =
      let p = node_counts t 0 k (Some m) (m ∷ []) None [] c h refl refl in
      let low = p.low in
      let all = ap (λ (z : List TokenAt). disjoint_length pairs given None (m ∷ []) z) (append-nil (listed 0 t)) in
      omega arith
