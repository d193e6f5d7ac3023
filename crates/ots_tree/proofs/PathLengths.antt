-- A walk that keeps the lengths on the path passes all tokens exactly where their tree is sound.
use Rattle.std.proofs.Common.{◌≡◌, ℕ, suc, ◌+◌, ◌-◌, ◌^◌, min, ◌<◌, ◌≤◌, ◌≢◌, Bool, true, false, cond, ltb, List, [], ◌++◌, length, get_or, drop, Option, Some, None, refl, sym, ap, subst, ◌∙◌, arith, append_assoc, get_or-set_other, get_or-set_same, add-one}
use Rattle.std.specs.Prelude.{IsSome, option_and_then, option_map, ◌↔◌}
use Rattle.std.specs.List.{AllByRecursion}
use Rattle.std.proofs.Math.ListN.{set}
use Rattle.std.proofs.lemmas.Bool.{lt-ltb, ltb-true}
use Rattle.std.proofs.lemmas.List.{append-nil, length-set, drop_all}
use Rattle.ots_ops.specs.declared.op.Op.{Op}
use Rattle.ots_ops.specs.ResultLength.{len}
use Rattle.ots_tree.specs.declared.token.Token.{Token}
use Rattle.ots_tree.specs.declared.token.Token.TheVariants as token
use Rattle.ots_tree.specs.declared.token.TokenAt.{TokenAt}
use Rattle.ots_tree.specs.declared.shape.Shape.{Shape}
use Rattle.ots_tree.specs.Wire.{Node, Item, last, more, attested, step, paths, paths_of_item}
use Rattle.ots_tree.specs.Listed.{listed, listed_item}
use Rattle.ots_tree.specs.Sound.{IsSoundPath, IsSound, IsSoundPre}
use Rattle.ots_tree.specs.Kept.{beside, IsKept}
use Rattle.ots_tree.specs.Passed.{passed, all_passed}
use Rattle.ots_tree.proofs.Numbered.{kept_beside, beside_at, length-beside}
use Rattle.ots_tree.proofs.Closing.{all-append, all-left, all-right, down, up, step_leads, node_path}
use Rattle.ots_tree.proofs.Determined.{same_pre}

-- the lengths at depth d, where the message has n bytes, and at the depths before it
record Agrees (n d : ℕ) (lengths : List ℕ) : Type 0 where
  room : length lengths ≡ 256
  here : get_or lengths d 0 ≡ n

-- lengths that differ only after depth d
record Same (d : ℕ) (old new : List ℕ) : Type 0 where
  room : length new ≡ length old
  before : (j : ℕ) → j ≤ d → get_or new j 0 ≡ get_or old j 0

-- what is left after a sound part
record Passes (k d : ℕ) (lengths : List ℕ) (part rest : List TokenAt) : Type 0 where
  after : List ℕ
  same : Same d lengths after
  walk : all_passed k (part ++ rest) lengths ≡ all_passed k rest after

cap-low : (d : ℕ) → d ≤ 255 → min d (2 ^ 32 - 1) ≡ d
cap-low d low = omega arith

-- an operation that passes
passed-op : (o : Op) (k d n m : ℕ) (lengths : List ℕ) → d + k < 255 → len o n ≡ Some m → get_or lengths d 0 ≡ n
    → passed k (token.Op o) (min d (2 ^ 32 - 1)) lengths ≡ Some (set lengths (d + 1) m)
passed-op o k d n m lengths room is here =
    let low : min d (2 ^ 32 - 1) ≡ d = omega arith in
    let within : k + d < 255 = omega arith in
    rw (low, lt-ltb (k + d) 255 within, here, is) refl

stepped : (n d m : ℕ) (lengths : List ℕ) → Agrees n d lengths → d < 255 → Agrees m (d + 1) (set lengths (d + 1) m)
stepped n d m lengths h low =
    let room = h.room in
    let in_range : d + 1 < length lengths = omega arith in
    record { room = length-set lengths (d + 1) m ∙ room; here = rw get_or-set_same refl }

step_same : (d m : ℕ) (lengths after : List ℕ) → Same (d + 1) (set lengths (d + 1) m) after → Same d lengths after
step_same d m lengths after s = record {
  room = s.room ∙ length-set lengths (d + 1) m;
  before = λ j low. let other : j ≢ d + 1 = omega arith in s.before j (omega arith) ∙ rw get_or-set_other refl;
}

same_again : (d : ℕ) (a b c : List ℕ) → Same d a b → Same d b c → Same d a c
same_again d a b c p q = record { room = q.room ∙ p.room; before = λ j low. q.before j low ∙ p.before j low }

agrees_still : (n d : ℕ) (a b : List ℕ) → Agrees n d a → Same d a b → Agrees n d b
agrees_still n d a b h s = record { room = s.room ∙ h.room; here = s.before d (omega arith) ∙ h.here }

mutual
  node_passes : (t : Node) (k n d : ℕ) (lengths : List ℕ) (rest : List TokenAt) → IsSound n (d + k) t → Agrees n d lengths
      → Passes k d lengths (listed d t) rest
  node_passes (last i) k n d lengths rest h a = item_passes i k n d lengths rest h a
  node_passes (more i t) k n d lengths rest h a =
      let p = item_passes i k n d lengths (listed d t ++ rest) (all-left (IsSoundPath n (d + k)) (paths_of_item i) (paths t) h) a in
      let q = node_passes t k n d p.after rest (all-right (IsSoundPath n (d + k)) (paths_of_item i) (paths t) h) (agrees_still n d lengths p.after a p.same) in
      record {
        after = q.after;
        same = same_again d lengths p.after q.after p.same q.same;
        walk = ap (λ (z : List TokenAt). all_passed k z lengths) (append_assoc (listed_item d i) (listed d t) rest) ∙ p.walk ∙ q.walk;
      }

  item_passes : (i : Item) (k n d : ℕ) (lengths : List ℕ) (rest : List TokenAt) → AllByRecursion (IsSoundPath n (d + k)) (paths_of_item i) → Agrees n d lengths
      → Passes k d lengths (listed_item d i) rest
  item_passes (attested a) k n d lengths rest h g = record { after = lengths; same = record { room = refl; before = λ j low. refl }; walk = refl }
  item_passes (step o t) k n d lengths rest h g =
      let l = step_leads o t n (d + k) h in
      let room = l.room in
      let deeper = set lengths (d + 1) l.result in
      let sound : IsSound l.result (suc d + k) t = subst (λ (z : ℕ). IsSound l.result z t) (omega arith) (down o n (d + k) l.result l.is (paths t) h) in
      let agrees : Agrees l.result (suc d) deeper = subst (λ (z : ℕ). Agrees l.result z deeper) (add-one d) (stepped n d l.result lengths g (omega arith)) in
      let p = node_passes t k l.result (suc d) deeper rest sound agrees in
      record {
        after = p.after;
        same = step_same d l.result lengths p.after (subst (λ (z : ℕ). Same z deeper p.after) (sym (add-one d)) p.same);
        walk = ap (option_and_then (all_passed k (listed (suc d) t ++ rest))) (passed-op o k d n l.result lengths room l.is g.here) ∙ p.walk;
      }

-- ---- and only there

op_passed : (b : Bool) (x : Option ℕ) (s : ℕ → Shape) (g : Shape → List ℕ) (f : List ℕ → Option (List ℕ)) → IsSome (option_and_then f (option_map g (cond b (option_map s x) None)))
    → (b ≡ true) × (m : ℕ) × (x ≡ Some m) × IsSome (f (g (s m)))
op_passed false x s g f h = absurd cc
op_passed true None s g f h = absurd cc
op_passed true (Some m) s g f h = (refl, m, refl, h)

mutual
  node_sound : (t : Node) (k n d : ℕ) (lengths : List ℕ) (rest : List TokenAt) → d + k ≤ 255 → Agrees n d lengths
      → IsSome (all_passed k (listed d t ++ rest) lengths) → IsSound n (d + k) t
  node_sound (last i) k n d lengths rest low a h = item_sound i k n d lengths rest low a h
  node_sound (more i t) k n d lengths rest low a h =
      let g = subst (λ (z : List TokenAt). IsSome (all_passed k z lengths)) (append_assoc (listed_item d i) (listed d t) rest) h in
      let first = item_sound i k n d lengths (listed d t ++ rest) low a g in
      let p = item_passes i k n d lengths (listed d t ++ rest) first a in
      let others = node_sound t k n d p.after rest low (agrees_still n d lengths p.after a p.same) (subst IsSome p.walk g) in
      all-append (IsSoundPath n (d + k)) (paths_of_item i) (paths t) first others

  item_sound : (i : Item) (k n d : ℕ) (lengths : List ℕ) (rest : List TokenAt) → d + k ≤ 255 → Agrees n d lengths
      → IsSome (all_passed k (listed_item d i ++ rest) lengths) → AllByRecursion (IsSoundPath n (d + k)) (paths_of_item i)
  item_sound (attested a) k n d lengths rest low g h = (record { short = omega arith; has_result = refl }, tt)
  item_sound (step o t) k n d lengths rest low g h =
      let depth : min d (2 ^ 32 - 1) ≡ d = cap-low d (omega arith) in
      let taken = rw (depth, g.here) at h in
      let q = op_passed (ltb (k + d) 255) (len o n) (λ m. record { length = m; depth = (k + d) + 1 }) (λ r. set lengths (d + 1) r.length) (all_passed k (listed (suc d) t ++ rest)) taken in
      let room : k + d < 255 = ltb-true (k + d) 255 q.0 in
      let deeper = set lengths (d + 1) q.1 in
      let agrees : Agrees q.1 (suc d) deeper = subst (λ (z : ℕ). Agrees q.1 z deeper) (add-one d) (stepped n d q.1 lengths g (omega arith)) in
      let sound = node_sound t k q.1 (suc d) deeper rest (omega arith) agrees q.3 in
      up o n (d + k) q.1 q.2 (paths t) (subst (λ (z : ℕ). IsSound q.1 z t) (omega arith) sound)

-- ---- from the root

sound_of_kept : (tokens : List Token) (depths : List ℕ) (k n : ℕ) (lengths : List ℕ) → IsKept tokens depths → k ≤ 255
    → length lengths ≡ 256 → get_or lengths 0 0 ≡ n → IsSome (all_passed k (beside tokens depths) lengths) ↔ IsSoundPre n k tokens
sound_of_kept tokens depths k n lengths h low room here =
    let is : beside tokens depths ≡ listed 0 h.node ++ [] = kept_beside tokens depths h ∙ sym (append-nil (listed 0 h.node)) in
    let agrees : Agrees n 0 lengths = record { room = room; here = here } in
    let none : 0 + k ≡ k = omega arith in (
      λ some.
          let sound = node_sound h.node k n 0 lengths [] (omega arith) agrees (subst (λ (z : List TokenAt). IsSome (all_passed k z lengths)) is some) in
          (h.node, subst (λ (z : ℕ). IsSound n z h.node) none sound, h.tokens_are),
      λ (t, sound, pre_is).
          let one : t ≡ h.node = same_pre t h.node (pre_is ∙ sym h.tokens_are) in
          let p = node_passes h.node k n 0 lengths [] (subst (λ (z : ℕ). IsSound n z h.node) (sym none) (subst (IsSound n k) one sound)) agrees in
          subst (λ (z : List TokenAt). IsSome (all_passed k z lengths)) (sym is) (subst IsSome (sym p.walk) refl),
    )

pub passes_where_sound : (tokens found : List Token) (depths : List ℕ) (k n : ℕ) (lengths : List ℕ) → found ≡ tokens → IsKept tokens depths → k ≤ 255
    → length lengths ≡ 256 → get_or lengths 0 0 ≡ n → IsSome (all_passed k (beside found depths) lengths) ↔ IsSoundPre n k tokens
passes_where_sound tokens found depths k n lengths same h low room here =
    subst (λ (z : List Token). IsSome (all_passed k (beside z depths) lengths) ↔ IsSoundPre n k tokens) (sym same)
    (sound_of_kept tokens depths k n lengths h low room here)

-- ---- at an index

option_some : (x : Option (List ℕ)) (y : List ℕ) → x ≡ Some y → IsSome x
option_some x y e = subst IsSome (sym e) refl

option_none : (x : Option (List ℕ)) → x ≡ None → IsSome x → ⊥
option_none None e h = absurd cc
option_none (Some y) e h = absurd cc

-- a token that does not pass
pub walk_stops : (tokens : List Token) (depths : List ℕ) (k i : ℕ) (x : Token) (lengths : List ℕ) (all : Option (List ℕ))
    → length depths ≡ length tokens → i < length tokens → x ≡ get_or tokens i x
    → passed k x (get_or depths i 0) lengths ≡ None → all_passed k (drop i (beside tokens depths)) lengths ≡ all → IsSome all → ⊥
walk_stops tokens depths k i x lengths all same in_range is stop walk =
    let l : TokenAt = record { token = x; depth = get_or depths i 0 } in
    let rest = drop (i + 1) (beside tokens depths) in
    option_none all (
    sym walk
    ∙ ap (λ (z : List TokenAt). all_passed k z lengths) (beside_at tokens depths i x same in_range is)
    ∙ ap (option_and_then (all_passed k rest)) stop)

-- a token that passes
pub walk_goes : (tokens : List Token) (depths : List ℕ) (k i : ℕ) (x : Token) (lengths next : List ℕ) (all : Option (List ℕ))
    → length depths ≡ length tokens → i < length tokens → x ≡ get_or tokens i x
    → passed k x (get_or depths i 0) lengths ≡ Some next → all_passed k (drop i (beside tokens depths)) lengths ≡ all
    → all_passed k (drop (i + 1) (beside tokens depths)) next ≡ all
walk_goes tokens depths k i x lengths next all same in_range is goes walk =
    let rest = drop (i + 1) (beside tokens depths) in
    sym (
    ap (λ (z : List TokenAt). all_passed k z lengths) (beside_at tokens depths i x same in_range is)
    ∙ ap (option_and_then (all_passed k rest)) goes)
    ∙ walk

-- all tokens have passed
pub walk_ends : (tokens : List Token) (depths : List ℕ) (k i : ℕ) (lengths : List ℕ) (all : Option (List ℕ))
    → length depths ≡ length tokens → length tokens ≤ i → all_passed k (drop i (beside tokens depths)) lengths ≡ all → IsSome all
walk_ends tokens depths k i lengths all same over walk =
    let none : drop i (beside tokens depths) ≡ [] = drop_all i (beside tokens depths) (omega (arith, length-beside tokens depths same)) in
    option_some all lengths (sym walk ∙ ap (λ (z : List TokenAt). all_passed k z lengths) none)

-- below more than 255 operations no tree is sound
pub deep_unsound : (n k : ℕ) (tokens : List Token) → 255 < k → IsSoundPre n k tokens → ⊥
deep_unsound n k tokens deep (t, sound, is) =
    let q = node_path t in
    let short = (subst (AllByRecursion (IsSoundPath n k)) q.are sound).0.short in
    absurd (omega arith)
