-- Tokens close every node that they open exactly where they are those of a sound tree.
use Rattle.std.proofs.Common.{◌≡◌, ℕ, ◌+◌, ◌<◌, ◌≤◌, Bool, true, false, cond, ltb, List, [], ◌∷◌, ◌++◌, map, length, Option, Some, None, refl, sym, ap, subst, arith}
use Rattle.std.specs.Prelude.{IsSome, option_and_then, option_map, ◌↔◌}
use Rattle.std.specs.List.{AllByRecursion}
use Rattle.std.proofs.lemmas.Bool.{lt-ltb, ltb-true}
use Rattle.ots_ops.specs.declared.op.Op.{Op}
use Rattle.ots_ops.specs.ResultLength.{len}
use Rattle.ots_tree.specs.declared.token.Token.{Token}
use Rattle.ots_tree.specs.Wire.{Node, Item, last, more, attested, step, Path, paths, paths_of_item, below}
use Rattle.ots_tree.specs.Sound.{length_after, IsSoundPath, IsSound, IsSoundPre}
use Rattle.ots_tree.specs.declared.shape.Shape.{Shape}
use Rattle.ots_tree.specs.Walk as walk
use Rattle.ots_tree.specs.Front.{Open, shape_after, start, opened, IsClosed}
use Rattle.ots_tree.specs.OpenDepths.{one_more}
use Rattle.ots_tree.proofs.Walks.{Goes, GoesAlong, closed_law, Counts, open_falls, falls_room, map_open, IsMappedWhere, opened_along}

-- ---- all of a list

pub all-append : {A : Type 0} (P : A → Type 0) (xs ys : List A) → AllByRecursion P xs → AllByRecursion P ys → AllByRecursion P (xs ++ ys)
all-append P [] ys h k = k
all-append P (x ∷ xs) ys h k = (h.0, all-append P xs ys h.1 k)

pub all-left : {A : Type 0} (P : A → Type 0) (xs ys : List A) → AllByRecursion P (xs ++ ys) → AllByRecursion P xs
all-left P [] ys h = tt
all-left P (x ∷ xs) ys h = (h.0, all-left P xs ys h.1)

pub all-right : {A : Type 0} (P : A → Type 0) (xs ys : List A) → AllByRecursion P (xs ++ ys) → AllByRecursion P ys
all-right P [] ys h = h
all-right P (x ∷ xs) ys h = all-right P xs ys h.1

-- ---- a path below an operation

has_value : (x : Option ℕ) (f : ℕ → Option ℕ) → IsSome (option_and_then f x) → (m : ℕ) × (x ≡ Some m)
has_value None f h = absurd cc
has_value (Some m) f h = (m, refl)

pub down : (o : Op) (n k m : ℕ) → len o n ≡ Some m → (qs : List Path) → AllByRecursion (IsSoundPath n k) (map (below o) qs) → AllByRecursion (IsSoundPath m (k + 1)) qs
down o n k m e [] h = tt
down o n k m e (q ∷ qs) h =
    (record { short = let short = h.0.short in omega arith; has_result = subst (λ (x : Option ℕ). IsSome (option_and_then (length_after q.ops) x)) e h.0.has_result }, down o n k m e qs h.1)

pub up : (o : Op) (n k m : ℕ) → len o n ≡ Some m → (qs : List Path) → AllByRecursion (IsSoundPath m (k + 1)) qs → AllByRecursion (IsSoundPath n k) (map (below o) qs)
up o n k m e [] h = tt
up o n k m e (q ∷ qs) h =
    (record { short = let short = h.0.short in omega arith; has_result = subst (λ (x : Option ℕ). IsSome (option_and_then (length_after q.ops) x)) (sym e) h.0.has_result }, up o n k m e qs h.1)

-- what a sound path below an operation says of the operation
pub record Leads (o : Op) (n k : ℕ) : Type 0 where
  pub room : k < 255
  pub result : ℕ
  pub is : len o n ≡ Some result

leads : (o : Op) (n k : ℕ) (q : Path) → IsSoundPath n k (below o q) → Leads o n k
leads o n k q h =
    let v = has_value (len o n) (length_after q.ops) h.has_result in
    let short = h.short in
    record { room = omega arith; result = v.0; is = v.1 }

-- every node has a path
pub record HasPath (ps : List Path) : Type 0 where
  pub first : Path
  pub others : List Path
  pub are : ps ≡ first ∷ others

mutual
  pub node_path : (t : Node) → HasPath (paths t)
  node_path (last i) = item_path i
  node_path (more i t) = let h = item_path i in record { first = h.first; others = h.others ++ paths t; are = ap (λ (z : List Path). z ++ paths t) h.are }

  item_path : (i : Item) → HasPath (paths_of_item i)
  item_path (attested a) = record { first = record { ops = []; end = a }; others = []; are = refl }
  item_path (step o t) = let h = node_path t in record { first = below o h.first; others = map (below o) h.others; are = ap (λ (z : List Path). map (below o) z) h.are }

pub step_leads : (o : Op) (t : Node) (n k : ℕ) → AllByRecursion (IsSoundPath n k) (map (below o) (paths t)) → Leads o n k
step_leads o t n k h =
    let q = node_path t in
    leads o n k q.first (subst (λ (z : List Path). AllByRecursion (IsSoundPath n k) (map (below o) z)) q.are h).0

-- ---- the walk goes along the trees that are sound

abbrev pub at : ℕ → ℕ → Shape
at n k = record { length = n; depth = k }

shape-op : (o : Op) (n k m : ℕ) → k < 255 → len o n ≡ Some m → shape_after o (at n k) ≡ Some (at m (k + 1))
shape-op o n k m room e = rw (lt-ltb k 255 room, e) refl

mutual
  sound_goes : (t : Node) (n k : ℕ) → IsSound n k t → Goes shape_after (at n k) t
  sound_goes (last i) n k h = sound_along i n k h
  sound_goes (more i t) n k h =
      (sound_along i n k (all-left (IsSoundPath n k) (paths_of_item i) (paths t) h), sound_goes t n k (all-right (IsSoundPath n k) (paths_of_item i) (paths t) h))

  sound_along : (i : Item) (n k : ℕ) → AllByRecursion (IsSoundPath n k) (paths_of_item i) → GoesAlong shape_after (at n k) i
  sound_along (attested a) n k h = tt
  sound_along (step o t) n k h =
      let l = step_leads o t n k h in
      (at l.result (k + 1), shape-op o n k l.result l.room l.is, sound_goes t l.result (k + 1) (down o n k l.result l.is (paths t) h))

-- an operation that has a result
pub record HasShape (o : Op) (n k : ℕ) (r : Shape) : Type 0 where
  pub room : k < 255
  pub result : ℕ
  pub is : len o n ≡ Some result
  pub shape : r ≡ at result (k + 1)

has_shape : (o : Op) (n k : ℕ) (b : Bool) (x : Option ℕ) (r : Shape) → ltb k 255 ≡ b → len o n ≡ x → cond b (option_map (λ m. at m (k + 1)) x) None ≡ Some r → HasShape o n k r
has_shape o n k false x r low is e = absurd cc
has_shape o n k true None r low is e = absurd cc
has_shape o n k true (Some m) r low is e = record { room = ltb-true k 255 low; result = m; is = is; shape = cc }

pub shape_of : (o : Op) (p r : Shape) → shape_after o p ≡ Some r → HasShape o p.length p.depth r
shape_of o p r e = has_shape o p.length p.depth (ltb p.depth 255) (len o p.length) r refl refl e

mutual
  goes_sound : (t : Node) (n k : ℕ) → k ≤ 255 → Goes shape_after (at n k) t → IsSound n k t
  goes_sound (last i) n k deep h = along_sound i n k deep h
  goes_sound (more i t) n k deep h = all-append (IsSoundPath n k) (paths_of_item i) (paths t) (along_sound i n k deep h.0) (goes_sound t n k deep h.1)

  along_sound : (i : Item) (n k : ℕ) → k ≤ 255 → GoesAlong shape_after (at n k) i → AllByRecursion (IsSoundPath n k) (paths_of_item i)
  along_sound (attested a) n k deep h = (record { short = omega arith; has_result = refl }, tt)
  along_sound (step o t) n k deep h =
      let s = shape_of o (at n k) h.0 h.1 in
      let room = s.room in
      up o n k s.result s.is (paths t) (goes_sound t s.result (k + 1) (omega arith) (subst (λ (z : Shape). Goes shape_after z t) s.shape h.2))

pub front_law : (n k : ℕ) (ts : List Token) → k ≤ 255 → IsClosed (opened (start n k) ts) ↔ IsSoundPre n k ts
front_law n k ts deep =
    let law = closed_law shape_after (at n k) ts in
    (λ h. let c = law.0 h in (c.0, goes_sound c.0 n k deep c.1, c.2), λ (t, sound, is). law.1 (t, sound_goes t n k sound, is))

-- ---- how many nodes are open

abbrev depth : Shape → ℕ
depth p = p.depth

counts : Counts shape_after depth
counts o s r e = let h = shape_of o s r e in let room = h.room in (ap depth h.shape, omega (arith, ap depth h.shape))

pub front_room : (n k : ℕ) (ts : List Token) (s : Open) → k ≤ 255 → opened (start n k) ts ≡ Some s → length s.nodes + k ≤ 257
front_room n k ts s low e = falls_room depth k s.nodes s.forked low (open_falls shape_after depth k counts ts (at n k) s (omega arith) low e)

-- a walk that counts goes on wherever that of the lengths does
one_deeper : IsMappedWhere depth shape_after one_more
one_deeper o s r e = let h = counts o s r e in let low = h.1 in ap Some (omega (arith, h.0))

pub prefix_depths : (n k : ℕ) (ts : List Token) (s : Open) → opened (start n k) ts ≡ Some s → walk.opened one_more (walk.begun k) ts ≡ Some (map_open depth s)
prefix_depths n k ts s e = opened_along depth shape_after one_more one_deeper ts (start n k) s e
