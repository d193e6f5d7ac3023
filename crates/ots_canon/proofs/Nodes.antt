-- Nodes among the tokens of trees.
use Rattle.std.proofs.Common.{◌≡◌, ◌↔◌, ℕ, zero, suc, ◌+◌, ◌-◌, ◌<◌, ◌≤◌, List, [], ◌∷◌, ◌++◌, length, get_or, drop, refl, sym, ap, subst, ◌∙◌, inl, inr, arith, append_assoc, length-append, length-drop}
use Rattle.std.specs.Prelude.{slice_get, Some, true, false}
use Rattle.std.proofs.lemmas.Bool.{cases_lt}
use Rattle.std.proofs.lemmas.List.{append-nil, drop-drop, get_or-drop}
use Rattle.std.proofs.lemmas.Option.{slice_get-get_or}
use Rattle.std.proofs.Math.Seq.{drop-append_seam, drop-append-add}
use Rattle.ots_ops.specs.declared.op.Op.{Op}
use Rattle.ots_attest.specs.declared.attestation.Attestation.{Attestation}
use Rattle.ots_tree.specs.declared.token.Token.{Token}
use Rattle.ots_tree.specs.declared.token.Token.TheVariants as token
use Rattle.ots_tree.specs.Wire.{Node, Item, last, more, attested, step, Path, paths, pre, pre_item}
use Rattle.ots_tree.proofs.Determined.{pre-apart}
use Rattle.ots_canon.specs.Order.{Has}
use Rattle.ots_canon.specs.Steps.{step_at, step_of, token_step}
use Rattle.ots_canon.specs.Tags.{is_fork, is_op}
use Rattle.ots_canon.specs.Canonical.{place}
use Rattle.ots_canon.specs.Places.{IsNodeAt, HasNode, IsItem, AreNodes, AreEnds, HasAt, size}

pub one_node : (ts : List Token) (k : ℕ) (t u : Node) → IsNodeAt ts k t → IsNodeAt ts k u → t ≡ u
one_node ts k t u h g = (pre-apart t u h.rest g.rest (sym h.are ∙ g.are)).0

-- ---- what stands after

dropped : (ts xs ys : List Token) (k : ℕ) → drop k ts ≡ xs ++ ys → drop (k + length xs) ts ≡ ys
dropped ts xs ys k e = sym (drop-drop (length xs) k ts) ∙ ap (drop (length xs)) e ∙ drop-append_seam xs ys

pub after_op : (ts : List Token) (k : ℕ) (o : Op) (t : Node) → IsNodeAt ts k (last (step o t)) → IsNodeAt ts (k + 1) t
after_op ts k o t h = record { rest = h.rest; are = dropped ts (token.Op o ∷ []) (pre t ++ h.rest) k h.are }

fork_dropped : (ts : List Token) (k : ℕ) (i : Item) (t : Node) (xs : List Token) → drop k ts ≡ pre (more i t) ++ xs → drop (k + 1) ts ≡ pre_item i ++ (pre t ++ xs)
fork_dropped ts k i t xs e = dropped ts (token.Fork ∷ []) ((pre_item i ++ pre t) ++ xs) k e ∙ append_assoc (pre_item i) (pre t) xs

pub after_fork : (ts : List Token) (k : ℕ) (i : Item) (t : Node) → IsNodeAt ts k (more i t) → IsNodeAt ts (k + 1) (last i)
after_fork ts k i t h = record { rest = pre t ++ h.rest; are = fork_dropped ts k i t h.rest h.are }

pub after_item : (ts : List Token) (k : ℕ) (i : Item) (t : Node) → IsNodeAt ts k (more i t) → IsNodeAt ts (k + 1 + length (pre_item i)) t
after_item ts k i t h = record { rest = h.rest; are = dropped ts (pre_item i) (pre t ++ h.rest) (k + 1) (fork_dropped ts k i t h.rest h.are) }

-- ---- lengths

pub some_token : (t : Node) → 0 < length (pre t)
some_token (last (attested a)) = omega arith
some_token (last (step o t)) = omega arith
some_token (more i t) = omega arith

pub node_within : (ts : List Token) (k : ℕ) (t : Node) → IsNodeAt ts k t → k + length (pre t) ≤ length ts
node_within ts k t h =
    let e = ap length h.are in
    let some = some_token t in
    omega (arith, length-drop k ts, length-append (pre t) h.rest, e)

pub node_in : {ts : List Token} {k : ℕ} → HasNode ts k → k < length ts
node_in {ts} {k} h = let w = node_within ts k h.node h.is_at in let some = some_token h.node in omega arith

pub length_op : (o : Op) (t : Node) → length (pre (last (step o t))) ≡ length (pre t) + 1
length_op o t = omega arith

pub length_more : (i : Item) (t : Node) → length (pre (more i t)) ≡ length (pre_item i) + length (pre t) + 1
length_more i t = omega (arith, length-append (pre_item i) (pre t))

-- ---- the token at a place

abbrev pub head_token : Node → Token
head_token (last (attested a)) = token.Attestation a
head_token (last (step o t)) = token.Op o
head_token (more i t) = token.Fork

head_first : (t : Node) (xs : List Token) (d : Token) → get_or (pre t ++ xs) 0 d ≡ head_token t
head_first (last (attested a)) xs d = refl
head_first (last (step o t)) xs d = refl
head_first (more i t) xs d = refl

pub read_is : (ts : List Token) (k : ℕ) (t : Node) (d : Token) → IsNodeAt ts k t → get_or ts k d ≡ head_token t
read_is ts k t d h =
    let e : k ≡ k + 0 = omega arith in
    ap (λ (z : ℕ). get_or ts z d) e ∙ sym (get_or-drop k ts 0 d) ∙ ap (λ (z : List Token). get_or z 0 d) h.are ∙ head_first t h.rest d

pub token_is : (ts : List Token) (k : ℕ) (t : Node) → IsNodeAt ts k t → slice_get ts k ≡ Some (head_token t)
token_is ts k t h =
    let w = node_within ts k t h in
    let some = some_token t in
    slice_get-get_or ts k token.Fork (omega arith) ∙ ap (λ (z : Token). Some z) (read_is ts k t token.Fork h)

-- that token
pub this_token : {ts : List Token} {k : ℕ} {t : Node} {x : Token} → IsNodeAt ts k t → slice_get ts k ≡ Some x → x ≡ head_token t
this_token {ts} {k} {t} h e = let f = sym e ∙ token_is ts k t h in cc

pub head_item : (i : Item) → token_step (head_token (last i)) ≡ place i
head_item (attested a) = refl
head_item (step o t) = refl

pub step_is : (ts : List Token) (k : ℕ) (i : Item) → IsNodeAt ts k (last i) → step_at ts k ≡ place i
step_is ts k i h = ap step_of (token_is ts k (last i) h) ∙ head_item i

-- a node, by its first token
pub fork_node : {ts : List Token} {k : ℕ} → HasNode ts k → is_fork (slice_get ts k) ≡ true → (i : Item) × (u : Node) × IsNodeAt ts k (more i u)
fork_node {ts} {k} h e = by h.node h.is_at
  where
    by : (t : Node) → IsNodeAt ts k t → (i : Item) × (u : Node) × IsNodeAt ts k (more i u)
    by (last (attested a)) at = absurd (let g = ap is_fork (token_is ts k (last (attested a)) at) in cc)
    by (last (step o t)) at = absurd (let g = ap is_fork (token_is ts k (last (step o t)) at) in cc)
    by (more i t) at = (i, t, at)

pub item_node : {ts : List Token} {k : ℕ} → HasNode ts k → is_fork (slice_get ts k) ≡ false → IsItem ts k
item_node {ts} {k} h e = by h.node h.is_at
  where
    by : (t : Node) → IsNodeAt ts k t → IsItem ts k
    by (last i) at = record { item = i; is_at = at }
    by (more i t) at = absurd (let g = ap is_fork (token_is ts k (more i t) at) in cc)

pub op_item : {ts : List Token} {k : ℕ} → HasNode ts k → is_op (slice_get ts k) ≡ true → (o : Op) × (t : Node) × IsNodeAt ts k (last (step o t))
op_item {ts} {k} h e = by h.node h.is_at
  where
    by : (t : Node) → IsNodeAt ts k t → (o : Op) × (t : Node) × IsNodeAt ts k (last (step o t))
    by (last (attested a)) at = absurd (let g = ap is_op (token_is ts k (last (attested a)) at) in cc)
    by (last (step o t)) at = (o, t, at)
    by (more i t) at = absurd (let g = ap is_op (token_is ts k (more i t) at) in cc)

pub end_item : {ts : List Token} {k : ℕ} → IsItem ts k → is_op (slice_get ts k) ≡ false → (a : Attestation) × IsNodeAt ts k (last (attested a))
end_item {ts} {k} h e = by h.item h.is_at
  where
    by : (i : Item) → IsNodeAt ts k (last i) → (a : Attestation) × IsNodeAt ts k (last (attested a))
    by (attested a) at = (a, at)
    by (step o t) at = absurd (let g = ap is_op (token_is ts k (last (step o t)) at) in cc)

pub end_node : (t : Node) (a : Attestation) → token.Attestation a ≡ head_token t → t ≡ last (attested a)
end_node (last (attested b)) a e = cc
end_node (last (step p t)) a e = absurd cc
end_node (more i t) a e = absurd cc

pub item_has : {ts : List Token} {k : ℕ} → IsItem ts k → HasNode ts k
item_has i = record { node = last i.item; is_at = i.is_at }

-- ---- a node begins at each place

one_more : (x : Token) (ys : List Token) (k : ℕ) → HasNode ys k → HasNode (x ∷ ys) (suc k)
one_more x ys k h = record { node = h.node; is_at = record { rest = h.is_at.rest; are = h.is_at.are } }

pub shifted : (xs ys : List Token) (k : ℕ) → HasNode ys k → HasNode (xs ++ ys) (length xs + k)
shifted xs ys k h = record { node = h.node; is_at = record { rest = h.is_at.rest; are = drop-append-add xs ys k ∙ h.is_at.are } }

-- in prefix, or after
in_either : (xs ys : List Token) (n k : ℕ) → ((j : ℕ) → j < length xs → HasNode (xs ++ ys) j) → ((j : ℕ) → j < n → HasNode ys j)
    → k < length xs + n → HasNode (xs ++ ys) k
in_either xs ys n k f g l = elim (cases_lt k (length xs)) [
  | inl a ↦ f k a
  | inr b ↦ let e : length xs + (k - length xs) ≡ k = omega arith in
      subst (HasNode (xs ++ ys)) e (shifted xs ys (k - length xs) (g (k - length xs) (omega arith)))
]

mutual
  nodes_in : (t : Node) (xs : List Token) (k : ℕ) → k < length (pre t) → HasNode (pre t ++ xs) k
  nodes_in (last i) xs k l = item_in i xs k l
  nodes_in (more i t) xs zero l = record { node = more i t; is_at = record { rest = xs; are = refl } }
  nodes_in (more i t) xs (suc k) l =
      one_more token.Fork ((pre_item i ++ pre t) ++ xs) k
      (subst (λ (z : List Token). HasNode z k) (sym (append_assoc (pre_item i) (pre t) xs))
      (in_either (pre_item i) (pre t ++ xs) (length (pre t)) k (item_in i (pre t ++ xs)) (nodes_in t xs) (omega (arith, length-append (pre_item i) (pre t)))))

  item_in : (i : Item) (xs : List Token) (k : ℕ) → k < length (pre_item i) → HasNode (pre_item i ++ xs) k
  item_in (attested a) xs zero l = record { node = last (attested a); is_at = record { rest = xs; are = refl } }
  item_in (attested a) xs (suc k) l = absurd (omega arith)
  item_in (step o t) xs zero l = record { node = last (step o t); is_at = record { rest = xs; are = refl } }
  item_in (step o t) xs (suc k) l = one_more (token.Op o) (pre t ++ xs) k (nodes_in t xs k (omega arith))

pub nodes_of : (t : Node) → AreNodes (pre t)
nodes_of t = λ k l. subst (λ (z : List Token). HasNode z k) (append-nil (pre t)) (nodes_in t [] k l)

pub nodes_of_both : (t u : Node) → AreNodes (pre t ++ pre u)
nodes_of_both t u = λ k l. in_either (pre t) (pre u) (length (pre u)) k (nodes_in t (pre u)) (nodes_of u) (omega (arith, length-append (pre t) (pre u)))

-- ---- ends

pub end_is : (ts : List Token) (es : List ℕ) (k : ℕ) (t : Node) → AreEnds ts es → IsNodeAt ts k t → get_or es k 0 ≡ k + length (pre t)
end_is ts es k t h g = h.ends k t (omega arith) g

pub size_is : (ts : List Token) (es : List ℕ) (k : ℕ) (t : Node) → AreEnds ts es → IsNodeAt ts k t → size es k ≡ length (pre t)
size_is ts es k t h g = let e = end_is ts es k t h g in omega arith

-- ---- the paths of the node at a place

pub has_here : (ts : List Token) (k : ℕ) (t : Node) → IsNodeAt ts k t → (p : Path) → HasAt ts k p ↔ Has (paths t) p
has_here ts k t g p = (
  (λ h. subst (λ (z : Node). Has (paths z) p) (one_node ts k h.node t h.is_at g) h.has),
  (λ h. record { node = t; is_at = g; has = h }),
)
