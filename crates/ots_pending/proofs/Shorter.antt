-- A canonical tree each of whose paths another canonical tree has is spelled in no more bytes.
use Rattle.std.proofs.Common.{◌≡◌, ℕ, ◌+◌, ◌≤◌, inl, inr, List, [], ◌∷◌, length, refl, sym, ap, subst, ◌∙◌, arith, length-append}
use Rattle.std.specs.Prelude.{◌⊎◌}
use Rattle.std.specs.declared.cmp.Ordering.{Ordering}
use Rattle.std.specs.declared.cmp.Ordering.TheVariants.{Less, Equal, Greater}
use Rattle.std.proofs.lemmas.Cmp.{tied_itself}
use Rattle.std.proofs.lemmas.List.Concat.{flat_map-append}
use Rattle.ots_ops.specs.declared.op.Op.{Op}
use Rattle.ots_ops.specs.Operation.{spell as spell_op}
use Rattle.ots_attest.specs.declared.attestation.Attestation.{Attestation}
use Rattle.ots_tree.specs.declared.token.Token.{Token}
use Rattle.ots_tree.specs.Wire.{Node, Item, last, more, attested, step, Path, below, paths, paths_of_item, pre, pre_item, spell, spelled, bytes}
use Rattle.ots_canon.specs.Order.{op_step, end_step, step_cmp, Has}
use Rattle.ots_canon.specs.Canonical.{place, first, IsCanonical, IsCanonicalItem, IsCanonTree}
use Rattle.ots_canon.proofs.Orders.{step_total, same_step}
use Rattle.ots_canon.proofs.Among.{has_append, has_below, is_below, some_has}

-- each path of one list is in another
abbrev pub AreIn : List Path → List Path → Type 0
AreIn ps qs = (p : Path) → Has ps p → Has qs p

-- ---- the first steps of paths

abbrev begins_with : List Op → Attestation → List ℕ
begins_with [] a = end_step a
begins_with (o ∷ ops) a = op_step o

abbrev first_step : Path → List ℕ
first_step p = begins_with p.ops p.end

item_first : (i : Item) (p : Path) → Has (paths_of_item i) p → first_step p ≡ place i
item_first (attested a) p (inl e) = ap first_step (sym e)
item_first (attested a) p (inr none) = absurd none
item_first (step o t) p h = let b = is_below o (paths t) p h in ap first_step (sym b.is)

not_before_itself : (x : List ℕ) → step_cmp x x ≡ Less → ⊥
not_before_itself x e = let tie = tied_itself step_total x in absurd cc

-- all that follow an item begin with a later step
later : (x : List ℕ) (t : Node) → IsCanonical t → step_cmp x (place (first t)) ≡ Less → (p : Path) → Has (paths t) p → step_cmp x (first_step p) ≡ Less
later x (last i) c e p h = subst (λ (z : List ℕ). step_cmp x z ≡ Less) (sym (item_first i p h)) e
later x (more i t) c e p h = elim ((has_append (paths_of_item i) (paths t) p).1 h) [
  | inl one ↦ subst (λ (z : List ℕ). step_cmp x z ≡ Less) (sym (item_first i p one)) e
  | inr other ↦ later x t c.2 (step_total.trans x (place i) (place (first t)) e c.1) p other
]

-- no path of an item is among those that follow it
not_after : (i : Item) (t : Node) (p : Path) → IsCanonical (more i t) → first_step p ≡ place i → Has (paths t) p → ⊥
not_after i t p c same h = not_before_itself (place i) (subst (λ (z : List ℕ). step_cmp (place i) z ≡ Less) same (later (place i) t c.2 c.1 p h))

some_or_not : (x y : List ℕ) → (x ≡ y) ⊎ (x ≡ y → ⊥)
some_or_not x y = by (step_cmp x y) refl
  where
    by : (o : Ordering) → step_cmp x y ≡ o → (x ≡ y) ⊎ (x ≡ y → ⊥)
    by Less e = inr (λ same. not_before_itself x (ap (step_cmp x) same ∙ e))
    by Equal e = inl (same_step x y e)
    by Greater e = inr (λ same. let tie = ap (step_cmp x) (sym same) ∙ tied_itself step_total x in absurd cc)

-- ---- what is left without an item

-- Items that begin alike: the paths of the one are among those of the other.
matched : (i j : Item) (u : Node) → IsCanonical (more j u) → place i ≡ place j → AreIn (paths_of_item i) (paths (more j u)) → AreIn (paths_of_item i) (paths_of_item j)
matched i j u c same h p has = elim ((has_append (paths_of_item j) (paths u) p).1 (h p has)) [
  | inl one ↦ one
  | inr other ↦ absurd (not_after j u p c (item_first i p has ∙ same) other)
]

-- and those of the items after the one among those after the other
unmatched : (i j : Item) (t u : Node) → IsCanonical (more i t) → place i ≡ place j → AreIn (paths t) (paths (more j u)) → AreIn (paths t) (paths u)
unmatched i j t u c same h p has = elim ((has_append (paths_of_item j) (paths u) p).1 (h p has)) [
  | inl one ↦ absurd (not_after i t p c (item_first j p one ∙ sym same) has)
  | inr other ↦ other
]

-- the paths of an item that begins otherwise
of_other : (i j : Item) (u : Node) → (place i ≡ place j → ⊥) → AreIn (paths_of_item i) (paths (more j u)) → AreIn (paths_of_item i) (paths u)
of_other i j u apart h p has = elim ((has_append (paths_of_item j) (paths u) p).1 (h p has)) [
  | inl one ↦ absurd (apart (sym (item_first i p has) ∙ item_first j p one))
  | inr other ↦ other
]

-- and of those after it
of_others : (i j : Item) (t u : Node) → IsCanonical (more i t) → IsCanonical (more j u) → (place i ≡ place j → ⊥) → AreIn (paths (more i t)) (paths (more j u))
    → AreIn (paths (more i t)) (paths u)
of_others i j t u c d apart h p has = elim ((has_append (paths_of_item i) (paths t) p).1 has) [
  | inl one ↦ of_other i j u apart (λ q in_i. h q ((has_append (paths_of_item i) (paths t) q).0 (inl in_i))) p one
  | inr other ↦ elim ((has_append (paths_of_item j) (paths u) p).1 (h p has)) [
    | inl in_j ↦ absurd (
        let some = some_has (last i) in
        let in_u = of_other i j u apart (λ q in_i. h q ((has_append (paths_of_item i) (paths t) q).0 (inl in_i))) some.0 some.1 in
        let after_j : step_cmp (place j) (place i) ≡ Less = subst (λ (z : List ℕ). step_cmp (place j) z ≡ Less) (item_first i some.0 some.1) (later (place j) u d.2 d.1 some.0 in_u) in
        let after_i : step_cmp (place i) (place j) ≡ Less = subst (λ (z : List ℕ). step_cmp (place i) z ≡ Less) (item_first j p in_j) (later (place i) t c.2 c.1 p other) in
        not_before_itself (place i) (step_total.trans (place i) (place j) (place i) after_i after_j))
    | inr in_u ↦ in_u
  ]
]

-- no item alone has the paths of two
not_alone : (i j : Item) (t : Node) → IsCanonical (more i t) → AreIn (paths (more i t)) (paths_of_item j) → ⊥
not_alone i j t c h =
    let one = some_has (last i) in
    let other = some_has t in
    let in_one = h one.0 ((has_append (paths_of_item i) (paths t) one.0).0 (inl one.1)) in
    let in_other = h other.0 ((has_append (paths_of_item i) (paths t) other.0).0 (inr other.1)) in
    not_after i t other.0 c (item_first j other.0 in_other ∙ sym (item_first j one.0 in_one) ∙ item_first i one.0 one.1) other.1

-- ---- below an operation

inner_of : {o q : Op} {p r : Path} → below o p ≡ below q r → p ≡ r
inner_of {o} {q} {p} {r} e = λ i. record { ops = tails (e i).ops; end = (e i).end }
  where
    tails : List Op → List Op
    tails [] = []
    tails (x ∷ xs) = xs

step_in : (o q : Op) (t u : Node) → AreIn (paths_of_item (step o t)) (paths_of_item (step q u)) → AreIn (paths t) (paths u)
step_in o q t u h p has =
    let b = is_below q (paths u) (below o p) (h (below o p) (has_below o (paths t) p has)) in
    subst (Has (paths u)) (inner_of b.is) b.has

head_op : {o q : Op} {ops rest : List Op} {a b : Attestation} → (let p : Path = record { ops = o ∷ ops; end = a } in p) ≡ record { ops = q ∷ rest; end = b } → o ≡ q
head_op {o} e = ap (λ (z : Path). heads z.ops) e
  where
    heads : List Op → Op
    heads [] = o
    heads (x ∷ xs) = x

-- ---- lengths

pub length_more : (i : Item) (t : Node) → length (bytes (more i t)) ≡ 1 + length (spelled (pre_item i)) + length (bytes t)
length_more i t = let e = ap length (flat_map-append spell (pre_item i) (pre t)) in omega (arith, length-append (spelled (pre_item i)) (bytes t), e)

pub length_step : (o : Op) (t : Node) → length (spelled (pre_item (step o t))) ≡ length (spell_op o) + length (bytes t)
length_step o t = length-append (spell_op o) (bytes t)

ends_alike : (a b : Attestation) → AreIn (paths_of_item (attested a)) (paths_of_item (attested b)) → b ≡ a
ends_alike a b h = by (h (record { ops = []; end = a }) (inl refl))
  where
    by : Has (paths_of_item (attested b)) (record { ops = []; end = a }) → b ≡ a
    by (inl e) = ap (λ (z : Path). z.end) e
    by (inr none) = absurd none

no_step : (a : Attestation) (q : Op) (u : Node) → AreIn (paths_of_item (attested a)) (paths_of_item (step q u)) → ⊥
no_step a q u h =
    let b = is_below q (paths u) (record { ops = []; end = a }) (h (record { ops = []; end = a }) (inl refl)) in
    let e = ap (λ (z : Path). length z.ops) b.is in
    absurd (omega arith)

no_end : (o : Op) (t : Node) (b : Attestation) → AreIn (paths_of_item (step o t)) (paths_of_item (attested b)) → ⊥
no_end o t b h = let some = some_has t in by some.0 (h (below o some.0) (has_below o (paths t) some.0 some.1))
  where
    by : (p : Path) → Has (paths_of_item (attested b)) (below o p) → ⊥
    by p (inl e) = let n = ap (λ (z : Path). length z.ops) e in absurd (omega arith)
    by p (inr none) = absurd none

one_op : (o q : Op) (t u : Node) → AreIn (paths_of_item (step o t)) (paths_of_item (step q u)) → o ≡ q
one_op o q t u h =
    let some = some_has t in
    let b = is_below q (paths u) (below o some.0) (h (below o some.0) (has_below o (paths t) some.0 some.1)) in
    sym (head_op b.is)

mutual
  pub shorter_node : (t u : Node) → IsCanonical t → IsCanonical u → AreIn (paths t) (paths u) → length (bytes t) ≤ length (bytes u)
  shorter_node (last i) (last j) c d h = shorter_item i j c d h
  shorter_node (more i t) (last j) c d h = absurd (not_alone i j t c h)
  shorter_node (last i) (more j u) c d h = elim (some_or_not (place i) (place j)) [
    | inl same ↦ (let one = shorter_item i j c d.0 (matched i j u d same h) in omega (arith, length_more j u))
    | inr apart ↦ (let one = shorter_node (last i) u c d.2 (of_other i j u apart h) in omega (arith, length_more j u))
  ]
  shorter_node (more i t) (more j u) c d h = elim (some_or_not (place i) (place j)) [
    | inl same ↦ (
        let one = shorter_item i j c.0 d.0 (matched i j u d same (λ p has. h p ((has_append (paths_of_item i) (paths t) p).0 (inl has)))) in
        let others = shorter_node t u c.2 d.2 (unmatched i j t u c same (λ p has. h p ((has_append (paths_of_item i) (paths t) p).0 (inr has)))) in
        omega (arith, length_more i t, length_more j u)
        )
    | inr apart ↦ (let all = shorter_node (more i t) u c d.2 (of_others i j t u c d apart h) in omega (arith, length_more j u))
  ]

  shorter_item : (i j : Item) → IsCanonicalItem i → IsCanonicalItem j → AreIn (paths_of_item i) (paths_of_item j) → length (spelled (pre_item i)) ≤ length (spelled (pre_item j))
  shorter_item (attested a) (attested b) c d h = let e = ap (λ (z : Attestation). length (spelled (pre_item (attested z)))) (ends_alike a b h) in omega arith
  shorter_item (attested a) (step q u) c d h = absurd (no_step a q u h)
  shorter_item (step o t) (attested b) c d h = absurd (no_end o t b h)
  shorter_item (step o t) (step q u) c d h =
      let inner = shorter_node t u c d (step_in o q t u h) in
      let e = ap (λ (z : Op). length (spell_op z)) (one_op o q t u h) in
      omega (arith, length_step o t, length_step q u)

pub shorter : (ps qs : List Path) (ts us : List Token) → IsCanonTree ps ts → IsCanonTree qs us → AreIn ps qs → length (spelled ts) ≤ length (spelled us)
shorter ps qs ts us f g h =
    let within : AreIn (paths f.node) (paths g.node) =
    (λ p has. subst (λ (z : List Path). Has z p) (sym g.is_tree.same)
    ((g.is_canon.same p).0 (h p ((f.is_canon.same p).1 (subst (λ (z : List Path). Has z p) f.is_tree.same has))))) in
    let e = ap (λ (z : List Token). length (spelled z)) f.are in
    let n = ap (λ (z : List Token). length (spelled z)) g.are in
    let less = shorter_node f.node g.node f.is_tree.canonical g.is_tree.canonical within in
    omega arith
