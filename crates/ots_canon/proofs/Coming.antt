-- What items that begin alike come to.
use Rattle.std.proofs.Common.{◌≡◌, ◌↔◌, ◌⊎◌, ℕ, zero, suc, ◌+◌, ◌-◌, ◌<◌, ◌≤◌, List, [], ◌∷◌, ◌++◌, map, length, get_or, take, drop, refl, sym, ap, subst, ◌∙◌, inl, inr, arith, append_assoc}
use Rattle.std.specs.Prelude.{Contains, slice_get, Some}
use Rattle.std.specs.List.{AllByRecursion}
use Rattle.std.proofs.lemmas.List.{take_more, length-drop, get_or-drop}
use Rattle.std.proofs.lemmas.Option.{slice_get_within, get_or_from_slice_get}
use Rattle.std.proofs.lemmas.List.Elements.{All-contains, Contains-get_or}
use Rattle.ots_ops.specs.declared.op.Op.{Op}
use Rattle.ots_attest.specs.declared.attestation.Attestation.{Attestation}
use Rattle.ots_attest.specs.Attestation.{IsAttestation}
use Rattle.ots_tree.specs.declared.token.Token.{Token}
use Rattle.ots_tree.specs.declared.token.Token.TheVariants as token
use Rattle.ots_tree.specs.Wire.{Node, Item, last, attested, step, Path, below, paths, paths_of_item, pre, pre_item, IsToken}
use Rattle.ots_canon.specs.Order.{op_step, end_step, Has}
use Rattle.ots_canon.specs.Canonical.{place, IsCanonical, IsCanonicalItem}
use Rattle.ots_canon.specs.Steps.{step_at}
use Rattle.ots_canon.specs.Places.{IsNodeAt, IsItem, AreEnds, Among, HasAmong, HasAfter, AreAfter}
use Rattle.ots_canon.specs.Chains.{shifted, IsChain}
use Rattle.ots_canon.proofs.Orders.{same_op, same_end, op_step-apart}
use Rattle.ots_canon.proofs.Joins.{token_limits}
use Rattle.ots_canon.proofs.Nodes.{head_token, one_node, some_token, node_within, read_is, step_is, has_here}
use Rattle.ots_canon.proofs.Among.{among_none, has_below, is_below, some_has}
use Rattle.ots_canon.proofs.Chains.{IsRun, next_run, shifted_none, shifted_more}

-- what items that begin alike come to: one item, and its tokens
pub record RunComes (ts : List Token) (run : List ℕ) (us : List Token) : Type 0 where
  pub item : Item
  pub canonical : IsCanonicalItem item
  pub same : (p : Path) → HasAmong ts run p ↔ Has (paths_of_item item) p
  pub place_is : step_at ts (get_or run 0 0) ≡ place item
  pub are : pre_item item ≡ us

-- a canonical node with the paths of these items
pub record Makes (ts : List Token) (ks : List ℕ) (t : Node) : Type 0 where
  pub canonical : IsCanonical t
  pub same : (p : Path) → HasAmong ts ks p ↔ Has (paths t) p

-- its tokens, or none where there are no items
abbrev pub AreMade : List Token → List ℕ → List Token → Type 0
AreMade ts ks us = ((v : Node) × Makes ts ks v × (us ≡ pre v)) ⊎ ((ks ≡ []) × (us ≡ []))

-- ---- one step

end_at : (ts : List Token) (k : ℕ) (a : Attestation) → AllByRecursion IsToken ts → IsNodeAt ts k (last (attested a)) → IsAttestation a
end_at ts k a limits h =
    let w = node_within ts k (last (attested a)) h in
    let some = some_token (last (attested a)) in
    subst IsToken (read_is ts k (last (attested a)) token.Fork h) (token_limits ts k token.Fork (omega arith) limits)

-- each is that attestation
all_ends : (ts : List Token) (a : Attestation) (k : ℕ) (i : Item) → AllByRecursion IsToken ts → IsAttestation a → IsNodeAt ts k (last i) → place i ≡ end_step a → IsNodeAt ts k (last (attested a))
all_ends ts a k (attested b) limits ha h e =
    let hb = end_at ts k b limits h in
    subst (λ (z : Attestation). IsNodeAt ts k (last (attested z))) (same_end b a hb ha e) h
all_ends ts a k (step o t) limits ha h e = absurd (op_step-apart o a e)

-- or that operation, with some node after it
record HasOp (ts : List Token) (o : Op) (k : ℕ) : Type 0 where
  node : Node
  is_at : IsNodeAt ts k (last (step o node))

all_ops : (ts : List Token) (o : Op) (k : ℕ) (i : Item) → IsNodeAt ts k (last i) → place i ≡ op_step o → HasOp ts o k
all_ops ts o k (attested b) h e = absurd (op_step-apart o b (sym e))
all_ops ts o k (step u t) h e = record { node = t; is_at = subst (λ (z : Op). IsNodeAt ts k (last (step z t))) (same_op u o e) h }

one_after : {o u : Op} {t v : Node} → last (step o t) ≡ last (step u v) → t ≡ v
one_after e = cc

not_both : {a : Attestation} {o : Op} {t : Node} → last (step o t) ≡ last (attested a) → ⊥
not_both e = cc

-- a run of attestations, after which nothing stands
run_of_ends : {ts : List Token} {run : List ℕ} (a : Attestation) → IsRun ts run → ((j : ℕ) → Contains run j → IsNodeAt ts j (last (attested a))) → RunComes ts run (token.Attestation a ∷ [])
run_of_ends {ts} {run} a r ats =
    let first = Contains-get_or run 0 0 r.some in
    record {
      item = attested a;
      canonical = tt;
      same = λ p. (
        (λ h. (has_here ts h.place (last (attested a)) (ats h.place h.listed) p).0 h.has),
        (λ g. record { place = get_or run 0 0; listed = first; has = (has_here ts (get_or run 0 0) (last (attested a)) (ats (get_or run 0 0) first) p).1 g }),
      );
      place_is = step_is ts (get_or run 0 0) (attested a) (ats (get_or run 0 0) first);
      are = refl;
    }

none_after_ends : {ts : List Token} {run : List ℕ} (a : Attestation) (p : Path) → ((j : ℕ) → Contains run j → IsNodeAt ts j (last (attested a))) → Among (HasAfter ts) run p → ⊥
none_after_ends {ts} a p ats h = not_both (one_node ts h.place (last (step h.has.op h.has.node)) (last (attested a)) h.has.is_at (ats h.place h.listed))

-- a run of operations
run_of_ops : {ts : List Token} {es run after : List ℕ} (o : Op) (v : Node) → IsRun ts run → ((j : ℕ) → Contains run j → HasOp ts o j) → AreAfter ts es run after → Makes ts after v
    → RunComes ts run (token.Op o ∷ pre v)
run_of_ops {ts} {run = run} o v r ats b m = record {
  item = step o v;
  canonical = m.canonical;
  same = λ p. (to p, from p);
  place_is = (let first = ats (get_or run 0 0) (Contains-get_or run 0 0 r.some) in step_is ts (get_or run 0 0) (step o first.node) first.is_at);
  are = refl;
}
  where
    to : (p : Path) → HasAmong ts run p → Has (map (below o) (paths v)) p
    to p h =
        let at = ats h.place h.listed in
        let g = is_below o (paths at.node) p ((has_here ts h.place (last (step o at.node)) at.is_at p).0 h.has) in
        let inner = (b.covers.same g.inner).1 (record { place = h.place; listed = h.listed; has = record { op = o; node = at.node; is_at = at.is_at; has = g.has } }) in
        subst (Has (map (below o) (paths v))) g.is (has_below o (paths v) g.inner ((m.same g.inner).0 inner))

    from : (p : Path) → Has (map (below o) (paths v)) p → HasAmong ts run p
    from p h =
        let g = is_below o (paths v) p h in
        let hb = (b.covers.same g.inner).0 ((m.same g.inner).1 g.has) in
        let at = ats hb.place hb.listed in
        let same = one_after (one_node ts hb.place (last (step hb.has.op hb.has.node)) (last (step o at.node)) hb.has.is_at at.is_at) in
        let has = has_below o (paths at.node) g.inner (subst (λ (z : Node). Has (paths z) g.inner) same hb.has.has) in
        record { place = hb.place; listed = hb.listed; has = (has_here ts hb.place (last (step o at.node)) at.is_at p).1 (subst (Has (map (below o) (paths at.node))) g.is has) }

-- what stands at the first place comes first, and then the tokens of the node with the items after
pub run_comes : {ts prefix : List Token} {es run after : List ℕ} → AllByRecursion IsToken ts → IsRun ts run → AreAfter ts es run after → AreMade ts after prefix
    → RunComes ts run (get_or ts (get_or run 0 0) token.Fork ∷ prefix)
run_comes {ts} {prefix} {es} {run} {after} limits r b made =
    let i = r.items 0 0 r.some in
    subst (λ (z : Token). RunComes ts run (z ∷ prefix)) (sym (read_is ts (get_or run 0 0) (last i.item) token.Fork i.is_at)) (by i.item i.is_at made)
  where
    same_place : (j : ℕ) (i : Item) → Contains run j → IsNodeAt ts (get_or run 0 0) (last i) → (it : IsItem ts j) → place it.item ≡ place i
    same_place j i c h it = sym (step_is ts j it.item it.is_at) ∙ All-contains (λ (k : ℕ). step_at ts k ≡ step_at ts (get_or run 0 0)) run j r.alike c ∙ step_is ts (get_or run 0 0) i h

    ends : (a : Attestation) → IsNodeAt ts (get_or run 0 0) (last (attested a)) → (j : ℕ) → Contains run j → IsNodeAt ts j (last (attested a))
    ends a h j c =
        let it = All-contains (IsItem ts) run j r.items c in
        all_ends ts a j it.item limits (end_at ts (get_or run 0 0) a limits h) it.is_at (same_place j (attested a) c h it)

    by : (i : Item) → IsNodeAt ts (get_or run 0 0) (last i) → AreMade ts after prefix → RunComes ts run (head_token (last i) ∷ prefix)
    by (attested a) h (inl m) = let p = some_has m.0 in absurd (none_after_ends a p.0 (ends a h) ((b.covers.same p.0).0 ((m.1.same p.0).1 p.1)))
    by (attested a) h (inr n) = subst (λ (z : List Token). RunComes ts run (token.Attestation a ∷ z)) (sym n.1) (run_of_ends a r (ends a h))
    by (step o t) h (inl m) =
        subst (λ (z : List Token). RunComes ts run (token.Op o ∷ z)) (sym m.2)
        (run_of_ops o m.0 r (λ j c. let it = All-contains (IsItem ts) run j r.items c in all_ops ts o j it.item it.is_at (same_place j (step o t) c h it)) b m.1)
    by (step o t) h (inr n) =
        let p = some_has t in
        let has : Among (HasAfter ts) run p.0 = record { place = get_or run 0 0; listed = Contains-get_or run 0 0 r.some; has = record { op = o; node = t; is_at = h; has = p.1 } } in
        absurd (among_none (subst (λ (z : List ℕ). HasAmong ts z p.0) n.0 ((b.covers.same p.0).1 has)))

-- ---- many steps

line_first : (ts : List Token) (k d : ℕ) → k < length ts → take (suc d) (drop k ts) ≡ get_or ts k token.Fork ∷ take d (drop (suc k) ts)
line_first [] k d l = absurd (omega arith)
line_first (x ∷ ts) zero d l = refl
line_first (x ∷ ts) (suc k) d l = line_first ts k d (omega arith)

-- one more token of a line is written
pub line_more : (ts first : List Token) (from at : ℕ) {now : List Token} {x : Token} → from ≤ at → slice_get ts at ≡ Some x → now ≡ (first ++ take (at - from) (drop from ts)) ++ x ∷ []
    → now ≡ first ++ take (at + 1 - from) (drop from ts)
line_more ts first from at {now} {x} l e pushed =
    pushed ∙ append_assoc first (take (at - from) (drop from ts)) (x ∷ []) ∙ ap (λ (z : List Token). first ++ z) (sym more)
  where
    more : take (at + 1 - from) (drop from ts) ≡ take (at - from) (drop from ts) ++ x ∷ []
    more =
        let m = slice_get_within ts at x e in
        let next : at + 1 - from ≡ at - from + 1 = omega arith in
        let there : from + (at - from) ≡ at = omega arith in
        let len = length-drop from ts in
        ap (λ (z : ℕ). take z (drop from ts)) next ∙ take_more (drop from ts) (at - from) x (omega arith)
        ∙ ap (λ (z : Token). take (at - from) (drop from ts) ++ z ∷ []) (get_or-drop from ts (at - from) x ∙ ap (λ (z : ℕ). get_or ts z x) there ∙ get_or_from_slice_get ts at x x e)

run_within : {ts : List Token} {run : List ℕ} {d : ℕ} → IsRun ts run → IsChain ts run d → get_or run 0 0 < length ts
run_within r c = let w = (c 0 0 r.some).within.0 in omega arith

-- their tokens come first, and then those of the node after
pub chain_comes : {ts prefix : List Token} {es after : List ℕ} (d : ℕ) (run : List ℕ) → AllByRecursion IsToken ts → AreEnds ts es → IsRun ts run → IsChain ts run d
    → AreAfter ts es (shifted d run) after → AreMade ts after prefix → RunComes ts run (take (suc d) (drop (get_or run 0 0) ts) ++ prefix)
chain_comes {ts} {prefix} {es} {after} zero run limits ends r c b made =
    subst (λ (z : List Token). RunComes ts run (z ++ prefix)) (sym (line_first ts (get_or run 0 0) 0 (run_within r c)))
    (run_comes limits r (subst (λ (z : List ℕ). AreAfter ts es z after) (shifted_none run) b) made)
chain_comes {ts} {prefix} {es} {after} (suc d) run limits ends r c b made =
    let n = next_run ends r c in
    let rest = chain_comes d (shifted 1 run) limits ends n.is_run n.chain (subst (λ (z : List ℕ). AreAfter ts es z after) (shifted_more d run) b) made in
    let e : get_or run 0 0 + 1 ≡ suc (get_or run 0 0) = omega arith in
    subst (λ (z : List Token). RunComes ts run (z ++ prefix)) (ap (λ (z : ℕ). get_or ts (get_or run 0 0) token.Fork ∷ take (suc d) (drop z ts)) (n.first ∙ e) ∙ sym (line_first ts (get_or run 0 0) (suc d) (run_within r c)))
    (run_comes limits r n.are_after (inl (last rest.item, record { canonical = rest.canonical; same = rest.same }, sym rest.are)))
