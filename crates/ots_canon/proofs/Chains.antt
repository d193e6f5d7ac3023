-- Operations that follow alike after several places.
use Rattle.std.proofs.Common.{◌≡◌, ◌↔◌, ℕ, zero, suc, ◌+◌, ◌<◌, ◌≤◌, List, [], ◌∷◌, length, get_or, refl, sym, ap, subst, ◌∙◌, inl, inr, arith}
use Rattle.std.specs.Prelude.{All, slice_get, Option, Some, None, true}
use Rattle.std.proofs.lemmas.Bool.{cases_lt, cases_order}
use Rattle.std.proofs.lemmas.List.{get_or-map, length-map}
use Rattle.std.proofs.lemmas.List.Sums.{sum_by-append}
use Rattle.std.proofs.lemmas.List.Elements.{All-nil, All-push, All-append}
use Rattle.std.proofs.lemmas.Option.{slice_get_past}
use Rattle.ots_tree.specs.declared.token.Token.{Token}
use Rattle.ots_tree.specs.declared.token.Token.TheVariants as token
use Rattle.ots_tree.specs.Wire.{last, step, Path}
use Rattle.ots_canon.specs.Steps.{step_of, step_at}
use Rattle.ots_canon.specs.Tags.{is_op}
use Rattle.ots_canon.specs.Places.{IsItem, AreEnds, HasAt, HasAfter, size, total, AreAfter}
use Rattle.ots_canon.specs.Chains.{shifted, AreAlike, IsChain}
use Rattle.ots_canon.proofs.Nodes.{node_in, item_has, length_op, op_item, size_is}
use Rattle.ots_canon.proofs.Among.{alike, back, onward, both, union, at_one}
use Rattle.ots_canon.proofs.Gathering.{after_none, after_at, after_node, op_here}

-- ---- an operation at a place

op_in : (ts : List Token) (n : ℕ) → is_op (slice_get ts n) ≡ true → n < length ts
op_in ts n e = elim (cases_lt n (length ts)) [ inl l ↦ l | inr g ↦ absurd (let f = ap is_op (slice_get_past ts n g) in cc) ]

op_first : (b : Option Token) → is_op b ≡ true → get_or (step_of b) 0 0 ≡ 1
op_first None e = absurd cc
op_first (Some token.Fork) e = absurd cc
op_first (Some (token.Op o)) e = refl
op_first (Some (token.Attestation a)) e = absurd cc

first_op : (a : Option Token) → get_or (step_of a) 0 0 ≡ 1 → is_op a ≡ true
first_op None e = absurd (omega arith)
first_op (Some token.Fork) e = absurd (omega arith)
first_op (Some (token.Op o)) e = refl
first_op (Some (token.Attestation a)) e = absurd (omega arith)

-- where one stands, an operation stands wherever it is alike
alike_op : (ts : List Token) (n m : ℕ) → step_at ts n ≡ step_at ts m → is_op (slice_get ts m) ≡ true → is_op (slice_get ts n) ≡ true
alike_op ts n m e f = first_op (slice_get ts n) (ap (λ (z : List ℕ). get_or z 0 0) e ∙ op_first (slice_get ts m) f)

-- ---- how far they follow alike

pub further : {ts : List Token} {first k d : ℕ} → is_op (slice_get ts (first + d)) ≡ true → is_op (slice_get ts (first + d + 1)) ≡ true → step_at ts (first + d + 1) ≡ step_at ts (k + d + 1)
    → AreAlike ts first k d → AreAlike ts first k (d + 1)
further {ts} {first} {k} {d} here next same h =
    let f = op_in ts (first + d + 1) next in
    let g = op_in ts (k + d + 1) (alike_op ts (k + d + 1) (first + d + 1) (sym same) next) in
    record {
      within = (omega arith, omega arith);
      ops = λ j l. elim (cases_order j d) [
        | inl e ↦ subst (λ (z : ℕ). (is_op (slice_get ts (first + z)) ≡ true) × (is_op (slice_get ts (first + z + 1)) ≡ true)) (sym e) (here, next)
        | inr other ↦ elim other [ inl a ↦ h.ops j a | inr b ↦ absurd (omega arith) ]
      ];
      same = λ j l. elim (cases_order j (d + 1)) [
        | inl e ↦ subst (λ (z : ℕ). step_at ts (k + z) ≡ step_at ts (first + z)) (sym e) last
        | inr other ↦ elim other [ inl a ↦ h.same j (omega arith) | inr b ↦ absurd (omega arith) ]
      ];
    }
  where
    last : step_at ts (k + (d + 1)) ≡ step_at ts (first + (d + 1))
    last =
        let a : k + (d + 1) ≡ k + d + 1 = omega arith in
        let b : first + d + 1 ≡ first + (d + 1) = omega arith in
        ap (step_at ts) a ∙ sym same ∙ ap (step_at ts) b

-- the same from one step on
stepped : {ts : List Token} {first k d : ℕ} → AreAlike ts first k (suc d) → AreAlike ts (first + 1) (k + 1) d
stepped {ts} {first} {k} {d} h =
    let a = h.within.0 in
    let b = h.within.1 in
    record {
      within = (omega arith, omega arith);
      ops = λ j l.
          let e : first + suc j ≡ first + 1 + j = omega arith in
          subst (λ (z : ℕ). (is_op (slice_get ts z) ≡ true) × (is_op (slice_get ts (z + 1)) ≡ true)) e (h.ops (suc j) (omega arith));
      same = λ j l.
          let e : k + 1 + j ≡ k + suc j = omega arith in
          let f : first + suc j ≡ first + 1 + j = omega arith in
          ap (step_at ts) e ∙ h.same (suc j) (omega arith) ∙ ap (step_at ts) f;
    }

-- ---- one step

-- the node after the item at a place is the item at the next place
pub record IsStep (ts : List Token) (es : List ℕ) (k : ℕ) : Type 0 where
  item : IsItem ts (k + 1)
  same : (p : Path) → HasAfter ts k p ↔ HasAt ts (k + 1) p
  less : size es (k + 1) + 1 ≤ size es k

step_of_alike : {ts : List Token} {es : List ℕ} {first k d : ℕ} → AreEnds ts es → IsItem ts k → AreAlike ts first k (suc d) → IsStep ts es k
step_of_alike {ts} {es} {first} {k} {d} ends i h =
    let ops = h.ops 0 (omega arith) in
    let e0 : k + 0 ≡ k = omega arith in
    let here : is_op (slice_get ts k) ≡ true = subst (λ (z : ℕ). is_op (slice_get ts z) ≡ true) e0 (alike_op ts (k + 0) (first + 0) (h.same 0 (omega arith)) ops.0) in
    let e1 : first + 0 + 1 ≡ first + 1 = omega arith in
    let next : is_op (slice_get ts (k + 1)) ≡ true = alike_op ts (k + 1) (first + 1) (h.same 1 (omega arith)) (subst (λ (z : ℕ). is_op (slice_get ts z) ≡ true) e1 ops.1) in
    let at = op_here {es = es} i ends here in
    let item = op_item (after_node at) next in
    let size_one = size_is ts es (k + 1) at.node ends at.after in
    let size_all = size_is ts es k (last (step at.op at.node)) ends at.is_at in
    let all = length_op at.op at.node in
    record { item = record { item = step item.0 item.1; is_at = item.2 }; same = λ p. after_at at p; less = omega arith }

tail_all : (P : ℕ → Type 0) {k : ℕ} (ks : List ℕ) → All P (k ∷ ks) → All P ks
tail_all P ks h = λ j d l. h (suc j) d (omega arith)

items_next : {ts : List Token} {es : List ℕ} (ks : List ℕ) → All (IsStep ts es) ks → All (IsItem ts) (shifted 1 ks)
items_next {ts} [] h = All-nil (IsItem ts)
items_next {ts} {es} (k ∷ ks) h =
    All-append (IsItem ts) ((k + 1) ∷ []) (shifted 1 ks) (All-push (IsItem ts) [] (k + 1) (All-nil (IsItem ts)) (h 0 0 (omega arith)).item) (items_next ks (tail_all (IsStep ts es) ks h))

pub step_after : {ts : List Token} {es : List ℕ} (ks : List ℕ) → All (IsStep ts es) ks → AreAfter ts es ks (shifted 1 ks)
step_after {ts} {es} [] h = after_none ts es
step_after {ts} {es} (k ∷ ks) h =
    let s = h 0 0 (omega arith) in
    let rest = step_after ks (tail_all (IsStep ts es) ks h) in
    let less = s.less in
    let few = rest.few in
    let sum_all = sum_by-append (size es) (k ∷ []) ks in
    let sum_next = sum_by-append (size es) ((k + 1) ∷ []) (shifted 1 ks) in
    record {
      covers = record {
        items = items_next (k ∷ ks) h;
        same = λ p. onward (union (HasAt ts) ((k + 1) ∷ []) (shifted 1 ks) p) (onward (both (onward (at_one (HasAt ts) (k + 1) p) (back (s.same p))) (rest.covers.same p))
            (back (onward (union (HasAfter ts) (k ∷ []) ks p) (both (at_one (HasAfter ts) k p) alike))));
      };
      few = omega arith;
    }

-- ---- many steps

pub shifted_none : (ks : List ℕ) → shifted 0 ks ≡ ks
shifted_none [] = refl
shifted_none (k ∷ ks) = let e : k + 0 ≡ k = omega arith in λ i. e i ∷ shifted_none ks i

pub shifted_more : (d : ℕ) (ks : List ℕ) → shifted (suc d) ks ≡ shifted d (shifted 1 ks)
shifted_more d [] = refl
shifted_more d (k ∷ ks) = let e : k + suc d ≡ k + 1 + d = omega arith in λ i. e i ∷ shifted_more d ks i

first_shifted : (run : List ℕ) → 0 < length run → get_or (shifted 1 run) 0 0 ≡ get_or run 0 0 + 1
first_shifted [] l = absurd (omega arith)
first_shifted (k ∷ ks) l = refl

-- some items that begin alike
pub record IsRun (ts : List Token) (run : List ℕ) : Type 0 where
  pub some : 0 < length run
  pub items : All (IsItem ts) run
  pub alike : All (λ (k : ℕ). step_at ts k ≡ step_at ts (get_or run 0 0)) run

pub run_chain : {ts : List Token} {run : List ℕ} → IsRun ts run → IsChain ts run 0
run_chain {ts} {run} r k e l =
    let a = node_in (item_has (r.items k e l)) in
    let b = node_in (item_has (r.items 0 0 r.some)) in
    record {
      within = (omega arith, omega arith);
      ops = λ j m. absurd (omega arith);
      same = λ j m.
          let none : 0 ≡ j = omega arith in
          let e0 : get_or run k e + 0 ≡ get_or run k e = omega arith in
          let e1 : get_or run 0 0 ≡ get_or run 0 0 + 0 = omega arith in
          subst (λ (z : ℕ). step_at ts (get_or run k e + z) ≡ step_at ts (get_or run 0 0 + z)) none (ap (step_at ts) e0 ∙ r.alike k e l ∙ ap (step_at ts) e1);
    }

-- and those one step on, where more steps follow alike
pub record IsNext (ts : List Token) (es run : List ℕ) (d : ℕ) : Type 0 where
  pub first : get_or (shifted 1 run) 0 0 ≡ get_or run 0 0 + 1
  pub is_run : IsRun ts (shifted 1 run)
  pub chain : IsChain ts (shifted 1 run) d
  pub are_after : AreAfter ts es run (shifted 1 run)

pub next_run : {ts : List Token} {es : List ℕ} {run : List ℕ} {d : ℕ} → AreEnds ts es → IsRun ts run → IsChain ts run (suc d) → IsNext ts es run d
next_run {ts} {es} {run} {d} ends r c =
    let len = length-map run (λ (k : ℕ). k + 1) in
    let some = r.some in
    let first = first_shifted run r.some in
    let steps : All (IsStep ts es) run = (λ k e l. step_of_alike ends (r.items k e l) (c k e l)) in
    record {
      first = first;
      is_run = record {
        some = omega arith;
        items = items_next run steps;
        alike = λ k e l.
            let m : k < length run = omega arith in
            ap (step_at ts) (get_or-map (λ (k : ℕ). k + 1) run k 0 e m) ∙ (c k 0 m).same 1 (omega arith) ∙ sym (ap (step_at ts) first);
      };
      chain = λ k e l.
          let m : k < length run = omega arith in
          subst (λ (z : ℕ). AreAlike ts z (get_or (shifted 1 run) k e) d) (sym first)
          (subst (λ (z : ℕ). AreAlike ts (get_or run 0 0 + 1) z d) (sym (get_or-map (λ (k : ℕ). k + 1) run k 0 e m)) (stepped (c k 0 m)));
      are_after = step_after run steps;
    }

pub chain_items : {ts : List Token} {es : List ℕ} (d : ℕ) (run : List ℕ) → AreEnds ts es → IsRun ts run → IsChain ts run d → All (IsItem ts) (shifted d run)
chain_items {ts} zero run ends r c = subst (All (IsItem ts)) (sym (shifted_none run)) r.items
chain_items {ts} (suc d) run ends r c = let n = next_run ends r c in subst (All (IsItem ts)) (sym (shifted_more d run)) (chain_items d (shifted 1 run) ends n.is_run n.chain)

-- what stands after so many steps has no more tokens
pub chain_few : {ts : List Token} {es : List ℕ} (d : ℕ) (run : List ℕ) → AreEnds ts es → IsRun ts run → IsChain ts run d → total es (shifted d run) ≤ total es run
chain_few {es = es} zero run ends r c = let e = ap (total es) (shifted_none run) in omega arith
chain_few {es = es} (suc d) run ends r c =
    let n = next_run ends r c in
    let e = ap (total es) (shifted_more d run) in
    let rest = chain_few d (shifted 1 run) ends n.is_run n.chain in
    let few = n.are_after.few in
    omega arith
