-- Gathering the items of nodes.
use Rattle.std.proofs.Common.{◌≡◌, ◌↔◌, ◌⊎◌, ℕ, ◌+◌, ◌<◌, ◌≤◌, List, [], ◌∷◌, ◌++◌, length, get_or, take, sym, ap, subst, ◌∙◌, inl, inr, arith, append_assoc, length-append}
use Rattle.std.specs.Prelude.{All, slice_get, true, false}
use Rattle.std.proofs.lemmas.List.{append-nil, take_more, take_all}
use Rattle.std.proofs.lemmas.List.Elements.{All-nil, All-push, All-append, Contains-get_or}
use Rattle.std.proofs.lemmas.List.Sums.{sum_by-append, sum_by_push}
use Rattle.ots_tree.specs.declared.token.Token.{Token}
use Rattle.ots_tree.specs.Wire.{last, more, step, Path, paths, paths_of_item, pre_item}
use Rattle.ots_canon.specs.Tags.{is_fork, is_op}
use Rattle.ots_canon.specs.Places.{IsNodeAt, HasNode, IsItem, AreEnds, HasAt, HasAmong, HasAfter, Covers, size, total, Gathers, GathersAfter, AreAfter, IsFormOf}
use Rattle.ots_canon.proofs.Nodes.{item_has, node_in, after_op, after_fork, after_item, some_token, length_op, length_more, token_is, item_node, size_is, has_here}
use Rattle.ots_canon.proofs.Ends.{AtFork, AtOp, at_fork, at_op, weaker}
use Rattle.ots_canon.proofs.Among.{contains_some, alike, back, onward, both, regrouped, among_none, union, pushed, has_append, some_has}

-- ---- the items of one node

-- the places of some items are added, and the others are those of the node at `at`
pub record Gathering (ts : List Token) (es : List ℕ) (node at : ℕ) (before now : List ℕ) : Type 0 where
  pub more : List ℕ
  pub are : now ≡ before ++ more
  pub items : All (IsItem ts) more
  pub here : HasNode ts at
  pub same : (p : Path) → (HasAmong ts more p ⊎ HasAt ts at p) ↔ HasAt ts node p
  pub few : total es more + size es at ≤ size es node

pub gathering_none : (ts : List Token) (es : List ℕ) (node : ℕ) (before : List ℕ) → HasNode ts node → Gathering ts es node node before before
gathering_none ts es node before h = record {
  more = [];
  are = sym (append-nil before);
  items = All-nil (IsItem ts);
  here = h;
  same = λ p. ((λ g. elim g [ inl a ↦ absurd (among_none a) | inr b ↦ b ]), (λ g. inr g));
  few = omega arith;
}

-- the paths of a node with a fork are those of its first item and of the rest
pub fork_paths : {ts : List Token} {es : List ℕ} {k : ℕ} → AtFork ts es k → (p : Path) → HasAt ts k p ↔ (HasAt ts (k + 1) p ⊎ HasAt ts (get_or es (k + 1) 0) p)
fork_paths {ts} {es} {k} f p =
    subst (λ (z : ℕ). HasAt ts k p ↔ (HasAt ts (k + 1) p ⊎ HasAt ts z p)) (sym f.next)
    (onward (has_here ts k (more f.item f.node) f.is_at p)
    (onward (back (has_append (paths_of_item f.item) (paths f.node) p))
    (back (both (has_here ts (k + 1) (last f.item) (after_fork ts k f.item f.node f.is_at) p)
    (has_here ts (k + 1 + length (pre_item f.item)) f.node (after_item ts k f.item f.node f.is_at) p)))))

pub gathering_more : {ts : List Token} {es : List ℕ} {node at : ℕ} {before now : List ℕ} (after : List ℕ) → AreEnds ts es → AtFork ts es at
    → after ≡ now ++ (at + 1) ∷ [] → Gathering ts es node at before now → Gathering ts es node (get_or es (at + 1) 0) before after
gathering_more {ts} {es} {node} {at} {before} {now} after ends f e g =
    let one = after_fork ts at f.item f.node f.is_at in
    let two : IsNodeAt ts (get_or es (at + 1) 0) f.node = subst (λ (z : ℕ). IsNodeAt ts z f.node) (sym f.next) (after_item ts at f.item f.node f.is_at) in
    let size_one = size_is ts es (at + 1) (last f.item) ends one in
    let size_two = size_is ts es (get_or es (at + 1) 0) f.node ends two in
    let size_all = size_is ts es at (more f.item f.node) ends f.is_at in
    let all = length_more f.item f.node in
    let added = sum_by_push (size es) g.more (at + 1) in
    let few = g.few in
    record {
      more = g.more ++ (at + 1) ∷ [];
      are = e ∙ ap (λ (z : List ℕ). z ++ (at + 1) ∷ []) g.are ∙ append_assoc before g.more ((at + 1) ∷ []);
      items = All-push (IsItem ts) g.more (at + 1) g.items (record { item = f.item; is_at = one });
      here = record { node = f.node; is_at = two };
      same = λ p. onward (both (pushed (HasAt ts) g.more (at + 1) p) alike) (onward regrouped (onward (both alike (back (fork_paths f p))) (g.same p)));
      few = omega arith;
    }

pub gathering_fork : {ts : List Token} {es : List ℕ} {node at : ℕ} {before now : List ℕ} → AreEnds ts es → is_fork (slice_get ts at) ≡ true → Gathering ts es node at before now → AtFork ts es at
gathering_fork {ts} {es} {at = at} ends f g = at_fork (weaker ts es (at + 1) ends) g.here f

pub gathering_within : {ts : List Token} {es : List ℕ} {node at : ℕ} {before now : List ℕ} → Gathering ts es node at before now → at < length ts
gathering_within {ts} {at = at} g = node_in g.here

pub gathered : {ts : List Token} {es : List ℕ} {node at : ℕ} {before now : List ℕ} (after : List ℕ) → is_fork (slice_get ts at) ≡ false
    → after ≡ now ++ at ∷ [] → Gathering ts es node at before now → Gathers ts es node before after
gathered {ts} {es} {node} {at} {before} {now} after no_fork e g =
    let added = sum_by_push (size es) g.more at in
    let few = g.few in
    record {
      more = g.more ++ at ∷ [];
      are = e ∙ ap (λ (z : List ℕ). z ++ at ∷ []) g.are ∙ append_assoc before g.more (at ∷ []);
      items = All-push (IsItem ts) g.more at g.items (item_node g.here no_fork);
      same = λ p. onward (pushed (HasAt ts) g.more at p) (g.same p);
      few = omega arith;
    }

-- ---- the items of several nodes

pub covers_none : (ts : List Token) (H : ℕ → Path → Type 0) → Covers ts H [] []
covers_none ts H = record { items = All-nil (IsItem ts); same = λ p. ((λ h. absurd (among_none h)), (λ h. absurd (among_none h))) }

pub covers_more : {ts : List Token} {H : ℕ → Path → Type 0} {ks before : List ℕ} (k : ℕ) (ls : List ℕ) → All (IsItem ts) ls → ((p : Path) → HasAmong ts ls p ↔ H k p)
    → Covers ts H ks before → Covers ts H (ks ++ k ∷ []) (before ++ ls)
covers_more {ts} {H} {ks} {before} k ls items same c = record {
  items = All-append (IsItem ts) before ls c.items items;
  same = λ p. onward (union (HasAt ts) before ls p) (onward (both (c.same p) (same p)) (back (pushed H ks k p)));
}

pub items_more : {ts : List Token} {es : List ℕ} (ks : List ℕ) (n : ℕ) {before after : List ℕ} → n < length ks → Gathers ts es (get_or ks n 0) before after
    → Covers ts (HasAt ts) (take n ks) before → Covers ts (HasAt ts) (take (n + 1) ks) after
items_more {ts} ks n {before} {after} l g c =
    subst (Covers ts (HasAt ts) (take (n + 1) ks)) (sym g.are)
    (subst (λ (z : List ℕ). Covers ts (HasAt ts) z (before ++ g.more)) (sym (take_more ks n 0 l)) (covers_more (get_or ks n 0) g.more g.items g.same c))

pub items_all : {ts : List Token} (ks now : List ℕ) (n : ℕ) → length ks ≤ n → Covers ts (HasAt ts) (take n ks) now → Covers ts (HasAt ts) ks now
items_all {ts} ks now n l h = subst (λ (z : List ℕ). Covers ts (HasAt ts) z now) (take_all n ks l) h

-- a node among these has a path
pub items_some : {ts : List Token} {ks now : List ℕ} → 0 < length ks → All (HasNode ts) ks → Covers ts (HasAt ts) ks now → 0 < length now
items_some {ts} {ks} {now} l h g =
    let t = h 0 0 l in
    let some = some_has t.node in
    let found = (g.same some.0).1 (record { place = get_or ks 0 0; listed = Contains-get_or ks 0 0 l; has = record { node = t.node; is_at = t.is_at; has = some.1 } }) in
    contains_some now found.place found.listed

pub form_of : {ts : List Token} {ks now : List ℕ} {us : List Token} → Covers ts (HasAt ts) ks now → IsFormOf ts now us → IsFormOf ts ks us
form_of g f = record { node = f.node; canonical = f.canonical; same = λ p. onward (back (g.same p)) (f.same p); are = f.are }

-- ---- the items after operations

pub after_none : (ts : List Token) (es : List ℕ) → AreAfter ts es [] []
after_none ts es = record { covers = covers_none ts (HasAfter ts); few = omega arith }

after_more : {ts : List Token} {es ks before : List ℕ} (k : ℕ) (ls : List ℕ) → All (IsItem ts) ls → ((p : Path) → HasAmong ts ls p ↔ HasAfter ts k p) → total es ls + 1 ≤ size es k
    → AreAfter ts es ks before → AreAfter ts es (ks ++ k ∷ []) (before ++ ls)
after_more {ts} {es} {ks} {before} k ls items same l b =
    let added = sum_by_push (size es) ks k in
    let joined = sum_by-append (size es) before ls in
    let longer = length-append ks (k ∷ []) in
    let few = b.few in
    record { covers = covers_more k ls items same b.covers; few = omega arith }

pub after_at : {ts : List Token} {es : List ℕ} {k : ℕ} → AtOp ts es k → (p : Path) → HasAfter ts k p ↔ HasAt ts (k + 1) p
after_at {ts} {es} {k} f p = (
  (λ h. record { node = h.node; is_at = after_op ts k h.op h.node h.is_at; has = h.has }),
  (λ h. record { op = f.op; node = f.node; is_at = f.is_at; has = (has_here ts (k + 1) f.node f.after p).0 h }),
)

-- an operation
pub gathered_op : {ts : List Token} {es : List ℕ} {k : ℕ} {before after : List ℕ} → AreEnds ts es → AtOp ts es k
    → Gathers ts es (k + 1) before after → GathersAfter ts es k before after
gathered_op {ts} {es} {k} ends at g =
    let size_one = size_is ts es (k + 1) at.node ends at.after in
    let size_all = size_is ts es k (last (step at.op at.node)) ends at.is_at in
    let all = length_op at.op at.node in
    let few = g.few in
    record { more = g.more; are = g.are; items = g.items; same = λ p. onward (g.same p) (back (after_at at p)); few = omega arith }

-- nothing stands after an attestation
pub gathered_none : {ts : List Token} {es : List ℕ} {k : ℕ} (before : List ℕ) → AreEnds ts es → IsItem ts k → is_op (slice_get ts k) ≡ false → GathersAfter ts es k before before
gathered_none {ts} {es} {k} before ends i no_op =
    let size_all = size_is ts es k (last i.item) ends i.is_at in
    let some = some_token (last i.item) in
    let none : (p : Path) → HasAfter ts k p → ⊥ = λ p a. (let g = ap is_op (token_is ts k (last (step a.op a.node)) a.is_at) in absurd cc) in
    record {
      more = [];
      are = sym (append-nil before);
      items = All-nil (IsItem ts);
      same = λ p. ((λ a. absurd (among_none a)), (λ a. absurd (none p a)));
      few = omega arith;
    }

-- the operation of an item
pub op_here : {ts : List Token} {es : List ℕ} {k : ℕ} → IsItem ts k → AreEnds ts es → is_op (slice_get ts k) ≡ true → AtOp ts es k
op_here {ts} {es} {k} i ends f = at_op (weaker ts es (k + 1) ends) (item_has i) f

pub after_next : {ts : List Token} {es : List ℕ} (run : List ℕ) (n : ℕ) {before after : List ℕ} → n < length run
    → GathersAfter ts es (get_or run n 0) before after → AreAfter ts es (take n run) before → AreAfter ts es (take (n + 1) run) after
after_next {ts} {es} run n {before} l g b =
    subst (AreAfter ts es (take (n + 1) run)) (sym g.are)
    (subst (λ (z : List ℕ). AreAfter ts es z (before ++ g.more)) (sym (take_more run n 0 l))
    (after_more (get_or run n 0) g.more g.items g.same g.few b))

pub after_node : {ts : List Token} {es : List ℕ} {k : ℕ} → AtOp ts es k → HasNode ts (k + 1)
after_node h = record { node = h.node; is_at = h.after }
