-- The tokens of drafts in canonical form: their operations, and then forks and attestations that wait.
use Rattle.std.proofs.Common.{◌≡◌, ◌≤◌, ◌∙◌, ℕ, List, [], ◌∷◌, ◌++◌, length, map, take, drop, ◌-◌, length-drop, Some, refl, sym, ap, subst, arith}
use Rattle.std.specs.List.{AllByRecursion}
use Rattle.std.specs.declared.cmp.Ordering.TheVariants.{Less, Equal}
use Rattle.std.proofs.lemmas.Cmp.{tied_itself}
use Rattle.std.proofs.lemmas.List.{take_all}
use Rattle.ots_attest.specs.declared.attestation.Attestation.{Attestation}
use Rattle.ots_attest.specs.declared.attestation.Attestation.TheVariants.{Pending, Bitcoin, Litecoin, Unknown}
use Rattle.ots_canon.proofs.Orders.{step_total}
use Rattle.ots_canon.specs.Canonical.{IsCanonical, IsCanonOf, first, place}
use Rattle.ots_canon.specs.Order.{op_step, step_cmp}
use Rattle.ots_draft.proofs.Founded.{long_after, reached_by}
use Rattle.ots_draft.proofs.Lists.{all_same}
use Rattle.ots_draft.specs.Draft.{IsDraft, Waits}
use Rattle.ots_draft.specs.inner.Reading.{IsWaiting, MayWait, leading}
use Rattle.ots_ops.specs.declared.op.Op.{Op}
use Rattle.ots_tree.proofs.Closing.{all-append, all-left, all-right, node_path}
use Rattle.ots_tree.proofs.Determined.{same_pre}
use Rattle.ots_tree.specs.Sound.{length_after}
use Rattle.ots_tree.specs.Wire.{Item, Node, Path, attested, below, last, more, paths, paths_of_item, pre, pre_item, step}
use Rattle.ots_tree.specs.declared.detached.Detached.{Detached}
use Rattle.ots_tree.specs.declared.token.Token.{Token}
use Rattle.ots_tree.specs.declared.token.Token.TheVariants as token

-- ---- a path below an operation

pub waits_below : (o : Op) (ops : List Op) (ps : List Path) → AllByRecursion (Waits ops) ps → AllByRecursion (Waits (o ∷ ops)) (map (below o) ps)
waits_below o ops [] all = tt
waits_below o ops (p ∷ ps) all = (
  record { same = ap (λ (z : List Op). o ∷ z) all.0.same; uri = all.0.uri; pending = all.0.pending; address = all.0.address; post = all.0.post },
  waits_below o ops ps all.1,
)

waits_inside : (o u : Op) (ops : List Op) (ps : List Path) → AllByRecursion (Waits (o ∷ ops)) (map (below u) ps) → AllByRecursion (Waits ops) ps
waits_inside o u ops [] all = tt
waits_inside o u ops (p ∷ ps) all = (
  record { same = (let same = all.0.same in cc); uri = all.0.uri; pending = all.0.pending; address = all.0.address; post = all.0.post },
  waits_inside o u ops ps all.1,
)

-- some path below the operation
first_below : (u : Op) (ops : List Op) (t : Node) → AllByRecursion (Waits ops) (map (below u) (paths t)) → (p : Path) × (u ∷ p.ops ≡ ops)
first_below u ops t all =
    let found = node_path t in
    let one = subst (λ (ps : List Path). AllByRecursion (Waits ops) (map (below u) ps)) found.are all in
    (found.first, one.0.same)

-- ---- from tokens to paths

waits_at : (a : Attestation) → IsWaiting a → Waits [] (record { ops = []; end = a })
waits_at (Pending uri) is = record { same = refl; uri = uri; pending = refl; address = is.0; post = is.1 }
waits_at (Bitcoin height) is = absurd is
waits_at (Litecoin height) is = absurd is
waits_at (Unknown other) is = absurd is

mutual
  ends_wait : (t : Node) → AllByRecursion MayWait (pre t) → AllByRecursion (Waits []) (paths t)
  ends_wait (last i) all = item_waits i all
  ends_wait (more i t) all =
      all-append (Waits []) (paths_of_item i) (paths t) (item_waits i (all-left MayWait (pre_item i) (pre t) all.1)) (ends_wait t (all-right MayWait (pre_item i) (pre t) all.1))

  item_waits : (i : Item) → AllByRecursion MayWait (pre_item i) → AllByRecursion (Waits []) (paths_of_item i)
  item_waits (attested a) all = (waits_at a all.0, tt)
  item_waits (step o t) all = absurd all.0

pub wait_after : (ops : List Op) (rest : List Token) (t : Node) → pre t ≡ map (λ o. token.Op o) ops ++ rest → AllByRecursion MayWait rest
    → AllByRecursion (Waits ops) (paths t)
wait_after [] rest t is all = ends_wait t (subst (AllByRecursion MayWait) (sym is) all)
wait_after (o ∷ ops) rest (last (attested a)) is all = absurd cc
wait_after (o ∷ ops) rest (last (step u t)) is all =
    let same : u ≡ o = cc in
    subst (λ (z : Op). AllByRecursion (Waits (o ∷ ops)) (map (below z) (paths t))) (sym same)
    (waits_below o ops (paths t) (wait_after ops rest t (cc) all))
wait_after (o ∷ ops) rest (more i t) is all = absurd cc

pub leads_back : (ts : List Token) → map (λ o. token.Op o) (leading ts) ++ drop (length (leading ts)) ts ≡ ts
leads_back [] = refl
leads_back (token.Fork ∷ ts) = refl
leads_back (token.Op o ∷ ts) = ap (λ (z : List Token). token.Op o ∷ z) (leads_back ts)
leads_back (token.Attestation a ∷ ts) = refl

pub leading_short : (ts : List Token) → length (leading ts) ≤ length ts
leading_short [] = omega arith
leading_short (token.Fork ∷ ts) = omega arith
leading_short (token.Op o ∷ ts) = let rest = leading_short ts in omega arith
leading_short (token.Attestation a ∷ ts) = omega arith

-- ---- from paths to tokens

is_waiting : (a : Attestation) (ops : List Op) → Waits ops (record { ops = []; end = a }) → IsWaiting a
is_waiting a ops waits = subst IsWaiting (sym waits.pending) (waits.address, waits.post)

mutual
  all_end : (t : Node) → AllByRecursion (Waits []) (paths t) → AllByRecursion MayWait (pre t)
  all_end (last i) all = item_ends i all
  all_end (more i t) all =
      (tt, all-append MayWait (pre_item i) (pre t) (item_ends i (all-left (Waits []) (paths_of_item i) (paths t) all)) (all_end t (all-right (Waits []) (paths_of_item i) (paths t) all)))

  item_ends : (i : Item) → AllByRecursion (Waits []) (paths_of_item i) → AllByRecursion MayWait (pre_item i)
  item_ends (attested a) all = (is_waiting a [] all.0, tt)
  item_ends (step o t) all = absurd (let found = first_below o [] t all in let clash = found.1 in cc)

none_leads : (t : Node) → AllByRecursion (Waits []) (paths t) → leading (pre t) ≡ []
none_leads (last (attested a)) all = refl
none_leads (last (step o t)) all = absurd (let found = first_below o [] t all in let clash = found.1 in cc)
none_leads (more i t) all = refl

item_place : (o : Op) (ops : List Op) (i : Item) → AllByRecursion (Waits (o ∷ ops)) (paths_of_item i) → place i ≡ op_step o
item_place o ops (attested a) all = absurd (let clash = all.0.same in cc)
item_place o ops (step u t) all = let found = first_below u (o ∷ ops) t all in let is = found.1 in let same : u ≡ o = cc in ap op_step same

first_place : (o : Op) (ops : List Op) (t : Node) → AllByRecursion (Waits (o ∷ ops)) (paths t) → place (first t) ≡ op_step o
first_place o ops (last i) all = item_place o ops i all
first_place o ops (more i t) all = item_place o ops i (all-left (Waits (o ∷ ops)) (paths_of_item i) (paths t) all)

not_before_itself : (x : List ℕ) → step_cmp x x ≡ Less → ⊥
not_before_itself x e = let tie = tied_itself step_total x in absurd cc

-- the operations, and then what waits
pub record IsInOrder (ops : List Op) (ts : List Token) : Type 0 where
  pub leads : leading ts ≡ ops
  pub wait : AllByRecursion MayWait (drop (length ops) ts)

pub in_order : (ops : List Op) (t : Node) → IsCanonical t → AllByRecursion (Waits ops) (paths t) → IsInOrder ops (pre t)
in_order [] t canonical all = record { leads = none_leads t all; wait = all_end t all }
in_order (o ∷ ops) (last (attested a)) canonical all = absurd (let clash = all.0.same in cc)
in_order (o ∷ ops) (last (step u t)) canonical all =
    let found = first_below u (o ∷ ops) t all in
    let is = found.1 in
    let same : u ≡ o = cc in
    let rest = in_order ops t canonical (waits_inside o u ops (paths t) all) in
    record { leads = (λ j. same j ∷ rest.leads j); wait = rest.wait }
in_order (o ∷ ops) (more i t) canonical all =
    let here = item_place o ops i (all-left (Waits (o ∷ ops)) (paths_of_item i) (paths t) all) in
    let there = first_place o ops t (all-right (Waits (o ∷ ops)) (paths_of_item i) (paths t) all) in
    absurd (not_before_itself (op_step o) ((λ j. step_cmp (sym here j) (sym there j)) ∙ canonical.1))

-- what follows the operations, as a slice names it
pub rest_is : (ops : List Op) (ts rest : List Token) → ops ≡ leading ts → rest ≡ take (length ts - length ops) (drop (length ops) ts)
    → rest ≡ drop (length (leading ts)) ts
rest_is ops ts rest same is =
    is ∙ take_all (length ts - length ops) (drop (length ops) ts) (omega (arith, length-drop (length ops) ts)) ∙ ap (λ (os : List Op). drop (length os) ts) same

-- ---- a proof and its canonical form

pub form_in_order : (proof : Detached) (ops : List Op) (form : List Token) → IsCanonOf proof.tree form → IsDraft proof ops → IsInOrder ops form
form_in_order proof ops form canon draft =
    let same : draft.node ≡ canon.node = same_pre draft.node canon.node (draft.are ∙ sym canon.are) in
    let all = subst (λ (t : Node). AllByRecursion (Waits ops) (paths t)) same draft.wait in
    let f = canon.form in
    let sorted = all_same (Waits ops) (paths canon.node) f.sorted f.is_canon.same all in
    subst (IsInOrder ops) f.are (in_order ops f.node f.is_tree.canonical (subst (AllByRecursion (Waits ops)) (sym f.is_tree.same) sorted))

pub form_waits : (proof : Detached) (form : List Token) (canon : IsCanonOf proof.tree form) → AllByRecursion MayWait (drop (length (leading form)) form)
    → AllByRecursion (Waits (leading form)) (paths canon.node)
form_waits proof form canon wait =
    let f = canon.form in
    let all = wait_after (leading form) (drop (length (leading form)) form) f.node (f.are ∙ sym (leads_back form)) wait in
    let sorted = subst (AllByRecursion (Waits (leading form))) f.is_tree.same all in
    all_same (Waits (leading form)) f.sorted (paths canon.node) (λ p. ((f.is_canon.same p).1, (f.is_canon.same p).0)) sorted

-- ---- what is answered

pub draft_found : (proof : Detached) (form : List Token) → IsCanonOf proof.tree form → AllByRecursion MayWait (drop (length (leading form)) form)
    → length_after (leading form) (length proof.digest) ≡ Some 32 → IsDraft proof (leading form)
draft_found proof form canon wait long =
    let found = reached_by (leading form) proof.digest 32 long in
    record {
      node = canon.node;
      are = canon.are;
      wait = form_waits proof form canon wait;
      message = found.message;
      reached = found.reached;
      hash_long = found.long;
    }

pub rest_waits : (proof : Detached) (ops : List Op) (form : List Token) → IsCanonOf proof.tree form → IsDraft proof ops
    → AllByRecursion MayWait (drop (length (leading form)) form)
rest_waits proof ops form canon draft =
    let order = form_in_order proof ops form canon draft in
    subst (λ (os : List Op). AllByRecursion MayWait (drop (length os) form)) (sym order.leads) order.wait

pub message_long : (proof : Detached) (ops : List Op) (form : List Token) → IsCanonOf proof.tree form → IsDraft proof ops
    → length_after (leading form) (length proof.digest) ≡ Some 32
message_long proof ops form canon draft =
    let order = form_in_order proof ops form canon draft in
    subst (λ (os : List Op). length_after os (length proof.digest) ≡ Some 32) (sym order.leads)
    (long_after ops proof.digest draft.message draft.reached ∙ ap (λ (n : ℕ). Some n) draft.hash_long)
