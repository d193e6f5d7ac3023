-- Walks over the tokens of a tree, whatever they carry.
use Rattle.std.proofs.Common.{◌≡◌, ℕ, suc, ◌+◌, ◌<◌, ◌≤◌, Bool, true, false, List, [], ◌∷◌, ◌++◌, if◌then◌else◌, map, length, get_or, drop, Option, Some, None, refl, sym, ap, subst, ◌∙◌, arith, append_assoc, add-one, drop-cons}
use Rattle.std.specs.Prelude.{unwrap_or, option_and_then, option_map, ◌↔◌}
use Rattle.std.specs.List.{AllByRecursion}
use Rattle.std.proofs.lemmas.List.{append-nil}
use Rattle.ots_ops.specs.declared.op.Op.{Op}
use Rattle.ots_tree.specs.declared.token.Token.{Token}
use Rattle.ots_tree.specs.declared.token.Token.TheVariants as token
use Rattle.ots_tree.specs.Wire.{Node, Item, last, more, attested, step, pre, pre_item, IsPre}
use Rattle.ots_tree.specs.Walk.{Open, begun, next_in, next, opened, IsClosed, Met, met, Position, open_at, none_open, IsStep, always, Ends}

abbrev pub By : Type 0 → Type 0
By S = Op → S → Option S

abbrev pub at : {S : Type 0} → List S → Bool → Open S
at nodes forked = record { nodes = nodes; forked = forked }

-- ---- two parts of the tokens

then_more : {S : Type 0} (by : By S) (o : Option (Open S)) (ts us : List Token)
    → ((s : Open S) → opened by s (ts ++ us) ≡ option_and_then (λ v. opened by v us) (opened by s ts))
    → option_and_then (λ u. opened by u (ts ++ us)) o ≡ option_and_then (λ v. opened by v us) (option_and_then (λ u. opened by u ts) o)
then_more by None ts us h = refl
then_more by (Some s) ts us h = h s

pub opened_append : {S : Type 0} (by : By S) (s : Open S) (ts us : List Token) → opened by s (ts ++ us) ≡ option_and_then (λ v. opened by v us) (opened by s ts)
opened_append by s [] us = refl
opened_append by s (x ∷ ts) us = then_more by (next by x s) ts us (λ u. opened_append by u ts us)

-- ---- a tree along which a walk goes closes the node that it stands in

-- each operation has a result there
abbrev mutual
  pub Goes : {S : Type 0} → By S → S → Node → Type 0
  Goes by s (last i) = GoesAlong by s i
  Goes by s (more i t) = GoesAlong by s i × Goes by s t

  pub GoesAlong : {S : Type 0} → By S → S → Item → Type 0
  GoesAlong by s (attested a) = Unit {0}
  GoesAlong {S = S} by s (step o t) = (r : S) × (by o s ≡ Some r) × Goes by r t

mutual
  pub tree_closes : {S : Type 0} (by : By S) (t : Node) (s : S) (others : List S) (rest : List Token) → Goes by s t
      → opened by (at (s ∷ others) false) (pre t ++ rest) ≡ opened by (at others false) rest
  tree_closes by (last i) s others rest h = item_closes by i s others false rest h
  tree_closes by (more i t) s others rest h =
      ap (opened by (at (s ∷ s ∷ others) true)) (append_assoc (pre_item i) (pre t) rest)
      ∙ item_closes by i s (s ∷ others) true (pre t ++ rest) h.0
      ∙ tree_closes by t s others rest h.1

  item_closes : {S : Type 0} (by : By S) (i : Item) (s : S) (others : List S) (forked : Bool) (rest : List Token) → GoesAlong by s i
      → opened by (at (s ∷ others) forked) (pre_item i ++ rest) ≡ opened by (at others false) rest
  item_closes by (attested a) s others forked rest h = refl
  item_closes by (step o t) s others forked rest h =
      ap (λ z. option_and_then (λ u. opened by u (pre t ++ rest)) (option_map (λ r. at (r ∷ others) false) z)) h.1
      ∙ tree_closes by t h.0 others rest h.2

-- ---- what closes all nodes are such trees, one for each node

abbrev IsItem : Bool → Node → Type 0
IsItem false t = Unit {0}
IsItem true (last i) = Unit {0}
IsItem true (more i t) = ⊥

abbrev Closes : {S : Type 0} → By S → List S → Bool → List Token → Type 0
Closes by [] forked ts = ts ≡ []
Closes by (s ∷ ss) forked ts = (t : Node) × (rest : List Token) × Goes by s t × IsItem forked t × (ts ≡ pre t ++ rest) × Closes by ss false rest

last_is_item : (forked : Bool) (i : Item) → IsItem forked (last i)
last_is_item false i = tt
last_is_item true i = tt

-- an operation that has a result
has_result : {S : Type 0} (x : Option S) (g : S → Open S) (f : Open S → Option (Open S)) → IsClosed (option_and_then f (option_map g x)) → (r : S) × (x ≡ Some r) × IsClosed (f (g r))
has_result None g f h = absurd h
has_result (Some r) g f h = (r, refl, h)

-- a fork, an item and the other items
joined : {S : Type 0} (by : By S) (s : S) (ss : List S) (xs : List Token) → Closes by (s ∷ s ∷ ss) true xs → Closes by (s ∷ ss) false (token.Fork ∷ xs)
joined by s ss xs (last i, rest, goes, item, e, (others, after, goes', item', e', more')) = (
  more i others,
  after,
  (goes, goes'),
  tt,
  ap (λ (z : List Token). token.Fork ∷ z) (e ∙ ap (λ (z : List Token). pre_item i ++ z) e' ∙ sym (append_assoc (pre_item i) (pre others) after)),
  more',
)
joined by s ss xs (more i t, rest, goes, item, e, others) = absurd item

closes : {S : Type 0} (by : By S) (ts : List Token) (ss : List S) (forked : Bool) → IsClosed (opened by (at ss forked) ts) → Closes by ss forked ts
closes by [] [] forked h = refl
closes by [] (s ∷ ss) forked h = absurd cc
closes by (x ∷ xs) [] forked h = absurd h
closes by (token.Attestation a ∷ xs) (s ∷ ss) forked h = (last (attested a), xs, tt, last_is_item forked (attested a), refl, closes by xs ss false h)
closes by (token.Op o ∷ xs) (s ∷ ss) forked h =
    let k = has_result (by o s) (λ r. at (r ∷ ss) false) (λ u. opened by u xs) h in
    let r = closes by xs (k.0 ∷ ss) false k.2 in
    (last (step o r.0), r.1, (k.0, k.1, r.2), last_is_item forked (step o r.0), ap (λ (z : List Token). token.Op o ∷ z) r.4, r.5)
closes by (token.Fork ∷ xs) (s ∷ ss) true h = absurd h
closes by (token.Fork ∷ xs) (s ∷ ss) false h = joined by s ss xs (closes by xs (s ∷ s ∷ ss) true h)

abbrev pub GoesPre : {S : Type 0} → By S → S → List Token → Type 0
GoesPre by s ts = (t : Node) × Goes by s t × (pre t ≡ ts)

-- Tokens close every node that they open exactly where they are those of a tree along which the walk goes.
pub closed_law : {S : Type 0} (by : By S) (s : S) (ts : List Token) → IsClosed (opened by (begun s) ts) ↔ GoesPre by s ts
closed_law by s ts = (
  λ h. let c = closes by ts (s ∷ []) false h in (c.0, c.2, sym (c.4 ∙ ap (λ (z : List Token). pre c.0 ++ z) c.5 ∙ append-nil (pre c.0))),
  λ (t, goes, is). subst (λ (z : List Token). IsClosed (opened by (begun s) z)) (append-nil (pre t) ∙ is) (subst IsClosed (sym (tree_closes by t s [] [] goes)) refl),
)

-- ---- what one walk carries maps to what another carries

abbrev pub map_open : {S T : Type 0} → (S → T) → Open S → Open T
map_open f s = at (map f s.nodes) s.forked

map_led : {S T : Type 0} (f : S → T) (x : Option S) (ss : List S) → option_map (λ r. at (r ∷ map f ss) false) (option_map f x) ≡ option_map (map_open f) (option_map (λ r. at (r ∷ ss) false) x)
map_led f None ss = refl
map_led f (Some r) ss = refl

-- f leads from what one walk makes to what another makes
abbrev pub IsMapped : {S T : Type 0} → (S → T) → By S → By T → Type 0
IsMapped {S = S} f by by' = (o : Op) (s : S) → by' o (f s) ≡ option_map f (by o s)

next_map : {S T : Type 0} (f : S → T) (by : By S) (by' : By T) → IsMapped f by by' → (ss : List S) (forked : Bool) (x : Token)
    → next_in by' (map f ss) forked x ≡ option_map (map_open f) (next_in by ss forked x)
next_map f by by' h [] forked x = refl
next_map f by by' h (s ∷ ss) forked (token.Attestation a) = refl
next_map f by by' h (s ∷ ss) forked (token.Op o) = ap (option_map (λ r. at (r ∷ map f ss) false)) (h o s) ∙ map_led f (by o s) ss
next_map f by by' h (s ∷ ss) false token.Fork = refl
next_map f by by' h (s ∷ ss) true token.Fork = refl

map_more : {S T : Type 0} (f : S → T) (by : By S) (by' : By T) (o : Option (Open S)) (ts : List Token)
    → ((s : Open S) → opened by' (map_open f s) ts ≡ option_map (map_open f) (opened by s ts))
    → option_and_then (λ u. opened by' u ts) (option_map (map_open f) o) ≡ option_map (map_open f) (option_and_then (λ u. opened by u ts) o)
map_more f by by' None ts h = refl
map_more f by by' (Some s) ts h = h s

pub opened_map : {S T : Type 0} (f : S → T) (by : By S) (by' : By T) → IsMapped f by by' → (ts : List Token) (s : Open S)
    → opened by' (map_open f s) ts ≡ option_map (map_open f) (opened by s ts)
opened_map f by by' h [] s = refl
opened_map f by by' h (x ∷ ts) s =
    ap (option_and_then (λ u. opened by' u ts)) (next_map f by by' h s.nodes s.forked x)
    ∙ map_more f by by' (next by x s) ts (λ u. opened_map f by by' h ts u)

-- ---- and where one goes on so does the other

abbrev pub IsMappedWhere : {S T : Type 0} → (S → T) → By S → By T → Type 0
IsMappedWhere {S = S} f by by' = (o : Op) (s r : S) → by o s ≡ Some r → by' o (f s) ≡ Some (f r)

-- what holds of the result of an operation, and of the nodes that are open then
led_on : {S : Type 0} (x : Option S) (ss : List S) (u : Open S) (P : Open S → Type 0) → ((r : S) → x ≡ Some r → P (at (r ∷ ss) false))
    → option_map (λ r. at (r ∷ ss) false) x ≡ Some u → P u
led_on None ss u P h e = absurd cc
led_on (Some r) ss u P h e = let same : at (r ∷ ss) false ≡ u = cc in subst P same (h r refl)

some_on : {S : Type 0} (s u : Open S) (P : Open S → Type 0) → P s → Some s ≡ Some u → P u
some_on s u P h e = let same : s ≡ u = cc in subst P same h

next_along : {S T : Type 0} (f : S → T) (by : By S) (by' : By T) → IsMappedWhere f by by' → (ss : List S) (forked : Bool) (x : Token) (u : Open S)
    → next_in by ss forked x ≡ Some u → next_in by' (map f ss) forked x ≡ Some (map_open f u)
next_along f by by' h [] forked x u e = absurd cc
next_along f by by' h (s ∷ ss) forked (token.Attestation a) u e = some_on (at ss false) u (λ v. Some (at (map f ss) false) ≡ Some (map_open f v)) refl e
next_along f by by' h (s ∷ ss) forked (token.Op o) u e =
    led_on (by o s) ss u (λ v. option_map (λ r. at (r ∷ map f ss) false) (by' o (f s)) ≡ Some (map_open f v)) (λ r is. ap (option_map (λ r. at (r ∷ map f ss) false)) (h o s r is)) e
next_along f by by' h (s ∷ ss) false token.Fork u e = some_on (at (s ∷ s ∷ ss) true) u (λ v. Some (at (f s ∷ f s ∷ map f ss) true) ≡ Some (map_open f v)) refl e
next_along f by by' h (s ∷ ss) true token.Fork u e = absurd cc

-- the state after the first token of those that lead on
through : {S : Type 0} (by : By S) (o : Option (Open S)) (ts : List Token) (u : Open S) → option_and_then (λ v. opened by v ts) o ≡ Some u
    → (v : Open S) × (o ≡ Some v) × (opened by v ts ≡ Some u)
through by None ts u e = absurd cc
through by (Some v) ts u e = (v, refl, e)

pub opened_along : {S T : Type 0} (f : S → T) (by : By S) (by' : By T) → IsMappedWhere f by by' → (ts : List Token) (s u : Open S)
    → opened by s ts ≡ Some u → opened by' (map_open f s) ts ≡ Some (map_open f u)
opened_along f by by' h [] s u e = some_on s u (λ v. Some (map_open f s) ≡ Some (map_open f v)) refl e
opened_along f by by' h (x ∷ ts) s u e =
    let v = through by (next by x s) ts u e in
    ap (option_and_then (λ w. opened by' w ts)) (next_along f by by' h s.nodes s.forked x v.0 v.1) ∙ opened_along f by by' h ts v.0 u v.2

-- ---- what each token keeps holds after all

pub kept_open : {S : Type 0} (by : By S) (P : List S → Bool → Type 0)
    → ((ss : List S) (forked : Bool) (x : Token) (u : Open S) → P ss forked → next_in by ss forked x ≡ Some u → P u.nodes u.forked)
    → (ts : List Token) (s u : Open S) → P s.nodes s.forked → opened by s ts ≡ Some u → P u.nodes u.forked
kept_open by P after [] s u h e = some_on s u (λ v. P v.nodes v.forked) h e
kept_open by P after (x ∷ ts) s u h e =
    let v = through by (next by x s) ts u e in
    kept_open by P after ts v.0 u (after s.nodes s.forked x v.0 h v.1) v.2

next_all : {S : Type 0} (by : By S) (P : S → Type 0) → ((o : Op) (s r : S) → P s → by o s ≡ Some r → P r) → (ss : List S) (forked : Bool) (x : Token) (u : Open S)
    → AllByRecursion P ss → next_in by ss forked x ≡ Some u → AllByRecursion P u.nodes
next_all by P led [] forked x u h e = absurd cc
next_all by P led (s ∷ ss) forked (token.Attestation a) u h e = some_on (at ss false) u (λ v. AllByRecursion P v.nodes) h.1 e
next_all by P led (s ∷ ss) forked (token.Op o) u h e = led_on (by o s) ss u (λ v. AllByRecursion P v.nodes) (λ r is. (led o s r h.0 is, h.1)) e
next_all by P led (s ∷ ss) false token.Fork u h e = some_on (at (s ∷ s ∷ ss) true) u (λ v. AllByRecursion P v.nodes) (h.0, h) e
next_all by P led (s ∷ ss) true token.Fork u h e = absurd cc

-- what each operation keeps holds of all open nodes
pub opened_all : {S : Type 0} (by : By S) (P : S → Type 0) → ((o : Op) (s r : S) → P s → by o s ≡ Some r → P r) → (ts : List Token) (s u : Open S)
    → AllByRecursion P s.nodes → opened by s ts ≡ Some u → AllByRecursion P u.nodes
opened_all by P led ts s u h e = kept_open by (λ ss _. AllByRecursion P ss) (next_all by P led) ts s u h e

-- ---- how many nodes are open where each operation counts

-- operations count one each, to 255 at most
abbrev pub Counts : {S : Type 0} → By S → (S → ℕ) → Type 0
Counts {S = S} by depth = (o : Op) (s r : S) → by o s ≡ Some r → (depth r ≡ depth s + 1) × (depth r ≤ 255)

-- from k on, each below the one before it, and the first one below d
abbrev pub Falling : {S : Type 0} → (S → ℕ) → ℕ → ℕ → List S → Type 0
Falling depth k d [] = Unit {0}
Falling depth k d (s ∷ ss) = (k ≤ depth s) × (depth s < d) × Falling depth k (depth s) ss

-- the same, but that a node which is just kept open stands twice
abbrev pub Falls : {S : Type 0} → (S → ℕ) → ℕ → List S → Bool → Type 0
Falls depth k [] forked = Unit {0}
Falls depth k (s ∷ ss) false = (k ≤ depth s) × (depth s ≤ 255) × Falling depth k (depth s) ss
Falls depth k (s ∷ ss) true = (k ≤ depth s) × (depth s ≤ 255) × Falling depth k (depth s + 1) ss

left_open : {S : Type 0} (depth : S → ℕ) (k d : ℕ) (ss : List S) → d ≤ 256 → Falling depth k d ss → Falls depth k ss false
left_open depth k d [] low h = tt
left_open depth k d (s ∷ ss) low h = let below = h.1 in (h.0, omega arith, h.2)

deeper : {S : Type 0} (depth : S → ℕ) (k d e : ℕ) (ss : List S) → d ≤ e → Falling depth k d ss → Falling depth k e ss
deeper depth k d e [] low h = tt
deeper depth k d e (s ∷ ss) low h = let below = h.1 in (h.0, omega arith, h.2)

next_falls : {S : Type 0} (by : By S) (depth : S → ℕ) (k : ℕ) → Counts by depth → (ss : List S) (forked : Bool) (x : Token) (u : Open S)
    → Falls depth k ss forked → next_in by ss forked x ≡ Some u → Falls depth k u.nodes u.forked
next_falls by depth k c [] forked x u h e = absurd cc
next_falls by depth k c (s ∷ ss) false (token.Attestation a) u h e =
    let low = h.1 in some_on (at ss false) u (λ v. Falls depth k v.nodes v.forked) (left_open depth k (depth s) ss (omega arith) h.2) e
next_falls by depth k c (s ∷ ss) true (token.Attestation a) u h e =
    let low = h.1 in some_on (at ss false) u (λ v. Falls depth k v.nodes v.forked) (left_open depth k (depth s + 1) ss (omega arith) h.2) e
next_falls by depth k c (s ∷ ss) false (token.Op o) u h e =
    led_on (by o s) ss u (λ v. Falls depth k v.nodes v.forked) (λ r is.
    let more = c o s r is in let from = h.0 in
    (omega (arith, more.0), more.1, deeper depth k (depth s) (depth r) ss (omega (arith, more.0)) h.2)) e
next_falls by depth k c (s ∷ ss) true (token.Op o) u h e =
    led_on (by o s) ss u (λ v. Falls depth k v.nodes v.forked) (λ r is.
    let more = c o s r is in let from = h.0 in
    (omega (arith, more.0), more.1, deeper depth k (depth s + 1) (depth r) ss (omega (arith, more.0)) h.2)) e
next_falls by depth k c (s ∷ ss) false token.Fork u h e =
    some_on (at (s ∷ s ∷ ss) true) u (λ v. Falls depth k v.nodes v.forked) (h.0, h.1, (h.0, omega arith, h.2)) e
next_falls by depth k c (s ∷ ss) true token.Fork u h e = absurd cc

pub open_falls : {S : Type 0} (by : By S) (depth : S → ℕ) (k : ℕ) → Counts by depth → (ts : List Token) (s : S) (u : Open S) → k ≤ depth s → depth s ≤ 255
    → opened by (begun s) ts ≡ Some u → Falls depth k u.nodes u.forked
open_falls by depth k c ts s u from low e = kept_open by (Falls depth k) (next_falls by depth k c) ts (begun s) u (from, low, tt) e

falling_room : {S : Type 0} (depth : S → ℕ) (k d : ℕ) (ss : List S) → k ≤ d → Falling depth k d ss → length ss + k ≤ d
falling_room depth k d [] low h = omega arith
falling_room depth k d (s ∷ ss) low h = let below = h.1 in let rest = falling_room depth k (depth s) ss h.0 h.2 in omega arith

pub falls_room : {S : Type 0} (depth : S → ℕ) (k : ℕ) (ss : List S) (forked : Bool) → k ≤ 255 → Falls depth k ss forked → length ss + k ≤ 257
falls_room depth k [] forked low h = omega arith
falls_room depth k (s ∷ ss) false low h = let deep = h.1 in let rest = falling_room depth k (depth s) ss h.0 h.2 in omega arith
falls_room depth k (s ∷ ss) true low h =
    let deep = h.1 in let from = h.0 in let rest = falling_room depth k (depth s + 1) ss (omega arith) h.2 in omega arith

-- ---- a walk to which each operation has a result

mutual
  pub always_goes : {S : Type 0} (f : Op → S → S) (t : Node) (s : S) → Goes (always f) s t
  always_goes f (last i) s = goes_along f i s
  always_goes f (more i t) s = (goes_along f i s, always_goes f t s)

  goes_along : {S : Type 0} (f : Op → S → S) (i : Item) (s : S) → GoesAlong (always f) s i
  goes_along f (attested a) s = tt
  goes_along f (step o t) s = (f o s, refl, always_goes f t (f o s))

-- what it carries to the tokens of a tree
abbrev mutual
  pub met_in : {S : Type 0} → (Op → S → S) → S → Node → List (Met S)
  met_in f s (last i) = met_along f s i
  met_in f s (more i t) = record { carried = s; token = token.Fork } ∷ (met_along f s i ++ met_in f s t)

  pub met_along : {S : Type 0} → (Op → S → S) → S → Item → List (Met S)
  met_along f s (attested a) = record { carried = s; token = token.Attestation a } ∷ []
  met_along f s (step o t) = record { carried = s; token = token.Op o } ∷ met_in f (f o s) t

mutual
  node_met : {S : Type 0} (f : Op → S → S) (t : Node) (s : S) (others : List S) (rest : List Token)
      → met (always f) (at (s ∷ others) false) (pre t ++ rest) ≡ met_in f s t ++ met (always f) (at others false) rest
  node_met f (last i) s others rest = item_met f i s others false rest
  node_met f (more i t) s others rest =
      ap (λ z. record { carried = s; token = token.Fork } ∷ met (always f) (at (s ∷ s ∷ others) true) z) (append_assoc (pre_item i) (pre t) rest)
      ∙ ap (λ z. record { carried = s; token = token.Fork } ∷ z) (
      item_met f i s (s ∷ others) true (pre t ++ rest)
      ∙ ap (λ z. met_along f s i ++ z) (node_met f t s others rest)
      ∙ sym (append_assoc (met_along f s i) (met_in f s t) (met (always f) (at others false) rest)))

  item_met : {S : Type 0} (f : Op → S → S) (i : Item) (s : S) (others : List S) (forked : Bool) (rest : List Token)
      → met (always f) (at (s ∷ others) forked) (pre_item i ++ rest) ≡ met_along f s i ++ met (always f) (at others false) rest
  item_met f (attested a) s others forked rest = refl
  item_met f (step o t) s others forked rest = ap (λ z. record { carried = s; token = token.Op o } ∷ z) (node_met f t (f o s) others rest)

pub tree_met : {S : Type 0} (f : Op → S → S) (t : Node) (s : S) → met (always f) (begun s) (pre t) ≡ met_in f s t
tree_met f t s = ap (met (always f) (begun s)) (sym (append-nil (pre t))) ∙ node_met f t s [] [] ∙ append-nil (met_in f s t)

-- ---- one token, where those that are left close all nodes

ends : {S : Type 0} (by : By S) (s : Open S) (ts : List Token) → IsClosed (opened by s ts) → Ends by s ts
ends by s [] h = tt
ends by s (x ∷ xs) h = h

pub tree_ends : {S : Type 0} (f : Op → S → S) (s : S) (w : Open S) (ts : List Token) → w ≡ begun s → IsPre ts → Ends (always f) w ts
tree_ends f s w ts e (t, is) = subst (λ z. Ends (always f) z ts) (sym e) (ends (always f) (begun s) ts ((closed_law (always f) s ts).1 (t, always_goes f t s, is)))

pub leads : {S : Type 0} (by : By S) (x : Token) (w v : Position S) (going : Bool) → next by x (open_at w) ≡ Some (if going then open_at v else none_open) → IsStep by x w v going
leads by x w v going e s f = cc

fork_leads : {S : Type 0} (by : By S) (b : Bool) (w v : Position S) → w.forked ≡ b → (w.forked ≡ false → next by token.Fork (open_at w) ≡ Some (open_at v)) → IsStep by token.Fork w v true
fork_leads by false w v e h = leads by token.Fork w v true (h e)
fork_leads by true w v e h = λ s f. absurd (let is : None ≡ Some s = rw e at f in cc)

pub forks : {S : Type 0} (by : By S) (w v : Position S) → (w.forked ≡ false → next by token.Fork (open_at w) ≡ Some (open_at v)) → IsStep by token.Fork w v true
forks by w v h = fork_leads by w.forked w v refl h

-- it is met first, and then those after it
pub record Moves {S : Type 0} (by : By S) (w v : Position S) (x : Token) (xs : List Token) : Type 0 where
  pub met : met by (open_at w) (x ∷ xs) ≡ record { carried = w.last; token = x } ∷ met by (open_at v) xs
  pub ends : Ends by (open_at v) xs

goes_on : {S : Type 0} (by : By S) (xs : List Token) (o : Option (Open S)) → IsClosed (option_and_then (λ u. opened by u xs) o) → (u : Open S) × (o ≡ Some u) × IsClosed (opened by u xs)
goes_on by xs None h = absurd h
goes_on by xs (Some u) h = (u, refl, h)

none_left : {S : Type 0} (by : By S) (o : Option (Open S)) → unwrap_or (option_map (λ u. met by u []) o) [] ≡ []
none_left by None = refl
none_left by (Some u) = refl

moves : {S : Type 0} (by : By S) (w v : Position S) (going : Bool) (x : Token) (xs : List Token) → Ends by (open_at w) (x ∷ xs) → IsStep by x w v going → Moves by w v x xs
moves by w v going x [] h on = record { met = ap (λ z. record { carried = w.last; token = x } ∷ z) (none_left by (next by x (open_at w))); ends = tt }
moves by w v true x (y ∷ ys) h on =
    let g = goes_on by (y ∷ ys) (next by x (open_at w)) h in
    let is : next by x (open_at w) ≡ Some (open_at v) = g.1 ∙ ap Some (on g.0 g.1) in
    record {
      met = ap (λ z. record { carried = w.last; token = x } ∷ unwrap_or (option_map (λ u. met by u (y ∷ ys)) z) []) is;
      ends = subst (λ z. IsClosed (option_and_then (λ u. opened by u (y ∷ ys)) z)) is h;
    }
moves by w v false x (y ∷ ys) h on =
    let g = goes_on by (y ∷ ys) (next by x (open_at w)) h in
    absurd (subst (λ z. IsClosed (opened by z (y ∷ ys))) (on g.0 g.1) g.2)

-- in a loop over all tokens
pub moves_at : {S : Type 0} (by : By S) (w v : Position S) (going : Bool) (ts : List Token) (i : ℕ) (x : Token) → i < length ts → x ≡ get_or ts i x
    → Ends by (open_at w) (drop i ts) → IsStep by x w v going
    → (met by (open_at w) (drop i ts) ≡ record { carried = w.last; token = x } ∷ met by (open_at v) (drop (i + 1) ts)) × Ends by (open_at v) (drop (i + 1) ts)
moves_at by w v going ts i x low is h on =
    let split : drop i ts ≡ x ∷ drop (i + 1) ts = rw add-one (drop-cons ts i x low ∙ ap (λ z. z ∷ drop (suc i) ts) (sym is)) in
    let m = moves by w v going x (drop (i + 1) ts) (subst (Ends by (open_at w)) split h) on in
    (ap (met by (open_at w)) split ∙ m.met, m.ends)
