-- A walk over the tokens of a tree that puts trees at some of the places of their pairs makes a tree that has its paths
-- and those that come at these places. All of its paths are among those that all trees bring.
use Rattle.std.proofs.Common.{◌≡◌, ℕ, zero, suc, ◌+◌, ◌-◌, ◌^◌, min, inl, inr, Bool, true, false, List, [], ◌∷◌, ◌++◌, map, length, take, Option, None, Some, refl, sym, ap, subst, ◌∙◌, arith, append_assoc, add-one}
use Rattle.std.specs.Prelude.{option_and_then, option_to_list, ◌⊎◌}
use Rattle.std.specs.List.{AllByRecursion, slice_get}
use Rattle.std.proofs.lemmas.List.{append-nil, length-append, length-map}
use Rattle.ots_ops.specs.declared.op.Op.{Op}
use Rattle.ots_ops.specs.Apply.{apply}
use Rattle.ots_attest.specs.declared.attestation.Attestation.{Attestation}
use Rattle.ots_tree.specs.declared.token.Token.{Token}
use Rattle.ots_tree.specs.declared.token.Token.TheVariants as token
use Rattle.ots_tree.specs.declared.token.TokenAt.{TokenAt}
use Rattle.ots_tree.specs.Listed.{listed, listed_item}
use Rattle.ots_tree.specs.PendingWalk.{followed, result_at}
use Rattle.ots_tree.specs.Sound.{IsSoundPath, IsSound}
use Rattle.ots_tree.specs.Wire.{Node, Item, last, more, attested, step, pre, Path, paths, paths_of_item, below}
use Rattle.ots_tree.proofs.Closing.{all-left, all-right, down, step_leads}
use Rattle.ots_canon.specs.Order.{Has}
use Rattle.ots_canon.proofs.Among.{has_append, has_below, is_below}
use Rattle.ots_pending.specs.Pairs.{PairAt}
use Rattle.ots_pending.specs.Completed.{answer_to, gained}
use Rattle.ots_pending.specs.Grown.{put, GrowsInPart, MayBe}
use Rattle.ots_pending.proofs.Lists.{get_mapped, none_some, some_same}
use Rattle.ots_pending.proofs.GrownTrees.{Messages, after_depth, up_to_depth, Same, here_still, same_above, cap-low, last_with, joined_with, item_tokens, last_tokens, more_tokens, put_attested, put_none, no_answer, Gains, HasAnswer, gains_append, gain_below, gains_below, end_paths, with_last, with_more}

no_tree : (b : Bool) (x : Token) (t : Option Node) → MayBe None t → put b x t ≡ x ∷ []
no_tree b x t (inl none) = ap (put b x) none ∙ put_none b x
no_tree b x t (inr none) = ap (put b x) none ∙ put_none b x

-- ---- the tokens of what is made

last_made : (answer : Option Node) (i : Item) (made left : List Token) → made ≡ item_tokens false answer i ++ left → made ≡ pre (last_with answer i) ++ left
last_made answer i made left are = are ∙ ap (λ (z : List Token). z ++ left) (last_tokens answer i)

more_made : (tree answer : Option Node) (i : Item) (t : Node) (made others between left : List Token) → MayBe None tree → made ≡ put false token.Fork tree ++ others
    → others ≡ item_tokens true answer i ++ between → between ≡ pre t ++ left → made ≡ pre (more i (joined_with answer t)) ++ left
more_made tree answer i t made others between left may are item_are node_are =
    are
    ∙ ap (λ (z : List Token). z ++ others) (no_tree false token.Fork tree may)
    ∙ ap (λ (z : List Token). token.Fork ∷ z) item_are
    ∙ ap (λ (z : List Token). token.Fork ∷ (item_tokens true answer i ++ z)) node_are
    ∙ ap (λ (z : List Token). token.Fork ∷ z) (sym (append_assoc (item_tokens true answer i) (pre t) left))
    ∙ ap (λ (z : List Token). token.Fork ∷ (z ++ left)) (more_tokens answer i t)

end_made : (b : Bool) (a : Attestation) (tree : Option Node) (made others : List Token) → made ≡ put b (token.Attestation a) tree ++ others
    → made ≡ item_tokens b tree (attested a) ++ others
end_made b a tree made others are = are ∙ ap (λ (z : List Token). z ++ others) (put_attested b a tree)

step_made : (b : Bool) (o : Op) (tree : Option Node) (t : Node) (made others left : List Token) → MayBe None tree → made ≡ put b (token.Op o) tree ++ others → others ≡ pre t ++ left
    → made ≡ item_tokens b None (step o t) ++ left
step_made b o tree t made others left may are node_are =
    are
    ∙ ap (λ (z : List Token). z ++ others) (no_tree b (token.Op o) tree may)
    ∙ ap (λ (z : List Token). token.Op o ∷ z) node_are
    ∙ ap (λ (z : List Token). z ++ left) (sym (no_answer b (step o t)))

-- ---- lists one after the other

record Behind {X : Type 0} (xs ys : List X) (i : ℕ) (x : X) : Type 0 where
  place : ℕ
  is : i ≡ length xs + place
  at : slice_get ys place ≡ Some x

in_either : {X : Type 0} (xs ys : List X) (i : ℕ) (x : X) → slice_get (xs ++ ys) i ≡ Some x → (slice_get xs i ≡ Some x) ⊎ Behind xs ys i x
in_either [] ys i x h = inr (record { place = i; is = omega arith; at = h })
in_either (z ∷ xs) ys zero x h = inl h
in_either (z ∷ xs) ys (suc i) x h = elim (in_either xs ys i x h) [ inl a ↦ inl a | inr b ↦ inr (record { place = b.place; is = (let e = b.is in omega arith); at = b.at }) ]

only_one : {X : Type 0} (x y : X) (i : ℕ) → slice_get (x ∷ []) i ≡ Some y → (i ≡ 0) × (x ≡ y)
only_one x y zero h = (refl, some_same x y h)
only_one x y (suc i) h = absurd (none_some y h)

module _ (pairs : List PairAt) (given : List (Option Node)) (Must : ℕ → Type 0) (count : ℕ) where
  may_have : (answer t : Option Node) (p : Path) → MayBe answer t → HasAnswer pairs given t p → HasAnswer pairs given answer p
  may_have answer t p (inl none) h = absurd (subst (λ (z : Option Node). HasAnswer pairs given z p) none h)
  may_have answer t p (inr is) h = subst (λ (z : Option Node). HasAnswer pairs given z p) is h

  -- what is put at the ends of paths, of which n have ended before
  abbrev pub AreGained : ℕ → Option (List ℕ) → List Path → (Path → Type 0) → Type 0
  AreGained n m ps Made = (i : ℕ) (f p : Path) → slice_get ps i ≡ Some f → Must (n + i) → Has (gained pairs given m f) p → Made p

  -- what a node becomes, and what is left of the walk
  record NodeGrows (n d : ℕ) (m : Option (List ℕ)) (messages : Messages) (t : Node) (rest : List TokenAt) (made : List Token) : Type 0 where
    node : Node
    after : Messages
    left : List Token
    same : Same d messages after
    are : made ≡ pre node ++ left
    walk : GrowsInPart pairs given Must count false (n + length (paths t)) after rest left
    keeps : (p : Path) → Has (paths t) p → Has (paths node) p
    gains : AreGained n m (paths t) (λ p. Has (paths node) p)
    within : (p : Path) → Has (paths node) p → Gains pairs given m (paths t) p

  record ItemGrows (b : Bool) (n d : ℕ) (m : Option (List ℕ)) (messages : Messages) (i : Item) (rest : List TokenAt) (made : List Token) : Type 0 where
    item : Item
    answer : Option Node
    after : Messages
    left : List Token
    same : Same d messages after
    are : made ≡ item_tokens b answer item ++ left
    walk : GrowsInPart pairs given Must count false (n + length (paths_of_item i)) after rest left
    keeps : (p : Path) → Has (paths_of_item i) p → Has (paths_of_item item) p
    gains : AreGained n m (paths_of_item i) (λ p. Has (paths_of_item item) p ⊎ HasAnswer pairs given answer p)
    within : (p : Path) → (Has (paths_of_item item) p ⊎ HasAnswer pairs given answer p) → Gains pairs given m (paths_of_item i) p

  -- ---- an attestation

  end_gains : (n : ℕ) (a : Attestation) (m : Option (List ℕ)) (tree : Option Node) → (Must n → tree ≡ answer_to pairs given a m)
      → AreGained n m (paths_of_item (attested a)) (λ p. Has (paths_of_item (attested a)) p ⊎ HasAnswer pairs given tree p)
  end_gains n a m tree put i f p at must gain =
      let one = only_one (record { ops = []; end = a }) f i at in
      let here : Must n = subst Must (let e = one.0 in omega arith) must in
      elim ((end_paths pairs given a m p).1 (inr (record { from = f; among = inl one.1; gain = gain }))) [
        | inl x ↦ inl x
        | inr y ↦ inr (subst (λ (z : Option Node). HasAnswer pairs given z p) (sym (put here)) y)
      ]

  -- ---- below an operation

  below_keeps : (o : Op) (t u : Node) → ((p : Path) → Has (paths t) p → Has (paths u) p) → (p : Path) → Has (map (below o) (paths t)) p → Has (map (below o) (paths u)) p
  below_keeps o t u keeps p has =
      let c = is_below o (paths t) p has in
      subst (Has (map (below o) (paths u))) c.is (has_below o (paths u) c.inner (keeps c.inner c.has))

  below_gains : (n : ℕ) (o : Op) (m : Option (List ℕ)) (t u : Node) → AreGained n (option_and_then (apply o) m) (paths t) (λ p. Has (paths u) p)
      → AreGained n m (map (below o) (paths t)) (λ p. Has (map (below o) (paths u)) p)
  below_gains n o m t u gains i f p at must gain =
      let inner = get_mapped (below o) (paths t) i f at in
      let next = option_and_then (apply o) m in
      let here : Has (gained pairs given m (below o inner.0)) p = subst (λ (z : Path). Has (gained pairs given m z) p) (sym inner.2) gain in
      let c = is_below o (gained pairs given next inner.0) p (subst (λ (z : List Path). Has z p) (gain_below pairs given o m inner.0) here) in
      subst (Has (map (below o) (paths u))) c.is (has_below o (paths u) c.inner (gains i inner.0 c.inner inner.1 must c.has))

  -- ---- an item and the others

  module _ (i j : Item) (answer : Option Node) (t u : Node) where
    more_keeps : ((p : Path) → Has (paths_of_item i) p → Has (paths_of_item j) p) → ((p : Path) → Has (paths t) p → Has (paths u) p)
        → (p : Path) → Has (paths (more i t)) p → Has (paths (more j (joined_with answer u))) p
    more_keeps one others p has = (has_append (paths_of_item j) (paths (joined_with answer u)) p).0 (elim ((has_append (paths_of_item i) (paths t) p).1 has) [
      | inl x ↦ inl (one p x)
      | inr y ↦ inr ((with_more pairs given answer u p).1 (inr (others p y)))
    ])

    more_gains : (n : ℕ) (m : Option (List ℕ)) → AreGained n m (paths_of_item i) (λ p. Has (paths_of_item j) p ⊎ HasAnswer pairs given answer p)
        → AreGained (n + length (paths_of_item i)) m (paths t) (λ p. Has (paths u) p) → AreGained n m (paths (more i t)) (λ p. Has (paths (more j (joined_with answer u))) p)
    more_gains n m one others k f p at must gain =
        let both = has_append (paths_of_item j) (paths (joined_with answer u)) p in
        elim (in_either (paths_of_item i) (paths t) k f at) [
          | inl here ↦ elim (one k f p here must gain) [ inl x ↦ both.0 (inl x) | inr y ↦ both.0 (inr ((with_more pairs given answer u p).1 (inl y))) ]
          | inr behind ↦ both.0 (inr ((with_more pairs given answer u p).1 (inr (others behind.place f p behind.at (subst Must (let e = behind.is in omega arith) must) gain))))
        ]

  mutual
    node_grows : (t : Node) (n d k : ℕ) (m : Option (List ℕ)) (messages : Messages) (rest : List TokenAt) (made : List Token) → IsSound k d t → slice_get messages d ≡ m
        → GrowsInPart pairs given Must count false n messages (listed d t ++ rest) made → NodeGrows n d m messages t rest made
    node_grows (last i) n d k m messages rest made h here g =
        let p = item_grows i false n d k m messages rest made h here g in
        record {
          node = last_with p.answer p.item;
          after = p.after;
          left = p.left;
          same = p.same;
          are = last_made p.answer p.item made p.left p.are;
          walk = p.walk;
          keeps = λ q has. (with_last pairs given p.answer p.item q).1 (inl (p.keeps q has));
          gains = λ j f q at must gain. (with_last pairs given p.answer p.item q).1 (p.gains j f q at must gain);
          within = λ q has. p.within q ((with_last pairs given p.answer p.item q).0 has);
        }
    node_grows (more i t) n d k m messages rest made h here g =
        let walk : GrowsInPart pairs given Must count true n messages (listed_item d i ++ (listed d t ++ rest)) g.others =
        subst (λ (z : List TokenAt). GrowsInPart pairs given Must count true n messages z g.others) (append_assoc (listed_item d i) (listed d t) rest) g.follow in
        let p = item_grows i true n d k m messages (listed d t ++ rest) g.others (all-left (IsSoundPath k d) (paths_of_item i) (paths t) h) here walk in
        let q = node_grows t (n + length (paths_of_item i)) d k m p.after rest p.left (all-right (IsSoundPath k d) (paths_of_item i) (paths t) h)
        (here_still d messages p.after m here p.same) p.walk in
        let long : n + length (paths_of_item i) + length (paths t) ≡ n + length (paths_of_item i ++ paths t) = omega (arith, length-append (paths_of_item i) (paths t)) in
        record {
          node = more p.item (joined_with p.answer q.node);
          after = q.after;
          left = q.left;
          same = record { is = q.same.is ∙ p.same.is };
          are = more_made g.tree p.answer p.item q.node made g.others p.left q.left g.may g.are p.are q.are;
          walk = subst (λ (z : ℕ). GrowsInPart pairs given Must count false z q.after rest q.left) long q.walk;
          keeps = more_keeps i p.item p.answer t q.node p.keeps q.keeps;
          gains = more_gains i p.item p.answer t q.node n m p.gains q.gains;
          within = λ r has. (gains_append pairs given m (paths_of_item i) (paths t) r).0 (elim ((has_append (paths_of_item p.item) (paths (joined_with p.answer q.node)) r).1 has) [
            | inl x ↦ inl (p.within r (inl x))
            | inr y ↦ elim ((with_more pairs given p.answer q.node r).0 y) [ inl z ↦ inl (p.within r (inr z)) | inr z ↦ inr (q.within r z) ]
          ]);
        }

    item_grows : (i : Item) (b : Bool) (n d k : ℕ) (m : Option (List ℕ)) (messages : Messages) (rest : List TokenAt) (made : List Token)
        → AllByRecursion (IsSoundPath k d) (paths_of_item i) → slice_get messages d ≡ m → GrowsInPart pairs given Must count b n messages (listed_item d i ++ rest) made
        → ItemGrows b n d m messages i rest made
    item_grows (attested a) b n d k m messages rest made h here g =
        let low : min d (2 ^ 32 - 1) ≡ d = let short = h.0.short in cap-low d (omega arith) in
        let asked : slice_get messages (min d (2 ^ 32 - 1)) ≡ m = ap (λ (z : ℕ). slice_get messages z) low ∙ here in
        let may : MayBe (answer_to pairs given a m) g.tree = subst (λ (z : Option (List ℕ)). MayBe (answer_to pairs given a z) g.tree) asked g.may in
        let must : Must n → g.tree ≡ answer_to pairs given a m = λ is. g.must is ∙ ap (answer_to pairs given a) asked in
        record {
          item = attested a;
          answer = g.tree;
          after = messages;
          left = g.others;
          same = record { is = refl };
          are = end_made b a g.tree made g.others g.are;
          walk = g.follow;
          keeps = λ p has. has;
          gains = end_gains n a m g.tree must;
          within = λ p has. (end_paths pairs given a m p).0 (elim has [ inl x ↦ inl x | inr y ↦ inr (may_have (answer_to pairs given a m) g.tree p may y) ]);
        }
    item_grows (step o t) b n d k m messages rest made h here g =
        let l = step_leads o t k d h in
        let room = l.room in
        let low : min d (2 ^ 32 - 1) ≡ d = cap-low d (omega arith) in
        let deeper = take (suc d) messages ++ option_to_list (option_and_then (apply o) (slice_get messages d)) in
        let sound : IsSound l.result (suc d) t = subst (λ (z : ℕ). IsSound l.result z t) (add-one d) (down o k d l.result l.is (paths t) h) in
        let next = option_and_then (apply o) m in
        let there : slice_get deeper (suc d) ≡ next = after_depth (apply o) messages d ∙ ap (option_and_then (apply o)) here in
        let at_low : GrowsInPart pairs given Must count false n (followed (token.Op o) d messages) (listed (suc d) t ++ rest) g.others =
        subst (λ (z : ℕ). GrowsInPart pairs given Must count false n (followed (token.Op o) z messages) (listed (suc d) t ++ rest) g.others) low g.follow in
        let walk : GrowsInPart pairs given Must count false n deeper (listed (suc d) t ++ rest) g.others =
        subst (λ (z : ℕ). GrowsInPart pairs given Must count false n (take z messages ++ option_to_list (result_at o d messages)) (listed (suc d) t ++ rest) g.others) (add-one d) at_low in
        let p = node_grows t n (suc d) l.result next deeper rest g.others sound there walk in
        let long : n + length (paths t) ≡ n + length (map (below o) (paths t)) = omega (arith, length-map (paths t) (below o)) in
        record {
          item = step o p.node;
          answer = None;
          after = p.after;
          left = p.left;
          same = record { is = (same_above d deeper p.after p.same).is ∙ up_to_depth (apply o) messages d };
          are = step_made b o g.tree p.node made g.others p.left g.may g.are p.are;
          walk = subst (λ (z : ℕ). GrowsInPart pairs given Must count false z p.after rest p.left) long p.walk;
          keeps = below_keeps o t p.node p.keeps;
          gains = λ i f q at must gain. inl (below_gains n o m t p.node p.gains i f q at must gain);
          within = λ q has. elim has [
            | inl x ↦ (
                let c = is_below o (paths p.node) q x in
                subst (Gains pairs given m (map (below o) (paths t))) c.is (gains_below pairs given o m (paths t) c.inner (p.within c.inner c.has))
                )
            | inr y ↦ absurd y
          ];
        }

  pub record RootGrows (m : List ℕ) (t : Node) (made : List Token) : Type 0 where
    pub node : Node
    pub are : pre node ≡ made
    pub count_is : length (paths t) ≡ count
    pub keeps : (p : Path) → Has (paths t) p → Has (paths node) p
    pub gains : (i : ℕ) (f p : Path) → slice_get (paths t) i ≡ Some f → Must i → Has (gained pairs given (Some m) f) p → Has (paths node) p
    pub within : (p : Path) → Has (paths node) p → Gains pairs given (Some m) (paths t) p

  pub root_grows : (t : Node) (k : ℕ) (m : List ℕ) (made : List Token) → IsSound k 0 t → GrowsInPart pairs given Must count false 0 (m ∷ []) (listed 0 t) made → RootGrows m t made
  root_grows t k m made h g =
      let p = node_grows t 0 0 k (Some m) (m ∷ []) [] made h refl
      (subst (λ (z : List TokenAt). GrowsInPart pairs given Must count false 0 (m ∷ []) z made) (sym (append-nil (listed 0 t))) g) in
      record {
        node = p.node;
        are = sym (p.are ∙ ap (λ (z : List Token). pre p.node ++ z) p.walk.0 ∙ append-nil (pre p.node));
        count_is = (let all = p.walk.1 in omega arith);
        keeps = p.keeps;
        gains = λ i f q at must gain. p.gains i f q at (subst Must (omega arith) must) gain;
        within = p.within;
      }
