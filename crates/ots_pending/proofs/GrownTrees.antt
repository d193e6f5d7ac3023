-- The messages on the path of a walk, the tokens of an item with the items of a tree that was given for it, and what
-- paths gain.
use Rattle.std.proofs.Common.{◌≡◌, ◌↔◌, ℕ, zero, suc, ◌-◌, ◌^◌, min, ◌≤◌, inl, inr, Bool, true, false, List, [], ◌∷◌, ◌++◌, map, take, Option, Some, None, refl, sym, ap, subst, ◌∙◌, arith, append_assoc}
use Rattle.std.specs.Prelude.{option_and_then, option_to_list, ◌⊎◌}
use Rattle.std.specs.List.{slice_get}
use Rattle.ots_ops.specs.declared.op.Op.{Op}
use Rattle.ots_ops.specs.Apply.{apply}
use Rattle.ots_ops.specs.Value.{value}
use Rattle.ots_attest.specs.declared.attestation.Attestation.{Attestation}
use Rattle.ots_tree.specs.declared.token.Token.{Token}
use Rattle.ots_tree.specs.declared.token.Token.TheVariants as token
use Rattle.ots_tree.specs.Made.{joined, after}
use Rattle.ots_tree.specs.Wire.{Node, Item, last, attested, pre, pre_item, Path, paths, paths_of_item, below}
use Rattle.ots_tree.proofs.MadePaths.{paths-joined}
use Rattle.ots_canon.specs.Order.{Has}
use Rattle.ots_canon.proofs.Among.{has_append, has_below}
use Rattle.ots_pending.specs.Pairs.{PairAt}
use Rattle.ots_pending.specs.Completed.{answer_to, paths_after, gained}
use Rattle.ots_pending.specs.Grown.{forked, put}
use Rattle.ots_pending.proofs.Putting.{joined_pre}

abbrev pub Messages : Type 0
Messages = List (List ℕ)

-- ---- the messages by their depths

first_of : (x : Option (List ℕ)) → slice_get (option_to_list x) 0 ≡ x
first_of None = refl
first_of (Some m) = refl

pub after_depth : (f : List ℕ → Option (List ℕ)) (ms : Messages) (d : ℕ)
    → slice_get (take (suc d) ms ++ option_to_list (option_and_then f (slice_get ms d))) (suc d) ≡ option_and_then f (slice_get ms d)
after_depth f [] d = refl
after_depth f (m ∷ ms) zero = first_of (f m)
after_depth f (m ∷ ms) (suc d) = after_depth f ms d

pub up_to_depth : (f : List ℕ → Option (List ℕ)) (ms : Messages) (d : ℕ)
    → take (suc d) (take (suc d) ms ++ option_to_list (option_and_then f (slice_get ms d))) ≡ take (suc d) ms
up_to_depth f [] d = refl
up_to_depth f (m ∷ ms) zero = refl
up_to_depth f (m ∷ ms) (suc d) = ap (λ (z : Messages). m ∷ z) (up_to_depth f ms d)

at_depth_taken : (ms : Messages) (d : ℕ) → slice_get (take (suc d) ms) d ≡ slice_get ms d
at_depth_taken [] d = refl
at_depth_taken (m ∷ ms) zero = refl
at_depth_taken (m ∷ ms) (suc d) = at_depth_taken ms d

taken_twice : (ms : Messages) (d : ℕ) → take (suc d) (take (suc (suc d)) ms) ≡ take (suc d) ms
taken_twice [] d = refl
taken_twice (m ∷ ms) zero = refl
taken_twice (m ∷ ms) (suc d) = ap (λ (z : Messages). m ∷ z) (taken_twice ms d)

-- up to depth d they are the same
pub record Same (d : ℕ) (old new : Messages) : Type 0 where
  pub is : take (suc d) new ≡ take (suc d) old

pub here_still : (d : ℕ) (old new : Messages) (m : Option (List ℕ)) → slice_get old d ≡ m → Same d old new → slice_get new d ≡ m
here_still d old new m here s = sym (at_depth_taken new d) ∙ ap (λ (z : Messages). slice_get z d) s.is ∙ at_depth_taken old d ∙ here

pub same_above : (d : ℕ) (old new : Messages) → Same (suc d) old new → Same d old new
same_above d old new s = record { is = sym (taken_twice new d) ∙ ap (λ (z : Messages). take (suc d) z) s.is ∙ taken_twice old d }

pub cap-low : (d : ℕ) → d ≤ 255 → min d (2 ^ 32 - 1) ≡ d
cap-low d low = omega arith

no_operation : (m : Option (List ℕ)) → option_and_then (value []) m ≡ m
no_operation None = refl
no_operation (Some x) = refl

first_operation : (o : Op) (ops : List Op) (m : Option (List ℕ)) → option_and_then (value (o ∷ ops)) m ≡ option_and_then (value ops) (option_and_then (apply o) m)
first_operation o ops None = refl
first_operation o ops (Some x) = refl

-- ---- an item with the items of a tree that was given for it

abbrev pub last_with : Option Node → Item → Node
last_with None i = last i
last_with (Some t) i = joined t (last i)

abbrev pub joined_with : Option Node → Node → Node
joined_with None u = u
joined_with (Some t) u = joined t u

-- its tokens, after a fork or not
abbrev pub item_tokens : Bool → Option Node → Item → List Token
item_tokens b None i = pre_item i
item_tokens false (Some t) i = forked t ++ pre_item i
item_tokens true (Some t) i = pre_item i ++ forked t

pub last_tokens : (a : Option Node) (i : Item) → item_tokens false a i ≡ pre (last_with a i)
last_tokens None i = refl
last_tokens (Some t) i = sym (joined_pre t (last i))

pub more_tokens : (a : Option Node) (i : Item) (u : Node) → item_tokens true a i ++ pre u ≡ pre_item i ++ pre (joined_with a u)
more_tokens None i u = refl
more_tokens (Some t) i u = append_assoc (pre_item i) (forked t) (pre u) ∙ ap (λ (z : List Token). pre_item i ++ z) (sym (joined_pre t u))

pub put_attested : (b : Bool) (a : Attestation) (t : Option Node) → put b (token.Attestation a) t ≡ item_tokens b t (attested a)
put_attested false a None = refl
put_attested true a None = refl
put_attested false a (Some t) = refl
put_attested true a (Some t) = refl

pub put_none : (b : Bool) (x : Token) → put b x None ≡ x ∷ []
put_none false x = refl
put_none true x = refl

pub no_answer : (b : Bool) (i : Item) → item_tokens b None i ≡ pre_item i
no_answer false i = refl
no_answer true i = refl

module _ (pairs : List PairAt) (given : List (Option Node)) where
  pub record HasGain (m : Option (List ℕ)) (ps : List Path) (p : Path) : Type 0 where
    pub from : Path
    pub among : Has ps from
    pub gain : Has (gained pairs given m from) p

  abbrev pub Gains : Option (List ℕ) → List Path → Path → Type 0
  Gains m ps p = Has ps p ⊎ HasGain m ps p

  abbrev pub HasAnswer : Option Node → Path → Type 0
  HasAnswer None p = ⊥
  HasAnswer (Some t) p = Has (paths t) p

  pub gains_append : (m : Option (List ℕ)) (ps qs : List Path) (p : Path) → (Gains m ps p ⊎ Gains m qs p) ↔ Gains m (ps ++ qs) p
  gains_append m ps qs p = (
    λ h. elim h [
      | inl a ↦ elim a [
        | inl x ↦ inl ((has_append ps qs p).0 (inl x))
        | inr g ↦ inr (record { from = g.from; among = (has_append ps qs g.from).0 (inl g.among); gain = g.gain })
      ]
      | inr b ↦ elim b [
        | inl x ↦ inl ((has_append ps qs p).0 (inr x))
        | inr g ↦ inr (record { from = g.from; among = (has_append ps qs g.from).0 (inr g.among); gain = g.gain })
      ]
    ],
    λ h. elim h [
      | inl x ↦ elim ((has_append ps qs p).1 x) [ inl a ↦ inl (inl a) | inr b ↦ inr (inl b) ]
      | inr g ↦ elim ((has_append ps qs g.from).1 g.among) [
        | inl a ↦ inl (inr (record { from = g.from; among = a; gain = g.gain }))
        | inr b ↦ inr (inr (record { from = g.from; among = b; gain = g.gain }))
      ]
    ],
  )

  none_before : (ps : List Path) → map (after []) ps ≡ ps
  none_before [] = refl
  none_before (p ∷ ps) = ap (λ (z : List Path). p ∷ z) (none_before ps)

  one_before : (o : Op) (ops : List Op) (ps : List Path) → map (after (o ∷ ops)) ps ≡ map (below o) (map (after ops) ps)
  one_before o ops [] = refl
  one_before o ops (p ∷ ps) = ap (λ (z : List Path). below o (after ops p) ∷ z) (one_before o ops ps)

  answer_before : (o : Op) (ops : List Op) (t : Option Node) → paths_after (o ∷ ops) t ≡ map (below o) (paths_after ops t)
  answer_before o ops None = refl
  answer_before o ops (Some t) = one_before o ops (paths t)

  pub gain_below : (o : Op) (m : Option (List ℕ)) (q : Path) → gained pairs given m (below o q) ≡ map (below o) (gained pairs given (option_and_then (apply o) m) q)
  gain_below o m q =
      ap (λ (z : Option (List ℕ)). paths_after (o ∷ q.ops) (answer_to pairs given q.end z)) (first_operation o q.ops m)
      ∙ answer_before o q.ops (answer_to pairs given q.end (option_and_then (value q.ops) (option_and_then (apply o) m)))

  pub gains_below : (o : Op) (m : Option (List ℕ)) (ps : List Path) (p : Path) → Gains (option_and_then (apply o) m) ps p → Gains m (map (below o) ps) (below o p)
  gains_below o m ps p (inl h) = inl (has_below o ps p h)
  gains_below o m ps p (inr g) = inr (record {
    from = below o g.from;
    among = has_below o ps g.from g.among;
    gain = subst (λ (z : List Path). Has z (below o p)) (sym (gain_below o m g.from)) (has_below o (gained pairs given (option_and_then (apply o) m) g.from) p g.gain);
  })

  end_gain : (a : Attestation) (m : Option (List ℕ)) (t : Option Node) (p : Path) → t ≡ answer_to pairs given a m
      → HasAnswer t p ↔ Has (paths_after [] t) p
  end_gain a m None p e = ((λ h. absurd h), (λ h. absurd h))
  end_gain a m (Some t) p e = (
    (λ h. subst (λ (z : List Path). Has z p) (sym (none_before (paths t))) h),
    (λ h. subst (λ (z : List Path). Has z p) (none_before (paths t)) h),
  )

  end_gained : (a : Attestation) (m : Option (List ℕ)) → gained pairs given m (record { ops = []; end = a }) ≡ paths_after [] (answer_to pairs given a m)
  end_gained a m = ap (λ (z : Option (List ℕ)). paths_after [] (answer_to pairs given a z)) (no_operation m)

  end_of : (a : Attestation) (m : Option (List ℕ)) (p q : Path) → Has (paths_of_item (attested a)) q → Has (gained pairs given m q) p → Has (gained pairs given m (record { ops = []; end = a })) p
  end_of a m p q (inl is) h = subst (λ (z : Path). Has (gained pairs given m z) p) (sym is) h
  end_of a m p q (inr none) h = absurd none

  pub end_paths : (a : Attestation) (m : Option (List ℕ)) (p : Path) → (Has (paths_of_item (attested a)) p ⊎ HasAnswer (answer_to pairs given a m) p) ↔ Gains m (paths_of_item (attested a)) p
  end_paths a m p =
      let e = end_gain a m (answer_to pairs given a m) p refl in (
        λ h. elim h [
          | inl x ↦ inl x
          | inr y ↦ inr (record { from = record { ops = []; end = a }; among = inl refl; gain = subst (λ (z : List Path). Has z p) (sym (end_gained a m)) (e.0 y) })
        ],
        λ h. elim h [
          | inl x ↦ inl x
          | inr g ↦ inr (e.1 (subst (λ (z : List Path). Has z p) (end_gained a m) (end_of a m p g.from g.among g.gain)))
        ],
      )

  pub with_last : (a : Option Node) (i : Item) (p : Path) → Has (paths (last_with a i)) p ↔ (Has (paths_of_item i) p ⊎ HasAnswer a p)
  with_last None i p = ((λ h. inl h), (λ h. elim h [ inl x ↦ x | inr y ↦ absurd y ]))
  with_last (Some t) i p = (
    (λ h. elim ((has_append (paths t) (paths_of_item i) p).1 (subst (λ (z : List Path). Has z p) (paths-joined t (last i)) h)) [ inl x ↦ inr x | inr y ↦ inl y ]),
    (λ h. subst (λ (z : List Path). Has z p) (sym (paths-joined t (last i))) ((has_append (paths t) (paths_of_item i) p).0 (elim h [ inl x ↦ inr x | inr y ↦ inl y ]))),
  )

  pub with_more : (a : Option Node) (u : Node) (p : Path) → Has (paths (joined_with a u)) p ↔ (HasAnswer a p ⊎ Has (paths u) p)
  with_more None u p = ((λ h. inr h), (λ h. elim h [ inl x ↦ absurd x | inr y ↦ y ]))
  with_more (Some t) u p = (
    (λ h. (has_append (paths t) (paths u) p).1 (subst (λ (z : List Path). Has z p) (paths-joined t u) h)),
    (λ h. subst (λ (z : List Path). Has z p) (sym (paths-joined t u)) ((has_append (paths t) (paths u) p).0 h)),
  )
