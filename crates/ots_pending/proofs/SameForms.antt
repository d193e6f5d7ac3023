-- What the canonical forms of trees complete, the trees complete.
use Rattle.std.proofs.Common.{◌≡◌, ℕ, zero, suc, Bool, true, false, cond, inl, inr, List, [], ◌∷◌, ◌++◌, map, length, Option, Some, None, Result, Ok, Err, refl, sym, ap, subst, take, get_or, ◌+◌, ◌<◌, ◌∙◌}
use Rattle.std.proofs.lemmas.List.{take_more}
use Rattle.std.specs.Prelude.{IfOk, option_map}
use Rattle.std.specs.List.{flat_map, slice_get}
use Rattle.ots_ops.specs.declared.op.Op.{Op}
use Rattle.ots_attest.specs.declared.attestation.Attestation.{Attestation}
use Rattle.ots_attest.specs.declared.attestation.Attestation.TheVariants as attestation
use Rattle.ots_tree.specs.declared.token.Token.{Token}
use Rattle.ots_tree.specs.declared.detached.Detached.{Detached}
use Rattle.ots_tree.specs.Made.{after}
use Rattle.ots_tree.specs.Wire.{Node, Path, paths, pre}
use Rattle.ots_canon.specs.Order.{Has, HaveSame}
use Rattle.ots_canon.proofs.Orders.{head_of, tail_of}
use Rattle.ots_canon.proofs.Rising.{same_itself, same_back, same_append}
use Rattle.ots_canon.proofs.SoundResults.{sound_canon}
use Rattle.ots_pending.specs.Pairs.{Pair, PairAt, is_same}
use Rattle.ots_pending.specs.Completed.{tree_for, answer_to, paths_after, gained, IsCompleted, IsCompletedWithin, IsSoundFor, AreSoundFor}
use Rattle.ots_pending.specs.Forms.{IsForm, AreForms}
use Rattle.ots_pending.specs.Least.{AreCanonical}
use Rattle.ots_canon.specs.Canonical.{IsCanonicalPre}
use Rattle.ots_pending.proofs.Completion.{canon_same, same_form}
use Rattle.ots_pending.proofs.Lists.{some_same, none_some}

-- ---- the loop

forms_more : (trees forms : List (Option (List Token))) (t u : Option (List Token)) → AreForms trees forms → IsForm t u → AreForms (trees ++ t ∷ []) (forms ++ u ∷ [])
forms_more [] [] t u h one = (one, tt)
forms_more [] (v ∷ forms) t u h one = absurd h
forms_more (s ∷ trees) [] t u h one = absurd h
forms_more (s ∷ trees) (v ∷ forms) t u h one = (h.0, forms_more trees forms t u h.1 one)

pub forms_next : (trees forms new : List (Option (List Token))) (i : ℕ) (t u : Option (List Token)) → i < length trees → t ≡ get_or trees i t → AreForms (take i trees) forms → IsForm t u
    → new ≡ forms ++ u ∷ [] → AreForms (take (i + 1) trees) new
forms_next trees forms new i t u low is h one new_is =
    let next : take (i + 1) trees ≡ take i trees ++ t ∷ [] = take_more trees i t low ∙ ap (λ (z : Option (List Token)). take i trees ++ z ∷ []) (sym is) in
    subst (λ (z : List (Option (List Token))). AreForms z new) (sym next) (subst (AreForms (take i trees ++ t ∷ [])) (sym new_is) (forms_more (take i trees) forms t u h one))

pub forms_long : (trees forms : List (Option (List Token))) → AreForms trees forms → length forms ≡ length trees
forms_long [] [] h = refl
forms_long [] (v ∷ forms) h = absurd h
forms_long (s ∷ trees) [] h = absurd h
forms_long (s ∷ trees) (v ∷ forms) h = ap suc (forms_long trees forms h.1)

-- ---- they are sound

at_form : (trees forms : List (Option (List Token))) (i : ℕ) (u : Option (List Token)) → AreForms trees forms → slice_get forms i ≡ Some u
    → (t : Option (List Token)) × (slice_get trees i ≡ Some t) × IsForm t u
at_form [] [] i u h at = absurd (none_some u at)
at_form [] (v ∷ forms) i u h at = absurd h
at_form (s ∷ trees) [] i u h at = absurd h
at_form (s ∷ trees) (v ∷ forms) zero u h at = (s, refl, subst (IsForm s) (some_same v u at) h.0)
at_form (s ∷ trees) (v ∷ forms) (suc i) u h at = at_form trees forms i u h.1 at

sound_form : (pairs : List PairAt) (i : ℕ) (t u : Option (List Token)) → IsForm t u → IsSoundFor pairs i t → IsSoundFor pairs i u
sound_form pairs i None None h sound = tt
sound_form pairs i None (Some us) h sound = absurd h
sound_form pairs i (Some ts) None h sound = tt
sound_form pairs i (Some ts) (Some us) h sound = λ p at. sound_canon (length p.pair.message) p.depth ts us (sound p at) h

pub sound_forms : (pairs : List PairAt) (trees forms : List (Option (List Token))) → AreForms trees forms → AreSoundFor pairs trees → AreSoundFor pairs forms
sound_forms pairs trees forms h sound i u at = let f = at_form trees forms i u h at in sound_form pairs i f.0 u f.2 (sound i f.0 f.1)

-- ---- they are canonical

canonical_form_of : (t u : Option (List Token)) (us : List Token) → IsForm t u → u ≡ Some us → IsCanonicalPre us
canonical_form_of None None us h e = absurd (none_some us e)
canonical_form_of None (Some vs) us h e = absurd h
canonical_form_of (Some ts) None us h e = absurd h
canonical_form_of (Some ts) (Some vs) us h e = record { node = h.form.node; are = h.form.are ∙ some_same vs us e; canonical = h.form.is_tree.canonical }

pub canonical_forms : (trees forms : List (Option (List Token))) → AreForms trees forms → AreCanonical forms
canonical_forms trees forms h i us at = let f = at_form trees forms i (Some us) h at in canonical_form_of f.0 (Some us) us f.2 refl

-- ---- they have the same paths

abbrev SamePaths : Option Node → Option Node → Type 0
SamePaths None None = Unit {0}
SamePaths None (Some u) = ⊥
SamePaths (Some t) None = ⊥
SamePaths (Some t) (Some u) = HaveSame (paths t) (paths u)

abbrev HaveSamePaths : List (Option Node) → List (Option Node) → Type 0
HaveSamePaths [] [] = Unit {0}
HaveSamePaths [] (u ∷ us) = ⊥
HaveSamePaths (t ∷ ts) [] = ⊥
HaveSamePaths (t ∷ ts) (u ∷ us) = SamePaths t u × HaveSamePaths ts us

record Original (tree : Option (List Token)) (form : Option Node) : Type 0 where
  node : Option Node
  is : option_map pre node ≡ tree
  same : SamePaths node form

record Originals (trees : List (Option (List Token))) (forms : List (Option Node)) : Type 0 where
  nodes : List (Option Node)
  are : map (option_map pre) nodes ≡ trees
  same : HaveSamePaths nodes forms

original : (t u : Option (List Token)) (form : Option Node) → IsForm t u → option_map pre form ≡ u → Original t form
original None None None h e = record { node = None; is = refl; same = tt }
original None None (Some form) h e = absurd (none_some (pre form) (sym e))
original None (Some us) form h e = absurd h
original (Some ts) None form h e = absurd h
original (Some ts) (Some us) None h e = absurd (none_some us e)
original (Some ts) (Some us) (Some form) h e = record {
  node = Some h.node;
  is = ap (λ (z : List Token). Some z) h.are;
  same = same_back (paths form) (paths h.node) (same_form form h.node us (some_same (pre form) us e) h.form);
}

originals : (trees forms : List (Option (List Token))) (given : List (Option Node)) → AreForms trees forms → map (option_map pre) given ≡ forms → Originals trees given
originals [] [] [] h e = record { nodes = []; are = refl; same = tt }
originals [] [] (g ∷ given) h e = absurd cc
originals [] (u ∷ forms) given h e = absurd h
originals (t ∷ trees) [] given h e = absurd h
originals (t ∷ trees) (u ∷ forms) [] h e = absurd cc
originals (t ∷ trees) (u ∷ forms) (g ∷ given) h e =
    let one = original t u g h.0 (head_of e) in
    let others = originals trees forms given h.1 (tail_of e) in
    record { nodes = one.node ∷ others.nodes; are = (λ i. one.is i ∷ others.are i); same = (one.same, others.same) }

-- ---- so they bring the same paths

one_of_two : (b : Bool) (t u s v : Option Node) → SamePaths t u → SamePaths s v → SamePaths (cond b t s) (cond b u v)
one_of_two true t u s v h k = h
one_of_two false t u s v h k = k

module _ (pairs : List PairAt) where
  same_tree : (p : Pair) (qs : List PairAt) (nodes given : List (Option Node)) → HaveSamePaths nodes given → SamePaths (tree_for p qs nodes) (tree_for p qs given)
  same_tree p [] nodes given h = tt
  same_tree p (q ∷ qs) [] [] h = tt
  same_tree p (q ∷ qs) [] (u ∷ given) h = absurd h
  same_tree p (q ∷ qs) (t ∷ nodes) [] h = absurd h
  same_tree p (q ∷ qs) (t ∷ nodes) (u ∷ given) h = one_of_two (is_same p q.pair) t u (tree_for p qs nodes) (tree_for p qs given) h.0 (same_tree p qs nodes given h.1)

  same_answer : (nodes given : List (Option Node)) (a : Attestation) (m : Option (List ℕ)) → HaveSamePaths nodes given → SamePaths (answer_to pairs nodes a m) (answer_to pairs given a m)
  same_answer nodes given (attestation.Pending uri) (Some m) h = same_tree (record { uri = uri; message = m }) pairs nodes given h
  same_answer nodes given (attestation.Pending uri) None h = tt
  same_answer nodes given (attestation.Bitcoin height) m h = tt
  same_answer nodes given (attestation.Litecoin height) m h = tt
  same_answer nodes given (attestation.Unknown other) m h = tt

has_after : (ops : List Op) (ps : List Path) (p : Path) → Has ps p → Has (map (after ops) ps) (after ops p)
has_after ops [] p h = absurd h
has_after ops (q ∷ ps) p (inl e) = inl (ap (after ops) e)
has_after ops (q ∷ ps) p (inr h) = inr (has_after ops ps p h)

one_after : (ops : List Op) (ps qs : List Path) → ((p : Path) → Has ps p → Has qs p) → (p : Path) → Has (map (after ops) ps) p → Has (map (after ops) qs) p
one_after ops [] qs h p has = absurd has
one_after ops (q ∷ ps) qs h p (inl e) = subst (Has (map (after ops) qs)) e (has_after ops qs q (h q (inl refl)))
one_after ops (q ∷ ps) qs h p (inr has) = one_after ops ps qs (λ r in_ps. h r (inr in_ps)) p has

same_after : (ops : List Op) (t u : Option Node) → SamePaths t u → HaveSame (paths_after ops t) (paths_after ops u)
same_after ops None None h = same_itself []
same_after ops None (Some u) h = absurd h
same_after ops (Some t) None h = absurd h
same_after ops (Some t) (Some u) h = λ p. (one_after ops (paths t) (paths u) (λ q. (h q).0) p, one_after ops (paths u) (paths t) (λ q. (h q).1) p)

same_flat : (f g : Path → List Path) (ps : List Path) → ((p : Path) → HaveSame (f p) (g p)) → HaveSame (flat_map f ps) (flat_map g ps)
same_flat f g [] h = same_itself []
same_flat f g (p ∷ ps) h = same_append (f p) (flat_map f ps) (g p) (flat_map g ps) (h p) (same_flat f g ps h)

of_forms : (proof : Detached) (pairs : List PairAt) (trees forms : List (Option (List Token))) (made : List Token) → AreForms trees forms → IsCompleted proof pairs forms made
    → IsCompleted proof pairs trees made
of_forms proof pairs trees forms made h c =
    let o = originals trees forms c.given h c.given_are in
    let m : Option (List ℕ) = Some proof.digest in
    record {
      node = c.node;
      tree = c.tree;
      given = o.nodes;
      given_are = o.are;
      form = canon_same (paths c.node ++ flat_map (gained pairs c.given m) (paths c.node)) (paths c.node ++ flat_map (gained pairs o.nodes m) (paths c.node)) made
          (same_append (paths c.node) (flat_map (gained pairs c.given m) (paths c.node)) (paths c.node) (flat_map (gained pairs o.nodes m) (paths c.node)) (same_itself (paths c.node))
          (same_back (flat_map (gained pairs o.nodes m) (paths c.node)) (flat_map (gained pairs c.given m) (paths c.node))
          (same_flat (gained pairs o.nodes m) (gained pairs c.given m) (paths c.node) (λ p. same_after p.ops _ _ (same_answer pairs o.nodes c.given p.end _ o.same)))))
          c.form;
    }

within_forms : (proof : Detached) (pairs : List PairAt) (trees forms : List (Option (List Token))) (most : ℕ) (result : Option (List Token)) → AreForms trees forms
    → IsCompletedWithin proof pairs forms most result → IsCompletedWithin proof pairs trees most result
within_forms proof pairs trees forms most result h w = record { made = w.made; completed = of_forms proof pairs trees forms w.made h w.completed; sound = w.sound; told = w.told }

pub result_within : {E : Type 0} (proof : Detached) (pairs : List PairAt) (trees forms : List (Option (List Token))) (most : ℕ) (r : Result (Option (List Token)) E) → AreForms trees forms
    → IfOk r (IsCompletedWithin proof pairs forms most) → IfOk r (IsCompletedWithin proof pairs trees most)
result_within proof pairs trees forms most (Ok result) h w = within_forms proof pairs trees forms most result h w
result_within proof pairs trees forms most (Err e) h w = w
