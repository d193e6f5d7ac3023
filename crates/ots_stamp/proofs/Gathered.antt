-- Trees gathered in one.
use Rattle.std.proofs.Common.{◌≡◌, ◌<◌, ◌+◌, ℕ, List, [], ◌∷◌, ◌++◌, length, take, get_or, Option, None, Some, refl, sym, ap, subst, ◌∙◌, append-nil}
use Rattle.std.specs.Prelude.{◌↔◌, Result, Ok, Err, IfOk}
use Rattle.std.specs.List.{flat_map}
use Rattle.std.proofs.lemmas.Grind.{flat_map-append}
use Rattle.std.proofs.lemmas.List.{map-append, take_more}
use Rattle.ots_tree.specs.declared.token.Token.{Token}
use Rattle.ots_tree.specs.Made.{IsBeside, joined}
use Rattle.ots_tree.specs.Wire.{IsPre, Node, Path, paths, pre}
use Rattle.ots_tree.proofs.Closing.{all-left, all-right}
use Rattle.ots_tree.specs.Sound.{IsSoundPre}
use Rattle.ots_asking.specs.Outcome.{AreSound, IsSoundGathered, IsSoundOutcome}
use Rattle.ots_asking.specs.declared.outcome.Outcome.{Outcome}
use Rattle.ots_asking.specs.declared.outcome.Outcome.TheVariants as outcome
use Rattle.ots_merkle.specs.CalendarTree.{root}
use Rattle.ots_stamp.specs.Stamped.{AreJoined, Gathers, GathersAny, IsGatheredBelow, good_trees, joined_all, leaves}
use Rattle.ots_stamp.specs.Ways.{IsDepth}
use Rattle.ots_stamp.specs.declared.target.Target.{Target}

-- the items of one more
all_more : (t : Node) (ts : List Node) (u : Node) → joined_all t (ts ++ u ∷ []) ≡ joined (joined_all t ts) u
all_more t [] u = refl
all_more t (s ∷ ts) u = all_more (joined t s) ts u

joined_more : (ts : List Node) (node u : Node) → AreJoined ts node → AreJoined (ts ++ u ∷ []) (joined node u)
joined_more [] node u are = absurd are
joined_more (t ∷ ts) node u are = ap (λ (n : Node). joined n u) are ∙ sym (all_more t ts u)

-- a first tree is gathered
pub first_gathered : (trees : List (List Token)) (tree : List Token) → trees ≡ [] → IsPre tree → Gathers (trees ++ tree ∷ []) tree
first_gathered trees tree none (node, is) = rw none (record { nodes = node ∷ []; are = ap (λ t. t ∷ []) is; node = node; is = is; joined_are = refl; paths_are = sym (append-nil (paths node)) })

-- One more is gathered.
pub more_gathered : {E : Type 0} (trees : List (List Token)) (before tree : List Token) (made : Result (List Token) E)
    → ((t u : Node) (x y : List Token) → pre t ++ x ≡ pre u ++ y → (t ≡ u) × (x ≡ y)) → ((t u : Node) → paths (joined t u) ≡ paths t ++ paths u)
    → Gathers trees before → IfOk made (IsBeside before tree) → IfOk made (Gathers (trees ++ tree ∷ []))
more_gathered trees before tree (Err e) one joins all beside = tt
more_gathered trees before tree (Ok made) one joins all beside =
    let same : beside.one ≡ all.node = (one beside.one all.node [] [] (append-nil (pre beside.one) ∙ beside.one_is ∙ sym all.is ∙ sym (append-nil (pre all.node)))).0 in
    record {
      nodes = all.nodes ++ beside.other ∷ [];
      are = map-append pre all.nodes (beside.other ∷ []) ∙ (λ i. all.are i ++ beside.other_is i ∷ []);
      node = joined beside.one beside.other;
      is = beside.made_is;
      joined_are = subst (λ (n : Node). AreJoined (all.nodes ++ beside.other ∷ []) (joined n beside.other)) (sym same)
          (joined_more all.nodes all.node beside.other all.joined_are);
      paths_are = joins beside.one beside.other ∙ ap (λ (ps : List Path). ps ++ paths beside.other) (ap paths same ∙ all.paths_are)
          ∙ ap (λ (ps : List Path). flat_map paths all.nodes ++ ps) (sym (append-nil (paths beside.other))) ∙ sym (flat_map-append paths all.nodes (beside.other ∷ []));
    }

one_good : (outcomes : List Outcome) (x : Outcome) → good_trees (outcomes ++ x ∷ []) ≡ good_trees outcomes ++ good_trees (x ∷ [])
one_good [] x = refl
one_good (outcome.Tree tree ∷ outcomes) x = ap (λ (ts : List (List Token)). tree ∷ ts) (one_good outcomes x)
one_good (outcome.Unreachable ∷ outcomes) x = one_good outcomes x
one_good (outcome.Status code ∷ outcomes) x = one_good outcomes x
one_good (outcome.TooLong ∷ outcomes) x = one_good outcomes x
one_good (outcome.BadHttp ∷ outcomes) x = one_good outcomes x
one_good (outcome.BadReply fault ∷ outcomes) x = one_good outcomes x

-- one more outcome was looked at
pub one_more_good : (outcomes : List Outcome) (i : ℕ) (x : Outcome) → i < length outcomes → x ≡ get_or outcomes i x
    → good_trees (take (i + 1) outcomes) ≡ good_trees (take i outcomes) ++ good_trees (x ∷ [])
one_more_good outcomes i x less is =
    ap good_trees (take_more outcomes i x less ∙ ap (λ (y : Outcome). take i outcomes ++ y ∷ []) (sym is)) ∙ one_good (take i outcomes) x

-- the next outcome is a tree, which is gathered
pub gathers_tree : (outcomes : List Outcome) (i : ℕ) (x : Outcome) (tree copy : List Token) (all : Option (List Token)) (made : List Token) → i < length outcomes
    → x ≡ get_or outcomes i x → x ≡ outcome.Tree tree → copy ≡ tree → all ≡ Some made → Gathers (good_trees (take i outcomes) ++ copy ∷ []) made
    → GathersAny (good_trees (take (i + 1) outcomes)) all
gathers_tree outcomes i x tree copy all made less is tree-is same made-is gathered =
    subst (GathersAny (good_trees (take (i + 1) outcomes))) (sym made-is)
    (subst (λ (trees : List (List Token)). Gathers trees made)
    (ap (λ (t : List Token). good_trees (take i outcomes) ++ t ∷ []) same
    ∙ sym (one_more_good outcomes i x less is ∙ ap (λ (o : Outcome). good_trees (take i outcomes) ++ good_trees (o ∷ [])) tree-is)) gathered)

no_good : (x : Outcome) → ((t : List Token) → x ≡ outcome.Tree t → ⊥) → good_trees (x ∷ []) ≡ []
no_good (outcome.Tree tree) none = absurd (none tree refl)
no_good outcome.Unreachable none = refl
no_good (outcome.Status code) none = refl
no_good outcome.TooLong none = refl
no_good outcome.BadHttp none = refl
no_good (outcome.BadReply fault) none = refl

-- the next outcome is no tree
pub gathers_none : (outcomes : List Outcome) (i : ℕ) (x : Outcome) (was all : Option (List Token)) → i < length outcomes → x ≡ get_or outcomes i x
    → ((t : List Token) → x ≡ outcome.Tree t → ⊥) → all ≡ was → GathersAny (good_trees (take i outcomes)) was → GathersAny (good_trees (take (i + 1) outcomes)) all
gathers_none outcomes i x was all less is none same gathered =
    subst (GathersAny (good_trees (take (i + 1) outcomes))) (sym same)
    (subst (λ (trees : List (List Token)). GathersAny trees was)
    (sym (one_more_good outcomes i x less is ∙ ap (λ (ts : List (List Token)). good_trees (take i outcomes) ++ ts) (no_good x none) ∙ append-nil (good_trees (take i outcomes)))) gathered)

-- ---- soundness

pub sound_beside : {E : Type 0} (n k : ℕ) (first second : List Token) (made : Result (List Token) E)
    → ((n k : ℕ) (first second made : List Token) → IsBeside first second made → IsSoundPre n k made ↔ (IsSoundPre n k first × IsSoundPre n k second))
    → IsSoundPre n k first → IsSoundPre n k second → IfOk made (IsBeside first second) → IfOk made (IsSoundPre n k)
sound_beside n k first second (Err e) law f s beside = tt
sound_beside n k first second (Ok made) law f s beside = (law n k first second made beside).1 (f, s)

-- that of one outcome more
taken_sound : (outcomes : List Outcome) (i : ℕ) (x : Outcome) (n k : ℕ) → i < length outcomes → x ≡ get_or outcomes i x → AreSound n k (take (i + 1) outcomes)
    → AreSound n k (take i outcomes) × IsSoundOutcome n k x
taken_sound outcomes i x n k less is all =
    let both : AreSound n k (take i outcomes ++ x ∷ []) =
    subst (AreSound n k) (take_more outcomes i x less ∙ ap (λ (y : Outcome). take i outcomes ++ y ∷ []) (sym is)) all in
    (all-left (IsSoundOutcome n k) (take i outcomes) (x ∷ []) both, (all-right (IsSoundOutcome n k) (take i outcomes) (x ∷ []) both).0)

pub sound_tree : (outcomes : List Outcome) (i : ℕ) (x : Outcome) (tree copy : List Token) (was all : Option (List Token)) (made : List Token) (n k : ℕ) → i < length outcomes
    → x ≡ get_or outcomes i x → x ≡ outcome.Tree tree → copy ≡ tree → all ≡ Some made
    → (AreSound n k (take i outcomes) → IsSoundGathered n k was) → (IsSoundGathered n k was → IsSoundPre n k copy → IsSoundPre n k made)
    → AreSound n k (take (i + 1) outcomes) → IsSoundGathered n k all
sound_tree outcomes i x tree copy was all made n k less is tree-is same made-is before join sound =
    let parts = taken_sound outcomes i x n k less is sound in
    subst (IsSoundGathered n k) (sym made-is)
    (join (before parts.0) (subst (IsSoundPre n k) (sym same) (subst (IsSoundOutcome n k) tree-is parts.1)))

pub sound_none : (outcomes : List Outcome) (i : ℕ) (x : Outcome) (was all : Option (List Token)) (n k : ℕ) → i < length outcomes → x ≡ get_or outcomes i x → all ≡ was
    → (AreSound n k (take i outcomes) → IsSoundGathered n k was) → AreSound n k (take (i + 1) outcomes) → IsSoundGathered n k all
sound_none outcomes i x was all n k less is same before sound =
    subst (IsSoundGathered n k) (sym same) (before (taken_sound outcomes i x n k less is sound).0)

pub sound_below : (targets : List Target) (all : Option (List Token)) (depth : ℕ) → IsDepth (leaves targets) depth
    → IsSoundGathered (length (root (leaves targets))) depth all → IsGatheredBelow targets all
sound_below targets None depth deepest sound = tt
sound_below targets (Some good) depth deepest sound = (depth, deepest, sound)
