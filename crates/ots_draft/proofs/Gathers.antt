-- Trees gathered in one.
use Rattle.std.proofs.Common.{◌≡◌, ◌∙◌, ◌<◌, ◌≤◌, ◌^◌, ◌-◌, ◌+◌, ℕ, zero, suc, List, [], ◌∷◌, ◌++◌, length, map, take, drop, get_or, min, Option, None, Some, refl, sym, ap, subst, inl, inr, arith, append-nil}
use Rattle.std.specs.Prelude.{Result, Ok, Err, IfOk, IsSome}
use Rattle.std.specs.List.{AllByRecursion, flat_map}
use Rattle.std.proofs.lemmas.Grind.{flat_map-append}
use Rattle.std.proofs.lemmas.List.{take_all, take-append-drop, length-map}
use Rattle.ots_canon.proofs.Rising.{has_left, has_right, same_chain, same_itself}
use Rattle.ots_canon.proofs.Among.{has_append, some_has}
use Rattle.ots_canon.proofs.Insertion.{some_canon}
use Rattle.ots_canon.proofs.OneTree.{tree_exists}
use Rattle.ots_canon.specs.Canonical.{IsCanonOf, IsCanonTree}
use Rattle.ots_canon.specs.Order.{Has, HaveSame, IsWithin}
use Rattle.ots_draft.specs.declared.gathering.Gathered.{Gathered}
use Rattle.ots_draft.specs.inner.Gathered.{IsGathered, IsGatheredAny}
use Rattle.ots_draft.specs.inner.Gathering.{AreTrees, HasAll, HasPaths, HasPathsAny, HaveForm, IsFormWithin, IsTree}
use Rattle.ots_ops.specs.declared.op.Op.{Op}
use Rattle.ots_tree.proofs.Closing.{all-append, all-left, all-right}
use Rattle.ots_tree.proofs.Determined.{same_pre}
use Rattle.ots_tree.proofs.MadePaths.{paths-joined}
use Rattle.ots_tree.specs.Made.{IsBeside, joined}
use Rattle.ots_tree.specs.Wire.{IsToken, Item, Node, Path, attested, below, last, more, paths, paths_of_item, pre, pre_item, spelled, step}
use Rattle.ots_tree.specs.declared.token.Token.{Token}

-- ---- one tree beside another

pub beside_paths : {E : Type 0} (ps qs : List Path) (before tree : List Token) (r : Result (List Token) E) → HasPaths ps before → HasPaths qs tree
    → IfOk r (IsBeside before tree) → IfOk r (HasPaths (ps ++ qs))
beside_paths ps qs before tree (Err e) first second beside = tt
beside_paths ps qs before tree (Ok made) first second beside =
    let one : beside.one ≡ first.node = same_pre beside.one first.node (beside.one_is ∙ sym first.are) in
    let other : beside.other ≡ second.node = same_pre beside.other second.node (beside.other_is ∙ sym second.are) in
    record {
      node = joined beside.one beside.other;
      are = beside.made_is;
      paths_are = paths-joined beside.one beside.other ∙ (λ i. (ap paths one ∙ first.paths_are) i ++ (ap paths other ∙ second.paths_are) i);
    }

-- ---- the paths of many

flat_more : (nodes : List Node) (u : Node) → flat_map paths (nodes ++ u ∷ []) ≡ flat_map paths nodes ++ paths u
flat_more nodes u = flat_map-append paths nodes (u ∷ []) ∙ ap (λ (ps : List Path). flat_map paths nodes ++ ps) (append-nil (paths u))

same_more : (ps qs rs : List Path) → HaveSame ps qs → HaveSame (ps ++ rs) (qs ++ rs)
same_more ps qs rs same p = (
  (λ has. elim ((has_append ps rs p).1 has) [ inl a ↦ has_left qs rs p ((same p).0 a) | inr b ↦ has_right qs rs p b ]),
  (λ has. elim ((has_append qs rs p).1 has) [ inl a ↦ has_left ps rs p ((same p).1 a) | inr b ↦ has_right ps rs p b ]),
)

pub has_taken : (nodes : List Node) (j : ℕ) (p : Path) → Has (flat_map paths (take j nodes)) p → Has (flat_map paths nodes) p
has_taken nodes j p has =
    subst (λ (ns : List Node). Has (flat_map paths ns) p) (take-append-drop j nodes)
    (subst (λ (ps : List Path). Has ps p) (sym (flat_map-append paths (take j nodes) (drop j nodes))) (has_left (flat_map paths (take j nodes)) (flat_map paths (drop j nodes)) p has))

-- the node of the next tree
pub record IsNext (nodes : List Node) (j : ℕ) (tree : List Token) : Type 0 where
  pub node : Node
  pub is : pre node ≡ tree
  pub more_are : take (j + 1) nodes ≡ take j nodes ++ node ∷ []

pub next_node : (nodes : List Node) (trees : List (List Token)) (j : ℕ) (tree : List Token) → map pre nodes ≡ trees → j < length trees → tree ≡ get_or trees j tree
    → IsNext nodes j tree
next_node nodes [] j tree are less is = absurd (omega arith)
next_node [] (x ∷ trees) j tree are less is = absurd cc
next_node (n ∷ nodes) (x ∷ trees) zero tree are less is = record { node = n; is = (let e : pre n ≡ x = cc in e ∙ sym is); more_are = refl }
next_node (n ∷ nodes) (x ∷ trees) (suc j) tree are less is =
    let rest = next_node nodes trees j tree (cc) (omega arith) is in
    record { node = rest.node; is = rest.is; more_are = ap (λ (k : ℕ). take k (n ∷ nodes)) {x = suc j + 1} {y = suc (j + 1)} (omega arith) ∙ ap (λ (ns : List Node). n ∷ ns) rest.more_are }

-- ---- what is gathered

pub all_more : (nodes : List Node) (u : Node) (before tree made : List Token) → HasAll nodes before → pre u ≡ tree → IsBeside before tree made
    → HasAll (nodes ++ u ∷ []) made
all_more nodes u before tree made all is beside =
    let one : beside.one ≡ all.node = same_pre beside.one all.node (beside.one_is ∙ sym all.are) in
    let other : beside.other ≡ u = same_pre beside.other u (beside.other_is ∙ sym is) in
    record {
      node = joined all.node u;
      are = (λ i. pre (joined (sym one i) (sym other i))) ∙ beside.made_is;
      same = subst (HaveSame (paths (joined all.node u))) (sym (flat_more nodes u))
          (subst (λ (ps : List Path). HaveSame ps (flat_map paths nodes ++ paths u)) (sym (paths-joined all.node u))
          (same_more (paths all.node) (flat_map paths nodes) (paths u) all.same));
    }

pub gathered_more : (nodes : List Node) (u : Node) (g made : Gathered) (tree : List Token) → IsGathered nodes g → pre u ≡ tree → IsBeside g.tree tree made.tree
    → made.least ≡ g.least → IsGathered (nodes ++ u ∷ []) made
unfolding all_more
gathered_more nodes u g made tree is next beside same = record {
  all = all_more nodes u g.tree tree made.tree is.all next beside;
  low = λ ps whole among canon.
      let fewer : g.least ≤ length (spelled whole) =
      is.low ps whole
      (λ p has. among p (subst (λ (qs : List Path). Has qs p) (sym (paths-joined is.all.node u)) (has_left (paths is.all.node) (paths u) p has)))
      canon in
      omega (arith, same, fewer);
}

pub first_all : (nodes : List Node) (u : Node) (tree : List Token) → nodes ≡ [] → pre u ≡ tree → HasAll (nodes ++ u ∷ []) tree
first_all nodes u tree none is =
    rw none (record { node = u; are = is; same = subst (HaveSame (paths u)) (sym (append-nil (paths u))) (same_itself (paths u)) })

pub some_gathered : (nodes : List Node) (o : Option Gathered) → IsGatheredAny nodes o → 1 ≤ length nodes → IsSome o
some_gathered nodes None none some = absurd (omega (arith, ap length none))
some_gathered nodes (Some g) is some = refl

-- the canonical form has the paths
pub form_has : (nodes : List Node) (tree form : List Token) → HasAll nodes tree → IsCanonOf tree form → IsCanonTree (flat_map paths nodes) form
form_has nodes tree form all canon =
    let same : canon.node ≡ all.node = same_pre canon.node all.node (canon.are ∙ sym all.are) in
    let f = canon.form in
    record {
      sorted = f.sorted;
      is_canon = record {
        rising = f.is_canon.rising;
        same = same_chain (flat_map paths nodes) (paths canon.node) f.sorted
            (λ p. subst (λ (n : Node). (Has (flat_map paths nodes) p → Has (paths n) p) × (Has (paths n) p → Has (flat_map paths nodes) p)) (sym same) ((all.same p).1, (all.same p).0))
            f.is_canon.same;
      };
      node = f.node;
      is_tree = f.is_tree;
      are = f.are;
    }

-- fewer paths are spelled in no more bytes
abbrev pub FewerPaths : Type 0
FewerPaths = (ps qs : List Path) (ts us : List Token) → IsCanonTree ps ts → IsCanonTree qs us → ((p : Path) → Has ps p → Has qs p)
    → length (spelled ts) ≤ length (spelled us)

pub gathered_form : FewerPaths → (nodes : List Node) (tree : List Token) (g : Gathered) → HasAll nodes tree → IsCanonOf tree g.tree → g.least ≡ min (length (spelled g.tree)) (2 ^ 64 - 1)
    → IsGathered nodes g
gathered_form shorter nodes tree g all canon long =
    let form = form_has nodes tree g.tree all canon in
    record {
      all = record {
        node = form.node;
        are = form.are;
        same = subst (λ (ps : List Path). HaveSame ps (flat_map paths nodes)) (sym form.is_tree.same) (λ p. ((form.is_canon.same p).1, (form.is_canon.same p).0));
      };
      low = λ ps whole among whole_canon.
          let fewer = shorter (flat_map paths nodes) ps g.tree whole form whole_canon
          (λ p has. among p (subst (λ (qs : List Path). Has qs p) (sym form.is_tree.same) ((form.is_canon.same p).0 has))) in
          omega (arith, long, fewer);
    }

-- ---- the trees

below_within : (o : Op) (ps : List Path) → AllByRecursion IsWithin ps → AllByRecursion IsWithin (map (below o) ps)
below_within o [] all = tt
below_within o (p ∷ ps) all = (all.0, below_within o ps all.1)

mutual
  node_within : (t : Node) → AllByRecursion IsToken (pre t) → AllByRecursion IsWithin (paths t)
  node_within (last i) all = item_within i all
  node_within (more i t) all =
      all-append IsWithin (paths_of_item i) (paths t) (item_within i (all-left IsToken (pre_item i) (pre t) all.1)) (node_within t (all-right IsToken (pre_item i) (pre t) all.1))

  item_within : (i : Item) → AllByRecursion IsToken (pre_item i) → AllByRecursion IsWithin (paths_of_item i)
  item_within (attested a) all = (all.0, tt)
  item_within (step o t) all = below_within o (paths t) (node_within t all.1)

-- their nodes
pub record AreNodesOf (trees : List (List Token)) : Type 0 where
  pub nodes : List Node
  pub are : map pre nodes ≡ trees
  pub within : AllByRecursion IsWithin (flat_map paths nodes)

pub nodes_of : (trees : List (List Token)) → AreTrees trees → AreNodesOf trees
nodes_of [] all = record { nodes = []; are = refl; within = tt }
nodes_of (tree ∷ trees) all =
    let first = all.0 in
    let rest = nodes_of trees all.1 in
    record {
      nodes = first.node ∷ rest.nodes;
      are = (λ i. first.are i ∷ rest.are i);
      within = all-append IsWithin (paths first.node) (flat_map paths rest.nodes) (node_within first.node (subst (AllByRecursion IsToken) (sym first.are) first.limits)) rest.within;
    }

some_form : (ps : List Path) (p : Path) → Has ps p → AllByRecursion IsWithin ps → (made : List Token) × IsCanonTree ps made
some_form ps p has all =
    let c = some_canon ps all in
    let t = tree_exists c.0 (λ none. subst (λ (qs : List Path). Has qs p) none ((c.1.same p).0 has)) c.1.rising in
    (pre t.0, record { sorted = c.0; is_canon = c.1; node = t.0; is_tree = t.1; are = refl })

-- what is gathered of some of them is too long
pub too_long : (trees : List (List Token)) (most j : ℕ) (g : Gathered) (all : AreNodesOf trees) → IsGathered (take j all.nodes) g → most < g.least
    → IsFormWithin trees most None
too_long trees most j g all is long =
    let one = some_has is.all.node in
    let among : (p : Path) → Has (paths is.all.node) p → Has (flat_map paths all.nodes) p = λ p has. has_taken all.nodes j p ((is.all.same p).0 has) in
    let form = some_form (flat_map paths all.nodes) one.0 (among one.0 one.1) all.within in
    let fewer = is.low (flat_map paths all.nodes) form.0 among form.1 in
    record { whole = form.0; is = record { nodes = all.nodes; are = all.are; canon = form.1 }; told = omega (arith, long, fewer) }
