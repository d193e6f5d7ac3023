-- What is made of a proof and the trees that were given has the paths that it is to have.
use Rattle.std.proofs.Common.{◌≡◌, ◌↔◌, ℕ, zero, suc, ◌<◌, ◌≤◌, inl, inr, Bool, true, false, cond, List, [], ◌∷◌, ◌++◌, map, length, Option, None, Some, refl, sym, ap, subst, ◌∙◌, arith}
use Rattle.std.specs.Prelude.{option_map, option_and_then, IsTrue, ◌⊎◌}
use Rattle.std.specs.List.{flat_map, slice_get}
use Rattle.std.proofs.lemmas.List.{append-nil}
use Rattle.ots_attest.specs.declared.attestation.Attestation.{Attestation}
use Rattle.ots_attest.specs.declared.attestation.Attestation.TheVariants as attestation
use Rattle.ots_ops.specs.Value.{value}
use Rattle.ots_tree.specs.declared.token.Token.{Token}
use Rattle.ots_tree.specs.declared.token.TokenAt.{TokenAt}
use Rattle.ots_tree.specs.declared.detached.Detached.{Detached}
use Rattle.ots_tree.specs.Kept.{IsKept, beside}
use Rattle.ots_tree.specs.Made.{joined, IsBeside}
use Rattle.ots_tree.specs.Sound.{IsSound, IsSoundPre}
use Rattle.ots_tree.specs.Wire.{Node, Path, paths, pre, IsPre}
use Rattle.ots_tree.proofs.Determined.{same_pre}
use Rattle.ots_tree.proofs.MadePaths.{paths-joined}
use Rattle.ots_tree.proofs.Numbered.{kept_beside}
use Rattle.ots_canon.specs.Order.{Has, HaveSame}
use Rattle.ots_canon.specs.Canonical.{IsCanonTree, IsCanonOf}
use Rattle.ots_canon.proofs.Among.{back, onward, has_append}
use Rattle.ots_pending.specs.Pairs.{Pair, PairAt, is_same}
use Rattle.ots_pending.specs.Completed.{answer_to, gained, paths_after, tree_for, IsCompleted}
use Rattle.ots_pending.specs.Grown.{AreReady, AreTrees, ArePut, Grows, GrowsInPart, IsBetween}
use Rattle.ots_pending.specs.Parts.{AreNone, Completes, IsFormOfPart, IsPart, SomeArePut}
use Rattle.ots_pending.specs.declared.completing.Part.{Part}
use Rattle.ots_pending.specs.declared.growing.Growth.{Growth}
use Rattle.ots_pending.proofs.GrownTrees.{Gains}
use Rattle.ots_pending.proofs.Lists.{none_some, some_same}
use Rattle.ots_pending.proofs.Maps.{in_range}
use Rattle.ots_pending.proofs.PartGrown.{root_grows}
use Rattle.ots_pending.proofs.Putting.{put_of_ready}
use Rattle.ots_pending.proofs.Shorter.{AreIn}

-- ---- lists of paths with the same paths

pub canon_same : (ps qs : List Path) (ts : List Token) → HaveSame ps qs → IsCanonTree ps ts → IsCanonTree qs ts
canon_same ps qs ts same c = record {
  sorted = c.sorted;
  is_canon = record { rising = c.is_canon.rising; same = λ p. onward (back (same p)) (c.is_canon.same p) };
  node = c.node;
  is_tree = c.is_tree;
  are = c.are;
}

record HasIn (f : Path → List Path) (ps : List Path) (p : Path) : Type 0 where
  from : Path
  among : Has ps from
  has : Has (f from) p

has_in : (f : Path → List Path) (ps : List Path) (p : Path) → Has (flat_map f ps) p → HasIn f ps p
has_in f [] p h = absurd h
has_in f (q ∷ ps) p h = elim ((has_append (f q) (flat_map f ps) p).1 h) [
  | inl x ↦ record { from = q; among = inl refl; has = x }
  | inr y ↦ (let r = has_in f ps p y in record { from = r.from; among = inr r.among; has = r.has })
]

in_has : (f : Path → List Path) (ps : List Path) (p q : Path) → Has ps q → Has (f q) p → Has (flat_map f ps) p
in_has f [] p q h k = absurd h
in_has f (r ∷ ps) p q (inl is) k = (has_append (f r) (flat_map f ps) p).0 (inl (subst (λ (z : Path). Has (f z) p) (sym is) k))
in_has f (r ∷ ps) p q (inr h) k = (has_append (f r) (flat_map f ps) p).0 (inr (in_has f ps p q h k))

module _ (pairs : List PairAt) (given : List (Option Node)) (m : Option (List ℕ)) where
  pub gains_all : (ps : List Path) (p : Path) → Gains pairs given m ps p ↔ Has (ps ++ flat_map (gained pairs given m) ps) p
  gains_all ps p = (
    λ h. (has_append ps (flat_map (gained pairs given m) ps) p).0 (elim h [
      | inl x ↦ inl x
      | inr g ↦ inr (in_has (gained pairs given m) ps p g.from g.among g.gain)
    ]),
    λ h. elim ((has_append ps (flat_map (gained pairs given m) ps) p).1 h) [
      | inl x ↦ inl x
      | inr y ↦ (let r = has_in (gained pairs given m) ps p y in inr (record { from = r.from; among = r.among; gain = r.has }))
    ],
  )

  gains_same : (ps qs : List Path) → HaveSame ps qs → (p : Path) → Gains pairs given m ps p ↔ Gains pairs given m qs p
  gains_same ps qs same p = (
    λ h. elim h [ inl x ↦ inl ((same p).0 x) | inr g ↦ inr (record { from = g.from; among = (same g.from).0 g.among; gain = g.gain }) ],
    λ h. elim h [ inl x ↦ inl ((same p).1 x) | inr g ↦ inr (record { from = g.from; among = (same g.from).1 g.among; gain = g.gain }) ],
  )

-- ---- the canonical form of a tree

pub same_form : (t u : Node) (ts : List Token) → pre t ≡ ts → IsCanonTree (paths u) ts → HaveSame (paths t) (paths u)
same_form t u ts is c =
    let one : c.node ≡ t = same_pre c.node t (c.are ∙ sym is) in
    λ p. back (onward (c.is_canon.same p) (subst (λ (z : List Path). Has z p ↔ Has (paths t) p) (c.is_tree.same) (subst (λ (z : Node). Has (paths z) p ↔ Has (paths t) p) (sym one) ((λ h. h), (λ h. h)))))

-- ---- a window

-- the tokens that a walk makes are those of a part
pub part_is : (pairs : List PairAt) (given : List (Option Node)) (form : List Token) (depths digest : List ℕ) (from : ℕ) (g : Growth) (part : Part)
    → IsKept form depths → IsSoundPre (length digest) 0 form → Grows pairs given (digest ∷ []) (beside form depths) from g
    → part.tree ≡ g.tokens.items → part.next ≡ g.next → part.is_whole ≡ g.is_whole → IsPart pairs given (Some digest) form from part
part_is pairs given form depths digest from g part kept sound grows tree_is next_is whole_is =
    let t = kept.node in
    let m : Option (List ℕ) = Some digest in
    let one : sound.0 ≡ t = same_pre sound.0 t (sound.2 ∙ sym kept.tokens_are) in
    let sound_here : IsSound (length digest) 0 t = subst (IsSound (length digest) 0) one sound.1 in
    let Must = IsBetween from g.next in
    let r = root_grows pairs given Must grows.count t (length digest) digest g.tokens.items sound_here
    (subst (λ (z : List TokenAt). GrowsInPart pairs given Must grows.count false 0 (digest ∷ []) z g.tokens.items) (kept_beside form depths kept) grows.part) in
    record {
      node = t;
      node_is = kept.tokens_are;
      made = r.node;
      made_is = r.are ∙ sym tree_is;
      completes = record {
        keeps = r.keeps;
        gains = λ i f p low high at gain. r.gains i f p at (low, (let same = next_is in omega arith)) gain;
        within = λ p has. (gains_all pairs given m (paths t) p).0 (r.within p has);
      };
      whole = λ is. (let most = grows.whole (subst IsTrue whole_is is) in let long = r.count_is in let same = next_is in omega arith);
    }

-- they are those of some tree
pub part_pre : (pairs : List PairAt) (given : List (Option Node)) (form : List Token) (depths digest : List ℕ) (from : ℕ) (g : Growth)
    → IsKept form depths → IsSoundPre (length digest) 0 form → Grows pairs given (digest ∷ []) (beside form depths) from g → IsPre g.tokens.items
part_pre pairs given form depths digest from g kept sound grows =
    let p : Part = record { tree = g.tokens.items; next = g.next; is_whole = g.is_whole } in
    let r = part_is pairs given form depths digest from g p kept sound grows refl refl refl in
    (r.made, r.made_is)

-- what was handed on grows as well
pub grows_of : (pairs kept_pairs : List PairAt) (given : List (Option Node)) (ready : List (Option (List Token))) (form seen : List Token) (depths digest kept_digest : List ℕ) (from : ℕ) (g : Growth)
    → kept_pairs ≡ pairs → seen ≡ form → kept_digest ≡ digest → ArePut pairs given ready
    → ((all : List (Option Node)) → ArePut kept_pairs all ready → Grows kept_pairs all (kept_digest ∷ []) (beside seen depths) from g)
    → Grows pairs given (digest ∷ []) (beside form depths) from g
grows_of pairs kept_pairs given ready form seen depths digest kept_digest from g pairs_are seen_is digest_is put is =
    let here : ArePut kept_pairs given ready = subst (λ (z : List PairAt). ArePut z given ready) (sym pairs_are) put in
    subst (λ (z : List PairAt). Grows z given (digest ∷ []) (beside form depths) from g) pairs_are
    (subst (λ (z : List Token). Grows kept_pairs given (digest ∷ []) (beside z depths) from g) seen_is
    (subst (λ (z : List ℕ). Grows kept_pairs given (z ∷ []) (beside seen depths) from g) digest_is (is given here)))

-- ---- the trees that are put

pub some_put : (pairs : List PairAt) (trees ready handed : List (Option (List Token))) → AreReady pairs trees ready → AreTrees trees → handed ≡ ready → SomeArePut pairs handed
some_put pairs trees ready handed all t is = record { given = t.given; are = subst (ArePut pairs t.given) (sym is) (put_of_ready pairs trees ready t.given all t.are) }

pub all_put : (pairs : List PairAt) (trees ready handed : List (Option (List Token))) (given : List (Option Node)) → AreReady pairs trees ready → map (option_map pre) given ≡ trees → handed ≡ ready
    → ArePut pairs given handed
all_put pairs trees ready handed given all e is = subst (ArePut pairs given) (sym is) (put_of_ready pairs trees ready given all e)

-- ---- windows one after the other

record HasPlace (ps : List Path) (p : Path) : Type 0 where
  place : ℕ
  at : slice_get ps place ≡ Some p

place_of : (ps : List Path) (p : Path) → Has ps p → HasPlace ps p
place_of [] p h = absurd h
place_of (q ∷ ps) p (inl is) = record { place = 0; at = ap (λ (z : Path). Some z) is }
place_of (q ∷ ps) p (inr h) = let r = place_of ps p h in record { place = suc r.place; at = r.at }

before_or_not : (i n : ℕ) → (i < n) ⊎ (n ≤ i)
before_or_not i zero = inr (omega arith)
before_or_not zero (suc n) = inl (omega arith)
before_or_not (suc i) (suc n) = elim (before_or_not i n) [ inl x ↦ inl (omega arith) | inr x ↦ inr (omega arith) ]

module _ (pairs : List PairAt) (given : List (Option Node)) (m : Option (List ℕ)) where
  completes_more : (ps qs rs : List Path) (from middle to : ℕ) → Completes pairs given m ps from middle qs → Completes pairs given m ps middle to rs
      → Completes pairs given m ps from to (qs ++ rs)
  completes_more ps qs rs from middle to one other = record {
    keeps = λ p has. (has_append qs rs p).0 (inl (one.keeps p has));
    gains = λ i f p low high at gain. (has_append qs rs p).0 (elim (before_or_not i middle) [
      | inl x ↦ inl (one.gains i f p low x at gain)
      | inr x ↦ inr (other.gains i f p x high at gain)
    ]);
    within = λ p has. elim ((has_append qs rs p).1 has) [ inl x ↦ one.within p x | inr x ↦ other.within p x ];
  }

  completes_same : (ps qs rs : List Path) (from to : ℕ) → HaveSame qs rs → Completes pairs given m ps from to qs → Completes pairs given m ps from to rs
  completes_same ps qs rs from to same h = record {
    keeps = λ p has. (same p).0 (h.keeps p has);
    gains = λ i f p low high at gain. (same p).0 (h.gains i f p low high at gain);
    within = λ p has. h.within p ((same p).1 has);
  }

  completes_all : (ps qs : List Path) (to : ℕ) → Completes pairs given m ps 0 to qs → length ps ≤ to → HaveSame qs (ps ++ flat_map (gained pairs given m) ps)
  completes_all ps qs to h most p = (
    h.within p,
    λ has. elim ((has_append ps (flat_map (gained pairs given m) ps) p).1 has) [
      | inl x ↦ h.keeps p x
      | inr y ↦ (
          let r = has_in (gained pairs given m) ps p y in
          let at = place_of ps r.from r.among in
          let low = in_range ps r.from at.place at.at in
          h.gains at.place r.from p (omega arith) (omega arith) at.at r.has
          )
    ],
  )

  pub parts_joined : (form both : List Token) (one other part : Part) → IsPart pairs given m form 0 one → IsPart pairs given m form one.next other → IsBeside one.tree other.tree both
      → part.tree ≡ both → part.next ≡ other.next → part.is_whole ≡ other.is_whole → IsPart pairs given m form 0 part
  parts_joined form both one other part x y b tree_is next_is whole_is =
      let first : b.one ≡ x.made = same_pre b.one x.made (b.one_is ∙ sym x.made_is) in
      let second : b.other ≡ y.made = same_pre b.other y.made (b.other_is ∙ sym y.made_is) in
      let node : y.node ≡ x.node = same_pre y.node x.node (y.node_is ∙ sym x.node_is) in
      let completes : Completes pairs given m (paths x.node) one.next other.next (paths y.made) =
      subst (λ (z : Node). Completes pairs given m (paths z) one.next other.next (paths y.made)) node y.completes in
      let all = completes_more (paths x.node) (paths x.made) (paths y.made) 0 one.next other.next x.completes completes in
      record {
        node = x.node;
        node_is = x.node_is;
        made = joined x.made y.made;
        made_is = sym (ap (λ (z : Node). pre (joined z y.made)) first) ∙ sym (ap (λ (z : Node). pre (joined b.one z)) second) ∙ b.made_is ∙ sym tree_is;
        completes =
            subst (λ (z : List Path). Completes pairs given m (paths x.node) 0 part.next z) (sym (paths-joined x.made y.made))
            (subst (λ (z : ℕ). Completes pairs given m (paths x.node) 0 z (paths x.made ++ paths y.made)) (sym next_is) all);
        whole = λ is. (
            let most = y.whole (subst IsTrue whole_is is) in
            let same = next_is in
            let long = ap (λ (z : Node). length (paths z)) node in
            omega arith);
      }

  pub canonical_part : (form : List Token) (one part : Part) → IsPart pairs given m form 0 one → IsCanonOf one.tree part.tree → part.next ≡ one.next → part.is_whole ≡ one.is_whole
      → IsFormOfPart pairs given m form part
  canonical_part form one part x canon next_is whole_is =
      let same_made : canon.node ≡ x.made = same_pre canon.node x.made (canon.are ∙ sym x.made_is) in
      let of_made : IsCanonTree (paths x.made) part.tree = subst (λ (z : Node). IsCanonTree (paths z) part.tree) same_made canon.form in
      let same : HaveSame (paths x.made) (paths of_made.node) = λ p. back (same_form of_made.node x.made part.tree of_made.are of_made p) in
      record {
        is = record {
          node = x.node;
          node_is = x.node_is;
          made = of_made.node;
          made_is = of_made.are;
          completes = completes_same (paths x.node) (paths x.made) (paths of_made.node) 0 part.next same
              (subst (λ (z : ℕ). Completes pairs given m (paths x.node) 0 z (paths x.made)) (sym next_is) x.completes);
          whole = λ is. (let most = x.whole (subst IsTrue whole_is is) in let e = next_is in omega arith);
        };
        canonical = canon_same (paths x.made) (paths of_made.node) part.tree same of_made;
      }

-- ---- the completed tree

module _ (proof : Detached) (pairs : List PairAt) (trees : List (Option (List Token))) (given : List (Option Node)) (form : List Token)
    (given_are : map (option_map pre) given ≡ trees) (canon : IsCanonOf proof.tree form) where
  abbrev m : Option (List ℕ)
  m = Some proof.digest

  pub same_gains : (t : Node) → pre t ≡ form → HaveSame (paths t ++ flat_map (gained pairs given m) (paths t)) (paths canon.node ++ flat_map (gained pairs given m) (paths canon.node))
  same_gains t is p =
      onward (back (gains_all pairs given m (paths t) p))
      (onward (gains_same pairs given m (paths t) (paths canon.node) (same_form t canon.node form is canon.form) p) (gains_all pairs given m (paths canon.node) p))

  pub whole_is_completed : (part : Part) → IsFormOfPart pairs given m form part → IsTrue part.is_whole → IsCompleted proof pairs trees part.tree
  whole_is_completed part h whole =
      let x = h.is in
      let all = completes_all pairs given m (paths x.node) (paths x.made) part.next x.completes (x.whole whole) in
      record {
        node = canon.node;
        tree = canon.are;
        given = given;
        given_are = given_are;
        form = canon_same (paths x.made) (paths canon.node ++ flat_map (gained pairs given m) (paths canon.node)) part.tree
            (λ p. onward (all p) (same_gains x.node x.node_is p)) h.canonical;
      }

  pub part_is_within : (part : Part) → (h : IsFormOfPart pairs given m form part)
      → AreIn (paths h.is.made) (paths canon.node ++ flat_map (gained pairs given m) (paths canon.node))
  part_is_within part h p has = (same_gains h.is.node h.is.node_is p).0 (h.is.completes.within p has)

-- ---- where no tree was given

record NoneGiven (trees : List (Option (List Token))) : Type 0 where
  given : List (Option Node)
  are : map (option_map pre) given ≡ trees
  none : (i : ℕ) (t : Option Node) → slice_get given i ≡ Some t → t ≡ None

nothing_more : (given : List (Option Node)) → ((i : ℕ) (t : Option Node) → slice_get given i ≡ Some t → t ≡ None) → (i : ℕ) (t : Option Node) → slice_get (None ∷ given) i ≡ Some t → t ≡ None
nothing_more given none zero t at = sym (some_same None t at)
nothing_more given none (suc i) t at = none i t at

none_given : (trees : List (Option (List Token))) → AreNone trees → NoneGiven trees
none_given [] h = record { given = []; are = refl; none = λ i t at. absurd (none_some t at) }
none_given (t ∷ trees) h =
    let r = none_given trees (λ i u at. h (suc i) u at) in
    record {
      given = None ∷ r.given;
      are = ap (λ (z : Option (List Token)). z ∷ map (option_map pre) r.given) (sym (h 0 t refl)) ∙ ap (λ (z : List (Option (List Token))). t ∷ z) r.are;
      none = nothing_more r.given r.none;
    }

module _ (pairs : List PairAt) (given : List (Option Node)) (none : (i : ℕ) (t : Option Node) → slice_get given i ≡ Some t → t ≡ None) where
  either_none : (b : Bool) (t u : Option Node) → t ≡ None → u ≡ None → cond b t u ≡ None
  either_none true t u h k = h
  either_none false t u h k = k

  no_tree_for : (p : Pair) (qs : List PairAt) (ts : List (Option Node)) → ((i : ℕ) (t : Option Node) → slice_get ts i ≡ Some t → t ≡ None) → tree_for p qs ts ≡ None
  no_tree_for p [] ts h = refl
  no_tree_for p (q ∷ qs) [] h = refl
  no_tree_for p (q ∷ qs) (t ∷ ts) h = either_none (is_same p q.pair) t (tree_for p qs ts) (h 0 t refl) (no_tree_for p qs ts (λ i u at. h (suc i) u at))

  no_answer_to : (a : Attestation) (m : Option (List ℕ)) → answer_to pairs given a m ≡ None
  no_answer_to (attestation.Pending uri) (Some m) = no_tree_for (record { uri = uri; message = m }) pairs given none
  no_answer_to (attestation.Pending uri) None = refl
  no_answer_to (attestation.Bitcoin height) m = refl
  no_answer_to (attestation.Litecoin height) m = refl
  no_answer_to (attestation.Unknown other) m = refl

  no_gains : (m : Option (List ℕ)) (ps : List Path) → flat_map (gained pairs given m) ps ≡ []
  no_gains m [] = refl
  no_gains m (p ∷ ps) = ap (λ (z : Option Node). paths_after p.ops z ++ flat_map (gained pairs given m) ps) (no_answer_to p.end (option_and_then (value p.ops) m)) ∙ no_gains m ps

pub form_is_completed : (proof : Detached) (pairs : List PairAt) (trees : List (Option (List Token))) (form : List Token) → AreNone trees → IsCanonOf proof.tree form
    → IsCompleted proof pairs trees form
form_is_completed proof pairs trees form none canon =
    let g = none_given trees none in
    let same : paths canon.node ++ flat_map (gained pairs g.given (Some proof.digest)) (paths canon.node) ≡ paths canon.node =
    ap (λ (z : List Path). paths canon.node ++ z) (no_gains pairs g.given g.none (Some proof.digest) (paths canon.node)) ∙ append-nil (paths canon.node) in
    record {
      node = canon.node;
      tree = canon.are;
      given = g.given;
      given_are = g.are;
      form = subst (λ (z : List Path). IsCanonTree z form) (sym same) canon.form;
    }
