-- Trees for pairs.
use Rattle.std.proofs.Common.{◌≡◌, ◌<◌, ◌+◌, ℕ, zero, suc, List, [], ◌∷◌, ◌++◌, length, take, Option, None, Some, refl, sym, ap, subst, ◌∙◌, arith}
use Rattle.std.specs.List.{slice_get}
use Rattle.std.proofs.lemmas.List.Elements.{filter_map-append}
use Rattle.ots_archive_taken.specs.Given.{AreGoodTrees, AreTreesFor, IsTreeFor, good}
use Rattle.ots_pending.specs.Completed.{AreSoundFor, IsSoundFor}
use Rattle.ots_pending.specs.Pairs.{PairAt}
use Rattle.ots_sheet.specs.Reply.{Answer}
use Rattle.ots_sheet.specs.declared.request.Kind.{Kind}
use Rattle.ots_tree.specs.Sound.{IsSoundPre}
use Rattle.ots_tree.specs.declared.token.Token.{Token}

-- ---- one more

pub trees_more : (answers : List Answer) (kind : Kind) (pairs : List PairAt) (i : ℕ) (trees : List (Option (List Token))) (tree : Option (List Token)) → i < length pairs
    → AreTreesFor answers kind (take i pairs) trees → ((p : PairAt) → slice_get pairs i ≡ Some p → IsTreeFor answers kind p tree)
    → AreTreesFor answers kind (take (i + 1) pairs) (trees ++ tree ∷ [])
trees_more answers kind [] i trees tree less are next = absurd (omega arith)
trees_more answers kind (p ∷ pairs) zero [] tree less are next = (next p refl, tt)
trees_more answers kind (p ∷ pairs) zero (t ∷ trees) tree less are next = absurd are
trees_more answers kind (p ∷ pairs) (suc i) [] tree less are next = absurd are
trees_more answers kind (p ∷ pairs) (suc i) (t ∷ trees) tree less are next =
    let e : suc (i + 1) ≡ suc i + 1 = omega arith in
    subst (λ (n : ℕ). AreTreesFor answers kind (take n (p ∷ pairs)) ((t ∷ trees) ++ tree ∷ [])) e
    (are.0, trees_more answers kind pairs i trees tree (omega arith) are.1 next)

pub got_more : (answers : List Answer) (kind : Kind) (pairs : List PairAt) (i : ℕ) (trees all : List (Option (List Token))) (tree : Option (List Token)) → i < length pairs
    → AreTreesFor answers kind (take i pairs) trees → ((p : PairAt) → slice_get pairs i ≡ Some p → IsTreeFor answers kind p tree) → all ≡ trees ++ tree ∷ []
    → AreTreesFor answers kind (take (i + 1) pairs) all
got_more answers kind pairs i trees all tree less are next is =
    subst (AreTreesFor answers kind (take (i + 1) pairs)) (sym is) (trees_more answers kind pairs i trees tree less are next)

-- the good ones among them
pub good_more : (given : List (Option (List Token))) (tree : List Token) → good (given ++ Some tree ∷ []) ≡ good given ++ tree ∷ []
good_more given tree = filter_map-append (λ t. t) given (Some tree ∷ [])

pub good_stays : (given : List (Option (List Token))) → good (given ++ None ∷ []) ≡ good given
good_stays [] = refl
good_stays (None ∷ given) = good_stays given
good_stays (Some t ∷ given) = ap (λ (z : List (List Token)). t ∷ z) (good_stays given)

pub some_good : (answers : List Answer) (kind : Kind) (pairs : List PairAt) (i : ℕ) (trees all : List (List Token)) (tree : List Token) (o : Option (List Token)) → i < length pairs
    → AreGoodTrees answers kind (take i pairs) trees → o ≡ Some tree → ((p : PairAt) → slice_get pairs i ≡ Some p → IsTreeFor answers kind p o)
    → all ≡ trees ++ tree ∷ [] → AreGoodTrees answers kind (take (i + 1) pairs) all
some_good answers kind pairs i trees all tree o less are is next same = record {
  given = are.given ++ Some tree ∷ [];
  each = trees_more answers kind pairs i are.given (Some tree) less are.each (λ p at. subst (IsTreeFor answers kind p) is (next p at));
  good_are = same ∙ ap (λ (z : List (List Token)). z ++ tree ∷ []) are.good_are ∙ sym (good_more are.given tree);
}

pub none_good : (answers : List Answer) (kind : Kind) (pairs : List PairAt) (i : ℕ) (trees all : List (List Token)) (o : Option (List Token)) → i < length pairs
    → AreGoodTrees answers kind (take i pairs) trees → o ≡ None → ((p : PairAt) → slice_get pairs i ≡ Some p → IsTreeFor answers kind p o) → all ≡ trees
    → AreGoodTrees answers kind (take (i + 1) pairs) all
none_good answers kind pairs i trees all o less are is next same = record {
  given = are.given ++ None ∷ [];
  each = trees_more answers kind pairs i are.given None less are.each (λ p at. subst (IsTreeFor answers kind p) is (next p at));
  good_are = same ∙ are.good_are ∙ sym (good_stays are.given);
}

-- ---- all of them

pub one_each : (answers : List Answer) (kind : Kind) (pairs : List PairAt) (trees : List (Option (List Token))) → AreTreesFor answers kind pairs trees → length trees ≡ length pairs
one_each answers kind [] [] are = refl
one_each answers kind [] (t ∷ trees) are = absurd are
one_each answers kind (p ∷ pairs) [] are = absurd are
one_each answers kind (p ∷ pairs) (t ∷ trees) are = ap suc (one_each answers kind pairs trees are.1)

-- a tree is sound for its pair
pub sound_there : (answers : List Answer) (kind : Kind) (p : PairAt) (tree : List Token) → IsTreeFor answers kind p (Some tree) → IsSoundPre (length p.pair.message) p.depth tree
sound_there answers kind p tree is =
    subst (λ (m : List ℕ). IsSoundPre (length m) p.depth tree) is.1.message is.2.whole.sound

sound_here : (answers : List Answer) (kind : Kind) (p : PairAt) (pairs : List PairAt) (t : Option (List Token)) → IsTreeFor answers kind p t → IsSoundFor (p ∷ pairs) zero t
sound_here answers kind p pairs None is = tt
sound_here answers kind p pairs (Some tree) is = λ q at. (let same : p ≡ q = cc in subst (λ (z : PairAt). IsSoundPre (length z.pair.message) z.depth tree) same (sound_there answers kind p tree is))

later : (p : PairAt) (pairs : List PairAt) (i : ℕ) (tree : Option (List Token)) → IsSoundFor pairs i tree → IsSoundFor (p ∷ pairs) (suc i) tree
later p pairs i None sound = tt
later p pairs i (Some tree) sound = sound

pub sound_trees : (answers : List Answer) (kind : Kind) (pairs : List PairAt) (trees : List (Option (List Token))) → AreTreesFor answers kind pairs trees → AreSoundFor pairs trees
sound_trees answers kind [] [] are i tree at = absurd cc
sound_trees answers kind [] (t ∷ trees) are i tree at = absurd are
sound_trees answers kind (p ∷ pairs) [] are i tree at = absurd are
sound_trees answers kind (p ∷ pairs) (t ∷ trees) are zero tree at =
    let same : t ≡ tree = cc in subst (IsSoundFor (p ∷ pairs) zero) same (sound_here answers kind p pairs t are.0)
sound_trees answers kind (p ∷ pairs) (t ∷ trees) are (suc i) tree at = later p pairs i tree (sound_trees answers kind pairs trees are.1 i tree at)
