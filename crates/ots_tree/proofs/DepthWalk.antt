-- The numbers of operations that a walk over the tokens of a tree counts are those of its listing.
use Rattle.std.proofs.Common.{◌≡◌, ℕ, suc, ◌+◌, ◌-◌, ◌^◌, min, Bool, List, [], ◌∷◌, ◌++◌, map, length, get_or, take, drop, ◌<◌, ◌≤◌, refl, sym, ap, subst, ◌∙◌, arith, append_assoc}
use Rattle.std.specs.List.{AllByRecursion}
use Rattle.std.proofs.lemmas.List.{append-nil, map-append, take_all, drop_all}
use Rattle.ots_tree.specs.declared.token.Token.{Token}
use Rattle.ots_tree.specs.Wire.{Node, Item, last, more, attested, step, IsPre, IsToken}
use Rattle.ots_tree.specs.Listed.{listed, listed_item}
use Rattle.ots_tree.specs.Kept.{depth_of, IsKept}
use Rattle.ots_tree.specs.Walk.{Open, Met, Position, begun, open_at, IsStep}
use Rattle.ots_tree.specs.OpenDepths.{counted, one_more}
use Rattle.ots_tree.specs.Built.{carried, before, Left, IsBuilt}
use Rattle.ots_tree.proofs.Closing.{all-append}
use Rattle.ots_tree.proofs.Walks.{met_in, met_along, tree_met, tree_ends, moves_at}

abbrev cap : ℕ → ℕ
cap k = min k (2 ^ 32 - 1)

cap-suc : (k : ℕ) → min (cap k + 1) (2 ^ 32 - 1) ≡ cap (suc k)
cap-suc k = omega arith

mutual
  node_counts : (t : Node) (k : ℕ) → map carried (met_in counted (cap k) t) ≡ map depth_of (listed k t)
  node_counts (last i) k = item_counts i k
  node_counts (more i t) k = ap (λ (z : List ℕ). cap k ∷ z) (
      map-append carried (met_along counted (cap k) i) (met_in counted (cap k) t)
      ∙ ap (λ (z : List ℕ). z ++ map carried (met_in counted (cap k) t)) (item_counts i k)
      ∙ ap (λ (z : List ℕ). map depth_of (listed_item k i) ++ z) (node_counts t k)
      ∙ sym (map-append depth_of (listed_item k i) (listed k t)))

  item_counts : (i : Item) (k : ℕ) → map carried (met_along counted (cap k) i) ≡ map depth_of (listed_item k i)
  item_counts (attested a) k = refl
  item_counts (step o t) k = ap (λ (z : ℕ). cap k ∷ map carried (met_in counted z t)) (cap-suc k) ∙ ap (λ (z : List ℕ). cap k ∷ z) (node_counts t (suc k))

pub nothing_noted : (noted : List ℕ) (s : Open ℕ) (ts : List Token) → noted ≡ [] → s ≡ begun 0 → IsPre ts → Left (before (begun 0) ts) noted s ts
nothing_noted noted s ts none is tree = record { numbers = rw (none, is) refl; ends = tree_ends counted 0 s ts is tree }

pub one_noted : (all noted longer : List ℕ) (d : ℕ) (w v : Position ℕ) (going : Bool) (ts : List Token) (i : ℕ) (x : Token) → i < length ts → x ≡ get_or ts i x
    → Left all noted (open_at w) (drop i ts) → longer ≡ noted ++ d ∷ [] → d ≡ w.last → IsStep one_more x w v going → Left all longer (open_at v) (drop (i + 1) ts)
one_noted all noted longer d w v going ts i x low here h is last_is on =
    let m = moves_at one_more w v going ts i x low here h.ends on in
    let rest = before (open_at v) (drop (i + 1) ts) in
    record {
      numbers =
          ap (λ (z : List ℕ). z ++ rest) is ∙ append_assoc noted (d ∷ []) rest ∙ ap (λ (z : ℕ). noted ++ z ∷ rest) last_is
          ∙ ap (λ (z : List (Met ℕ)). noted ++ map carried z) (sym m.0) ∙ h.numbers;
      ends = m.1;
    }

-- where no token is left
pub all_noted : (all noted : List ℕ) (s : Open ℕ) (ts : List Token) (n : ℕ) → length ts ≤ n → Left all noted s (drop n ts) → all ≡ noted
all_noted all noted s ts n over h = sym h.numbers ∙ ap (λ (z : List Token). noted ++ before s z) (drop_all n ts over) ∙ append-nil noted

pub all_taken : {A : Type 0} (P : A → Type 0) (xs : List A) (n : ℕ) → length xs ≤ n → AllByRecursion P (take n xs) → AllByRecursion P xs
all_taken P xs n over h = subst (AllByRecursion P) (take_all n xs over) h

-- the walk from the root
pub walk_kept : (tokens : List Token) (depths : List ℕ) → IsPre tokens → before (begun 0) tokens ≡ depths → AllByRecursion IsToken tokens → IsKept tokens depths
walk_kept tokens depths (t, is) walk limits = record {
  node = t;
  tokens_are = is;
  depths_are = sym (node_counts t 0) ∙ sym (ap (map carried) (tree_met counted t 0)) ∙ ap (before (begun 0)) is ∙ walk;
  limits = limits;
}

-- ---- a tree whose tokens come

pub none_built : (tokens : List Token) (depths : List ℕ) (s : Open ℕ) → tokens ≡ [] → depths ≡ [] → s ≡ begun 0 → IsBuilt tokens depths s
none_built tokens depths s none empty is = record {
  left = λ more tree. rw none (nothing_noted depths s more empty is (rw none at tree));
  limits = rw none tt;
}

pub one_built : (tokens longer : List Token) (depths deeper : List ℕ) (x : Token) (d : ℕ) (w v : Position ℕ) (going : Bool) → IsBuilt tokens depths (open_at w) → IsToken x
    → longer ≡ tokens ++ x ∷ [] → deeper ≡ depths ++ d ∷ [] → d ≡ w.last → IsStep one_more x w v going → IsBuilt longer deeper (open_at v)
one_built tokens longer depths deeper x d w v going b limit is noted last_is on = record {
  left = λ more tree.
      let along : longer ++ more ≡ tokens ++ x ∷ more = rw is (append_assoc tokens (x ∷ []) more) in
      rw along (one_noted (before (begun 0) (tokens ++ x ∷ more)) depths deeper d w v going (x ∷ more) 0 x (omega arith) refl (b.left (x ∷ more) (rw along at tree)) noted last_is on);
  limits = rw is (all-append IsToken tokens (x ∷ []) b.limits (limit, tt));
}

pub built_kept : (tokens : List Token) (depths : List ℕ) (s : Open ℕ) → IsBuilt tokens depths s → IsPre tokens → IsKept tokens depths
built_kept tokens depths s b tree =
    let whole : tokens ++ [] ≡ tokens = append-nil tokens in
    let left = b.left [] (rw whole tree) in
    walk_kept tokens depths tree (all_noted (before (begun 0) tokens) depths s [] 0 (omega arith) (rw whole at left)) b.limits
