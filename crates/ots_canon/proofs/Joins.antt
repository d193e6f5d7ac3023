-- Tokens that compare as equal, joins, and trees with the same paths.
use Rattle.std.proofs.Common.{◌≡◌, ◌↔◌, ℕ, zero, suc, ◌+◌, ◌<◌, List, [], ◌∷◌, ◌++◌, length, get_or, take, Bool, true, false, refl, sym, ap, subst, ◌∙◌, inl, inr, arith}
use Rattle.std.specs.List.{AllByRecursion}
use Rattle.std.specs.Ordering.{is_eq}
use Rattle.std.specs.Prelude.{not, bytes_eq}
use Rattle.std.specs.Cmp.Lexicographic.{same_text}
use Rattle.std.specs.declared.cmp.Ordering.{Ordering}
use Rattle.std.proofs.lemmas.Cmp.{tied_itself}
use Rattle.std.proofs.lemmas.List.{take_more_same, get_or_default}
use Rattle.ots_tree.specs.declared.token.Token.{Token}
use Rattle.ots_tree.specs.declared.token.Token.TheVariants as token
use Rattle.ots_tree.specs.Wire.{Node, Path, paths, pre, spelled, IsToken}
use Rattle.ots_tree.specs.Sound.{IsSoundPath, IsSoundPre}
use Rattle.ots_tree.proofs.Determined.{bytes-apart, same_pre}
use Rattle.ots_canon.specs.Order.{step_cmp, Has, HaveSame}
use Rattle.ots_canon.specs.Canonical.{IsTreeOf, IsCanonTree, IsCanonOf}
use Rattle.ots_canon.specs.Join.{HaveSamePaths, IsJoinOf}
use Rattle.ots_canon.specs.Steps.{token_step}
use Rattle.ots_canon.proofs.Orders.{step_total, same_by, same_op, same_end, head_of}
use Rattle.ots_canon.proofs.Rising.{same_chain, same_back, one_canon}
use Rattle.ots_canon.proofs.OneTree.{one_tree}

same_key : (x y : Token) → IsToken x → IsToken y → token_step x ≡ token_step y → x ≡ y
same_key token.Fork token.Fork hx hy e = refl
same_key token.Fork (token.Op p) hx hy e = absurd (let f = head_of e in omega arith)
same_key token.Fork (token.Attestation b) hx hy e = absurd (let f = head_of e in omega arith)
same_key (token.Op o) token.Fork hx hy e = absurd (let f = head_of e in omega arith)
same_key (token.Op o) (token.Op p) hx hy e = let same = same_op o p e in cc
same_key (token.Op o) (token.Attestation b) hx hy e = absurd (let f = head_of e in omega arith)
same_key (token.Attestation a) token.Fork hx hy e = absurd (let f = head_of e in omega arith)
same_key (token.Attestation a) (token.Op p) hx hy e = absurd (let f = head_of e in omega arith)
same_key (token.Attestation a) (token.Attestation b) hx hy e = let same = same_end a b hx hy e in cc

pub token_limits : (ts : List Token) (n : ℕ) (d : Token) → n < length ts → AllByRecursion IsToken ts → IsToken (get_or ts n d)
token_limits [] n d l h = absurd (omega arith)
token_limits (x ∷ xs) zero d l h = h.0
token_limits (x ∷ xs) (suc n) d l h = token_limits xs n d (omega arith) h.1

pub limits_at : (ts : List Token) {n : ℕ} {x : Token} → n < length ts → AllByRecursion IsToken ts → x ≡ get_or ts n x → IsToken x
limits_at ts {n} {x} l h e = subst IsToken (sym e) (token_limits ts n x l h)

pub same_token : {x y : Token} {r : Ordering} {b : Bool} → IsToken x → IsToken y → r ≡ step_cmp (token_step x) (token_step y) → b ≡ is_eq r → b ≡ true → x ≡ y
same_token {x} {y} hx hy e f t = same_key x y hx hy (same_by e f t)

pub not_equal : {x y : Token} {r : Ordering} {b : Bool} → r ≡ step_cmp (token_step x) (token_step y) → b ≡ is_eq r → b ≡ false → x ≡ y → ⊥
not_equal {x} {y} e f t same = let tie = ap is_eq (e ∙ ap (λ (z : Token). step_cmp (token_step x) (token_step z)) (sym same) ∙ tied_itself step_total (token_step x)) in absurd (let g = sym f ∙ t in cc)

-- ---- trees with the same paths

pub same_forms : (ts us vs ws : List Token) → IsCanonOf ts vs → IsCanonOf us ws → (vs ≡ ws) ↔ HaveSamePaths ts us
same_forms ts us vs ws f g = (
  (λ e.
      let same = same_pre f.form.node g.form.node (f.form.are ∙ e ∙ sym g.form.are) in
      let sorted : f.form.sorted ≡ g.form.sorted = sym f.form.is_tree.same ∙ ap paths same ∙ g.form.is_tree.same in
      record {
        first = f.node;
        first_are = f.are;
        second = g.node;
        second_are = g.are;
        same = same_chain (paths f.node) g.form.sorted (paths g.node)
            (subst (HaveSame (paths f.node)) sorted f.form.is_canon.same) (same_back (paths g.node) g.form.sorted g.form.is_canon.same);
      }),
  (λ h.
      let a = same_pre f.node h.first (f.are ∙ sym h.first_are) in
      let b = same_pre g.node h.second (g.are ∙ sym h.second_are) in
      let same : HaveSame (paths f.node) (paths g.node) = subst (λ (z : Node). HaveSame (paths f.node) (paths z)) (sym b) (subst (λ (z : Node). HaveSame (paths z) (paths h.second)) (sym a) h.same) in
      let sorted = one_canon (paths f.node) (paths g.node) f.form.sorted g.form.sorted same f.form.is_canon g.form.is_canon in
      let tree = one_tree g.form.sorted f.form.node g.form.node (subst (λ (z : List Path). IsTreeOf z f.form.node) sorted f.form.is_tree) g.form.is_tree in
      sym f.form.are ∙ ap pre tree ∙ g.form.are),
)

-- ---- the joined proof is sound

pub sound_at : (n k : ℕ) (ps : List Path) (p : Path) → AllByRecursion (IsSoundPath n k) ps → Has ps p → IsSoundPath n k p
sound_at n k [] p h has = absurd has
sound_at n k (q ∷ qs) p h (inl e) = subst (IsSoundPath n k) e h.0
sound_at n k (q ∷ qs) p h (inr has) = sound_at n k qs p h.1 has

sound_of : (n k : ℕ) (ps : List Path) → ((p : Path) → Has ps p → IsSoundPath n k p) → AllByRecursion (IsSoundPath n k) ps
sound_of n k [] h = tt
sound_of n k (p ∷ ps) h = (h p (inl refl), sound_of n k ps (λ q has. h q (inr has)))

-- a canonical tree each of whose paths is one of these
pub sound_tree : (n k : ℕ) (ps : List Path) (ts : List Token) → AllByRecursion (IsSoundPath n k) ps → IsCanonTree ps ts → IsSoundPre n k ts
sound_tree n k ps ts h f = (
  f.node,
  sound_of n k (paths f.node) (λ p has. sound_at n k ps p h ((f.is_canon.same p).1 (subst (λ (z : List Path). Has z p) f.is_tree.same has))),
  f.are,
)

sound_both : (n k : ℕ) (ps qs : List Path) → AllByRecursion (IsSoundPath n k) ps → AllByRecursion (IsSoundPath n k) qs → AllByRecursion (IsSoundPath n k) (ps ++ qs)
sound_both n k [] qs h g = g
sound_both n k (p ∷ ps) qs h g = (h.0, sound_both n k ps qs h.1 g)

pub sound_paths : (n k : ℕ) (ts : List Token) (t : Node) → pre t ≡ ts → IsSoundPre n k ts → AllByRecursion (IsSoundPath n k) (paths t)
sound_paths n k ts t e s = subst (λ (z : Node). AllByRecursion (IsSoundPath n k) (paths z)) (same_pre s.0 t (s.2 ∙ sym e)) s.1

pub sound_join : (n k : ℕ) (ts us vs : List Token) → IsSoundPre n k ts → IsSoundPre n k us → IsJoinOf ts us vs → IsSoundPre n k vs
sound_join n k ts us vs s r j =
    sound_tree n k (paths j.first ++ paths j.second) vs
    (sound_both n k (paths j.first) (paths j.second) (sound_paths n k ts j.first j.first_are s) (sound_paths n k us j.second j.second_are r)) j.form

-- ---- comparing token by token

pub differs_at : {ts us : List Token} {n : ℕ} {x y : Token} → n < length ts → x ≡ get_or ts n x → y ≡ get_or us n y → (x ≡ y → ⊥) → (false ≡ true → ts ≡ us) × (ts ≡ us → false ≡ true)
differs_at {ts} {us} {n} {x} {y} l ex ey apart = ((λ e. absurd cc), (λ same. absurd (apart (ex ∙ get_or_default ts n x y l ∙ ap (λ (z : List Token). get_or z n y) same ∙ sym ey))))

pub same_more : (ts us : List Token) {n : ℕ} {x y : Token} → n < length ts → length ts ≡ length us → x ≡ get_or ts n x → y ≡ get_or us n y → x ≡ y → take n ts ≡ take n us → take (n + 1) ts ≡ take (n + 1) us
same_more ts us {n} {x} {y} l len ex ey same h =
    let lu : n < length us = omega arith in
    take_more_same ts us n x l lu h (sym ex ∙ same ∙ ey ∙ get_or_default us n y x lu)

pub both_ways : {A B C : Type 0} → A ↔ B → B ↔ C → A ↔ C
both_ways h g = ((λ a. g.0 (h.0 a)), (λ c. h.1 (g.1 c)))

pub same_digest : (x y : List ℕ) → false ≡ not (bytes_eq x y) → x ≡ y
same_digest x y e = same_text x y (turned (bytes_eq x y) e)
  where
    turned : (b : Bool) → false ≡ not b → true ≡ b
    turned true f = refl
    turned false f = absurd cc

-- The bytes of two canonical trees are the same exactly where their tokens are.
pub same_bytes : (ts us vs ws : List Token) → IsCanonOf ts vs → IsCanonOf us ws → AllByRecursion IsToken vs → AllByRecursion IsToken ws
    → (spelled vs ≡ spelled ws) ↔ HaveSamePaths ts us
same_bytes ts us vs ws f g fit also =
    let law = same_forms ts us vs ws f g in (
      (λ e.
          let both = bytes-apart f.form.node g.form.node [] [] (subst (AllByRecursion IsToken) (sym f.form.are) fit) (subst (AllByRecursion IsToken) (sym g.form.are) also)
          (ap (λ (z : List ℕ). z ++ []) (ap spelled f.form.are ∙ e ∙ sym (ap spelled g.form.are))) in
          law.0 (sym f.form.are ∙ ap pre both.0 ∙ g.form.are)),
      (λ h. ap spelled (law.1 h)),
    )
