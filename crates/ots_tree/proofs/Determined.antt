-- Tokens determine a tree, and bytes determine tokens.
use Rattle.std.proofs.Common.{◌≡◌, ℕ, List, [], ◌∷◌, ◌++◌, refl, sym, ap, subst, ◌∙◌, arith, append_assoc}
use Rattle.std.specs.List.{AllByRecursion}
use Rattle.std.proofs.lemmas.List.{append-nil, append_cancel_left}
use Rattle.ots_ops.specs.declared.op.Op.{Op}
use Rattle.ots_ops.specs.Operation.{spell as spell_op}
use Rattle.ots_ops.proofs.OneOperation.{heads, tag-between, spell-apart as op-apart}
use Rattle.ots_attest.specs.declared.attestation.Attestation.{Attestation}
use Rattle.ots_attest.specs.Attestation.{spell as spell_attestation}
use Rattle.ots_attest.proofs.OneAttestation.{spell-apart as attestation-apart}
use Rattle.ots_tree.specs.declared.token.Token.{Token}
use Rattle.ots_tree.specs.declared.token.Token.TheVariants as token
use Rattle.ots_tree.specs.Wire.{Node, Item, last, more, attested, step, pre, pre_item, spell, spelled, bytes, IsToken}

mutual
  pub pre-apart : (t u : Node) (x y : List Token) → pre t ++ x ≡ pre u ++ y → (t ≡ u) × (x ≡ y)
  pre-apart (last i) (last j) x y e = let h = item-apart i j x y e in (ap (λ (z : Item). last z) h.0, h.1)
  pre-apart (last (attested a)) (more j u) x y e = absurd cc
  pre-apart (last (step o t)) (more j u) x y e = absurd cc
  pre-apart (more i t) (last (attested a)) x y e = absurd cc
  pre-apart (more i t) (last (step o u)) x y e = absurd cc
  pre-apart (more i t) (more j u) x y e =
      let f : (pre_item i ++ pre t) ++ x ≡ (pre_item j ++ pre u) ++ y = cc in
      let h = item-apart i j (pre t ++ x) (pre u ++ y) (simp append_assoc at f) in
      let k = pre-apart t u x y h.1 in
      (cc (h.0, k.0), k.1)

  item-apart : (i j : Item) (x y : List Token) → pre_item i ++ x ≡ pre_item j ++ y → (i ≡ j) × (x ≡ y)
  item-apart (attested a) (attested b) x y e = (cc, cc)
  item-apart (attested a) (step o t) x y e = absurd cc
  item-apart (step o t) (attested b) x y e = absurd cc
  item-apart (step o t) (step p u) x y e =
      let f : pre t ++ x ≡ pre u ++ y = cc in
      let same : o ≡ p = cc in
      let k = pre-apart t u x y f in
      (cc (same, k.0), k.1)

pub same_pre : (t u : Node) → pre t ≡ pre u → t ≡ u
same_pre t u e = (pre-apart t u [] [] (append-nil (pre t) ∙ e ∙ sym (append-nil (pre u)))).0

fork-op : (o : Op) (x y : List ℕ) → spell token.Fork ++ x ≡ spell_op o ++ y → ⊥
fork-op o x y e = let h = heads e in let b = tag-between o in omega arith

attestation-op : (a : Attestation) (o : Op) (x y : List ℕ) → spell_attestation a ++ x ≡ spell_op o ++ y → ⊥
attestation-op a o x y e = let h = heads e in let b = tag-between o in omega arith

fork-attestation : (a : Attestation) (x y : List ℕ) → spell token.Fork ++ x ≡ spell_attestation a ++ y → ⊥
fork-attestation a x y e = let h = heads e in omega arith

-- no token's spelling begins another
pub token-apart : (a b : Token) (x y : List ℕ) → IsToken a → IsToken b → spell a ++ x ≡ spell b ++ y → (a ≡ b) × (x ≡ y)
token-apart token.Fork token.Fork x y f g e = (refl, cc)
token-apart token.Fork (token.Op o) x y f g e = absurd (fork-op o x y e)
token-apart token.Fork (token.Attestation b) x y f g e = absurd (fork-attestation b x y e)
token-apart (token.Op o) token.Fork x y f g e = absurd (fork-op o y x (sym e))
token-apart (token.Op o) (token.Op p) x y f g e = let h = op-apart o p x y e in (cc h.0, h.1)
token-apart (token.Op o) (token.Attestation b) x y f g e = absurd (attestation-op b o y x (sym e))
token-apart (token.Attestation a) token.Fork x y f g e = absurd (fork-attestation a y x (sym e))
token-apart (token.Attestation a) (token.Op p) x y f g e = absurd (attestation-op a p x y e)
token-apart (token.Attestation a) (token.Attestation b) x y f g e = let h = attestation-apart a b x y f g e in (cc h.0, h.1)

abbrev pub Fit : List Token → Type 0
Fit ts = AllByRecursion IsToken ts

-- of two token lists that begin the same bytes, one begins the other
pub data OneBegins (ts us : List Token) : Type 0 where
  first : (others : List Token) → us ≡ ts ++ others → OneBegins ts us
  second : (others : List Token) → ts ≡ us ++ others → OneBegins ts us

pub begins : (ts us : List Token) (x y : List ℕ) → Fit ts → Fit us → spelled ts ++ x ≡ spelled us ++ y → OneBegins ts us
begins [] us x y f g e = first us refl
begins (a ∷ ts) [] x y f g e = second (a ∷ ts) refl
begins (a ∷ ts) (b ∷ us) x y f g e =
    let h = token-apart a b (spelled ts ++ x) (spelled us ++ y) f.0 g.0 (sym (append_assoc (spell a) (spelled ts) x) ∙ e ∙ append_assoc (spell b) (spelled us) y) in
    elim (begins ts us x y f.1 g.1 h.1) [
      | first others is ↦ first others (cc (h.0, is))
      | second others is ↦ second others (cc (h.0, is))
    ]

same_tree : (t u : Node) → OneBegins (pre t) (pre u) → t ≡ u
same_tree t u (first others is) = (pre-apart t u others [] (sym is ∙ sym (append-nil (pre u)))).0
same_tree t u (second others is) = (pre-apart t u [] others (append-nil (pre t) ∙ is)).0

pub bytes-apart : (t u : Node) (x y : List ℕ) → Fit (pre t) → Fit (pre u) → bytes t ++ x ≡ bytes u ++ y → (t ≡ u) × (x ≡ y)
bytes-apart t u x y f g e =
    let same = same_tree t u (begins (pre t) (pre u) x y f g e) in
    (same, append_cancel_left (bytes u) x y (subst (λ (v : Node). bytes v ++ x ≡ bytes u ++ y) same e))
