-- Canonical forms and joins, from the tokens that merging writes.
use Rattle.std.proofs.Common.{◌≡◌, ◌↔◌, ℕ, zero, suc, List, arith, [], ◌∷◌, ◌++◌, length, refl, sym, ap, subst, ◌∙◌}
use Rattle.std.specs.Prelude.{All}
use Rattle.std.proofs.lemmas.List.{append-nil}
use Rattle.std.proofs.Math.Seq.{drop-append_seam}
use Rattle.ots_tree.specs.declared.token.Token.{Token}
use Rattle.ots_tree.specs.Wire.{Node, Path, paths, pre, IsPre}
use Rattle.ots_canon.specs.Order.{Has}
use Rattle.ots_canon.specs.Canonical.{IsCanonTree, IsCanonOf}
use Rattle.ots_canon.specs.Join.{IsJoinOf}
use Rattle.ots_canon.specs.Places.{IsNodeAt, HasNode, AreNodes, HasAt, HasAmong, IsFormOf}
use Rattle.ots_canon.proofs.OneTree.{paths_rise}
use Rattle.ots_canon.proofs.Nodes.{nodes_of, nodes_of_both, has_here}
use Rattle.ots_canon.proofs.Among.{back, onward, both, union, at_one, has_append}

-- the tokens of a canonical tree with these paths
canon_tree : (ts : List Token) (ks : List ℕ) (ps : List Path) (us : List Token) → ((p : Path) → HasAmong ts ks p ↔ Has ps p) → IsFormOf ts ks us → IsCanonTree ps us
canon_tree ts ks ps us same f = record {
  sorted = paths f.node;
  is_canon = record { rising = paths_rise f.node f.canonical; same = λ p. onward (back (same p)) (f.same p) };
  node = f.node;
  is_tree = record { canonical = f.canonical; same = refl };
  are = f.are;
}

here : (t : Node) (xs : List Token) → IsNodeAt (pre t ++ xs) 0 t
here t xs = record { rest = xs; are = refl }

alone : (t : Node) → IsNodeAt (pre t) 0 t
alone t = record { rest = []; are = sym (append-nil (pre t)) }

after : (t u : Node) → IsNodeAt (pre t ++ pre u) (length (pre t)) u
after t u = record { rest = []; are = drop-append_seam (pre t) (pre u) ∙ sym (append-nil (pre u)) }

-- ---- of one tree

pub one_nodes : (ts us : List Token) → us ≡ ts → IsPre ts → AreNodes us
one_nodes ts us e p = subst AreNodes (p.1 ∙ sym e) (nodes_of p.0)

of_one : (t : Node) (us : List Token) → IsFormOf (pre t) (0 ∷ []) us → IsCanonTree (paths t) us
of_one t us f = canon_tree (pre t) (0 ∷ []) (paths t) us (λ p. onward (at_one (HasAt (pre t)) 0 p) (has_here (pre t) 0 t (alone t) p)) f

pub canon_of : (ts us vs form : List Token) → us ≡ ts → IsPre ts → IsFormOf us (0 ∷ []) vs → form ≡ vs → IsCanonOf ts form
canon_of ts us vs form e p f same = record {
  node = p.0;
  are = p.1;
  form = of_one p.0 form (subst (λ (z : List Token). IsFormOf z (0 ∷ []) form) (e ∙ sym p.1) (subst (IsFormOf us (0 ∷ [])) (sym same) f));
}

-- ---- of two

both_places : {ts : List Token} (m n : ℕ) → HasNode ts m → HasNode ts n → All (HasNode ts) (m ∷ n ∷ [])
both_places m n a b zero d l = a
both_places m n a b (suc zero) d l = b
both_places m n a b (suc (suc k)) d l = absurd (omega arith)

pub two_roots : {ts us vs : List Token} {n : ℕ} → vs ≡ ts ++ us → IsPre ts → IsPre us → n ≡ length ts → All (HasNode vs) (0 ∷ n ∷ [])
two_roots {ts} {us} {vs} {n} e p q len =
    subst (λ (z : List Token). All (HasNode z) (0 ∷ n ∷ [])) ((λ i. p.1 i ++ q.1 i) ∙ sym e)
    (both_places 0 n (record { node = p.0; is_at = here p.0 (pre q.0) })
    (subst (HasNode (pre p.0 ++ pre q.0)) (ap length p.1 ∙ sym len) (record { node = q.0; is_at = after p.0 q.0 })))

pub two_nodes : {ts us vs : List Token} → vs ≡ ts ++ us → IsPre ts → IsPre us → AreNodes vs
two_nodes e p q = subst AreNodes ((λ i. p.1 i ++ q.1 i) ∙ sym e) (nodes_of_both p.0 q.0)

of_two : (t u : Node) (vs : List Token) → IsFormOf (pre t ++ pre u) (0 ∷ length (pre t) ∷ []) vs → IsCanonTree (paths t ++ paths u) vs
of_two t u vs f = canon_tree (pre t ++ pre u) (0 ∷ length (pre t) ∷ []) (paths t ++ paths u) vs (λ p.
    onward (union (HasAt (pre t ++ pre u)) (0 ∷ []) (length (pre t) ∷ []) p)
    (onward (both (onward (at_one (HasAt (pre t ++ pre u)) 0 p) (has_here (pre t ++ pre u) 0 t (here t (pre u)) p))
    (onward (at_one (HasAt (pre t ++ pre u)) (length (pre t)) p) (has_here (pre t ++ pre u) (length (pre t)) u (after t u) p)))
    (has_append (paths t) (paths u) p))) f

pub join_of : {ts us vs out tree : List Token} {n : ℕ} → vs ≡ ts ++ us → IsPre ts → IsPre us → n ≡ length ts → IsFormOf vs (0 ∷ n ∷ []) out → tree ≡ out → IsJoinOf ts us tree
join_of {ts} {us} {vs} {out} {tree} {n} e p q len f same = record {
  first = p.0;
  first_are = p.1;
  second = q.0;
  second_are = q.1;
  form = of_two p.0 q.0 tree (subst (λ (z : ℕ). IsFormOf (pre p.0 ++ pre q.0) (0 ∷ z ∷ []) tree) (len ∙ sym (ap length p.1))
      (subst (λ (z : List Token). IsFormOf z (0 ∷ n ∷ []) tree) (e ∙ (λ i. sym p.1 i ++ sym q.1 i)) (subst (IsFormOf vs (0 ∷ n ∷ [])) (sym same) f)));
}
