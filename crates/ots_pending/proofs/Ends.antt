-- The attestations among the tokens of a tree are the ends of its paths.
use Rattle.std.proofs.Common.{◌≡◌, ℕ, inl, inr, Bool, true, false, List, [], ◌∷◌, map, refl, sym, ap, subst, ◌∙◌}
use Rattle.std.specs.Prelude.{◌||◌, ◌↔◌, IsTrue}
use Rattle.std.specs.List.{list_any}
use Rattle.std.proofs.lemmas.List.Folds.{list_any-append}
use Rattle.ots_ops.specs.declared.op.Op.{Op}
use Rattle.ots_attest.specs.declared.attestation.Attestation.{Attestation}
use Rattle.ots_attest.specs.declared.attestation.Attestation.TheVariants as attestation
use Rattle.ots_tree.specs.declared.token.Token.{Token}
use Rattle.ots_tree.specs.Wire.{Node, Item, last, more, attested, step, pre, pre_item, Path, paths, paths_of_item, below, IsPre}
use Rattle.ots_tree.proofs.Determined.{same_pre}
use Rattle.ots_canon.specs.Order.{Has}
use Rattle.ots_pending.specs.Bitcoin.{HasBitcoin, is_bitcoin_end, is_bitcoin}

abbrev ends_so : Path → Bool
ends_so p = is_bitcoin_end p.end

below_any : (o : Op) (ps : List Path) → list_any ends_so (map (below o) ps) ≡ list_any ends_so ps
below_any o [] = refl
below_any o (p ∷ ps) = ap (λ (z : Bool). is_bitcoin_end p.end || z) (below_any o ps)

mutual
  node_any : (t : Node) → list_any is_bitcoin (pre t) ≡ list_any ends_so (paths t)
  node_any (last i) = item_any i
  node_any (more i t) =
      list_any-append is_bitcoin (pre_item i) (pre t)
      ∙ ap (λ (z : Bool). z || list_any is_bitcoin (pre t)) (item_any i)
      ∙ ap (λ (z : Bool). list_any ends_so (paths_of_item i) || z) (node_any t)
      ∙ sym (list_any-append ends_so (paths_of_item i) (paths t))

  item_any : (i : Item) → list_any is_bitcoin (pre_item i) ≡ list_any ends_so (paths_of_item i)
  item_any (attested a) = refl
  item_any (step o t) = node_any t ∙ sym (below_any o (paths t))

record Found (ps : List Path) : Type 0 where
  path : Path
  among : Has ps path
  height : ℕ
  ends : path.end ≡ attestation.Bitcoin height

found_end : (a : Attestation) → is_bitcoin_end a ≡ true → (height : ℕ) × (a ≡ attestation.Bitcoin height)
found_end (attestation.Bitcoin height) h = (height, refl)
found_end (attestation.Pending uri) h = absurd cc
found_end (attestation.Litecoin height) h = absurd cc
found_end (attestation.Unknown other) h = absurd cc

here : (p : Path) (ps : List Path) → is_bitcoin_end p.end ≡ true → Found (p ∷ ps)
here p ps h = let f = found_end p.end h in record { path = p; among = inl refl; height = f.0; ends = f.1 }

there : (p : Path) (ps : List Path) → Found ps → Found (p ∷ ps)
there p ps f = record { path = f.path; among = inr f.among; height = f.height; ends = f.ends }

by_end : (p : Path) (ps : List Path) (b : Bool) → is_bitcoin_end p.end ≡ b → (list_any ends_so ps ≡ true → Found ps) → (b || list_any ends_so ps) ≡ true → Found (p ∷ ps)
by_end p ps true is others h = here p ps is
by_end p ps false is others h = there p ps (others h)

found_one : (ps : List Path) → list_any ends_so ps ≡ true → Found ps
found_one [] h = absurd cc
found_one (p ∷ ps) h = by_end p ps (is_bitcoin_end p.end) refl (found_one ps) h

or_true : (b : Bool) → (b || true) ≡ true
or_true true = refl
or_true false = refl

one_found : (ps : List Path) (p : Path) (height : ℕ) → Has ps p → p.end ≡ attestation.Bitcoin height → list_any ends_so ps ≡ true
one_found [] p height h e = absurd h
one_found (q ∷ ps) p height (inl is) e = ap (λ (z : Attestation). is_bitcoin_end z || list_any ends_so ps) (ap (λ (z : Path). z.end) is ∙ e)
one_found (q ∷ ps) p height (inr h) e = ap (λ (z : Bool). is_bitcoin_end q.end || z) (one_found ps p height h e) ∙ or_true (is_bitcoin_end q.end)

pub bitcoin_found : (ts : List Token) (b : Bool) → IsPre ts → b ≡ list_any is_bitcoin ts → IsTrue b ↔ HasBitcoin ts
bitcoin_found ts b (t, is) found =
    let same : list_any is_bitcoin ts ≡ list_any ends_so (paths t) = ap (list_any is_bitcoin) (sym is) ∙ node_any t in (
      (λ h. let f = found_one (paths t) (sym same ∙ sym found ∙ h) in record { node = t; are = is; path = f.path; among = f.among; height = f.height; ends = f.ends }),
      (λ h. found ∙ same ∙ one_found (paths t) h.path h.height (subst (λ (z : Node). Has (paths z) h.path) (same_pre h.node t (h.are ∙ sym is)) h.among) h.ends),
    )
