-- A record more in flight.
use Rattle.std.proofs.Common.{◌≡◌, ◌∙◌, ℕ, Bool, true, false, List, [], ◌∷◌, ◌++◌, refl, sym, ap, subst}
use Rattle.std.proofs.lemmas.List.{append-nil}
use Rattle.std.proofs.lemmas.Bool.Decides.{Decides-eqb}
use Rattle.std.specs.Prelude.{◌==◌, if◌then◌else◌, Result, Ok, Err, OnOk}
use Rattle.ots_journal.specs.declared.entry.Entry.{Entry}
use Rattle.ots_store.specs.declared.anchor.Anchor.{Anchor}
use Rattle.ots_store.specs.declared.tip.Tip.{Tip}
use Rattle.ots_store.specs.Forms.{IsAnchor}
use Rattle.ots_store.specs.Held.{HeldTold, Holds}
use Rattle.ots_store.specs.Marked.{MarkedTold, IsPushed}
use Rattle.ots_store.specs.Order.{commits_of, tips_of, anchors_of}
use Rattle.ots_store.specs.Records.{Record, CommitRecord, TipRecord, AnchorRecord, tip_at, anchor_at, entry_of, record_of, IsRecord, HasForm}
use Rattle.ots_store.proofs.Ordered.{commits_append, tips_append, anchors_append}
use Rattle.ots_store.proofs.Recorded.{entry}

is_false : (b : Bool) (P : Type 0) → (b ≡ true → P) → (P → ⊥) → b ≡ false
is_false true P yes_it never = absurd (never (yes_it refl))
is_false false P yes_it never = refl

pub is_commit : (kind : ℕ) (payload : List ℕ) → kind ≡ 1 → record_of (entry kind payload) ≡ CommitRecord payload
is_commit kind payload is = ap (λ (k : ℕ). record_of (entry k payload)) is

pub is_tip : (kind : ℕ) (payload : List ℕ) → kind ≡ 2 → record_of (entry kind payload) ≡ TipRecord (tip_at payload)
is_tip kind payload is = ap (λ (k : ℕ). record_of (entry k payload)) is

pub is_anchor : (kind : ℕ) (payload : List ℕ) → (kind ≡ 1 → ⊥) → (kind ≡ 2 → ⊥) → record_of (entry kind payload) ≡ AnchorRecord (anchor_at payload)
is_anchor kind payload one two =
    ap (λ (b : Bool). if b then CommitRecord payload else (if kind == 2 then TipRecord (tip_at payload) else AnchorRecord (anchor_at payload))) (is_false (kind == 1) (kind ≡ 1) (Decides-eqb kind 1).0 one)
    ∙ ap (λ (b : Bool). if b then TipRecord (tip_at payload) else AnchorRecord (anchor_at payload)) (is_false (kind == 2) (kind ≡ 2) (Decides-eqb kind 2).0 two)

pub anchor_spelled : (kind : ℕ) (payload : List ℕ) → (kind ≡ 1 → ⊥) → (kind ≡ 2 → ⊥) → IsRecord (entry kind payload) → IsAnchor payload
anchor_spelled kind payload one two r =
    let is = is_anchor kind payload one two in
    record {
      whole = ap (λ (e : Entry). e.payload) (r.spelled ∙ ap entry_of is);
      fits = subst HasForm is r.form;
    }

pub commit_held : (r : Record) (commitment : List ℕ) (old new : HeldTold) (kept flight : List Record) → r ≡ CommitRecord commitment
    → IsPushed old.commitments new.commitments commitment → new.tips ≡ old.tips → new.anchors ≡ old.anchors
    → Holds kept flight old → Holds kept (flight ++ r ∷ []) new
commit_held r commitment old new kept flight is commitments tips anchors h = subst (λ (x : Record). Holds kept (flight ++ x ∷ []) new) (sym is) (record {
  commitments = commitments.kept ∙ h.commitments;
  commitments_flight = commitments.flight ∙ ap (λ (l : List (List ℕ)). l ++ commitment ∷ []) h.commitments_flight ∙ sym (commits_append flight (CommitRecord commitment ∷ []));
  tips = ap (λ (m : MarkedTold Tip). m.kept) tips ∙ h.tips;
  tips_flight = ap (λ (m : MarkedTold Tip). m.flight) tips ∙ h.tips_flight ∙ sym (tips_append flight (CommitRecord commitment ∷ []) ∙ append-nil (tips_of flight));
  anchors = ap (λ (m : MarkedTold Anchor). m.kept) anchors ∙ h.anchors;
  anchors_flight = ap (λ (m : MarkedTold Anchor). m.flight) anchors ∙ h.anchors_flight ∙ sym (anchors_append flight (CommitRecord commitment ∷ []) ∙ append-nil (anchors_of flight));
})

pub tip_held : (r : Record) (tip : Tip) (old new : HeldTold) (kept flight : List Record) → r ≡ TipRecord tip
    → IsPushed old.tips new.tips tip → new.commitments ≡ old.commitments → new.anchors ≡ old.anchors
    → Holds kept flight old → Holds kept (flight ++ r ∷ []) new
tip_held r tip old new kept flight is tips commitments anchors h = subst (λ (x : Record). Holds kept (flight ++ x ∷ []) new) (sym is) (record {
  commitments = ap (λ (m : MarkedTold (List ℕ)). m.kept) commitments ∙ h.commitments;
  commitments_flight = ap (λ (m : MarkedTold (List ℕ)). m.flight) commitments ∙ h.commitments_flight ∙ sym (commits_append flight (TipRecord tip ∷ []) ∙ append-nil (commits_of flight));
  tips = tips.kept ∙ h.tips;
  tips_flight = tips.flight ∙ ap (λ (l : List Tip). l ++ tip ∷ []) h.tips_flight ∙ sym (tips_append flight (TipRecord tip ∷ []));
  anchors = ap (λ (m : MarkedTold Anchor). m.kept) anchors ∙ h.anchors;
  anchors_flight = ap (λ (m : MarkedTold Anchor). m.flight) anchors ∙ h.anchors_flight ∙ sym (anchors_append flight (TipRecord tip ∷ []) ∙ append-nil (anchors_of flight));
})

pub anchor_held : (r : Record) (anchor : Anchor) (old new : HeldTold) (kept flight : List Record) → r ≡ AnchorRecord anchor
    → IsPushed old.anchors new.anchors anchor → new.commitments ≡ old.commitments → new.tips ≡ old.tips
    → Holds kept flight old → Holds kept (flight ++ r ∷ []) new
anchor_held r anchor old new kept flight is anchors commitments tips h = subst (λ (x : Record). Holds kept (flight ++ x ∷ []) new) (sym is) (record {
  commitments = ap (λ (m : MarkedTold (List ℕ)). m.kept) commitments ∙ h.commitments;
  commitments_flight = ap (λ (m : MarkedTold (List ℕ)). m.flight) commitments ∙ h.commitments_flight ∙ sym (commits_append flight (AnchorRecord anchor ∷ []) ∙ append-nil (commits_of flight));
  tips = ap (λ (m : MarkedTold Tip). m.kept) tips ∙ h.tips;
  tips_flight = ap (λ (m : MarkedTold Tip). m.flight) tips ∙ h.tips_flight ∙ sym (tips_append flight (AnchorRecord anchor ∷ []) ∙ append-nil (tips_of flight));
  anchors = anchors.kept ∙ h.anchors;
  anchors_flight = anchors.flight ∙ ap (λ (l : List Anchor). l ++ anchor ∷ []) h.anchors_flight ∙ sym (anchors_append flight (AnchorRecord anchor ∷ []));
})

pub on_ok : {A E P Q : Type 0} (r : Result A E) → (P → Q) → OnOk r P → OnOk r Q
on_ok (Ok a) f p = f p
on_ok (Err e) f p = tt

-- how much memory is spare is no matter
pub spared : (kept flight : List Record) (held : HeldTold) (spare : ℕ) → Holds kept flight (record held { spare = spare }) → Holds kept flight held
spared kept flight held spare h = record {
  commitments = h.commitments;
  commitments_flight = h.commitments_flight;
  tips = h.tips;
  tips_flight = h.tips_flight;
  anchors = h.anchors;
  anchors_flight = h.anchors_flight;
}

pub sparing : (kept flight : List Record) (held : HeldTold) (spare : ℕ) → Holds kept flight held → Holds kept flight (record held { spare = spare })
sparing kept flight held spare h = record {
  commitments = h.commitments;
  commitments_flight = h.commitments_flight;
  tips = h.tips;
  tips_flight = h.tips_flight;
  anchors = h.anchors;
  anchors_flight = h.anchors_flight;
}
