-- Which entries spell a record.
use Rattle.std.proofs.Common.{◌≡◌, ◌<◌, ◌≤◌, ◌^◌, ℕ, ◌+◌, List, ◌++◌, length, drop, refl, sym, ◌∙◌, ap, subst, arith, take-append-drop, length-drop}
use Rattle.std.proofs.lemmas.List.{drop-drop, length-take-le}
use Rattle.std.specs.List.{AllByRecursion}
use Rattle.ots_base.specs.declared.limits.TheConstants.{MAX_MESSAGE}
use Rattle.ots_merkle.specs.declared.branch.Side.{Side}
use Rattle.std.specs.Int.{w64, to_be_bytes}
use Rattle.ots_journal.specs.declared.entry.Entry.{Entry}
use Rattle.ots_store.specs.Records.{Record, CommitRecord, TipRecord, AnchorRecord, number, tip_at, tip_payload, anchor_payload, anchor_at, anchor_rest, part, after, sized, branch_bytes, branch_at, entry_of, record_of, IsRecord, FitsAnchor, HasHash}
use Rattle.ots_store.specs.declared.form.Form.TheVariants as Form
use Rattle.ots_store.specs.declared.form.Span.{Span}
use Rattle.ots_store.specs.Forms.{IsAnchor, IsBranch, IsForm}
use Rattle.ots_store.proofs.Numbers.{AreBytes, number_small, bytes_after, number_again}

abbrev pub entry : ℕ → List ℕ → Entry
entry kind payload = record { kind = kind; payload = payload }

pub commit_is : (kind : ℕ) (payload : List ℕ) → kind ≡ 1 → length payload ≡ 44 → IsRecord (entry kind payload)
commit_is kind payload is size = subst (λ (k : ℕ). IsRecord (entry k payload)) (sym is) (record { spelled = refl; form = size })

pub no_commit : (kind : ℕ) (payload : List ℕ) → kind ≡ 1 → (length payload ≡ 44 → ⊥) → IsRecord (entry kind payload) → ⊥
no_commit kind payload is un r = un ((subst (λ (k : ℕ). IsRecord (entry k payload)) is r).form)

tip_spelled : (payload : List ℕ) → length payload ≡ 48 → AreBytes payload → payload ≡ tip_payload (tip_at payload)
tip_spelled payload size small =
    number_again payload (omega arith) small
    ∙ ap (λ (l : List ℕ). to_be_bytes w64 (number payload) ++ l) (number_again (drop 8 payload) (omega (arith, length-drop 8 payload)) (bytes_after 8 payload small)
    ∙ ap (λ (l : List ℕ). to_be_bytes w64 (number (drop 8 payload)) ++ l) (drop-drop 8 8 payload))

pub tip_is : (kind : ℕ) (payload : List ℕ) → kind ≡ 2 → length payload ≡ 48 → AreBytes payload → IsRecord (entry kind payload)
tip_is kind payload is size small = subst (λ (k : ℕ). IsRecord (entry k payload)) (sym is) (record {
  spelled = ap (λ (l : List ℕ). entry 2 l) (tip_spelled payload size small);
  form = record {
    first = number_small payload (omega arith) small;
    count = number_small (drop 8 payload) (omega (arith, length-drop 8 payload)) (bytes_after 8 payload small);
    root = omega (arith, length-drop 16 payload);
  };
})

pub no_tip : (kind : ℕ) (payload : List ℕ) → kind ≡ 2 → (length payload ≡ 48 → ⊥) → IsRecord (entry kind payload) → ⊥
no_tip kind payload is un r =
    let there = subst (λ (k : ℕ). IsRecord (entry k payload)) is r in
    let root : length (drop 16 payload) ≡ 32 = there.form.root in
    un (ap length (ap (λ (e : Entry). e.payload) there.spelled) ∙ omega (arith, root))

pub anchor_is : (kind : ℕ) (payload : List ℕ) → kind ≡ 3 → IsAnchor payload → IsRecord (entry kind payload)
anchor_is kind payload is anchor = subst (λ (k : ℕ). IsRecord (entry k payload)) (sym is) (record {
  spelled = ap (λ (l : List ℕ). entry 3 l) anchor.whole;
  form = anchor.fits;
})

pub no_anchor : (kind : ℕ) (payload : List ℕ) → kind ≡ 3 → (FitsAnchor (anchor_at payload) → payload ≡ anchor_payload (anchor_at payload) → ⊥) → IsRecord (entry kind payload) → ⊥
no_anchor kind payload is un r =
    let there = subst (λ (k : ℕ). IsRecord (entry k payload)) is r in
    un there.form (ap (λ (e : Entry). e.payload) there.spelled)

kind_of : (r : Record) → ((entry_of r).kind ≡ 1 → ⊥) → ((entry_of r).kind ≡ 2 → ⊥) → ((entry_of r).kind ≡ 3 → ⊥) → ⊥
kind_of (CommitRecord commitment) one two three = one refl
kind_of (TipRecord tip) one two three = two refl
kind_of (AnchorRecord anchor) one two three = three refl

pub no_record : (kind : ℕ) (payload : List ℕ) → (kind ≡ 1 → ⊥) → (kind ≡ 2 → ⊥) → (kind ≡ 3 → ⊥) → IsRecord (entry kind payload) → ⊥
no_record kind payload one two three r =
    let same : kind ≡ (entry_of (record_of (entry kind payload))).kind = ap (λ (e : Entry). e.kind) r.spelled in
    kind_of (record_of (entry kind payload)) (λ is. one (same ∙ is)) (λ is. two (same ∙ is)) (λ is. three (same ∙ is))

-- an anchor's payload, piece by piece
pub anchor_whole : (payload prefix following suffix branch : List ℕ) → 56 ≤ length payload → AreBytes payload → number (drop 16 payload) < 2 ^ 63
    → drop 56 payload ≡ sized prefix ++ following → prefix ≡ part (drop 56 payload) → following ≡ after (drop 56 payload)
    → following ≡ sized suffix ++ branch → suffix ≡ part following → branch ≡ after following
    → length prefix + length suffix + 32 ≤ MAX_MESSAGE → IsBranch branch → IsAnchor payload
anchor_whole payload prefix following suffix branch long small height prefix_there prefix_is after_is suffix_there suffix_is branch_is message steps =
    let anchor = anchor_at payload in
    let size_8 : 8 ≤ length (drop 8 payload) = omega (arith, length-drop 8 payload) in
    let size_16 : 8 ≤ length (drop 16 payload) = omega (arith, length-drop 16 payload) in
    let size_24 : 32 ≤ length (drop 24 payload) = omega (arith, length-drop 24 payload) in
    let prefix_at : prefix ≡ anchor.prefix = prefix_is in
    let suffix_at : suffix ≡ anchor.suffix = suffix_is ∙ ap part after_is in
    let steps_at : branch_at branch ≡ anchor.branch = ap branch_at (branch_is ∙ ap after after_is) in
    let rest : drop 56 payload ≡ anchor_rest anchor =
    prefix_there ∙ ap (λ (l : List ℕ). sized prefix ++ l) (suffix_there ∙ ap (λ (l : List ℕ). sized suffix ++ l) (steps.whole ∙ ap branch_bytes steps_at))
    ∙ ap (λ (l : List ℕ). sized prefix ++ (sized l ++ branch_bytes anchor.branch)) suffix_at
    ∙ ap (λ (l : List ℕ). sized l ++ (sized anchor.suffix ++ branch_bytes anchor.branch)) prefix_at in
    let root : drop 24 payload ≡ anchor.root ++ anchor_rest anchor =
    sym (take-append-drop 32 (drop 24 payload)) ∙ ap (λ (l : List ℕ). anchor.root ++ l) (drop-drop 32 24 payload ∙ rest) in
    record {
      whole =
          number_again payload (omega arith) small
          ∙ ap (λ (l : List ℕ). to_be_bytes w64 (number payload) ++ l) (number_again (drop 8 payload) size_8 (bytes_after 8 payload small)
          ∙ ap (λ (l : List ℕ). to_be_bytes w64 (number (drop 8 payload)) ++ l) (drop-drop 8 8 payload ∙ number_again (drop 16 payload) size_16 (bytes_after 16 payload small)
          ∙ ap (λ (l : List ℕ). to_be_bytes w64 (number (drop 16 payload)) ++ l) (drop-drop 8 16 payload ∙ root)));
      fits = record {
        first = number_small payload (omega arith) small;
        count = number_small (drop 8 payload) size_8 (bytes_after 8 payload small);
        height = height;
        root = length-take-le 32 (drop 24 payload) size_24;
        message = subst (λ (l : List ℕ). length l + length anchor.suffix + 32 ≤ MAX_MESSAGE) prefix_at (subst (λ (l : List ℕ). length prefix + length l + 32 ≤ MAX_MESSAGE) suffix_at message);
        steps = subst (λ (b : List (Side × List ℕ)). length b ≤ 32) steps_at steps.steps;
        hashes = subst (λ (b : List (Side × List ℕ)). AllByRecursion HasHash b) steps_at steps.hashes;
      };
    }

pub form_tip : (kind : ℕ) (payload : List ℕ) (span : Span) → kind ≡ 2 → span.first ≡ number payload → span.count ≡ number (drop 8 payload) → IsForm (Form.Tip span) (record_of (entry kind payload))
form_tip kind payload span is first count = subst (λ (k : ℕ). IsForm (Form.Tip span) (record_of (entry k payload))) (sym is) (first, count)
