-- The order of keys, and one key more.
use Rattle.std.proofs.Common.{◌≡◌, ◌+◌, ◌<◌, ◌↔◌, ◌⊎◌, ℕ, zero, suc, List, [], ◌∷◌, length, map, drop, get_or, refl, sym, ap, subst, ◌∙◌, arith, inl, inr, Some}
use Rattle.std.specs.BTreeSet.{insert_key}
use Rattle.std.specs.Cmp.Lexicographic.{slice_cmp}
use Rattle.std.specs.List.{AllByRecursion, slice_get, sum_by}
use Rattle.std.specs.List.Sorted.{IsStrictlySortedBy}
use Rattle.std.specs.Ordering.{match_ordering, nat_cmp, ordering_then}
use Rattle.std.specs.declared.cmp.Ordering.{Ordering}
use Rattle.std.specs.declared.cmp.Ordering.TheVariants.{Less, Equal, Greater}
use Rattle.std.proofs.lemmas.List.Sums.{sum_by-cons}
use Rattle.std.proofs.lemmas.Map.Keys.{sorted_head, sorted_tail}
use Rattle.std.proofs.lemmas.Option.{get_or_from_slice_get}
use Rattle.ots_calendar_url.specs.UrlList.{AreUrls}
use Rattle.ots_sheet.specs.declared.request.Kind.{Kind}
use Rattle.ots_sheet.specs.declared.request.Kind.TheVariants.{Get, Post}
use Rattle.ots_sheet.specs.Order.{kind_order, request_order}
use Rattle.ots_sheet.specs.Request.{IsRequest, RequestParts, request_line}
use Rattle.ots_sheet.specs.Sheet.{AreInOrder}
use Rattle.ots_sheet.proofs.Orders.{lines_order}
use Rattle.ots_request_set.specs.RequestSet.{Has}
use Rattle.ots_request_set.specs.inner.Key.{IsKey, key_of, kind_byte, kind_of, parts_of, rank_in, requests_of}
use Rattle.ots_request_set.proofs.Texts.{one_place, rank_order, same_is, same_text}

-- ---- a key

kind_back : (kind : Kind) → kind_of (kind_byte kind) ≡ kind
kind_back Get = refl
kind_back Post = refl

pub parts_is : (texts : List (List ℕ)) (key : List ℕ) (k : IsKey texts key) → parts_of texts key ≡ k.request
parts_is texts key k =
    ap (parts_of texts) k.is
    ∙ (λ i. record { kind = kind_back k.request.kind i; url = get_or_from_slice_get texts k.place k.request.url [] k.url i; message = k.request.message })

pub is_valid : (texts : List (List ℕ)) (key : List ℕ) → IsKey texts key → IsRequest (parts_of texts key)
is_valid texts key k = subst IsRequest (sym (parts_is texts key k)) k.valid

pub all_valid : (texts keys : List (List ℕ)) → AllByRecursion (IsKey texts) keys → AllByRecursion IsRequest (requests_of texts keys)
all_valid texts [] all = tt
all_valid texts (key ∷ keys) all = (is_valid texts key all.0, all_valid texts keys all.1)

kinds_order : (j k : Kind) → nat_cmp (kind_byte j) (kind_byte k) ≡ kind_order j k
kinds_order Get Get = refl
kinds_order Get Post = refl
kinds_order Post Get = refl
kinds_order Post Post = refl

then_same : (o x m : Ordering) → (o ≡ Equal → x ≡ Equal) → ordering_then o (ordering_then x m) ≡ ordering_then o m
then_same Less x m h = refl
then_same Equal x m h = ap (λ (z : Ordering). ordering_then z m) (h refl)
then_same Greater x m h = refl

-- the order of keys is that of their requests
key_order : (texts : List (List ℕ)) (a b : List ℕ) → AreUrls texts → (p : IsKey texts a) (q : IsKey texts b) → slice_cmp nat_cmp a b ≡ request_order p.request q.request
key_order texts a b good p q =
    let r = p.request in
    let s = q.request in
    let messages = slice_cmp nat_cmp r.message s.message in
    let urls = slice_cmp nat_cmp r.url s.url in
    let same : urls ≡ Equal → nat_cmp p.place q.place ≡ Equal = λ e.
    let place : p.place ≡ q.place = one_place texts p.place q.place s.url good (p.url ∙ ap Some (same_text r.url s.url e)) q.url in
    subst (λ (z : ℕ). nat_cmp p.place z ≡ Equal) place (same_is p.place) in
    (λ i. slice_cmp nat_cmp (p.is i) (q.is i))
    ∙ (λ i. ordering_then (kinds_order r.kind s.kind i) (ordering_then (rank_order texts r.url s.url p.place q.place p.url q.url i) (ordering_then (nat_cmp p.place q.place) messages)))
    ∙ ap (ordering_then (kind_order r.kind s.kind)) (then_same urls (nat_cmp p.place q.place) messages same)

-- the order of keys is that of the lines of their requests
line_before : (texts : List (List ℕ)) (a b : List ℕ) → AreUrls texts → IsKey texts a → IsKey texts b → slice_cmp nat_cmp a b ≡ Less
    → slice_cmp nat_cmp (request_line (parts_of texts a)) (request_line (parts_of texts b)) ≡ Less
line_before texts a b good p q h =
    (λ i. slice_cmp nat_cmp (request_line (parts_is texts a p i)) (request_line (parts_is texts b q i)))
    ∙ sym (lines_order p.request q.request p.valid q.valid)
    ∙ sym (key_order texts a b good p q)
    ∙ h

-- ---- keys that show lists of bytes

module _ {V : Type 0} (bytes : V → List ℕ) where
  abbrev pub order : V → V → Ordering
  order x y = slice_cmp nat_cmp (bytes x) (bytes y)

  first_before : (texts : List (List ℕ)) (k : V) (ks : List V) → AreUrls texts → IsKey texts (bytes k) → AllByRecursion (IsKey texts) (map bytes ks)
      → AllByRecursion (λ y. order k y ≡ Less) ks → (j : ℕ) (r : RequestParts) → j < length (requests_of texts (map bytes ks))
      → slice_cmp nat_cmp (request_line (parts_of texts (bytes k))) (request_line (get_or (requests_of texts (map bytes ks)) j r)) ≡ Less
  first_before texts k [] good key all less j r within = absurd (omega (arith, within))
  first_before texts k (y ∷ ks) good key all less zero r within = line_before texts (bytes k) (bytes y) good key all.0 less.0
  first_before texts k (y ∷ ks) good key all less (suc j) r within = first_before texts k ks good key all.1 less.1 j r (omega (arith, within))

  pub in_order : (texts : List (List ℕ)) (ks : List V) → AreUrls texts → AllByRecursion (IsKey texts) (map bytes ks) → IsStrictlySortedBy order ks
      → AreInOrder (requests_of texts (map bytes ks))
  in_order texts [] good all sorted r i j less within = absurd (omega (arith, within))
  in_order texts (k ∷ ks) good all sorted r i zero less within = absurd (omega (arith, less))
  in_order texts (k ∷ ks) good all sorted r zero (suc j) less within =
      first_before texts k ks good all.0 all.1 (sorted_head order k ks sorted) j r (omega (arith, within))
  in_order texts (k ∷ ks) good all sorted r (suc i) (suc j) less within =
      in_order texts ks good all.1 (sorted_tail order k ks sorted) r i j (omega (arith, less)) (omega (arith, within))

  -- ---- one key more

  pub all_more : (P : List ℕ → Type 0) (ks : List V) (k : V) → AllByRecursion P (map bytes ks) → P (bytes k) → AllByRecursion P (map bytes (insert_key order ks k))
  all_more P [] k all is = (is, tt)
  all_more P (x ∷ ks) k all is =
      elim (order k x) as (λ (o : Ordering). AllByRecursion P (map bytes (match_ordering o (k ∷ x ∷ ks) (x ∷ ks) (x ∷ insert_key order ks k)))) [
        | Less ↦ (is, all)
        | Equal ↦ all
        | Greater ↦ (all.0, all_more P ks k all.1 is)
      ]

  module _ (show : List ℕ → RequestParts) where
    abbrev shown : List V → List RequestParts
    shown ks = map show (map bytes ks)

    abbrev IsMore : List V → V → List V → RequestParts → Type 0
    IsMore ks k new q = Has (shown new) q ↔ (Has (shown ks) q ⊎ (q ≡ show (bytes k)))

    pub has_more : (ks : List V) (k : V) (q : RequestParts) → IsMore ks k (insert_key order ks k) q
    has_more [] k q = (
      (λ h. elim h [ inl e ↦ inr (sym e) | inr n ↦ absurd n ]),
      (λ h. elim h [ inl n ↦ absurd n | inr e ↦ inl (sym e) ]),
    )
    has_more (x ∷ ks) k q =
        let rest = has_more ks k q in
        elim (order k x) as (λ (o : Ordering). order k x ≡ o → IsMore (x ∷ ks) k (match_ordering o (k ∷ x ∷ ks) (x ∷ ks) (x ∷ insert_key order ks k)) q) [
          | Less ↦ λ e. (
            (λ h. elim h [ inl e ↦ inr (sym e) | inr old ↦ inl old ]),
            (λ h. elim h [ inl old ↦ inr old | inr e ↦ inl (sym e) ]),
          )
          | Equal ↦ λ e. (
            (λ h. inl h),
            (λ h. elim h [ inl old ↦ old | inr is ↦ inl (sym (is ∙ ap show (same_text (bytes k) (bytes x) e))) ]),
          )
          | Greater ↦ λ e. (
            (λ h. elim h [ inl e ↦ inl (inl e) | inr h ↦ elim (rest.0 h) [ inl old ↦ inl (inr old) | inr is ↦ inr is ] ]),
            (λ h. elim h [ inl old ↦ elim old [ inl e ↦ inl e | inr h ↦ inr (rest.1 (inl h)) ] | inr is ↦ inr (rest.1 (inr is)) ]),
          )
        ] refl

    -- a sum over the requests, where a new key came
    pub sum_more : (f : RequestParts → ℕ) (ks : List V) (k : V) → (length (insert_key order ks k) ≡ length ks → ⊥)
        → sum_by f (shown (insert_key order ks k)) ≡ sum_by f (shown ks) + f (show (bytes k))
    sum_more f [] k longer = omega (arith, sum_by-cons f (show (bytes k)) [])
    sum_more f (x ∷ ks) k longer =
        elim (order k x) as (λ (o : Ordering). order k x ≡ o → sum_by f (shown (match_ordering o (k ∷ x ∷ ks) (x ∷ ks) (x ∷ insert_key order ks k))) ≡ sum_by f (shown (x ∷ ks)) + f (show (bytes k))) [
          | Less ↦ λ e. omega (arith, sum_by-cons f (show (bytes k)) (shown (x ∷ ks)))
          | Equal ↦ λ e. absurd (longer (ap (λ (o : Ordering). length (match_ordering o (k ∷ x ∷ ks) (x ∷ ks) (x ∷ insert_key order ks k))) e))
          | Greater ↦ λ e.
              let rest = sum_more f ks k (λ same. longer (ap (λ (o : Ordering). length (match_ordering o (k ∷ x ∷ ks) (x ∷ ks) (x ∷ insert_key order ks k))) e ∙ ap suc same)) in
              omega (arith, rest, sum_by-cons f (show (bytes x)) (shown ks), sum_by-cons f (show (bytes x)) (shown (insert_key order ks k)))
        ] refl

  -- where none came, the keys are as they were
  pub none_more : (ks : List V) (k : V) → length (insert_key order ks k) ≡ length ks → insert_key order ks k ≡ ks
  none_more [] k same = absurd (omega (arith, same))
  none_more (x ∷ ks) k same =
      elim (order k x) as (λ (o : Ordering). length (match_ordering o (k ∷ x ∷ ks) (x ∷ ks) (x ∷ insert_key order ks k)) ≡ length (x ∷ ks) → match_ordering o (k ∷ x ∷ ks) (x ∷ ks) (x ∷ insert_key order ks k) ≡ x ∷ ks) [
        | Less ↦ λ s. absurd (omega (arith, s))
        | Equal ↦ λ s. refl
        | Greater ↦ λ s. ap (λ (z : List V). x ∷ z) (none_more ks k (omega (arith, s)))
      ] same
