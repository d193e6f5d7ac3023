-- What is kept of a set, and what contracts see of it.
use Rattle.std.proofs.Common.{◌≡◌, ◌≢◌, ◌+◌, ◌-◌, ◌^◌, ◌<◌, ◌≤◌, ◌↔◌, ◌⊎◌, ℕ, zero, suc, Bool, Bor, true, false, cond, List, [], ◌∷◌, ◌++◌, length, map, get_or, min, refl, sym, ap, subst, ◌∙◌, arith, inl, inr, lit<, leb, Some}
use Rattle.std.specs.Prelude.{bytes_eq, decimal, slice_index_or, slice_set}
use Rattle.std.specs.BTreeSet.{insert_key}
use Rattle.std.specs.Cmp.Lexicographic.{bytes_decides}
use Rattle.std.specs.List.{AllByRecursion, slice_get}
use Rattle.std.specs.List.Sorted.{IsStrictlySortedBy}
use Rattle.std.specs.Map.Iter.{deref}
use Rattle.std.proofs.lemmas.Bool.Decides.{leb_tells}
use Rattle.std.proofs.lemmas.Fmt.{length-decimal-le}
use Rattle.std.proofs.lemmas.List.{get_or-map, get_or-set_other, get_or-set_same, length-map, map-append}
use Rattle.std.proofs.lemmas.Option.{slice_get-get_or}
use Rattle.hex.specs.Hex.{IsBytes}
use Rattle.ots_address.specs.declared.limits.TheConstants.{MAX_CALENDARS}
use Rattle.ots_calendar_url.specs.CalendarUrl.{IsUrl, Url, text_of}
use Rattle.ots_sheet.specs.declared.limits.TheConstants.{MAX_LINES, MAX_SHEET}
use Rattle.ots_sheet.specs.declared.request.Kind.{Kind}
use Rattle.ots_sheet.specs.declared.request.Request.{Request}
use Rattle.ots_sheet.specs.Request.{HasLength, IsRequest, RequestParts, request_line, request_parts}
use Rattle.ots_sheet.specs.Sheet.{AreInOrder, FitsSheet}
use Rattle.ots_sheet.proofs.Words.{le_or_lt}
use Rattle.ots_request_set.specs.RequestSet.{Adds, Asked, Has, count_of, request_to}
use Rattle.ots_request_set.specs.inner.Key.{IsKept, IsKey, all_length, kind_byte, line_length, parts_of, rank_in, requests_of, sum_line_length}
use Rattle.ots_request_set.proofs.Keys.{all_more, all_valid, has_more, in_order, order, parts_is, sum_more}
use Rattle.ots_request_set.proofs.Lengths.{Within, all_long, fits, fits_back}
use Rattle.ots_request_set.proofs.OneSet.{one}
use Rattle.ots_request_set.proofs.Texts.{few, one_place, some_same}

-- ---- a key that is made

pub record NewKey (texts : List (List ℕ)) (r : RequestParts) (key : List ℕ) : Type 0 where
  pub is : IsKey texts key
  pub parts : parts_of texts key ≡ r

pub new_key : (urls shown : List Url) (a : Url) (kind : Kind) (place : ℕ) (message text key : List ℕ) (byte rank : ℕ) → place < length urls → a ≡ get_or urls place a
    → text ≡ a.text → IsUrl a.text a.scheme → shown ≡ urls → byte ≡ kind_byte kind → rank ≡ rank_in (map text_of shown) text → key ≡ byte ∷ rank ∷ place ∷ message
    → HasLength kind (length message) → IsBytes message
    → NewKey (map text_of urls) (record { kind = kind; url = get_or (map text_of urls) place []; message = message }) key
new_key urls shown a kind place message text key byte rank within at shows url same of_kind ranked is long bytes =
    let texts = map text_of urls in
    let there : a.text ≡ get_or texts place [] = ap text_of at ∙ sym (get_or-map text_of urls place a [] within) in
    let rank_is : rank ≡ rank_in texts (get_or texts place []) = ranked ∙ (λ i. rank_in (map text_of (same i)) ((shows ∙ there) i)) in
    let k : IsKey texts key = record {
      request = record { kind = kind; url = get_or texts place []; message = message };
      place = place;
      valid = record { scheme = a.scheme; url = subst (λ (z : List ℕ). IsUrl z a.scheme) there url; long = long; bytes = bytes };
      url = slice_get-get_or texts place [] (omega (arith, within, length-map urls text_of));
      is = is ∙ (λ i. of_kind i ∷ rank_is i ∷ place ∷ message);
    } in
    record { is = k; parts = parts_is texts key k }

-- ---- numbers

pub leb_is : (a b : ℕ) → leb a b ≡ true → a ≤ b
leb_is a b h = elim (leb_tells a b) [ inl p ↦ p.1 | inr q ↦ absurd (let e : true ≡ false = sym h ∙ q.0 in cc) ]

pub is_leb : (a b : ℕ) → a ≤ b → leb a b ≡ true
is_leb a b h = elim (leb_tells a b) [ inl p ↦ p.0 | inr q ↦ absurd (let less = q.1 in omega (arith, h, less)) ]

pub same_or_not : (a b : ℕ) → (a ≡ b) ⊎ (a ≢ b)
same_or_not a b = elim (le_or_lt a b) [
  | inr more ↦ inr (λ e. omega (arith, e, more))
  | inl le ↦ elim (le_or_lt b a) [ inr less ↦ inr (λ e. omega (arith, e, less)) | inl ge ↦ inl (omega (arith, le, ge)) ]
]

not_true : (b : Bool) → (b ≡ true → ⊥) → b ≡ false
not_true true h = absurd (h refl)
not_true false h = refl

-- the last line of a sheet is short
pub sum_short : (count : ℕ) → count < MAX_LINES → sum_line_length count ≤ 77
sum_short count less = omega (arith, length-decimal-le 7 count (lit< tt) (omega (arith, less)) (omega (arith, less)))

-- ---- places

pub place_small : (urls : List Url) (keys : List (List ℕ)) (counts : List ℕ) (b place : ℕ) → IsKept (map text_of urls) keys counts b → place < length urls → place < 16
place_small urls keys counts b place kept within = let most = few (map text_of urls) kept.urls in omega (arith, most, within, length-map urls text_of)

pub few_urls : (urls shown : List Url) (keys : List (List ℕ)) (counts : List ℕ) (b : ℕ) → IsKept (map text_of urls) keys counts b → shown ≡ urls → length shown ≤ MAX_CALENDARS
few_urls urls shown keys counts b kept same = let most = few (map text_of urls) kept.urls in omega (arith, most, ap length same, length-map urls text_of)

pub place_in : (v w : Asked) (place : ℕ) → v ≡ w → place < length w.urls → place < length v.urls
place_in v w place same within = subst (λ (z : Asked). place < length z.urls) (sym same) within

pub same_text_at : (urls : List Url) (a : Url) (place : ℕ) (text : List ℕ) → place < length urls → a ≡ get_or urls place a → text ≡ a.text
    → text ≡ get_or (map text_of urls) place []
same_text_at urls a place text within at shows = shows ∙ ap text_of at ∙ sym (get_or-map text_of urls place a [] within)

-- ---- what is seen

module _ {V : Type 0} (bytes : V → List ℕ) where
  abbrev pub seen : List Url → List V → Asked
  seen urls ks = record { urls = urls; requests = requests_of (map text_of urls) (map bytes ks) }

  pub valid_in : (v : Asked) (urls : List Url) (ks : List V) (counts : List ℕ) (b : ℕ) → seen urls ks ≡ v → IsKept (map text_of urls) (map bytes ks) counts b
      → AllByRecursion IsRequest v.requests
  valid_in v urls ks counts b view kept = subst (λ (z : Asked). AllByRecursion IsRequest z.requests) view (all_valid (map text_of urls) (map bytes ks) kept.each)

  pub order_in : (v : Asked) (urls : List Url) (ks : List V) (counts : List ℕ) (b : ℕ) → seen urls ks ≡ v → IsKept (map text_of urls) (map bytes ks) counts b
      → IsStrictlySortedBy (order bytes) ks → AreInOrder v.requests
  order_in v urls ks counts b view kept sorted =
      subst (λ (z : Asked). AreInOrder z.requests) view (in_order bytes (map text_of urls) ks kept.urls kept.each sorted)

  -- ---- one request more

  pub adds : (old : Asked) (urls : List Url) (ks more : List V) (k : V) (counts : List ℕ) (b : ℕ) (kind : Kind) (place : ℕ) (message : List ℕ) → seen urls ks ≡ old
      → IsKept (map text_of urls) (map bytes ks) counts b → NewKey (map text_of urls) (request_to (seen urls ks) kind place message) (bytes k)
      → IsStrictlySortedBy (order bytes) ks → IsStrictlySortedBy (order bytes) more → more ≡ insert_key (order bytes) ks k
      → Adds old (seen urls more) (request_to old kind place message)
  adds old urls ks more k counts b kind place message view kept new sorted ordered is =
      let texts = map text_of urls in
      let r = request_to (seen urls ks) kind place message in
      let before = requests_of texts (map bytes ks) in
      let after = requests_of texts (map bytes more) in
      let each : AllByRecursion (IsKey texts) (map bytes more) =
      subst (λ (z : List V). AllByRecursion (IsKey texts) (map bytes z)) (sym is) (all_more bytes (IsKey texts) ks k kept.each new.is) in
      let members : (q : RequestParts) → Has after q ↔ (Has before q ⊎ (q ≡ r)) = λ q.
      subst (λ (z : List V). Has (requests_of texts (map bytes z)) q ↔ (Has before q ⊎ (q ≡ r))) (sym is)
      (subst (λ (z : RequestParts). Has (requests_of texts (map bytes (insert_key (order bytes) ks k))) q ↔ (Has before q ⊎ (q ≡ z))) new.parts (has_more bytes (parts_of texts) ks k q)) in
      let rising : AreInOrder after = in_order bytes texts more kept.urls each ordered in
      let stays : Has before r → after ≡ before = λ has.
      one after before rising (in_order bytes texts ks kept.urls kept.each sorted)
      (λ q. ((λ h. elim ((members q).0 h) [ inl o ↦ o | inr e ↦ subst (Has before) (sym e) has ]), (λ h. (members q).1 (inl h)))) in
      subst (λ (z : Asked). Adds z (seen urls more) (request_to z kind place message)) view (record { urls = refl; members = members; order = rising; stays = stays })

  counted_more : (urls : List Url) (ks : List V) (k : V) (counts : List ℕ) (b place : ℕ) (r : RequestParts)
      → IsKept (map text_of urls) (map bytes ks) counts b → NewKey (map text_of urls) r (bytes k) → r.url ≡ get_or (map text_of urls) place []
      → (length (insert_key (order bytes) ks k) ≡ length ks → ⊥) → length counts ≡ 16 → place < length urls → (i : ℕ) → i < length (map text_of urls)
      → get_or (slice_set counts place (get_or counts place 0 + 1)) i 0 ≡ count_of (get_or (map text_of urls) i []) (requests_of (map text_of urls) (map bytes (insert_key (order bytes) ks k)))
  counted_more urls ks k counts b place r kept new url longer all within i less =
      let texts = map text_of urls in
      let text = get_or texts i [] in
      let most = few texts kept.urls in
      let there : place < length texts = omega (arith, within, length-map urls text_of) in
      let was : get_or counts i 0 ≡ count_of text (requests_of texts (map bytes ks)) = kept.counted i less in
      let one_of : RequestParts → ℕ = λ q. cond (bytes_eq q.url text) 1 0 in
      let more : count_of text (requests_of texts (map bytes (insert_key (order bytes) ks k))) ≡ count_of text (requests_of texts (map bytes ks)) + one_of r =
      sum_more bytes (parts_of texts) one_of ks k longer ∙ ap (λ (z : RequestParts). count_of text (requests_of texts (map bytes ks)) + one_of z) new.parts in
      elim (same_or_not place i) [
        | inl same ↦
            let equal : one_of r ≡ 1 = ap {B = ℕ} (λ (z : Bool). cond z 1 0) ((bytes_decides r.url text).1 (url ∙ ap (λ (z : ℕ). get_or texts z []) same)) in
            let here : get_or (slice_set counts place (get_or counts place 0 + 1)) i 0 ≡ get_or counts i 0 + 1 =
            subst (λ (z : ℕ). get_or (slice_set counts place (get_or counts place 0 + 1)) z 0 ≡ get_or counts z 0 + 1) same
            (get_or-set_same counts place (get_or counts place 0 + 1) 0 (omega (arith, all, most, there))) in
            omega (arith, was, more, equal, here)
        | inr other ↦
            let unequal : bytes_eq r.url text ≡ false = not_true (bytes_eq r.url text) (λ e.
            other (one_place texts place i text kept.urls (slice_get-get_or texts place [] there ∙ ap Some (sym url ∙ (bytes_decides r.url text).0 e)) (slice_get-get_or texts i [] less))) in
            let none : one_of r ≡ 0 = ap {B = ℕ} (λ (z : Bool). cond z 1 0) unequal in
            let here = get_or-set_other counts place i (get_or counts place 0 + 1) 0 (λ e. other (sym e)) in
            omega (arith, was, more, none, here)
      ]

  pub kept_more : (urls : List Url) (ks more : List V) (k : V) (counts : List ℕ) (b c line place : ℕ) (r : RequestParts)
      → IsKept (map text_of urls) (map bytes ks) counts b → NewKey (map text_of urls) r (bytes k) → r.url ≡ get_or (map text_of urls) place []
      → more ≡ insert_key (order bytes) ks k → (length more ≡ length ks → ⊥) → length counts ≡ 16 → place < length urls → line ≡ line_length r
      → c ≡ min (b + line) (2 ^ 64 - 1) → IsKept (map text_of urls) (map bytes more) (slice_set counts place (get_or counts place 0 + 1)) c
  kept_more urls ks more k counts b c line place r kept new url is longer all within long sum =
      let texts = map text_of urls in
      let rise : length (insert_key (order bytes) ks k) ≡ length ks → ⊥ = λ e. longer (ap length is ∙ e) in
      let was = kept.long in
      let before = all_long (requests_of texts (map bytes ks)) in
      let after = all_long (requests_of texts (map bytes (insert_key (order bytes) ks k))) in
      let one = sum_more bytes (parts_of texts) line_length ks k rise in
      subst (λ (z : List V). IsKept texts (map bytes z) (slice_set counts place (get_or counts place 0 + 1)) c) (sym is) (record {
        urls = kept.urls;
        each = all_more bytes (IsKey texts) ks k kept.each new.is;
        counted = counted_more urls ks k counts b place r kept new url rise all within;
        long = omega (arith, sum, was, long, before, after, one, ap line_length new.parts);
      })

  -- ---- all requests

  pub key_at : (urls from : List Url) (ks : List V) (counts : List ℕ) (b i : ℕ) (k : V) (key : List ℕ) → IsKept (map text_of urls) (map bytes ks) counts b
      → slice_get ks i ≡ Some k → from ≡ urls → key ≡ bytes k → IsKey (map text_of from) key
  key_at urls from ks counts b i k key kept at same is =
      subst (λ (z : List Url). IsKey (map text_of z) key) (sym same) (subst (IsKey (map text_of urls)) (sym is) (each_at (IsKey (map text_of urls)) ks i k kept.each at))
    where
      each_at : (P : List ℕ → Type 0) (ks : List V) (i : ℕ) (k : V) → AllByRecursion P (map bytes ks) → slice_get ks i ≡ Some k → P (bytes k)
      each_at P [] i k all at = absurd cc
      each_at P (x ∷ ks) zero k all at = subst (λ (z : V). P (bytes z)) (some_same x k at) all.0
      each_at P (x ∷ ks) (suc i) k all at = each_at P ks i k all.1 at

  pub more_requests : (urls from : List Url) (old new : List Request) (r : Request) (xs : List (Bor V)) (x : Bor V) (key : List ℕ) → new ≡ old ++ r ∷ []
      → request_parts r ≡ parts_of (map text_of from) key → map request_parts old ≡ requests_of (map text_of urls) (map bytes (map deref xs)) → from ≡ urls → key ≡ bytes x.now
      → map request_parts new ≡ requests_of (map text_of urls) (map bytes (map deref (xs ++ x ∷ [])))
  more_requests urls from old new r xs x key is parts was same shows =
      let texts = map text_of urls in
      let show : Bor V → RequestParts = λ y. parts_of texts (bytes y.now) in
      let one : request_parts r ≡ show x = parts ∙ (λ i. parts_of (map text_of (same i)) (shows i)) in
      ap (map request_parts) is
      ∙ map-append request_parts old (r ∷ [])
      ∙ (λ i. was i ++ one i ∷ [])
      ∙ sym (spread texts xs x)
    where
      spread : (texts : List (List ℕ)) (xs : List (Bor V)) (x : Bor V)
          → requests_of texts (map bytes (map deref (xs ++ x ∷ []))) ≡ requests_of texts (map bytes (map deref xs)) ++ parts_of texts (bytes x.now) ∷ []
      spread texts [] x = refl
      spread texts (y ∷ xs) x = ap (λ (z : List RequestParts). parts_of texts (bytes y.now) ∷ z) (spread texts xs x)

  pub all_requests : (v : Asked) (urls : List Url) (ks : List V) (requests : List Request) (xs : List (Bor V)) → seen urls ks ≡ v → map deref xs ≡ ks
      → map request_parts requests ≡ requests_of (map text_of urls) (map bytes (map deref xs)) → map request_parts requests ≡ v.requests
  all_requests v urls ks requests xs view all is =
      is ∙ ap (λ (z : List V). requests_of (map text_of urls) (map bytes z)) all ∙ ap (λ (z : Asked). z.requests) view

  -- ---- the limits

  pub within_limits : (v : Asked) (urls : List Url) (ks : List V) (counts : List ℕ) (b count s : ℕ) → seen urls ks ≡ v → IsKept (map text_of urls) (map bytes ks) counts b
      → count ≡ length ks → s ≡ sum_line_length count → count < MAX_LINES
      → (leb b (MAX_SHEET - s) ≡ true → FitsSheet (map request_line v.requests)) × (FitsSheet (map request_line v.requests) → leb b (MAX_SHEET - s) ≡ true)
  within_limits v urls ks counts b count s view kept counted is few_lines =
      let texts = map text_of urls in
      let rs = requests_of texts (map bytes ks) in
      let many : count ≡ length rs = counted ∙ sym (length-map (map bytes ks) (parts_of texts) ∙ length-map ks bytes) in
      let short = sum_short count few_lines in
      let there : (leb b (MAX_SHEET - s) ≡ true → FitsSheet (map request_line rs)) × (FitsSheet (map request_line rs) → leb b (MAX_SHEET - s) ≡ true) = (
        (λ h. let le = leb_is b (MAX_SHEET - s) h in fits rs count b many kept.long (record { few = few_lines; small = omega (arith, le, is, short) })),
        (λ f. let w = fits_back rs count b many kept.long f in let small = w.small in is_leb b (MAX_SHEET - s) (omega (arith, small, is))),
      ) in
      subst (λ (z : Asked). (leb b (MAX_SHEET - s) ≡ true → FitsSheet (map request_line z.requests)) × (FitsSheet (map request_line z.requests) → leb b (MAX_SHEET - s) ≡ true)) view there
