-- Sets that take in requests.
use Rattle.std.proofs.Common.{◌≡◌, ◌≢◌, ◌∙◌, ◌<◌, ◌⊎◌, ℕ, ◌+◌, Bool, true, false, cond, List, [], ◌∷◌, ◌++◌, length, map, take, drop, get_or, Some, refl, sym, ap, subst, arith, inl, inr, zero-add}
use Rattle.std.specs.Prelude.{All, bytes_eq, count_by, not}
use Rattle.std.specs.List.{filter, slice_get}
use Rattle.std.proofs.lemmas.List.{map-append, take-append-drop, take_more}
use Rattle.std.proofs.lemmas.List.Elements.{filter-append}
use Rattle.std.proofs.lemmas.List.Folds.{list_any_at, list_any_none}
use Rattle.std.proofs.lemmas.List.Sums.{sum_by-append}
use Rattle.std.proofs.lemmas.Option.{get_or_from_slice_get, slice_get-get_or, slice_get_within}
use Rattle.std.proofs.lemmas.Slice.Eq.{bytes_eq-Decides}
use Rattle.ots_wanted.specs.Wanted.{Gains, IsWithin, TakesIn, address_of, is_listed, request_for, texts_of}
use Rattle.ots_wanted.specs.inner.Asking.{IsFit, TakesPair, TakesPairs, others_of, request_of, wanted_of}
use Rattle.ots_calendar_url.specs.CalendarUrl.{text_of}
use Rattle.ots_ops.specs.Message.{IsMessage}
use Rattle.ots_pending.specs.Pairs.{PairAt}
use Rattle.ots_request_set.specs.RequestSet.{Adds, Asked, Has, request_to, text_at}
use Rattle.ots_sheet.proofs.Words.{le_or_lt}
use Rattle.ots_sheet.specs.declared.limits.TheConstants.{MAX_LINES, MAX_SHEET}
use Rattle.ots_sheet.specs.declared.request.Kind.{Kind}
use Rattle.ots_sheet.specs.declared.request.Kind.TheVariants.{Get, Post}
use Rattle.ots_sheet.specs.Request.{HasLength, RequestParts, request_line}
use Rattle.ots_sheet.specs.Sheet.{FitsSheet, lines_text, sum_line}

-- ---- members

has_first : (xs ys : List RequestParts) (r : RequestParts) → Has xs r → Has (xs ++ ys) r
has_first [] ys r has = absurd has
has_first (x ∷ xs) ys r (inl is) = inl is
has_first (x ∷ xs) ys r (inr has) = inr (has_first xs ys r has)

has_second : (xs ys : List RequestParts) (r : RequestParts) → Has ys r → Has (xs ++ ys) r
has_second [] ys r has = has
has_second (x ∷ xs) ys r has = inr (has_second xs ys r has)

has_either : (xs ys : List RequestParts) (r : RequestParts) → Has (xs ++ ys) r → Has xs r ⊎ Has ys r
has_either [] ys r has = inr has
has_either (x ∷ xs) ys r (inl is) = inl (inl is)
has_either (x ∷ xs) ys r (inr has) = elim (has_either xs ys r has) [
  | inl a ↦ inl (inr a)
  | inr b ↦ inr b
]

-- ---- limits

decided : (a : Asked) → IsWithin a ⊎ (IsWithin a → ⊥)
decided a =
    let lines = map request_line a.requests in
    let all : List (List ℕ) = lines ++ sum_line lines ∷ [] in
    elim (le_or_lt (length all) MAX_LINES) [
      | inr more ↦ inr (λ fits. let few = fits.few in omega (arith, more, few))
      | inl few ↦ elim (le_or_lt (length (lines_text all)) MAX_SHEET) [
        | inr more ↦ inr (λ fits. let small = fits.small in omega (arith, more, small))
        | inl small ↦ inl (record { few = few; small = small })
      ]
    ]

-- ---- sets after one another

pub gain_none : (a : Asked) (v : List RequestParts) → Gains a a v
gain_none a v = record { urls = refl; keeps = λ r has. has; only = λ r has. inl has }

gain_on : (a b c : Asked) (v w : List RequestParts) → Gains a b v → Gains b c w → Gains a c (v ++ w)
gain_on a b c v w g h = record {
  urls = h.urls ∙ g.urls;
  keeps = λ r has. h.keeps r (g.keeps r has);
  only = λ r has. elim (h.only r has) [
    | inr new ↦ inr (has_second v w r new)
    | inl old ↦ elim (g.only r old) [
      | inl older ↦ inl older
      | inr new ↦ inr (has_first v w r new)
    ]
  ];
}

pub take_none : (a : Asked) → TakesIn a a []
take_none a = record { gains = gain_none a []; all = λ _ r has. absurd has; full = λ _. refl; order = λ o. o }

same_within : (a b : Asked) → a.requests ≡ b.requests → IsWithin a → IsWithin b
same_within a b same within = subst (λ (rs : List RequestParts). FitsSheet (map request_line rs)) same within

pub take_on : (a b c : Asked) (v w : List RequestParts) → TakesIn a b v → TakesIn b c w → TakesIn a c (v ++ w)
take_on a b c v w s t = record {
  gains = gain_on a b c v w s.gains t.gains;
  all = λ within r has. elim (has_either v w r has) [
    | inr new ↦ t.all within r new
    | inl old ↦ elim (decided b) [
      | inl fits ↦ t.gains.keeps r (s.all fits r old)
      | inr past ↦ absurd (past (same_within c b (t.full past) within))
    ]
  ];
  full = λ past. t.full (λ within. past (same_within b a (s.full past) within)) ∙ s.full past;
  order = λ o. t.order (s.order o);
}

-- ---- one pair

add_one : (a b : Asked) (r : RequestParts) → IsWithin a → Adds a b r → TakesIn a b (r ∷ [])
add_one a b r within adds = record {
  gains = record {
    urls = adds.urls;
    keeps = λ q has. (adds.members q).1 (inl has);
    only = λ q has. elim ((adds.members q).0 has) [
      | inl old ↦ inl old
      | inr is ↦ inr (inl (sym is))
    ];
  };
  all = λ _ q has. elim has [
    | inl is ↦ (adds.members q).1 (inr (sym is))
    | inr none ↦ absurd none
  ];
  full = λ past. absurd (past within);
  order = λ _. adds.order;
}

add_none : (a : Asked) (r : RequestParts) → (IsWithin a → ⊥) → TakesIn a a (r ∷ [])
add_none a r past = record { gains = gain_none a (r ∷ []); all = λ within. absurd (past within); full = λ _. refl; order = λ o. o }

-- ---- pair by pair

pub none_taken : (a : Asked) (kind : Kind) → TakesPairs a a kind [] 0
none_taken a kind = record { takes = take_none a; others = refl }

one_more : (pairs : List PairAt) (i : ℕ) (p : PairAt) → slice_get pairs i ≡ Some p → take (i + 1) pairs ≡ take i pairs ++ p ∷ []
one_more pairs i p at =
    take_more pairs i p (slice_get_within pairs i p at) ∙ ap (λ (q : PairAt). take i pairs ++ q ∷ []) (get_or_from_slice_get pairs i p p at)

wanted_more : (urls : List (List ℕ)) (kind : Kind) (ps qs : List PairAt) → wanted_of urls kind (ps ++ qs) ≡ wanted_of urls kind ps ++ wanted_of urls kind qs
wanted_more urls kind ps qs =
    ap (filter (is_listed urls)) (map-append (request_for kind) ps qs) ∙ filter-append (is_listed urls) (map (request_for kind) ps) (map (request_for kind) qs)

others_more : (urls : List (List ℕ)) (kind : Kind) (ps : List PairAt) (p : PairAt) → others_of urls kind (ps ++ p ∷ []) ≡ others_of urls kind ps + cond (not (is_listed urls (request_for kind p))) 1 0
others_more urls kind ps p =
    let f : RequestParts → ℕ = λ r. cond (not (is_listed urls r)) 1 0 in
    ap (count_by (λ r. not (is_listed urls r))) (map-append (request_for kind) ps (p ∷ []))
    ∙ sum_by-append f (map (request_for kind) ps) (request_for kind p ∷ []) ∙ ap (λ (n : ℕ). others_of urls kind ps + n) (zero-add (f (request_for kind p)))

texts_after : (a b : Asked) (v : List RequestParts) → Gains a b v → texts_of b ≡ texts_of a
texts_after a b v g = ap (map text_of) g.urls

pub pair_on : (a b c : Asked) (kind : Kind) (pairs : List PairAt) (i skipped : ℕ) (p : PairAt) (r : RequestParts) (listed : Bool) → slice_get pairs i ≡ Some p
    → r ≡ request_for kind p → TakesPairs a b kind (take i pairs) skipped → TakesPair b c r listed
    → TakesPairs a c kind (take (i + 1) pairs) (skipped + cond (not listed) 1 0)
pair_on a b c kind pairs i skipped p r listed at is s t =
    let urls = texts_of a in
    let same : texts_of b ≡ urls = texts_after a b (wanted_of urls kind (take i pairs)) s.takes.gains in
    let here : TakesIn b c (wanted_of urls kind (p ∷ [])) = subst (λ (q : RequestParts). TakesIn b c (filter (is_listed urls) (q ∷ []))) is
    (subst (λ (us : List (List ℕ)). TakesIn b c (filter (is_listed us) (r ∷ []))) same t.takes) in
    let whole : wanted_of urls kind (take i pairs) ++ wanted_of urls kind (p ∷ []) ≡ wanted_of urls kind (take (i + 1) pairs) =
    sym (ap (wanted_of urls kind) (one_more pairs i p at) ∙ wanted_more urls kind (take i pairs) (p ∷ [])) in
    let told : listed ≡ is_listed urls (request_for kind p) = t.is ∙ (λ j. is_listed (same j) (is j)) in
    record {
      takes = subst (TakesIn a c) whole (take_on a b c (wanted_of urls kind (take i pairs)) (wanted_of urls kind (p ∷ [])) s.takes here);
      others =
          (λ j. s.others j + cond (not (told j)) 1 0) ∙ sym (ap (others_of urls kind) (one_more pairs i p at) ∙ others_more urls kind (take i pairs) p);
    }

-- what some of the pairs ask for is asked for by all
pub gain_more : (a b c : Asked) (kind : Kind) (pairs : List PairAt) (i : ℕ) → Gains a b (wanted_of (texts_of a) kind (take i pairs)) → c ≡ b
    → Gains a c (wanted_of (texts_of a) kind pairs)
gain_more a b c kind pairs i g same =
    let urls = texts_of a in
    let whole : wanted_of urls kind (take i pairs) ++ wanted_of urls kind (drop i pairs) ≡ wanted_of urls kind pairs =
    sym (wanted_more urls kind (take i pairs) (drop i pairs)) ∙ ap (wanted_of urls kind) (take-append-drop i pairs) in
    subst (λ (x : Asked). Gains a x (wanted_of urls kind pairs)) (sym same)
    (subst (Gains a b) whole (gain_on a b b (wanted_of urls kind (take i pairs)) (wanted_of urls kind (drop i pairs)) g (gain_none b (wanted_of urls kind (drop i pairs)))))

-- ---- the address of a pair

bytes_same : (t : List ℕ) → bytes_eq t t ≡ true
bytes_same t = (bytes_eq-Decides t t).1 refl

bytes_other : (t u : List ℕ) → t ≢ u → bytes_eq t u ≡ false
bytes_other t u other = elim (bytes_eq t u) as (λ b. bytes_eq t u ≡ b → bytes_eq t u ≡ false) [
  | true ↦ λ e. absurd (other ((bytes_eq-Decides t u).0 e))
  | false ↦ λ e. e
] refl

is_place : (a : Asked) (r : RequestParts) (place : ℕ) → slice_get (texts_of a) place ≡ Some r.url → is_listed (texts_of a) r ≡ true
is_place a r place at =
    list_any_at (λ url. bytes_eq url r.url) (texts_of a) place [] (slice_get_within (texts_of a) place r.url at)
    (ap (λ (t : List ℕ). bytes_eq t r.url) (get_or_from_slice_get (texts_of a) place r.url [] at) ∙ bytes_same r.url)

is_nowhere : (a : Asked) (r : RequestParts) → All (λ (text : List ℕ). text ≢ r.url) (texts_of a) → is_listed (texts_of a) r ≡ false
is_nowhere a r none = list_any_none (λ url. bytes_eq url r.url) (texts_of a) (λ k d less. bytes_other (get_or (texts_of a) k d) r.url (none k d less))

takes_other : (a b : Asked) (r : RequestParts) → is_listed (texts_of a) r ≡ false → b ≡ a → TakesPair a b r false
takes_other a b r is same = record { is = sym is; takes = rw is (subst (λ (x : Asked). TakesIn a x []) (sym same) (take_none a)) }

-- a pair whose address is none of the URLs
pub other_pair : (a : Asked) (kind : Kind) (uri message url : List ℕ) → url ≡ address_of kind uri → All (λ (text : List ℕ). text ≢ url) (texts_of a)
    → TakesPair a a (request_of kind uri message) false
other_pair a kind uri message url is none =
    let r = request_of kind uri message in
    takes_other a a r (is_nowhere a r (subst (λ (t : List ℕ). All (λ (text : List ℕ). text ≢ t) (texts_of a)) is none)) refl

listed_pair : (a b : Asked) (kind : Kind) (uri message url : List ℕ) (place : ℕ) → url ≡ address_of kind uri → slice_get (texts_of a) place ≡ Some url
    → TakesIn a b (request_of kind uri message ∷ []) → TakesPair a b (request_of kind uri message) true
listed_pair a b kind uri message url place is at takes =
    let listed = is_place a (request_of kind uri message) place (at ∙ ap (λ (t : List ℕ). Some t) is) in
    record { is = sym listed; takes = rw listed takes }

-- one whose address is the URL at a place, in a set that is within the limits
pub added_pair : (a b : Asked) (kind : Kind) (uri message url : List ℕ) (place : ℕ) → url ≡ address_of kind uri → slice_get (texts_of a) place ≡ Some url
    → IsWithin a → Adds a b (request_to a kind place message) → TakesPair a b (request_of kind uri message) true
added_pair a b kind uri message url place is at within adds =
    let text : text_at a place ≡ address_of kind uri = get_or_from_slice_get (texts_of a) place url [] at ∙ is in
    let same : request_to a kind place message ≡ request_of kind uri message = λ j. record { kind = kind; url = text j; message = message } in
    listed_pair a b kind uri message url place is at (add_one a b (request_of kind uri message) within (subst (Adds a b) same adds))

-- one in a set that is past them
pub past_pair : (a : Asked) (kind : Kind) (uri message url : List ℕ) (place : ℕ) → url ≡ address_of kind uri → slice_get (texts_of a) place ≡ Some url
    → (IsWithin a → ⊥) → TakesPair a a (request_of kind uri message) true
past_pair a kind uri message url place is at past = listed_pair a a kind uri message url place is at (add_none a (request_of kind uri message) past)

-- ---- pairs

pub record At (pairs : List PairAt) (i : ℕ) : Type 0 where
  pub p : PairAt
  pub at : slice_get pairs i ≡ Some p

pub pair_at : (pairs : List PairAt) (i : ℕ) → i < length pairs → At pairs i
pair_at pairs i less =
    let none : PairAt = record { pair = record { uri = []; message = [] }; depth = 0 } in
    record { p = get_or pairs i none; at = slice_get-get_or pairs i none less }

pub asks_for : (kind : Kind) (p : PairAt) (uri message : List ℕ) → uri ≡ p.pair.uri → message ≡ p.pair.message → request_of kind uri message ≡ request_for kind p
asks_for kind p uri message u m = λ j. record { kind = kind; url = address_of kind (u j); message = m j }

pub long_enough : (kind : Kind) (p : PairAt) (bytes message : List ℕ) → bytes ≡ message → message ≡ p.pair.message → IsFit kind p → IsMessage message
    → HasLength kind (length bytes)
long_enough Get p bytes message same is fit limits =
    let least = fit.least in
    let most = limits.greatest in
    (omega (arith, ap length same, ap length is, least), omega (arith, ap length same, most))
long_enough Post p bytes message same is fit limits = ap length same ∙ ap length is ∙ fit.hash_long refl
