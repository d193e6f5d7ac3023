-- Lists of URLs, piece by piece.
use Rattle.std.proofs.Common.{◌≡◌, ◌≢◌, ◌+◌, ◌<◌, ℕ, Bool, false, true, List, [], ◌∷◌, ◌++◌, length, map, take, drop, get_or, refl, sym, ap, subst, ◌∙◌, arith, append_assoc, append-nil, Option, Some, None}
use Rattle.std.specs.Prelude.{sum_by, bytes_eq, IfNone, All}
use Rattle.std.specs.List.{AllByRecursion}
use Rattle.std.proofs.lemmas.List.{length-map, get_or-map, map-append, take_more}
use Rattle.std.proofs.lemmas.List.Elements.{All-push}
use Rattle.std.proofs.lemmas.List.Sums.{sum_by-append}
use Rattle.std.specs.Cmp.Lexicographic.{bytes_decides}
use Rattle.ots_address.specs.AddressList.{pieces_of, pieces_left, CutsPiece}
use Rattle.ots_calendar_url.specs.declared.url.Scheme.{Scheme}
use Rattle.ots_calendar_url.specs.CalendarUrl.{IsUrl, Url, text_of}
use Rattle.ots_calendar_url.specs.UrlList.{AreNext, AreUrls, HasScheme, IsBadUrl, IsListOf, IsNext}
use Rattle.ots_calendar_url.proofs.Urls.{same_scheme}

abbrev Texts : Type 0
Texts = List (List ℕ)

-- ---- one URL more

pub next_more : (before pieces : Texts) (piece : List ℕ) → AreNext before pieces → IsNext (before ++ pieces) piece → AreNext before (pieces ++ piece ∷ [])
next_more before [] piece good next = (subst (λ (z : Texts). IsNext z piece) (append-nil before) next, tt)
next_more before (first ∷ pieces) piece good next =
    (good.0, next_more (before ++ first ∷ []) pieces piece good.1 (subst (λ (z : Texts). IsNext z piece) (sym (append_assoc before (first ∷ []) pieces)) next))

-- ---- one bad place

abbrev first_of : Texts → List ℕ
first_of pieces = get_or pieces 0 []

same_before : (before xs ys xs' ys' : Texts) (x y : List ℕ) → xs ++ x ∷ xs' ≡ ys ++ y ∷ ys' → AreNext before xs → AreNext before ys
    → (IsNext (before ++ xs) x → ⊥) → (IsNext (before ++ ys) y → ⊥) → xs ≡ ys
same_before before [] [] xs' ys' x y same p q f g = refl
same_before before [] (z ∷ ys) xs' ys' x y same p q f g =
    absurd (f (subst (λ (w : List ℕ). IsNext (before ++ []) w) (sym (ap first_of same)) (subst (λ (w : Texts). IsNext w z) (sym (append-nil before)) q.0)))
same_before before (z ∷ xs) [] xs' ys' x y same p q f g =
    absurd (g (subst (λ (w : List ℕ). IsNext (before ++ []) w) (ap first_of same) (subst (λ (w : Texts). IsNext w z) (sym (append-nil before)) p.0)))
same_before before (z ∷ xs) (w ∷ ys) xs' ys' x y same p q f g =
    let first : z ≡ w = ap first_of same in
    let rest = same_before (before ++ z ∷ []) xs ys xs' ys' x y (ap (drop 1) same) p.1
    (subst (λ (u : List ℕ). AreNext (before ++ u ∷ []) ys) (sym first) q.1)
    (λ next. f (subst (λ (u : Texts). IsNext u x) (append_assoc before (z ∷ []) xs) next))
    (λ next. g (subst (λ (u : Texts). IsNext u y) (append_assoc before (z ∷ []) ys ∙ ap (λ (u : List ℕ). before ++ u ∷ ys) first) next)) in
    λ i. first i ∷ rest i

pub one_bad : (list : List ℕ) (place other : ℕ) → IsBadUrl list place → IsBadUrl list other → place ≡ other
one_bad list place other a b =
    let same = same_before [] a.before b.before a.after b.after a.bad b.bad (sym a.split ∙ b.split) a.good b.good a.refused b.refused in
    a.place_is ∙ ap (sum_by (λ (piece : List ℕ). length piece + 1)) same ∙ sym b.place_is

not_all : (before xs xs' : Texts) (x : List ℕ) → AreNext before (xs ++ x ∷ xs') → (IsNext (before ++ xs) x → ⊥) → ⊥
not_all before [] xs' x good refused = refused (subst (λ (z : Texts). IsNext z x) (sym (append-nil before)) good.0)
not_all before (first ∷ xs) xs' x good refused =
    not_all (before ++ first ∷ []) xs xs' x good.1 (λ next. refused (subst (λ (z : Texts). IsNext z x) (append_assoc before (first ∷ []) xs) next))

pub never_both : (list : List ℕ) (urls : List Url) (place : ℕ) → IsListOf list urls → IsBadUrl list place → ⊥
never_both list urls place l a = not_all [] a.before a.after a.bad (subst AreUrls a.split l.good) a.refused

-- ---- one list

same_url : (a b : Url) → a.text ≡ b.text → HasScheme a → HasScheme b → a ≡ b
same_url a b same p q =
    let scheme = same_scheme a.text a.scheme b.scheme p (subst (λ (z : List ℕ). IsUrl z b.scheme) (sym same) q) in
    λ i. record { text = same i; scheme = scheme i }

same_urls : (xs ys : List Url) → map text_of xs ≡ map text_of ys → AllByRecursion HasScheme xs → AllByRecursion HasScheme ys → xs ≡ ys
same_urls [] [] same p q = refl
same_urls [] (y ∷ ys) same p q = absurd cc
same_urls (x ∷ xs) [] same p q = absurd cc
same_urls (x ∷ xs) (y ∷ ys) same p q =
    let first = same_url x y (ap first_of same) p.0 q.0 in let rest = same_urls xs ys (ap (drop 1) same) p.1 q.1 in λ i. first i ∷ rest i

pub one_list : (list : List ℕ) (xs ys : List Url) → IsListOf list xs → IsListOf list ys → xs ≡ ys
one_list list xs ys f g = same_urls xs ys (sym f.texts ∙ g.texts) f.schemes g.schemes

-- ---- texts of URLs that were read

shown_at : (xs : List Url) (i : ℕ) (a : Url) (shown : List ℕ) → i < length xs → a ≡ get_or xs i a → shown ≡ a.text → get_or (map text_of xs) i [] ≡ shown
shown_at xs i a shown less at is = get_or-map text_of xs i a [] less ∙ ap text_of (sym at) ∙ sym is

pub has_text_at : (xs : List Url) (i : ℕ) (a : Url) (shown text : List ℕ) (equal : Bool) → i < length xs → a ≡ get_or xs i a → shown ≡ a.text
    → equal ≡ bytes_eq shown text → equal ≡ true → All (λ (earlier : List ℕ). earlier ≢ text) (map text_of xs) → ⊥
has_text_at xs i a shown text equal less at is tests holds all =
    all i [] (omega (arith, less, length-map xs text_of)) (shown_at xs i a shown less at is ∙ (bytes_decides shown text).0 (sym tests ∙ holds))

pub lacks_text_more : (xs : List Url) (i : ℕ) (a : Url) (shown text : List ℕ) (equal : Bool) → i < length xs → a ≡ get_or xs i a → shown ≡ a.text
    → equal ≡ bytes_eq shown text → equal ≡ false → All (λ (earlier : List ℕ). earlier ≢ text) (map text_of (take i xs))
    → All (λ (earlier : List ℕ). earlier ≢ text) (map text_of (take (i + 1) xs))
lacks_text_more xs i a shown text equal less at is tests fails all =
    let other : text_of (get_or xs i a) ≢ text = λ e.
    let same : bytes_eq shown text ≡ true = (bytes_decides shown text).1 (is ∙ ap text_of at ∙ e) in absurd (cc) in
    subst (All (λ (earlier : List ℕ). earlier ≢ text)) (sym (ap (map text_of) (take_more xs i a less) ∙ map-append text_of (take i xs) (get_or xs i a ∷ [])))
    (All-push (λ (earlier : List ℕ). earlier ≢ text) (map text_of (take i xs)) (text_of (get_or xs i a)) all other)

pub no_next : (r : Option Scheme) (before : Texts) (piece bytes : List ℕ) → bytes ≡ piece
    → IfNone r ((scheme : Scheme) → IsUrl bytes scheme → ⊥) → IfNone r (IsNext before piece → ⊥)
no_next None before piece bytes is none = λ next. none next.url.0 (subst (λ (z : List ℕ). IsUrl z next.url.0) (sym is) next.url.1)
no_next (Some x) before piece bytes is none = tt

one_more : (xs : List Url) (a : Url) → AllByRecursion HasScheme xs → HasScheme a → AllByRecursion HasScheme (xs ++ a ∷ [])
one_more [] a all is = (is, tt)
one_more (x ∷ xs) a all is = (all.0, one_more xs a all.1 is)

-- a URL more was read
pub record ReadsMore (list : List ℕ) (urls : List Url) (place : ℕ) (rest : Option (List ℕ)) : Type 0 where
  pub pieces : pieces_of list ≡ map text_of urls ++ pieces_left rest
  pub schemes : AllByRecursion HasScheme urls
  pub good : AreUrls (map text_of urls)
  pub place_is : place ≡ sum_by (λ (piece : List ℕ). length piece + 1) (map text_of urls)

pub reads_more : (list : List ℕ) (old new : List Url) (url : Url) (text piece : List ℕ) (place : ℕ) (rest : Option (List ℕ))
    → ReadsMore list old place (Some text) → CutsPiece text piece rest → url.text ≡ piece → HasScheme url → IsNext (map text_of old) piece → new ≡ old ++ url ∷ []
    → ReadsMore list new (place + (length piece + 1)) rest
reads_more list old new url text piece place rest before cut is scheme next more =
    let texts : map text_of new ≡ map text_of old ++ piece ∷ [] = ap (map text_of) more ∙ map-append text_of old (url ∷ []) ∙ ap (λ (z : List ℕ). map text_of old ++ z ∷ []) is in
    record {
      pieces = before.pieces ∙ ap (λ (z : Texts). map text_of old ++ z) cut.pieces ∙ sym (append_assoc (map text_of old) (piece ∷ []) (pieces_left rest))
          ∙ ap (λ (z : Texts). z ++ pieces_left rest) (sym texts);
      schemes = subst (AllByRecursion HasScheme) (sym more) (one_more old url before.schemes scheme);
      good = subst AreUrls (sym texts) (next_more [] (map text_of old) piece before.good next);
      place_is = rw texts (omega (arith, before.place_is, sum_by-append (λ (p : List ℕ). length p + 1) (map text_of old) (piece ∷ [])));
    }
