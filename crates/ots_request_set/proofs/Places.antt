-- The place of a text among URLs.
use Rattle.std.proofs.Common.{◌≡◌, ◌≢◌, ◌+◌, ◌<◌, ◌∙◌, ℕ, Bool, true, false, List, [], ◌∷◌, ◌++◌, length, map, take, get_or, sym, ap, subst, arith, ◌≤◌, Some}
use Rattle.std.specs.Prelude.{All, bytes_eq}
use Rattle.std.specs.Cmp.Lexicographic.{bytes_decides}
use Rattle.std.specs.List.{slice_get}
use Rattle.std.proofs.lemmas.List.{get_or-map, length-map, map-append, take_all, take_more}
use Rattle.std.proofs.lemmas.List.Elements.{All-push}
use Rattle.std.proofs.lemmas.Option.{slice_get-get_or}
use Rattle.ots_calendar_url.specs.CalendarUrl.{Url, text_of}
use Rattle.ots_calendar_url.specs.UrlList.{AreUrls, IsListOf}

pub found : (xs : List Url) (i : ℕ) (a : Url) (shown text : List ℕ) (equal : Bool) → i < length xs → a ≡ get_or xs i a → shown ≡ a.text
    → equal ≡ bytes_eq shown text → equal ≡ true → slice_get (map text_of xs) i ≡ Some text
found xs i a shown text equal less at is tests holds =
    slice_get-get_or (map text_of xs) i [] (omega (arith, less, length-map xs text_of))
    ∙ ap Some (get_or-map text_of xs i a [] less ∙ ap text_of (sym at) ∙ sym is ∙ (bytes_decides shown text).0 (sym tests ∙ holds))

pub none_more : (xs : List Url) (i : ℕ) (a : Url) (shown text : List ℕ) (equal : Bool) → i < length xs → a ≡ get_or xs i a → shown ≡ a.text
    → equal ≡ bytes_eq shown text → equal ≡ false → All (λ (other : List ℕ). other ≢ text) (map text_of (take i xs))
    → All (λ (other : List ℕ). other ≢ text) (map text_of (take (i + 1) xs))
none_more xs i a shown text equal less at is tests fails all =
    let other : text_of (get_or xs i a) ≢ text = λ e.
    let same : bytes_eq shown text ≡ true = (bytes_decides shown text).1 (is ∙ ap text_of at ∙ e) in absurd (cc) in
    subst (All (λ (other : List ℕ). other ≢ text)) (sym (ap (map text_of) (take_more xs i a less) ∙ map-append text_of (take i xs) (get_or xs i a ∷ [])))
    (All-push (λ (other : List ℕ). other ≢ text) (map text_of (take i xs)) (text_of (get_or xs i a)) all other)

pub none_at_all : (xs : List Url) (i : ℕ) (text : List ℕ) → length xs ≤ i → All (λ (other : List ℕ). other ≢ text) (map text_of (take i xs))
    → All (λ (other : List ℕ). other ≢ text) (map text_of xs)
none_at_all xs i text all none = subst (λ (z : List Url). All (λ (other : List ℕ). other ≢ text) (map text_of z)) (take_all i xs all) none

-- what is read of a list may be the URLs of a set
pub of_list : (list : List ℕ) (urls : List Url) → IsListOf list urls → AreUrls (map text_of urls)
of_list list urls l = subst AreUrls l.texts l.good
