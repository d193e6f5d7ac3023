-- The line of one calendar more.
use Rattle.std.proofs.Common.{◌≡◌, ◌∙◌, ◌+◌, ◌<◌, ℕ, zero, suc, List, [], ◌∷◌, ◌++◌, length, map, take, get_or, sym, ap, append-nil, arith}
use Rattle.std.specs.List.{flat_map}
use Rattle.std.proofs.lemmas.List.{map-append, take_more}
use Rattle.std.proofs.lemmas.List.Concat.{flat_map-append}
use Rattle.ots_archive_ask.specs.Sheet.{asks_line}
use Rattle.ots_archive_text.specs.Lines.{asks_text}
use Rattle.ots_calendar_url.specs.CalendarUrl.{Url, text_of}
use Rattle.ots_request_set.specs.RequestSet.{count_of}
use Rattle.ots_sheet.specs.Request.{RequestParts}

text_there : (urls : List Url) (i : ℕ) (url : Url) → i < length urls → url ≡ get_or urls i url → get_or (map text_of urls) i [] ≡ text_of url
text_there [] i url less is = absurd (omega (arith, less))
text_there (u ∷ urls) zero url less is = ap text_of (sym is)
text_there (u ∷ urls) (suc i) url less is = text_there urls i url (omega (arith, less)) is

module _ (urls : List Url) (requests : List RequestParts) where
  abbrev lines : List Url → List ℕ
  lines us = flat_map (asks_line requests) (map text_of us)

  lines_on : (us : List Url) (url : Url) → lines us ++ asks_line requests (text_of url) ≡ lines (us ++ url ∷ [])
  lines_on us url =
      ap (λ (z : List ℕ). lines us ++ z) (sym (append-nil (asks_line requests (text_of url)))) ∙ sym (flat_map-append (asks_line requests) (map text_of us) (text_of url ∷ []))
      ∙ ap (flat_map (asks_line requests)) (sym (map-append text_of us (url ∷ [])))

  -- the line of the calendar at a place
  pub one_line_more : (i : ℕ) (url : Url) (text : List ℕ) (count : ℕ) → i < length urls → url ≡ get_or urls i url → text ≡ text_of url
      → count ≡ count_of (get_or (map text_of urls) i []) requests → lines (take i urls) ++ asks_text text count ≡ lines (take (i + 1) urls)
  one_line_more i url text count less is said counted =
      let number : count ≡ count_of (text_of url) requests = counted ∙ ap (λ (t : List ℕ). count_of t requests) (text_there urls i url less is) in
      (λ j. lines (take i urls) ++ asks_text (said j) (number j)) ∙ lines_on (take i urls) url
      ∙ ap (λ (u : Url). lines (take i urls ++ u ∷ [])) is ∙ ap lines (sym (take_more urls i url less))
