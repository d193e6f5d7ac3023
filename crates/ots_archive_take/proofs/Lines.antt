-- The lines of calendars.
use Rattle.std.proofs.Common.{◌≡◌, ℕ, ◌+◌, ◌<◌, List, [], ◌∷◌, ◌++◌, length, get_or, map, take, sym, ap, ◌∙◌, append-nil}
use Rattle.std.proofs.lemmas.List.{map-append}
use Rattle.std.proofs.lemmas.List.Concat.{flat_map-append}
use Rattle.std.specs.List.{flat_map}
use Rattle.ots_archive_counts.specs.Counts.{Counted, counted}
use Rattle.ots_archive_counts.specs.declared.counting.AddressCounts.{AddressCounts}
use Rattle.ots_archive_steps.proofs.Items.{take_more}
use Rattle.ots_archive_take.specs.Counting.{counts_line}

-- one more
pub line_more : (list : List AddressCounts) (i : ℕ) (d : AddressCounts) → i < length list
    → flat_map counts_line (map counted (take i list)) ++ counts_line (counted (get_or list i d)) ≡ flat_map counts_line (map counted (take (i + 1) list))
line_more list i d less =
    let one : Counted = counted (get_or list i d) in
    sym (ap (λ (z : List AddressCounts). flat_map counts_line (map counted z)) (take_more list i d less)
    ∙ ap (flat_map counts_line) (map-append counted (take i list) (get_or list i d ∷ []))
    ∙ flat_map-append counts_line (map counted (take i list)) (one ∷ [])
    ∙ ap (λ (z : List ℕ). flat_map counts_line (map counted (take i list)) ++ z) (append-nil (counts_line one)))
