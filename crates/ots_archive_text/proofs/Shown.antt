-- How a name is shown, byte by byte.
use Rattle.std.proofs.Common.{◌≡◌, ◌<◌, ◌+◌, ℕ, true, false, List, [], ◌∷◌, ◌++◌, length, get_or, take, sym, ap, ◌∙◌, refl, append-nil, add-one}
use Rattle.std.proofs.Math.Seq.{take-suc}
use Rattle.ots_sums.specs.Names.{escape_of, escaped, needs_escape, spelled}
use Rattle.ots_sums.proofs.Escapes.{escaped-append, plain}
use Rattle.ots_archive_text.specs.Names.{shown}

pub shown_plain : (name : List ℕ) → needs_escape name ≡ false → name ≡ shown name
shown_plain name is = rw is (sym (plain name is))

pub shown_escaped : (name : List ℕ) → needs_escape name ≡ true → 92 ∷ escaped name ≡ shown name
shown_escaped name is = rw is refl

pub one_more : (name : List ℕ) (i d : ℕ) → i < length name
    → escaped (take i name) ++ spelled (get_or name i d) (escape_of (get_or name i d)) ≡ escaped (take (i + 1) name)
one_more name i d in_range =
    let b = get_or name i d in
    let step : take (i + 1) name ≡ take i name ++ b ∷ [] = rw add-one (take-suc name i d in_range) in
    ap (λ (z : List ℕ). escaped (take i name) ++ z) (sym (append-nil (spelled b (escape_of b))))
    ∙ sym (escaped-append (take i name) (b ∷ []))
    ∙ ap escaped (sym step)
