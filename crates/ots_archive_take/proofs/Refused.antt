-- Names that two proofs would have.
use Rattle.std.proofs.Common.{◌≡◌, ℕ, zero, suc, List, [], ◌∷◌, Some, get_or, take, refl, sym, ap, subst, ◌∙◌}
use Rattle.std.specs.Prelude.{Err}
use Rattle.std.specs.List.{slice_get}
use Rattle.ots_archive_steps.specs.Entries.{Entry}
use Rattle.ots_archive_steps.specs.Printing.{Refuses}
use Rattle.ots_archive_take.specs.Names.{AreDistinct, IsTwice}
use Rattle.ots_archive_take.specs.Takes.{TakesDistinct, names_made}
use Rattle.ots_archive_take.specs.Taking.{Job}
use Rattle.ots_archive_text.specs.declared.status.ArchiveStatus.{ArchiveStatus}
use Rattle.ots_archive_text.specs.declared.status.ArchiveStatus.TheVariants.{Twice}
use Rattle.ots_archive_world.specs.Told.{Told}

at_place : (names : List (List ℕ)) (place : ℕ) (name d : List ℕ) → slice_get names place ≡ Some name → name ≡ get_or names place d
at_place [] place name d at = cc
at_place (x ∷ names) zero name d at = cc
at_place (x ∷ names) (suc place) name d at = at_place names place name d at

pub refuses_twice : (j : Job) (entries : List Entry) (names : List (List ℕ)) (place : ℕ) (bytes : List ℕ) (old new : Told) (s : ArchiveStatus) → names ≡ names_made j entries
    → IsTwice names place → bytes ≡ get_or names place bytes → Refuses bytes Twice old new s → TakesDistinct j entries old new (Err s)
refuses_twice j entries names place bytes old new s same w is refused =
    let named : w.name ≡ bytes = at_place names place w.name bytes w.at ∙ sym is in
    let twice : IsTwice (names_made j entries) place = record {
      name = bytes;
      at = ap (λ (z : List (List ℕ)). slice_get z place) (sym same) ∙ w.at ∙ ap Some named;
      earlier = w.earlier;
      before = w.before;
      there = ap (λ (z : List (List ℕ)). slice_get z w.earlier) (sym same) ∙ w.there ∙ ap Some named;
      first = subst (λ (z : List (List ℕ)). AreDistinct (take place z)) same w.first;
    } in
    TakesDistinct.twice place s twice refused refl
