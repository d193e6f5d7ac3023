use Rattle.std.proofs.Common.{◌∙◌, ◌-◌, ap, sym, arith, length, List, ℕ, take, drop, Some}
use Rattle.std.specs.Prelude.{slice_get}
use Rattle.std.proofs.lemmas.List.{length-map}
use Rattle.ots_sums.specs.Sums.{Entry, names}
use Rattle.ots_sums.specs.inner.Kept.{entry_in}
use Rattle.ots_sums.proofs.Keeping.{get_mapped}
use Rattle.ots_sums.proofs.sums.Sums.name.Goals as goal

pub returns : goal.returns
returns c =
    let self = c.self.inside in
    let place = c.index-place.result.now in
    ap (λ (z : List Entry). slice_get (names z) c.args.index) (sym c.self.view_is)
    ∙ get_mapped (λ (e : Entry). e.name) (entry_in self.bytes.items) self.places.items c.args.index place
    (omega (arith, c.requires, ap length c.self.view_is, length-map self.places.items (entry_in self.bytes.items))) c.index-place.ensures
    ∙ ap (λ (z : List ℕ). Some (take (place.end - place.start) (drop place.start z))) (sym c.deref.ensures.value)
