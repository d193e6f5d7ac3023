use Rattle.std.proofs.Common.{◌∙◌, ap, sym, arith, length, List}
use Rattle.std.specs.Prelude.{slice_get}
use Rattle.std.proofs.lemmas.List.{length-map}
use Rattle.ots_sums.specs.Sums.{Entry, digests}
use Rattle.ots_sums.specs.inner.Kept.{entry_in}
use Rattle.ots_sums.proofs.Keeping.{get_mapped}
use Rattle.ots_sums.proofs.sums.Sums.digest.Goals as goal

pub returns : goal.returns
returns c =
    let self = c.self.inside in
    ap (λ (z : List Entry). slice_get (digests z) c.args.index) (sym c.self.view_is)
    ∙ get_mapped (λ (e : Entry). e.digest) (entry_in self.bytes.items) self.places.items c.args.index c.index.result.now
    (omega (arith, c.requires, ap length c.self.view_is, length-map self.places.items (entry_in self.bytes.items))) c.index.ensures
