-- What a page offers.
use Rattle.std.proofs.Common.{◌≡◌, ◌≤◌, ℕ, List, [], ◌∷◌, length, sym, subst, arith}
use Rattle.std.specs.List.{AllByRecursion}
use Rattle.ots_journal.specs.declared.entry.Entry.{Entry}
use Rattle.ots_journal.specs.Image.{FitsEntry, FitsGroup}
use Rattle.ots_store.specs.Order.{AreRecords, FirstBad}
use Rattle.ots_store.specs.Records.{IsRecord, Record}
use Rattle.ots_store.proofs.Adding.{record_fits}
use Rattle.ots_mirror_pages.specs.Page.{IsPage}
use Rattle.ots_mirror_pages.specs.Round.{Takes}
use Rattle.ots_mirror_pages.proofs.Reading.{same_page}

fit_each : (entries : List Entry) → AllByRecursion IsRecord entries → AllByRecursion FitsEntry entries
fit_each [] each = tt
fit_each (e ∷ entries) each = (record_fits e each.0, fit_each entries each.1)

module _ (records : List Record) (body : List ℕ) (first : ℕ) (entries : List Entry) (page : IsPage body first entries) where
  pub another_number : (first ≡ length records → ⊥) → (others : List Entry) → Takes records body others → ⊥
  another_number other others takes = other (same_page body first (length records) entries others page takes.page).0

  pub bad_entry : (i : ℕ) → FirstBad records entries i → ((before : List Record) (es : List Entry) (j : ℕ) → AreRecords before es → FirstBad before es j → ⊥) → (others : List Entry) → Takes records body others → ⊥
  bad_entry i bad good others takes =
      let same = (same_page body first (length records) entries others page takes.page).1 in
      good records entries i (subst (AreRecords records) (sym same) takes.follow) bad

  pub taken : first ≡ length records → AreRecords records entries → Takes records body entries
  taken is are = record { page = subst (λ (n : ℕ). IsPage body n entries) is page; follow = are }

  pub group : AreRecords records entries → 1 ≤ length entries → FitsGroup entries
  group are some = record { some = some; most = omega (arith, page.few); payloads = fit_each entries are.each }
