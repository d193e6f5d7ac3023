-- What a mirror takes of the body of a reply, over the records that it has.
use Rattle.std.specs.Prelude.{◌≡◌, ℕ, List, [], ◌++◌, length, drop, map}
use Rattle.ots_journal.specs.declared.entry.Entry.{Entry}
use Rattle.ots_journal.specs.Image.{FitsGroup}
use Rattle.ots_store.specs.Order.{AreRecords}
use Rattle.ots_store.specs.Records.{Record, entry_of}
use Rattle.ots_mirror_pages.specs.Page.{IsPage}
use Rattle.ots_mirror_pages.specs.declared.offer.Offer.{Offer}
use Rattle.ots_mirror_pages.specs.declared.offer.Offer.TheVariants.{New, Current, BadPage}

-- The body is a page for the count of these records, and its entries spell records that may follow them.
pub record Takes (records : List Record) (body : List ℕ) (entries : List Entry) : Type 0 where
  pub page : IsPage body (length records) entries
  pub follow : AreRecords records entries

-- What a body offers: entries that can be added as one group; none; or it is not taken.
abbrev pub IsOffer : List Record → List ℕ → Offer → Type 0
IsOffer records body (New entries) = Takes records body entries × FitsGroup entries
IsOffer records body Current = Takes records body []
IsOffer records body BadPage = (entries : List Entry) → Takes records body entries → ⊥

-- ---- an honest calendar

-- The second list begins with the first.
abbrev pub IsPrefix : List Record → List Record → Type 0
IsPrefix records all = (rest : List Record) × (all ≡ records ++ rest)

-- Where the body is a page, whenever and for whatever number it was made, it has some of these records, from the page's
-- number on.
abbrev pub IsHonest : List Record → List ℕ → Type 0
IsHonest all body = (first : ℕ) (entries : List Entry) → IsPage body first entries
    → (run : List Record) × IsPrefix run (drop first all) × (entries ≡ map entry_of run)
