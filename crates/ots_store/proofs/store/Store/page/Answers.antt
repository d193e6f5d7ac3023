use Rattle.std.proofs.Common.{◌≡◌, ◌++◌, ◌∙◌, ℕ, List, ap, arith, length}
use Rattle.std.specs.Int.{w64, to_be_bytes}
use Rattle.std.specs.Prelude.{Some}
use Rattle.ots_store.specs.declared.page.TheConstants.{MAX_PAGE_ENTRIES}
use Rattle.ots_store.proofs.Paged.{filled, page_short, page_there, whole_page}
use Rattle.ots_store.proofs.store.Store.page.Given.{Over}
use Rattle.ots_store.proofs.store.Store.page.Goals as goal

head : (g : Over) (c : goal.After-from_vec g) → c.extend_from_slice.new.self.items ≡ to_be_bytes w64 c.args.from
head g c = c.in_ok-extend_from_slice.ensures.items ∙ ap (λ (z : List ℕ). z ++ c.to_be_bytes.result) c.in_ok-page.ensures.items ∙ c.to_be_bytes.ensures

pub returns-clause-page : goal.returns-clause-page
returns-clause-page g c =
    let entries = c.args.self.now.journal.entries in
    ap Some (c.from_vec.ensures ∙ c.in_ok-add_entries.ensures ∙ ap (λ (h : List ℕ). filled h entries MAX_PAGE_ENTRIES c.args.from) (head g c)
    ∙ whole_page entries c.args.self.now.records c.args.from c.stands.ensures.records c.stands.ensures.are.each)
    ∙ page_there c.args.self.now.records c.args.from (omega arith)

pub returns-clause-short : goal.returns-clause-short
returns-clause-short g c =
    rw (c.from_vec.ensures, c.in_ok-add_entries.ensures)
    (page_short c.extend_from_slice.new.self.items c.args.self.now.journal.entries MAX_PAGE_ENTRIES c.args.from (omega (arith, ap length (head g c))))
