use Rattle.std.proofs.Common.{◌≤◌, ap, arith, length}
use Rattle.std.proofs.lemmas.Bool.Decides.{nat_tests}
use Rattle.ots_store.specs.Order.{AreRecords}
use Rattle.ots_store.proofs.Bad.{not_bad}
use Rattle.ots_mirror_pages.proofs.Offering.{bad_entry, group, taken}
use Rattle.ots_mirror_pages.proofs.offer.offer_of_page.Goals as goal

pub returns-in-Some : goal.returns-in-Some
returns-in-Some g c = λ body page others takes.
    bad_entry c.args.store.now.records body c.args.page.first c.args.page.entries page c.in-Some.field-0 (rw c.items.ensures at c.in-Some.ensures) not_bad others takes

pub returns : goal.returns
returns g c = λ body page.
    let are : AreRecords c.args.store.now.records c.args.page.entries = rw c.items.ensures at c.in_default.ensures in
    let some : 1 ≤ length c.args.page.entries = grind (arith, nat_tests, ap length c.items-2.ensures) in (
      taken c.args.store.now.records body c.args.page.first c.args.page.entries page (omega arith) are,
      group c.args.store.now.records body c.args.page.first c.args.page.entries page are some,
    )
