use Rattle.std.proofs.Common.{◌-◌, ◌+◌, ◌≡◌, ◌∙◌, ℕ, suc, ap, arith, length, length-append}
use Rattle.std.proofs.lemmas.List.{length-map}
use Rattle.ots_journal.specs.Image.{entry_bytes}
use Rattle.ots_journal.specs.declared.entry.Entry.{Entry}
use Rattle.ots_store.specs.Records.{record_of}
use Rattle.ots_store.specs.declared.page.TheConstants.{MAX_PAGE_ENTRIES}
use Rattle.ots_store.proofs.Paged.{filled, filled_all, filled_on, filled_up, length_of_entry}
use Rattle.ots_store.proofs.page.add_entries.Goals as goal

pub returns-then-len-payload-gt-MAX_REPLY_BODY : goal.returns-then-len-payload-gt-MAX_REPLY_BODY
returns-then-len-payload-gt-MAX_REPLY_BODY g c =
    let e : Entry = record { kind = c.entry-kind.result.0; payload = c.entry-kind.result.1.now } in
    let most = MAX_PAGE_ENTRIES - (c.loop-i.i + 1 - c.args.from) in
    let more : suc most ≡ MAX_PAGE_ENTRIES - (c.loop-i.i - c.args.from) = omega arith in
    filled_up c.loop-i.page.items c.args.store.now.journal.entries most c.loop-i.i e c.entry-kind.ensures (omega arith)
    ∙ ap (λ (m : ℕ). filled c.loop-i.page.items c.args.store.now.journal.entries m c.loop-i.i) more
    ∙ c.loop-i.invariant.left

pub loop-i-preserved : goal.loop-i-preserved
loop-i-preserved g c =
    let e : Entry = record { kind = c.entry-kind.result.0; payload = c.entry-kind.result.1.now } in
    let entries = c.args.store.now.journal.entries in
    let page = c.loop-i.page.items in
    let most = MAX_PAGE_ENTRIES - (c.loop-i.i + 1 - c.args.from) in
    let more : suc most ≡ MAX_PAGE_ENTRIES - (c.loop-i.i - c.args.from) = omega arith in
    record {
      room = omega (arith, ap length c.in_ok-add_entry.ensures, length-append page (entry_bytes e), length_of_entry e);
      left = rw c.in_ok-add_entry.ensures (filled_on page entries most c.loop-i.i e c.entry-kind.ensures (omega arith))
          ∙ ap (λ (m : ℕ). filled page entries m c.loop-i.i) more
          ∙ c.loop-i.invariant.left;
    }

pub returns : goal.returns
returns g c =
    let entries = c.args.store.now.journal.entries in
    let same = ap length c.stands.ensures.records in
    let mapped = length-map entries record_of in
    filled_all c.loop-i.page.items entries (MAX_PAGE_ENTRIES - (c.loop-i.i - c.args.from)) c.loop-i.i (λ some. omega (arith, same, mapped, some, c.loop-i-test.false))
    ∙ c.loop-i.invariant.left
