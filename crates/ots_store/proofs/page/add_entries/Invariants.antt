use Rattle.std.proofs.Common.{◌≡◌, ◌-◌, ◌≤◌, length}
use Rattle.ots_base.specs.declared.limits.TheConstants.{MAX_REPLY_BODY}
use Rattle.ots_store.specs.declared.page.TheConstants.{MAX_PAGE_ENTRIES}
use Rattle.ots_store.proofs.Paged.{filled}
use Rattle.ots_store.proofs.page.add_entries.Given as goal

-- What is still to be added makes the same page.
abbrev pub invariant-loop-i : goal.invariant-loop-i
invariant-loop-i g l =
    let entries = l.store.journal.entries in
    record {
      room : length l.page.items ≤ MAX_REPLY_BODY;
      left : filled l.page.items entries (MAX_PAGE_ENTRIES - (l.i - l.from)) l.i ≡ filled l.fn.page.items entries MAX_PAGE_ENTRIES l.from;
    }
