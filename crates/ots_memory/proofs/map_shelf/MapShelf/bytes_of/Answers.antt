use Rattle.std.proofs.Common.{sym, ◌∙◌, ap, Some}
use Rattle.ots_memory.proofs.EntryNames.{bytes_at-is}
use Rattle.ots_memory.proofs.map_shelf.MapShelf.bytes_of.Goals as goal

pub returns : goal.returns
returns c =
    let entries = c.args.self.now.entries.items in
    let found = rw c.deref.ensures.value at c.in_ok-entry.ensures in
    found.2 ∙ ap Some (bytes_at-is entries c.in_ok-entry.entry c.index.result.now found.0 c.index.ensures ∙ sym c.deref-2.ensures.value)
