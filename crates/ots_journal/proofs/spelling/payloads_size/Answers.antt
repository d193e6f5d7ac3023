use Rattle.std.proofs.Common.{ap, length, arith}
use Rattle.ots_journal.specs.declared.entry.Entry.{Entry}
use Rattle.ots_journal.proofs.Groups.{payloads_more, fits_at}
use Rattle.ots_journal.proofs.spelling.payloads_size.Goals as goal

pub loop-entry-preserved : goal.loop-entry-preserved
loop-entry-preserved c =
    let i = c.loop-entry.entry-index in
    let es = c.args.entries.now in
    let e = c.entry-item.result in
    let fits = fits_at es i e c.requires c.loop-entry-test.true in
    let same = ap (λ (x : Entry). length x.payload) c.entry-item.is in
    record {
      so_far = omega (arith, payloads_more es i e c.loop-entry-test.true, same, ap length c.items.ensures, c.loop-entry.invariant.so_far);
      bound = omega (arith, fits.1, same, ap length c.items.ensures, c.loop-entry.invariant.bound);
    }
