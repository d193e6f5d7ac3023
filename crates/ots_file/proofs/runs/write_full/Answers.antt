use Rattle.std.proofs.Common.{◌≡◌, ℕ, ◌+◌, ◌-◌, length, take, drop, slice_range, refl, true, false, ◌∙◌, ap, ◌∷◌, arith, rules}
use Rattle.std.proofs.lemmas.List.{places}
use Rattle.std.proofs.lemmas.Grind.{common_steps}
use Rattle.ots_file.specs.Told.{grows_more}
use Rattle.ots_file.proofs.FileLemmas.{written_more, more_writes}
use Rattle.ots_file.proofs.runs.write_full.Goals as goal

pub returns-in_err-done-clause-grows : goal.returns-in_err-done-clause-grows
returns-in_err-done-clause-grows g c =
    let piece = c.args.piece.now in
    let done = c.loop-done.done in
    let inv = c.loop-done.invariant in
    let rest = slice_range piece done (length piece) in
    let long : length rest ≡ length piece - done = search (rules, places) in
    rw c.in_err-done.ensures.noted
    (grows_more c.args.place (length piece) (g.F.FileCalls.first c.args.file.now) (g.F.FileCalls.history c.args.file.now) (g.F.FileCalls.history c.loop-done.file)
    c.saturating_add.result rest false 0 (omega (arith, c.saturating_add.ensures, c.ranges.place.fits)) (omega (arith, c.saturating_add.ensures, inv.0)) inv.7)

pub loop-done-preserved : goal.loop-done-preserved
loop-done-preserved g c =
    let first = g.F.FileCalls.first c.args.file.now in
    let piece = c.args.piece.now in
    let done = c.loop-done.done in
    let inv = c.loop-done.invariant in
    let k = c.in_ok-done.field-0 in
    let count = c.in_ok-done.ensures.count in
    let rest = slice_range piece done (length piece) in
    let long : length rest ≡ length piece - done = search (rules, places) in
    let from : c.saturating_add.result ≡ c.args.place + done = omega (arith, c.saturating_add.ensures, count.2) in
    let same : take k rest ≡ take k (drop done piece) = grind (arith, common_steps) in
    rw c.in_ok-done.ensures.noted (
      omega (arith, inv.0, count.1, long),
      c.in_ok-done.ensures.kept ∙ inv.1,
      inv.2,
      inv.3,
      λ was. refl,
      written_more first (g.F.FileCalls.history c.args.file.now) (g.F.FileCalls.history c.loop-done.file) c.args.place piece done k c.saturating_add.result rest from same (omega (arith, inv.0, count.1, long)) c.requires inv.5,
      (k ∷ inv.6.0, more_writes c.args.place piece (g.F.FileCalls.history c.args.file.now) (g.F.FileCalls.history c.loop-done.file) inv.6.0 done k c.saturating_add.result true c.saturating_add.ensures inv.6.1 inv.6.2, ap (λ (n : ℕ). n + k) inv.6.2),
      grows_more c.args.place (length piece) first (g.F.FileCalls.history c.args.file.now) (g.F.FileCalls.history c.loop-done.file)
          c.saturating_add.result rest true k (omega (arith, from)) (omega (arith, from, long, inv.0)) inv.7,
      c.in_ok-done.ensures.stays ∙ inv.8,
    )
