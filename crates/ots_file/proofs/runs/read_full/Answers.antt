use Rattle.std.proofs.Common.{◌≡◌, ℕ, ◌+◌, ◌-◌, ◌≤◌, ◌++◌, [], length, take, drop, refl, true, false, subst, sym, ap, ◌∙◌, List, Option, ◌∷◌, length-take-le, inr, arith, rules}
use borrow.Rule.Slice.PartMut.{put_mid}
use Rattle.std.proofs.lemmas.List.{append-nil, places}
use Rattle.std.proofs.lemmas.Slice.{take-put_mid_below}
use Rattle.ots_base.specs.Told.{IfTold}
use Rattle.ots_file.specs.Events.{FileEvent, IsHonest}
use Rattle.ots_file.specs.Events.FileEvent.{got}
use Rattle.ots_file.specs.Told.{quiet_one, quiet_both}
use Rattle.ots_file.specs.Runs.{joined}
use Rattle.ots_file.proofs.FileLemmas.{more_reads, read_more, put_read}
use Rattle.ots_file.proofs.runs.read_full.Goals as goal

pub returns-in_err-count-clause-quiet : goal.returns-in_err-count-clause-quiet
returns-in_err-count-clause-quiet g c =
    let first = g.F.FileCalls.first c.args.file.now in
    rw c.in_err-count.ensures.noted
    (quiet_both first (g.F.FileCalls.history c.args.file.now) (g.F.FileCalls.history c.loop-filled.file) _ c.loop-filled.invariant.5
    (quiet_one first (got _ _ false []) (g.F.FileCalls.history c.loop-filled.file) refl))

pub returns-then-count-eq0-clause-quiet : goal.returns-then-count-eq0-clause-quiet
returns-then-count-eq0-clause-quiet g c =
    let first = g.F.FileCalls.first c.args.file.now in
    rw c.in_ok-count.ensures.noted
    (quiet_both first (g.F.FileCalls.history c.args.file.now) (g.F.FileCalls.history c.loop-filled.file) _ c.loop-filled.invariant.5
    (quiet_one first (got _ _ true _) (g.F.FileCalls.history c.loop-filled.file) refl))

pub returns-then-count-eq0-clause-calls : goal.returns-then-count-eq0-clause-calls
returns-then-count-eq0-clause-calls g c =
    let old = g.F.FileCalls.history c.args.file.now in
    let mid = g.F.FileCalls.history c.loop-filled.file in
    let f = c.loop-filled.filled in
    let inv = c.loop-filled.invariant in
    let n = c.in_ok-count.count in
    let part = take n c.read_some.new.buf in
    let asked = length (take (length c.loop-filled.buf - f) (drop f c.loop-filled.buf)) in
    let few : n ≤ length c.read_some.new.buf = search (rules, places) in
    let left : asked ≡ length c.loop-filled.buf - f = search (rules, places) in
    let so_far : length (joined inv.7.0) ≡ f = ap length inv.7.2 ∙ length-take-le f c.loop-filled.buf inv.0 in
    let none : n ≡ 0 = search rules in
    let buf = c.loop-filled.buf in
    let prefix : take f (put_mid f (length buf - f) buf c.read_some.new.buf) ≡ take f buf = take-put_mid_below f (length buf - f) buf c.read_some.new.buf f (omega arith) inv.0 in
    let same : joined inv.7.0 ++ part ≡ take f buf = ap (λ (l : List ℕ). l ++ part) inv.7.2 ∙ ap (λ (m : ℕ). take f buf ++ take m c.read_some.new.buf) none ∙ append-nil (take f buf) in
    rw c.in_ok-count.ensures.noted (
      part ∷ inv.7.0,
      more_reads c.args.place (length c.loop-filled.buf) _ old mid inv.7.0 part f c.saturating_add.result asked true c.saturating_add.ensures left (search (rules, places)) inv.7.1 so_far,
      same ∙ sym prefix,
      inr (ap (λ (m : ℕ). take m c.read_some.new.buf) none),
    )

pub loop-filled-preserved : goal.loop-filled-preserved
loop-filled-preserved g c =
    let first = g.F.FileCalls.first c.args.file.now in
    let old = g.F.FileCalls.history c.args.file.now in
    let mid = g.F.FileCalls.history c.loop-filled.file in
    let f = c.loop-filled.filled in
    let inv = c.loop-filled.invariant in
    let n = c.in_ok-count.count in
    let e = c.in_ok-count.ensures in
    let part = take n c.read_some.new.buf in
    let asked = length (take (length c.loop-filled.buf - f) (drop f c.loop-filled.buf)) in
    let from : c.saturating_add.result ≡ c.args.place + f = omega (arith, c.saturating_add.ensures, e.count.1) in
    let long : length c.read_some.new.buf ≡ length c.loop-filled.buf - f = search (rules, places) in
    let few : n ≤ length c.read_some.new.buf = search (rules, places) in
    let taken : length part ≡ n = length-take-le n c.read_some.new.buf few in
    let honest : IfTold first (λ b. IsHonest b (got c.saturating_add.result asked true part ∷ mid)) =
    subst (λ (o : Option (List ℕ)). IfTold o (λ b. IsHonest b (got c.saturating_add.result asked true part ∷ mid))) (e.kept ∙ inv.1)
    (subst (λ (h : List FileEvent). IfTold (g.F.FileCalls.first c.read_some.new.self) (λ b. IsHonest b h)) e.noted (g.F.FileCalls.honest c.read_some.new.self)) in
    let left : asked ≡ length c.loop-filled.buf - f = search (rules, places) in
    let so_far : length (joined inv.7.0) ≡ f = ap length inv.7.2 ∙ length-take-le f c.loop-filled.buf inv.0 in
    rw e.noted (
      search (rules, places),
      e.kept ∙ inv.1,
      inv.2,
      inv.3,
      inv.4,
      quiet_both first old mid _ inv.5 (quiet_one first (got c.saturating_add.result asked true part) mid refl),
      read_more first old mid c.args.place f n c.saturating_add.result asked c.loop-filled.buf _ part from (put_read f n c.loop-filled.buf c.read_some.new.buf _ inv.0 few) taken inv.5.same honest inv.6,
      (
        part ∷ inv.7.0,
        more_reads c.args.place (length c.loop-filled.buf) _ old mid inv.7.0 part f c.saturating_add.result asked true c.saturating_add.ensures left (search (rules, places)) inv.7.1 so_far,
        ap (λ (l : List ℕ). l ++ part) inv.7.2 ∙ sym (put_read f n c.loop-filled.buf c.read_some.new.buf _ inv.0 few),
      ),
      e.stays ∙ inv.8,
    )
