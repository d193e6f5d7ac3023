use Rattle.std.proofs.Common.{◌≤◌, ◌++◌, [], true, length, refl, arith}
use Rattle.ots_disk.specs.Moments.{weaker, joined}
use Rattle.ots_journal.specs.Journal.{Keeps, size_with}
use Rattle.ots_journal.proofs.Appending.{room_for_body, body_moment, body_failed, room_for_gate, gate_moment, gate_failed, keeps_put}
use Rattle.ots_journal.proofs.Standing.{on_err}
use Rattle.ots_journal.proofs.Within.{body_within, gate_within}
use Rattle.ots_journal.proofs.device.put_staged.Goals as goal

pub write_durably-requires : goal.write_durably-requires
write_durably-requires g c =
    let d = g.D.Disk in
    let s = c.args.stored.now in
    let k : Keeps (d.images c.args.disk.now) s.entries [] true c.size-gate.result = rw (← c.size-gate.ensures.size) at c.requires.keeps in
    room_for_body (d.images c.args.disk.now) s.entries [] s.flight c.size-gate.result k c.requires.fits (d.bytes c.args.disk.now) (g.met.D.Disk.read_is_image c.args.disk.now)

pub returns-in_err-write_durably-clause-any_moment : goal.returns-in_err-write_durably-clause-any_moment
returns-in_err-write_durably-clause-any_moment g c =
    let d = g.D.Disk in
    let s = c.args.stored.now in
    let k : Keeps (d.images c.args.disk.now) s.entries [] true c.size-gate.result = rw (← c.size-gate.ensures.size) at c.requires.keeps in
    weaker d.clock d.images_since c.args.disk.now c.write_durably.new.disk _ _ c.write_durably.ensures.any_moment
    (body_moment (d.images c.args.disk.now) s.entries [] s.flight c.size-gate.result k c.requires.fits (length c.body-body.result.now))

pub returns-in_err-write_durably-clause-failed : goal.returns-in_err-write_durably-clause-failed
returns-in_err-write_durably-clause-failed g c =
    let d = g.D.Disk in
    let s = c.args.stored.now in
    let k : Keeps (d.images c.args.disk.now) s.entries [] true c.size-gate.result = rw (← c.size-gate.ensures.size) at c.requires.keeps in
    on_err c.from_residual.result (rw (← c.size-gate.ensures.size)
    (body_failed (d.images c.args.disk.now) s.entries [] s.flight c.size-gate.result k c.requires.fits (d.images c.write_durably.new.disk) s.entries s.flight (length c.body-body.result.now) refl refl c.write_durably.ensures.images))

pub write_durably-requires-2 : goal.write_durably-requires-2
write_durably-requires-2 g c =
    let d = g.D.Disk in
    let s = c.args.stored.now in
    let k : Keeps (d.images c.args.disk.now) s.entries [] true c.size-gate.result = rw (← c.size-gate.ensures.size) at c.requires.keeps in
    room_for_gate (d.images c.args.disk.now) s.entries [] s.flight c.size-gate.result k c.requires.fits (d.bytes c.args.disk.now) (d.bytes c.write_durably.new.disk) (d.images c.write_durably.new.disk) c.body-body.result.now c.body-body.ensures
    (g.met.D.Disk.read_is_image c.args.disk.now) c.in_ok-write_durably.ensures.written c.in_ok-write_durably.ensures.only

pub returns-in_err-write_durably-2-clause-any_moment : goal.returns-in_err-write_durably-2-clause-any_moment
returns-in_err-write_durably-2-clause-any_moment g c =
    let d = g.D.Disk in
    let s = c.args.stored.now in
    let k : Keeps (d.images c.args.disk.now) s.entries [] true c.size-gate.result = rw (← c.size-gate.ensures.size) at c.requires.keeps in
    joined d.clock d.images_since c.args.disk.now c.write_durably.new.disk c.write_durably-2.new.disk _ _ _ c.write_durably.ensures.any_moment c.write_durably-2.ensures.any_moment
    (body_moment (d.images c.args.disk.now) s.entries [] s.flight c.size-gate.result k c.requires.fits (length c.body-body.result.now))
    (gate_moment (d.images c.args.disk.now) s.entries [] s.flight c.size-gate.result k c.requires.fits (d.bytes c.args.disk.now) (d.bytes c.write_durably.new.disk) (d.images c.write_durably.new.disk) c.body-body.result.now c.body-body.ensures
    (g.met.D.Disk.read_is_image c.args.disk.now) c.in_ok-write_durably.ensures.written c.in_ok-write_durably.ensures.only)

pub returns-in_err-write_durably-2-clause-failed : goal.returns-in_err-write_durably-2-clause-failed
returns-in_err-write_durably-2-clause-failed g c =
    let d = g.D.Disk in
    let s = c.args.stored.now in
    let k : Keeps (d.images c.args.disk.now) s.entries [] true c.size-gate.result = rw (← c.size-gate.ensures.size) at c.requires.keeps in
    on_err c.from_residual-in_err-write_durably-2.result (rw (← c.size-gate.ensures.size)
    (gate_failed (d.images c.args.disk.now) s.entries [] s.flight c.size-gate.result k c.requires.fits (d.bytes c.args.disk.now) (d.bytes c.write_durably.new.disk) (d.images c.write_durably.new.disk) c.body-body.result.now c.body-body.ensures
    (g.met.D.Disk.read_is_image c.args.disk.now) c.in_ok-write_durably.ensures.written c.in_ok-write_durably.ensures.only (d.images c.write_durably-2.new.disk) s.entries s.flight refl refl c.write_durably-2.ensures.images))

pub returns-clause-any_moment : goal.returns-clause-any_moment
returns-clause-any_moment g c =
    let d = g.D.Disk in
    let s = c.args.stored.now in
    let k : Keeps (d.images c.args.disk.now) s.entries [] true c.size-gate.result = rw (← c.size-gate.ensures.size) at c.requires.keeps in
    joined d.clock d.images_since c.args.disk.now c.write_durably.new.disk c.write_durably-2.new.disk _ _ _ c.write_durably.ensures.any_moment c.write_durably-2.ensures.any_moment
    (body_moment (d.images c.args.disk.now) s.entries [] s.flight c.size-gate.result k c.requires.fits (length c.body-body.result.now))
    (gate_moment (d.images c.args.disk.now) s.entries [] s.flight c.size-gate.result k c.requires.fits (d.bytes c.args.disk.now) (d.bytes c.write_durably.new.disk) (d.images c.write_durably.new.disk) c.body-body.result.now c.body-body.ensures
    (g.met.D.Disk.read_is_image c.args.disk.now) c.in_ok-write_durably.ensures.written c.in_ok-write_durably.ensures.only)

pub returns-clause-put : goal.returns-clause-put
returns-clause-put g c next is_next =
    let d = g.D.Disk in
    let s = c.args.stored.now in
    let k : Keeps (d.images c.args.disk.now) s.entries [] true c.size-gate.result = rw (← c.size-gate.ensures.size) at c.requires.keeps in
    keeps_put (d.images c.args.disk.now) s.entries [] s.flight c.size-gate.result k c.requires.fits (d.bytes c.args.disk.now) (d.bytes c.write_durably.new.disk) (d.images c.write_durably.new.disk) c.body-body.result.now c.body-body.ensures
    (g.met.D.Disk.read_is_image c.args.disk.now) c.in_ok-write_durably.ensures.written c.in_ok-write_durably.ensures.only
    (d.bytes c.write_durably-2.new.disk) (d.images c.write_durably-2.new.disk) (s.entries ++ s.flight) [] next refl refl (rw c.size-gate.ensures.size is_next) c.in_ok-write_durably-2.ensures.written c.in_ok-write_durably-2.ensures.only

pub returns-in_err-write_durably-clause-within : goal.returns-in_err-write_durably-clause-within
returns-in_err-write_durably-clause-within g c limit fits within =
    let d = g.D.Disk in
    let old = c.args.disk.now in
    weaker d.clock d.images_since old c.write_durably.new.disk _ _ c.write_durably.ensures.any_moment
    (body_within (d.images old) limit c.size-gate.result c.args.stored.now.flight c.body-body.result.now c.body-body.ensures (omega (arith, fits, c.size-gate.ensures.size)) within)

pub returns-in_err-write_durably-2-clause-within : goal.returns-in_err-write_durably-2-clause-within
returns-in_err-write_durably-2-clause-within g c limit fits within =
    let d = g.D.Disk in
    let old = c.args.disk.now in
    let group = c.args.stored.now.flight in
    let room : size_with c.size-gate.result group ≤ limit = omega (arith, fits, c.size-gate.ensures.size) in
    joined d.clock d.images_since old c.write_durably.new.disk c.write_durably-2.new.disk _ _ _ c.write_durably.ensures.any_moment c.write_durably-2.ensures.any_moment
    (body_within (d.images old) limit c.size-gate.result group c.body-body.result.now c.body-body.ensures room within)
    (gate_within (d.images old) limit c.size-gate.result group c.body-body.result.now c.body-body.ensures room within (d.images c.write_durably.new.disk) c.write_durably.ensures.images)

pub returns-clause-within : goal.returns-clause-within
returns-clause-within g c limit fits within =
    let d = g.D.Disk in
    let old = c.args.disk.now in
    let group = c.args.stored.now.flight in
    let room : size_with c.size-gate.result group ≤ limit = omega (arith, fits, c.size-gate.ensures.size) in
    joined d.clock d.images_since old c.write_durably.new.disk c.write_durably-2.new.disk _ _ _ c.write_durably.ensures.any_moment c.write_durably-2.ensures.any_moment
    (body_within (d.images old) limit c.size-gate.result group c.body-body.result.now c.body-body.ensures room within)
    (gate_within (d.images old) limit c.size-gate.result group c.body-body.result.now c.body-body.ensures room within (d.images c.write_durably.new.disk) c.write_durably.ensures.images)
