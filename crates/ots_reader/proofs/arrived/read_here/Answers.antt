use Rattle.std.proofs.Common.{ap, ◌∙◌, length, arith}
use Rattle.std.proofs.lemmas.Result.{err_from_is_err_and}
use Rattle.ots_reader.proofs.CutLength.{cut_size}
use Rattle.ots_reader.proofs.ReadOn.{joined_here}
use Rattle.ots_reader.proofs.Steps.{kept_now, brings, not_placed, not_read, still_reading}
use Rattle.ots_reader.proofs.arrived.read_here.Goals as goal

pub keep-requires : goal.keep-requires
keep-requires c =
    let room = c.requires.held.bytes in
    omega (arith, ap length c.requires.none, cut_size c.args.piece.now (rw c.in-Ok-None.field-0-is at c.in-Ok-None.ensures))

pub returns-in-Ok-None-clause-next : goal.returns-in-Ok-None-clause-next
returns-in-Ok-None-clause-next c =
    still_reading c.args.arrived.now c.args.piece.now c.requires.reading c.requires.away (rw c.requires.none (rw c.in-Ok-None.field-0-is at c.in-Ok-None.ensures))

pub returns-in-Err-clause-next : goal.returns-in-Err-clause-next
returns-in-Err-clause-next c =
    rw c.fault.ensures (not_read c.args.arrived.now c.args.piece.now c.in-Err.reason c.requires.held c.requires.reading c.requires.away (rw c.requires.none c.in-Err.ensures))

pub returns-in_err-last-clause-next : goal.returns-in_err-last-clause-next
returns-in_err-last-clause-next c =
    let a = c.args.arrived.now in
    let t = rw (c.in-Ok-Some.field-0-is) at c.in-Ok-Some.ensures in
    let p = err_from_is_err_and c.from_residual.result c.from_residual.ensures.1 in
    rw (p.1, p.2) (not_placed a c.args.piece.now _ _ c.in_err-last.field-0.0 c.requires.held c.requires.reading c.requires.away
    (joined_here a.kept.items c.args.piece.now _ _ c.requires.none t) c.in_err-last.ensures.came)

pub returns-clause-next : goal.returns-clause-next
returns-clause-next c =
    let a = c.args.arrived.now in
    let t = rw (c.in-Ok-Some.field-0-is) at c.in-Ok-Some.ensures in
    let came = c.in_ok-last.ensures.came in
    brings _ c.args.piece.now _ c.take.new.front (joined_here _ c.args.piece.now _ _ (kept_now a c.requires.away ∙ c.requires.none) t) c.in_ok-last.ensures.stands
    c.in_ok-last.ensures.below came.0 came.1
