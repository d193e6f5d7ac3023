use Rattle.std.proofs.Common.{◌+◌, ◌*◌, refl, ap, ◌∙◌}
use Rattle.std.proofs.lemmas.Result.{err_from_is_err_and}
use Rattle.ots_reader.proofs.Steps.{kept_now, brings, not_placed, not_read, same_reserved, with_new}
use Rattle.ots_reader.proofs.arrived.read_joined.Goals as goal

pub returns-in-Err : goal.returns-in-Err
returns-in-Err c =
    let more = c.in-Err.ensures.room in (
      (
        refl,
        (λ _. tt),
        record { held = record { stands = c.requires.held.stands; bytes = more ∙ c.requires.held.bytes }; leaves = (refl, ap (λ k. k + 8 * c.args.arrived.now.front.walk.room) more) },
      ),
      record {
        next = rw c.fault.ensures (not_read c.args.arrived.now c.args.piece.now c.in-Err.reason c.requires.held c.requires.reading c.requires.away c.in-Err.ensures.read);
        rests = tt;
      },
    )

pub returns-in_err-last : goal.returns-in_err-last
returns-in_err-last c =
    let a = c.args.arrived.now in
    let j = rw c.in-Ok-Some.field-0-is at c.in-Ok-Some.ensures.read in
    let p = err_from_is_err_and c.from_residual.result c.from_residual.ensures.1 in (
      (refl, (λ _. tt), rw (p.1, p.2) (record { held = c.in_err-last.ensures.held; leaves = (c.in_err-last.ensures.below, same_reserved a _ c.requires.held c.in_err-last.ensures.held) })),
      record {
        next = rw (p.1, p.2) (not_placed a c.args.piece.now j.0 c.in-Ok-Some.used c.in_err-last.field-0.0 c.requires.held c.requires.reading c.requires.away j.1
            (c.in_err-last.ensures.came j.0 j.2));
        rests = tt;
      },
    )

pub returns : goal.returns
returns c =
    let a = c.args.arrived.now in
    let j = rw c.in-Ok-Some.field-0-is at c.in-Ok-Some.ensures.read in
    let x = j.0 in
    let e = c.in_ok-last.ensures in
    let came = e.came x j.2 in
    let is = c.token_in-token.ensures x (rw (c.deref.ensures.value, e.kept) j.2) in (
      (refl, (λ _. tt), record { held = e.held; leaves = rw is (with_new a c.take_kept.new.arrived x c.requires.held e.held e.below came.0 (rw e.spent refl)) }),
      record {
        next = brings _ c.args.piece.now _ c.take_kept.new.arrived.front (rw (is, kept_now a c.requires.away) j.1) e.held.stands e.below (rw is came.0) came.1;
        rests = tt;
      },
    )
