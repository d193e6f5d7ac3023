use Rattle.std.proofs.Common.{◌≡◌, length, arith}
use Rattle.std.proofs.lemmas.Result.{err_from_is_err_and}
use Rattle.ots_reader.proofs.CutLength.{cut_size}
use Rattle.ots_reader.proofs.ReadOn.{grown_more, settles, ends_after, joined_at, spelling_at}
use Rattle.ots_reader.proofs.cut.read_on.Goals as goal

pub keep-requires : goal.keep-requires
keep-requires c =
    let w = c.loop-end.invariant in
    let more = w.roomy in
    let room = c.requires.room in
    omega (arith, cut_size c.loop-end.kept.items w.cut, c.min-count.ensures)

pub returns-in_err-length-clause-read : goal.returns-in_err-length-clause-read
returns-in_err-length-clause-read c =
    let w = c.loop-end in
    let now = c.keep.new.kept.items in
    let g = grown_more c.args.kept.now.items c.args.piece.now w.kept.items now w.end c.min-count.result w.invariant.grown (omega (arith, c.min-count.ensures)) c.keep.ensures.items in
    let p = err_from_is_err_and c.from_residual.result c.from_residual.ensures.1 in
    rw (p.1, p.2) (settles c.args.kept.now.items c.args.piece.now now _ c.in_err-length.field-0.0 g (rw c.deref.ensures.value at c.in_err-length.ensures))

pub returns-in_err-length-clause-room : goal.returns-in_err-length-clause-room
returns-in_err-length-clause-room c = omega (arith, c.loop-end.invariant.roomy, c.keep.ensures.room)

pub overflow_sub-result : goal.overflow_sub-result
overflow_sub-result c =
    let w = c.loop-end in
    let now = c.keep.new.kept.items in
    let g = grown_more c.args.kept.now.items c.args.piece.now w.kept.items now w.end c.min-count.result w.invariant.grown (omega (arith, c.min-count.ensures)) c.keep.ensures.items in
    let t = rw (c.in-Some.is, c.deref.ensures.value) at c.in_ok-length.ensures in
    omega (arith, c.len-start.ensures, ends_after c.args.kept.now.items c.args.piece.now now _ c.in-Some.length t.0 g c.requires.cut t.1)

pub returns-in-Some-clause-read : goal.returns-in-Some-clause-read
returns-in-Some-clause-read c =
    let w = c.loop-end in
    let now = c.keep.new.kept.items in
    let g = grown_more c.args.kept.now.items c.args.piece.now w.kept.items now w.end c.min-count.result w.invariant.grown (omega (arith, c.min-count.ensures)) c.keep.ensures.items in
    let t = rw (c.in-Some.is, c.deref.ensures.value) at c.in_ok-length.ensures in
    let n : c.len-start.result ≡ length c.args.kept.now.items = omega (arith, c.len-start.ensures) in
    (t.0, rw n (joined_at c.args.kept.now.items c.args.piece.now now _ c.in-Some.length t.0 g c.requires.cut t.1), spelling_at now _ c.in-Some.length t.0 t.1 c.truncate.ensures.items)

pub returns-in-Some-clause-room : goal.returns-in-Some-clause-room
returns-in-Some-clause-room c = omega (arith, c.loop-end.invariant.roomy, c.keep.ensures.room, c.truncate.ensures.capacity)

pub loop-end-preserved : goal.loop-end-preserved
loop-end-preserved c =
    let w = c.loop-end in
    record {
      cut = rw (c.in_default.is, c.deref.ensures.value) at c.in_ok-length.ensures;
      grown = grown_more c.args.kept.now.items c.args.piece.now w.kept.items c.keep.new.kept.items w.end c.min-count.result w.invariant.grown (omega (arith, c.min-count.ensures)) c.keep.ensures.items;
      roomy = omega (arith, w.invariant.roomy, c.keep.ensures.room);
    }

pub returns-clause-room : goal.returns-clause-room
returns-clause-room c = c.loop-end.invariant.roomy
