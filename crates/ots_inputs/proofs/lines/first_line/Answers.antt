use Rattle.std.proofs.Common.{◌+◌, take, drop, arith, length-take}
use Rattle.ots_inputs.proofs.Lining.{line_is, none_before, nowhere_none, split_mark, too_long}
use Rattle.ots_inputs.proofs.lines.first_line.Goals as goal
use Rattle.ots_inputs.proofs.lines.first_line.Goals.{in_default-via-in-Some+else-end-MAX_LINE, in_default-via-in-None+else-bytes-MAX_LINE}

pub returns-in-None-read : goal.returns-in-None-read
returns-in-None-read g c more has =
    let bytes = c.args.bytes.now in
    let end = c.in-Some.end in
    c.in-None-read.ensures has.item
    (line_is g.met.L.Line.form bytes (take end bytes) (drop (end + 1) bytes) more (split_mark 10 bytes end c.in-Some.ensures.0 c.in-Some.ensures.1) (none_before 10 bytes end c.in-Some.ensures.0 c.in-Some.ensures.1) has)

pub returns-in-None : goal.returns-in-None
returns-in-None g c = record { short = omega (arith, c.if-bytes-MAX_LINE.true); no_end = nowhere_none 10 c.args.bytes.now c.in-None.ensures }

pub returns-in_default : goal.returns-in_default
returns-in_default g c more has = let bytes = c.args.bytes.now in elim c.in_default.branch [
  | in_default-via-in-Some+else-end-MAX_LINE w ↦
      let end = w.in-Some.end in
      let high = w.in-Some.ensures.0.high in
      let is = line_is g.met.L.Line.form bytes (take end bytes) (drop (end + 1) bytes) more (split_mark 10 bytes end w.in-Some.ensures.0 w.in-Some.ensures.1) (none_before 10 bytes end w.in-Some.ensures.0 w.in-Some.ensures.1) has in
      absurd (omega (arith, g.met.L.Line.form.short (take end bytes) has.item is, length-take end bytes, w.if-end-MAX_LINE.false, w.MAX_LINE.ensures, high))
  | in_default-via-in-None+else-bytes-MAX_LINE w ↦
      too_long g.met.L.Line.form bytes (nowhere_none 10 bytes w.in-None.ensures) (omega (arith, w.if-bytes-MAX_LINE.false)) more has
]
