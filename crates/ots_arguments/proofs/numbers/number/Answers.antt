use Rattle.std.proofs.Common.{◌∙◌, sym, ap, arith}
use Rattle.std.specs.Prelude.{bytes_eq}
use Rattle.ots_arguments.proofs.NumberLemmas.{is_number, not_read, read_otherwise, another, the_same}
use Rattle.ots_arguments.proofs.numbers.number.Goals as goal
use Rattle.ots_arguments.proofs.numbers.number.Goals.{then-number-least-via-then-number-least, then-number-least-via-else-number-least+then-number-most, then-number-least-via-else-number-least+else-number-most+then-ne}

pub returns-in_err-number-clause-number : goal.returns-in_err-number-clause-number
returns-in_err-number-clause-number c =
    c.from_residual.ensures ∙ not_read c.args.least c.args.most c.args.word.now c.parse.result (omega arith) c.parse.ensures.value.0 c.ok.result c.ok.ensures.value c.in_err-number.was

pub returns-then-number-least-clause-number : goal.returns-then-number-least-clause-number
returns-then-number-least-clause-number c =
    read_otherwise c.args.least c.args.most c.args.word.now c.parse.result (omega arith) c.parse.ensures.value.0 c.ok.result c.ok.ensures.value c.in_ok-number.number c.in_ok-number.was
    (elim c.then-number-least.branch [
      | then-number-least-via-then-number-least w ↦ λ low high same. let less = w.if-number-least.true in omega arith
      | then-number-least-via-else-number-least+then-number-most w ↦ λ low high same. let great = w.if-number-most.true in omega arith
      | then-number-least-via-else-number-least+else-number-most+then-ne w ↦ λ low high same.
          another w.format.result.now c.args.word.now w.ne.result w.ne.ensures w.if-ne.true (w.format.ensures.text ∙ same)
    ])

pub returns-clause-number : goal.returns-clause-number
returns-clause-number c = is_number c.args.least c.args.most c.in_ok-number.number c.args.word.now (omega arith) (omega arith) (omega arith)
    (ap (λ z. bytes_eq z c.args.word.now) (sym c.format.ensures.text) ∙ the_same c.format.result.now c.args.word.now c.ne.result c.ne.ensures c.if-ne.false)
