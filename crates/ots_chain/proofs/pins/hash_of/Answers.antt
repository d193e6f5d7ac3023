use Rattle.std.proofs.Common.{◌∙◌, sym}
use Rattle.std.specs.Cmp.Lexicographic.{bytes_decides}
use Rattle.ots_arguments.proofs.NumberLemmas.{another, the_same}
use Rattle.ots_chain.proofs.PinText.{hash_read, not_refused, same_text, turned, written_is}
use Rattle.ots_chain.proofs.pins.hash_of.Goals as goal

pub returns-in_err-ok : goal.returns-in_err-ok
returns-in_err-ok c = rw c.from_residual.ensures (λ hash long bytes text.
    not_refused c.args.digits.now c.decode_to_slice.new.out c.decode_to_slice.result c.decode_to_slice.ensures.value hash long bytes text (sym c.ok.ensures.value ∙ c.in_err-ok.was))

pub returns-then-ne : goal.returns-then-ne
returns-then-ne c hash long bytes text =
    let written = written_is c.encode_to_slice.result _ _ _ (sym c.ok-2.ensures.value ∙ c.in_ok-ok-2.was) c.encode_to_slice.ensures.written in
    another c.as_slice.result.now c.args.digits.now c.ne.result c.ne.ensures c.if-ne.true
    (same_text c.args.digits.now c.decode_to_slice.new.out c.decode_to_slice.result c.decode_to_slice.ensures.value hash long bytes text c.as_slice.result.now (c.as_slice.ensures ∙ written))

pub returns : goal.returns
returns c =
    let written = written_is c.encode_to_slice.result _ _ _ (sym c.ok-2.ensures.value ∙ c.in_ok-ok-2.was) c.encode_to_slice.ensures.written in
    let same = (bytes_decides c.as_slice.result.now c.args.digits.now).0 (the_same c.as_slice.result.now c.args.digits.now c.ne.result c.ne.ensures c.if-ne.false) in
    let read = hash_read c.args.digits.now c.decode_to_slice.new.out c.decode_to_slice.result c.decode_to_slice.ensures.value _ (sym c.ok.ensures.value ∙ c.in_ok-ok.was) in
    turned c.args.digits.now c.decode_to_slice.new.out c.reverse.new.self c.reverse.ensures.after (sym same ∙ (c.as_slice.ensures ∙ written)) read.0 read.1
