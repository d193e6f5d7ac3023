use Rattle.std.proofs.Common.{◌∙◌, sym}
use Rattle.ots_sums.proofs.Digits.{another, digest_read, not_refused, same_text, the_same, written_is}
use Rattle.ots_sums.proofs.line.digest_of.Goals as goal

pub returns-in_err-ok : goal.returns-in_err-ok
returns-in_err-ok c = rw c.from_residual.ensures (λ digest is text.
    not_refused c.args.digits.now c.decode_to_slice.new.out c.decode_to_slice.result c.decode_to_slice.ensures.value digest is text (sym c.ok.ensures.value ∙ c.in_err-ok.was))

pub returns-then-ne : goal.returns-then-ne
returns-then-ne c digest is text =
    let written = written_is c.encode_to_slice.result _ _ _ (sym c.ok-2.ensures.value ∙ c.in_ok-ok-2.was) c.encode_to_slice.ensures.written in
    another c.as_slice.result.now c.args.digits.now c.ne.result c.ne.ensures c.if-ne.true
    (same_text c.args.digits.now c.decode_to_slice.new.out c.decode_to_slice.result c.decode_to_slice.ensures.value digest is text c.as_slice.result.now (c.as_slice.ensures ∙ written))

pub returns : goal.returns
returns c =
    let written = written_is c.encode_to_slice.result _ _ _ (sym c.ok-2.ensures.value ∙ c.in_ok-ok-2.was) c.encode_to_slice.ensures.written in
    let same = the_same c.as_slice.result.now c.args.digits.now c.ne.result c.ne.ensures c.if-ne.false in (
      sym same ∙ (c.as_slice.ensures ∙ written),
      digest_read c.args.digits.now c.decode_to_slice.new.out c.decode_to_slice.result c.decode_to_slice.ensures.value _ (sym c.ok.ensures.value ∙ c.in_ok-ok.was),
    )
