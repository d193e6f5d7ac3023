use Rattle.std.proofs.Common.{◌∙◌, sym, ap, arith, get_or, length-set}
use Rattle.std.specs.Prelude.{bit_xor}
use Rattle.std.proofs.lemmas.List.{take_all}
use Rattle.ots_round.specs.Hmac.{masked}
use Rattle.ots_round.proofs.Blocks.{masked_more, rest_more}
use Rattle.ots_round.proofs.hmac.masked.Goals as goal

pub loop-place-preserved : goal.loop-place-preserved
loop-place-preserved c =
    let y = bit_xor (get_or c.loop-place.bytes c.loop-place.place 0) c.args.mask in
    record {
      long = omega (arith, length-set c.loop-place.bytes c.loop-place.place y);
      done = masked_more c.args.mask c.loop-place.place c.loop-place.bytes c.args.block.now (omega arith) (omega arith) c.loop-place.invariant.done c.loop-place.invariant.rest;
      rest = rest_more c.loop-place.place y c.loop-place.bytes c.args.block.now (omega arith) c.loop-place.invariant.rest;
    }

pub returns : goal.returns
returns c =
    sym (take_all c.loop-place.place c.loop-place.bytes (omega arith)) ∙ c.loop-place.invariant.done
    ∙ ap (masked c.args.mask) (take_all c.loop-place.place c.args.block.now (omega arith))
