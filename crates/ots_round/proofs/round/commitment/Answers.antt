use Rattle.std.proofs.Common.{◌∙◌, sym, ap, arith, ◌++◌, List, ℕ, take, length, length-take-le}
use Rattle.ots_round.specs.Hmac.{keyed}
use Rattle.ots_round.specs.Round.{mac}
use Rattle.ots_round.proofs.Blocks.{joined, whole_block}
use Rattle.ots_round.proofs.round.commitment.Goals as goal

pub returns : goal.returns
returns c =
    joined c.put.new.bytes c.put-2.new.bytes c.signed-signed.result c.keyed-hash.result (omega arith) c.put-2.array_long
    (length-take-le 8 c.keyed-hash.result (omega arith)) c.put.ensures c.put-2.ensures
    ∙ ap (λ (h : List ℕ). c.signed-signed.result ++ take 8 h) (c.keyed-hash.ensures
    ∙ ap (λ (k : List ℕ). keyed k c.signed-signed.result) (c.key.view_is ∙ sym (whole_block c.args.key.now (ap length (sym c.key.view_is) ∙ c.key.invariant))))
    ∙ ap (λ (s : List ℕ). s ++ mac c.args.key.now s) c.signed-signed.ensures
