use Rattle.std.proofs.Common.{Some, ap, arith, ◌∙◌}
use Rattle.std.specs.Option.{option_copied}
use Rattle.ots_tree.specs.Walk.{begun, open_at}
use Rattle.ots_verdicts.specs.Walked.{walked, nothing, messages}
use Rattle.ots_verdicts.proofs.Messages.{all_left, one_noted, none_left}
use Rattle.ots_verdicts.proofs.walk.best_of.Goals as goal

pub loop-token-init : goal.loop-token-init
loop-token-init c =
    all_left c.args.bitcoin.now (option_copied c.args.litecoin) c.args.digest.now c.nothing-best.result (open_at c.begin-walk.result) c.args.tokens.now c.nothing-best.ensures
    (c.begin-walk.ensures ∙ ap (λ m. begun (Some m)) (c.in_ok-message.ensures ∙ c.bytes.ensures.bytes)) c.requires

pub loop-token-preserved : goal.loop-token-preserved
loop-token-preserved c =
    let s = c.loop-token in
    let litecoin = option_copied c.args.litecoin in
    one_noted c.args.bitcoin.now litecoin (walked c.args.bitcoin.now litecoin nothing (messages c.args.digest.now c.args.tokens.now)) s.best c.noted-best.result s.walk c.follow.new.walk
    c.in_ok-follow.field-0 c.args.tokens.now s.token-index c.token-item.result c.carried.result.now (omega arith) c.token-item.is s.invariant c.noted-best.ensures c.carried.ensures
    c.in_ok-follow.ensures

pub returns : goal.returns
returns c =
    let s = c.loop-token in
    let litecoin = option_copied c.args.litecoin in
    none_left c.args.bitcoin.now litecoin (walked c.args.bitcoin.now litecoin nothing (messages c.args.digest.now c.args.tokens.now)) s.best (open_at s.walk) c.args.tokens.now s.token-index
    (omega arith) s.invariant
