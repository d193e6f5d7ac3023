use Rattle.std.proofs.Common.{Some, true, sym, ap, ◌∙◌}
use Rattle.ots_tree.specs.declared.token.Token.TheVariants as token
use Rattle.ots_tree.proofs.Walks.{leads, forks}
use Rattle.ots_verdicts.specs.Walked.{message_after, messages_by}
use Rattle.ots_verdicts.proofs.walk.follow.Goals as goal

pub returns-in-Attestation : goal.returns-in-Attestation
returns-in-Attestation c =
    let a = c.in-Attestation.field-0 in
    rw c.in-Attestation.is (leads messages_by (token.Attestation a) c.args.walk.now c.close.new.self c.close.result (c.close.ensures.closed messages_by a))

pub returns-in_ok-keep-in-Fork : goal.returns-in_ok-keep-in-Fork
returns-in_ok-keep-in-Fork c =
    rw c.in-Fork.is (forks messages_by c.args.walk.now c.keep.new.self (λ free. c.in_ok-keep-in-Fork.ensures.forked free messages_by))

pub returns-in_ok-next-in-Op : goal.returns-in_ok-next-in-Op
returns-in_ok-next-in-Op c =
    let o = c.in-Op.op in
    rw c.in-Op.is (leads messages_by (token.Op o) c.args.walk.now c.lead.new.self true
    (c.lead.ensures.led messages_by o (ap Some (sym (c.in_ok-next-in-Op.ensures ∙ ap (message_after o) (c.as_ref.ensures.value ∙ c.carried-in-Op.ensures))))))
