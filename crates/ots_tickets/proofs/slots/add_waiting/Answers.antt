use Rattle.std.proofs.Common.{◌++◌, ◌∷◌, [], ◌∙◌, ap, List}
use Rattle.ots_tickets.specs.Slots.{present}
use Rattle.ots_tickets.proofs.Gaps.{present_append}
use Rattle.ots_tickets.proofs.slots.add_waiting.Goals as goal

pub returns-clause-ok : goal.returns-clause-ok
returns-clause-ok c =
    ap present c.in_ok-push.ensures.items
    ∙ present_append c.close_up_waiting.new.slots.items _
    ∙ ap (λ (l : List _). l ++ c.args.ticket.now ∷ []) c.close_up_waiting.ensures
