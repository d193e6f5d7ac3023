use Rattle.std.proofs.Common.{rules, ap, ◌∙◌}
use Rattle.std.proofs.lemmas.Fn.{filter_same}
use Rattle.ots_tickets.specs.Slots.{present}
use Rattle.ots_tickets.proofs.Gaps.{present_filter}
use Rattle.ots_tickets.proofs.slots.remove_taken.Goals as goal

pub returns : goal.returns
returns c = ap present (filter_same _ _ _ (λ x b f' k. search rules) _ _ c.retain.ensures.filtered) ∙ present_filter c.args.slots.now.items
