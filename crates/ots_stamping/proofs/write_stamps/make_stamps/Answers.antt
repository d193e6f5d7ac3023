use Rattle.std.proofs.Common.{◌≡◌, ℕ, List, ◌∷◌, subst, ◌∙◌, arith}
use Rattle.ots_base.specs.Cause.{Rose}
use Rattle.ots_client_endings.proofs.Carrying.{text_then}
use Rattle.ots_client_endings.specs.CarriedOut.{Carries}
use Rattle.ots_client_endings.specs.Ending.{prints}
use Rattle.ots_client_text.specs.declared.status.Status.TheVariants.{Done}
use Rattle.ots_stamping.specs.Answered.{acts_of_stamped}
use Rattle.ots_stamping.specs.Stamp.{calendars_text}
use Rattle.ots_stamping.proofs.write_stamps.make_stamps.Goals as goal

pub returns-in-Ok-clause-made : goal.returns-in-Ok-clause-made
returns-in-Ok-clause-made g c =
    let lines : c.in-Ok.ensures.printed.0 ≡ calendars_text c.args.stamped.now.calendars c.args.stamped.now.outcomes =
    c.in-Ok.ensures.printed.1 ∙ (λ i. calendars_text (c.replies.ensures.calendars i) (c.replies.ensures.outcomes i)) in
    subst (λ (z : List ℕ). Carries Done (prints z ∷ acts_of_stamped c.args.stamped.now) (g.S.Shelf.told c.args.shelf.now) (g.S.Shelf.told c.make_each.new.shelf)
    (g.S.Shelf.faults c.args.shelf.now) (g.S.Shelf.faults c.make_each.new.shelf) (Rose (g.K.Sink.faults c.args.out.now) (g.K.Sink.faults c.make_each.new.out))
    (g.K.Sink.taken c.args.out.now) (g.K.Sink.taken c.make_each.new.out) c.make_each.result) lines
    (text_then _ _ (λ rose. let first = c.in-Ok.ensures.sink.later in omega (arith, first, rose)) _ _ _ _ _ _ _ _ _ _ _ c.in-Ok.ensures.printed.2 c.make_each.ensures.made)
