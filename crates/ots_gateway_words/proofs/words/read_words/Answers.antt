use Rattle.std.proofs.Common.{◌∙◌, ap, refl, sym}
use Rattle.std.specs.Prelude.{option_map}
use Rattle.ots_arguments.proofs.Forms.{form_taken, form_refused}
use Rattle.ots_gateway_words.specs.Words.{arguments, gathering_in, name, read_as}
use Rattle.ots_gateway_words.proofs.words.read_words.Goals as goal

pub returns-in-Some : goal.returns-in-Some
returns-in-Some c =
    form_taken name arguments gathering_in _ _ _ refl refl _ _ c.in-Ok.ensures.taken c.in-Ok.ensures.values (sym c.gathering_of.ensures ∙ ap (option_map read_as) c.in-Some.is)

pub returns-in-Ok : goal.returns-in-Ok
returns-in-Ok c = λ usage.
    form_taken name arguments gathering_in _ _ _ refl refl _ _ c.in-Ok.ensures.taken c.in-Ok.ensures.values (sym c.gathering_of.ensures ∙ ap (option_map read_as) c.in-None.is)

pub returns : goal.returns
returns c = λ usage. form_refused name arguments gathering_in _ _ _ refl refl (c.in-Err.ensures.refused usage)
