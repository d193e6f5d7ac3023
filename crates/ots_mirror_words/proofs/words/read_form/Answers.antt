use Rattle.std.proofs.Common.{◌∙◌, ap, refl, sym}
use Rattle.std.specs.Prelude.{option_map}
use Rattle.ots_arguments.proofs.Forms.{form_taken, form_refused}
use Rattle.ots_mirror_words.specs.Words.{arguments, mirroring_in, name, read_as}
use Rattle.ots_mirror_words.proofs.Forms.{is_simple}
use Rattle.ots_mirror_words.proofs.words.read_form.Goals as goal

pub read_arguments-requires : goal.read_arguments-requires
read_arguments-requires c = rw c.arguments.ensures is_simple

pub returns-in-Some : goal.returns-in-Some
returns-in-Some c =
    form_taken name arguments mirroring_in _ _ _ refl c.arguments.ensures _ _
    c.in-Ok.ensures.taken c.in-Ok.ensures.values (sym c.mirroring_of.ensures ∙ ap (option_map read_as) c.in-Some.is)

pub returns-in-Ok : goal.returns-in-Ok
returns-in-Ok c = λ usage.
    form_taken name arguments mirroring_in _ _ _ refl c.arguments.ensures _ _
    c.in-Ok.ensures.taken c.in-Ok.ensures.values (sym c.mirroring_of.ensures ∙ ap (option_map read_as) c.in-None.is)

pub returns : goal.returns
returns c = λ usage. form_refused name arguments mirroring_in _ _ _ refl c.arguments.ensures (c.in-Err.ensures.refused usage)
