use Rattle.std.proofs.Common.{◌∙◌, ap, sym}
use Rattle.std.specs.Option.{option_and_then}
use Rattle.clap.specs.Words.{found_of}
use Rattle.ots_arguments.specs.Values.{some_names, texts}
use Rattle.ots_arguments.proofs.NameLemmas.{given}
use Rattle.ots_arguments.proofs.names.file_names.Goals as goal

pub returns-in_err-get_strs : goal.returns-in_err-get_strs
returns-in_err-get_strs c = rw c.from_residual.ensures
    (sym (given c.args.most (found_of c.args.matches.now) c.args.name.now _ c.get_strs.ensures ∙ ap (option_and_then (λ s. some_names c.args.most (texts s.now))) c.in_err-get_strs.was))

pub returns : goal.returns
returns c = c.some_names.ensures
    ∙ sym (given c.args.most (found_of c.args.matches.now) c.args.name.now _ c.get_strs.ensures ∙ ap (option_and_then (λ s. some_names c.args.most (texts s.now))) c.in_ok-get_strs.was)
