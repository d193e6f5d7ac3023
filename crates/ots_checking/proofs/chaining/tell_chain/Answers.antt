use Rattle.std.proofs.Common.{◌∙◌, refl, sym, ap}
use Rattle.ots_checking.specs.Chain.{ChecksChain, is_broken, is_whole, items_of, pin_fails}
use Rattle.ots_client_endings.proofs.Running.{text_finishes, told_finishes}
use Rattle.ots_client_endings.specs.Ending.{printing}
use Rattle.ots_client_text.specs.Lines.{chain_text}
use Rattle.ots_client_text.specs.declared.status.Status.TheVariants.{Broken, Done, PinFails}
use Rattle.ots_checking.proofs.chaining.tell_chain.Goals as goal

pub returns-in-Broken-clause-finishes : goal.returns-in-Broken-clause-finishes
returns-in-Broken-clause-finishes g c = λ shelf faults.
    text_finishes (ChecksChain c.args.headers.now (items_of c.args.pins.now)) (Broken c.in-Broken.height c.in-Broken.fault) _ shelf faults
    (is_broken c.in-Broken.height c.in-Broken.fault c.in-Broken.ensures refl) c.refuse.ensures.sink.later c.refuse.ensures.printed

pub returns-in-Some-clause-finishes : goal.returns-in-Some-clause-finishes
returns-in-Some-clause-finishes g c = λ shelf faults.
    text_finishes (ChecksChain c.args.headers.now (items_of c.args.pins.now)) (PinFails c.in-Some.height) _ shelf faults
    (pin_fails c.in-Whole.first c.in-Whole.last c.in-Whole.tip c.in-Some.height c.in-Whole.ensures (sym c.failing.ensures ∙ c.in-Some.is) refl)
    c.refuse-in-Some.ensures.sink.later c.refuse-in-Some.ensures.printed

pub returns-in-None-clause-finishes : goal.returns-in-None-clause-finishes
returns-in-None-clause-finishes g c = λ shelf faults.
    told_finishes (ChecksChain c.args.headers.now (items_of c.args.pins.now)) _ Done shelf faults
    (λ bytes is. is_whole c.in-Whole.first c.in-Whole.last c.in-Whole.tip c.in-Whole.ensures (sym c.failing.ensures ∙ c.in-None.is)
    (ap (printing Done) (is ∙ ap (chain_text c.in-Whole.first c.in-Whole.last c.in-Whole.tip) c.count_of-pins.ensures))) c.print.ensures.sink.later c.print.ensures.printed
