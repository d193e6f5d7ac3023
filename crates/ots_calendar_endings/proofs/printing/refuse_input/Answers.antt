use Rattle.std.proofs.Common.{inl, sym, subst, refl}
use Rattle.ots_base.specs.Cause.{Rose}
use Rattle.ots_outside.specs.Streams.{Takes-nothing}
use Rattle.ots_inputs.specs.declared.error.InputError.{InputError}
use Rattle.ots_calendar_text.specs.Refusal.{refusal_text}
use Rattle.ots_calendar_text.specs.declared.status.DaemonStatus.{DaemonStatus}
use Rattle.ots_calendar_text.specs.declared.status.DaemonStatus.TheVariants.{OutOfMemory}
use Rattle.ots_calendar_endings.specs.RunEnd.{status_of}
use Rattle.ots_calendar_endings.specs.Printed.{PrintsLast}
use Rattle.ots_calendar_endings.proofs.printing.refuse_input.Goals as goal

pub returns-in-ReadFault-clause-printed : goal.returns-in-ReadFault-clause-printed
returns-in-ReadFault-clause-printed g c =
    subst (λ (z : InputError DaemonStatus). PrintsLast (Rose (g.K.Sink.faults c.args.out.now) (g.K.Sink.faults c.refuse-in-ReadFault.new.out)) (status_of z) (refusal_text c.args.stop.name.now (status_of z)) (g.K.Sink.taken c.args.out.now) (g.K.Sink.taken c.refuse-in-ReadFault.new.out) c.refuse-in-ReadFault.result) (sym c.in-ReadFault.is)
    c.refuse-in-ReadFault.ensures.printed

pub returns-in-OutOfMemory-clause-printed : goal.returns-in-OutOfMemory-clause-printed
returns-in-OutOfMemory-clause-printed g c =
    subst (λ (z : InputError DaemonStatus). PrintsLast (Rose (g.K.Sink.faults c.args.out.now) (g.K.Sink.faults c.args.out.now)) (status_of z) (refusal_text c.args.stop.name.now (status_of z)) (g.K.Sink.taken c.args.out.now) (g.K.Sink.taken c.args.out.now) OutOfMemory) (sym c.in-OutOfMemory.is)
    (inl (Takes-nothing (g.K.Sink.taken c.args.out.now), refl))
