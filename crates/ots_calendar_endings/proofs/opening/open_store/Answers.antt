use Rattle.ots_calendar_endings.proofs.opening.open_store.Goals as goal

pub returns-in-Err-clause-err : goal.returns-in-Err-clause-err
returns-in-Err-clause-err g c = record { error = c.in-Err.field-0.why; such = c.in-Err.ensures.err; status = c.open_status.ensures }
