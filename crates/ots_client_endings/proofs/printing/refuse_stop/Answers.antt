use Rattle.std.proofs.Common.{◌≡◌, refl}
use Rattle.ots_client_text.specs.declared.status.Status.TheVariants as status
use Rattle.ots_client_endings.specs.Ending.{refused}
use Rattle.ots_client_endings.proofs.Running.{text_finishes}
use Rattle.ots_client_endings.proofs.printing.refuse_stop.Goals as goal

pub returns-in-NoFile-clause-told : goal.returns-in-NoFile-clause-told
returns-in-NoFile-clause-told g c = λ shelf faults.
    rw c.in-NoFile.is (text_finishes (λ e. e ≡ refused c.args.stop.name.now status.NoFile) status.NoFile _ shelf faults refl c.refuse.ensures.sink.later c.refuse.ensures.printed)

pub returns-in-ReadFault-clause-told : goal.returns-in-ReadFault-clause-told
returns-in-ReadFault-clause-told g c = λ shelf faults.
    rw c.in-ReadFault.is (text_finishes (λ e. e ≡ refused c.args.stop.name.now status.ReadFault) status.ReadFault _ shelf faults refl c.refuse-in-ReadFault.ensures.sink.later c.refuse-in-ReadFault.ensures.printed)

pub returns-in-Refused-clause-told : goal.returns-in-Refused-clause-told
returns-in-Refused-clause-told g c = λ shelf faults.
    rw c.in-Refused.is (text_finishes (λ e. e ≡ refused c.args.stop.name.now c.in-Refused.status) c.in-Refused.status _ shelf faults refl c.refuse-in-Refused.ensures.sink.later c.refuse-in-Refused.ensures.printed)

pub returns-in-OutOfMemory-clause-told : goal.returns-in-OutOfMemory-clause-told
returns-in-OutOfMemory-clause-told g c = λ shelf faults. rw c.in-OutOfMemory.is (refl, refl)
