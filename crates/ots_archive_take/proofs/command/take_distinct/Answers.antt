use Rattle.std.proofs.Common.{inr, sym, subst}
use Rattle.std.specs.Prelude.{IfSome}
use Rattle.ots_archive_steps.specs.Ends.{IfRoom}
use Rattle.ots_archive_steps.specs.Entries.{entries_of}
use Rattle.ots_archive_take.proofs.Refused.{refuses_twice}
use Rattle.ots_archive_take.specs.Names.{IsTwice}
use Rattle.ots_archive_take.specs.Taking.{read_job}
use Rattle.ots_archive_take.proofs.command.take_distinct.Goals as goal

pub returns-in-Ok-Some : goal.returns-in-Ok-Some
returns-in-Ok-Some g c = inr (IfRoom.done
    (refuses_twice (read_job c.args.job) (entries_of c.args.entries.now) c.args.names.now c.in-Ok-Some.place c.index-names-place.result _ _ _ c.requires.named
    (subst (λ f. IfSome f (IsTwice c.args.names.now)) c.in-Ok-Some.field-0-is c.in-Ok-Some.ensures.some) c.index-names-place.is
    (rw (sym c.bytes.ensures) c.refuse.ensures)))
