use Rattle.std.proofs.Common.{inl, sym}
use Rattle.ots_archive_steps.proofs.making.make.Goals as goal

pub returns-in-Err-WriteFault : goal.returns-in-Err-WriteFault
returns-in-Err-WriteFault g c = rw (sym c.in-Err-WriteFault.field-0-is) (inl (_, c.in-Err-WriteFault.ensures, rw (sym c.as_bytes.ensures.value) c.refuse.ensures))
