use Rattle.std.proofs.Common.{arith}
use Rattle.std.proofs.lemmas.Grind.{common_steps}
use Rattle.ots_memory.proofs.InputReads.{gives_next}
use Rattle.ots_memory.proofs.input.Input.read.Goals as goal

pub returns-clause-gives : goal.returns-clause-gives
returns-clause-gives c =
    let s = c.self.inside in
    rw (← c.self.view_is) (gives_next s.bytes.items c.copy_from_slice.new.self _ s.place _ (grind (arith, common_steps)) (grind (arith, common_steps)))
