use Rattle.std.proofs.Common.{refl, ap}
use Rattle.std.specs.Prelude.{Err}
use Rattle.ots_reader.specs.declared.fault.Fault.{Fault}
use Rattle.ots_reader.specs.declared.fault.ReadError.TheVariants as error
use Rattle.ots_reader.proofs.Steps.{goes_on}
use Rattle.ots_reader.proofs.Readers.{seen, ended}
use Rattle.ots_reader.proofs.tree_reader.TreeReader.finish.Goals as goal

pub returns-in-Reading-clause-finished : goal.returns-in-Reading-clause-finished
returns-in-Reading-clause-finished c =
    let t = c.self.inside.reader in
    let s = seen c.args.self c.self.inside.state t c.self.inside.tokens c.self.view_is c.in-Reading.is c.self.invariant in
    rw (s.is, c.place.ensures) (_, goes_on t s.reading, refl)

pub returns-in-Reading-clause-exact : goal.returns-in-Reading-clause-exact
returns-in-Reading-clause-exact c =
    let t = c.self.inside.reader in
    let s = seen c.args.self c.self.inside.state t c.self.inside.tokens c.self.view_is c.in-Reading.is c.self.invariant in
    λ fed g p is. rw c.place.ensures (ap (λ (z : Fault). Err (error.Fault z)) (ended c.args.self t c.self.inside.tokens s fed g p is))
