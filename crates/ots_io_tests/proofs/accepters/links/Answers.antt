use Rattle.std.proofs.Common.{Some, ◌≡◌, [], ◌∷◌, ◌++◌, arith}
use Rattle.std.proofs.lemmas.Grind.{common_steps}
use Rattle.std.proofs.lemmas.List.Elements.{All-push}
use Rattle.ots_io.specs.Link.{IsFresh}
use Rattle.ots_io_tests.proofs.accepters.links.Goals as goal

pub loop-input-preserved : goal.loop-input-preserved
loop-input-preserved c =
    let pushed : c.push_back.new.self.items ≡ c.loop-input.links.items ++ c.in_ok-new.field-0 ∷ [] = grind (arith, common_steps) in
    rw pushed (All-push (λ link. IsFresh (Some link.link) link.faults) _ _ c.loop-input.invariant c.in_ok-new.ensures.fresh)
