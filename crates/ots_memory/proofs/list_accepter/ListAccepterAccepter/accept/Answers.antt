use Rattle.std.proofs.lemmas.List.Elements.{All-rest}
use Rattle.ots_outside.specs.Link.{IsFresh}
use Rattle.ots_memory.proofs.list_accepter.ListAccepterAccepter.accept.Goals as goal

pub invariant_of-self-in-Some : goal.invariant_of-self-in-Some
invariant_of-self-in-Some g c = (
  All-rest (λ link. IsFresh (g.L.Link.told link) (g.L.Link.faults link)) c.in-Some.link c.pop_front.new.self.items _ c.in-Some.ensures.items c.self.invariant.0,
  c.self.invariant.1,
)
