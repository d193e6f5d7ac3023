use Rattle.std.proofs.Common.{Some}
use Rattle.std.proofs.lemmas.List.Elements.{All-push, All-same}
use Rattle.ots_outside.specs.Link.{IsFresh}
use Rattle.ots_memory.specs.MemoryForms.{BytesLinkTold}
use Rattle.ots_gateway_rows.proofs.links.links_of.Goals as goal

pub loop-link-preserved : goal.loop-link-preserved
loop-link-preserved c =
    let P : BytesLinkTold → Type 0 = λ link. IsFresh (Some link.link) link.faults in
    All-same P _ _ c.in_ok-push_back.ensures.items (All-push P c.loop-link.links.items _ c.loop-link.invariant c.in_ok-new_link.ensures)
