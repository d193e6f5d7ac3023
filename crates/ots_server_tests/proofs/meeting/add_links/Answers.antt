use Rattle.std.proofs.Common.{Some}
use Rattle.std.proofs.lemmas.List.Elements.{All-push, All-same}
use Rattle.ots_outside.specs.Link.{IsFresh}
use Rattle.ots_server_tests.specs.declared.meeting.MeetingLink.{MeetingLink}
use Rattle.ots_server_tests.proofs.meeting.add_links.Goals as goal

pub loop-preserved : goal.loop-preserved
loop-preserved c =
    let P : MeetingLink → Type 0 = λ link. IsFresh (Some link.link.link) link.link.faults in
    All-same P _ _ c.in_ok-push_back.ensures.items (All-push P c.loop.links.items _ c.loop.invariant c.in_ok-link.ensures)
