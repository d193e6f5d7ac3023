use Rattle.std.proofs.Common.{refl}
use Rattle.std.specs.Prelude.{Ok, Err}
use Rattle.ots_http.specs.Seen.{LinkSeen}
use Rattle.ots_connection.proofs.Answering.{serves_answered}
use Rattle.ots_connection.proofs.Receipts.{stands}
use Rattle.ots_http.proofs.Seen.{gives}
use Rattle.ots_connection.proofs.Sent.{sends_after}
use Rattle.ots_connection.proofs.connection.serve.Goals as goal

pub returns-in-Ok-handle-clause-serves : goal.returns-in-Ok-handle-clause-serves
returns-in-Ok-handle-clause-serves g c =
    let told = g.L.Link.told in
    let faults = g.L.Link.faults in
    let old : LinkSeen = record { told = told c.args.link.now; faults = faults c.args.link.now } in
    let mid : LinkSeen = record { told = told c.read_request.new.link; faults = faults c.read_request.new.link } in
    let new : LinkSeen = record { told = told c.send.new.link; faults = faults c.send.new.link } in
    record {
      request = Ok c.in-Ok.request;
      reads = c.in-Ok.ensures.answer;
      ends = record {
        due = Ok c.in-Ok-handle.due;
        handles = c.in-Ok-handle.ensures.handles;
        ends = sends_after c.in-Ok-handle.due old mid new c.send.result (gives _ _ _ c.read_request.ensures.came) c.read_request.ensures.cause.later c.send.ensures.sends;
      };
    }

pub returns-in-Ok-handle-clause-answered : goal.returns-in-Ok-handle-clause-answered
returns-in-Ok-handle-clause-answered g c = λ fresh answers.
    serves_answered _ _ _ _ _ _ _ _ _ _ _ _ (returns-in-Ok-handle-clause-serves g c) fresh answers

pub returns-in-Err-clause-serves : goal.returns-in-Err-clause-serves
returns-in-Err-clause-serves g c = record {
  request = Ok c.in-Ok.request;
  reads = c.in-Ok.ensures.answer;
  ends = record { due = Err c.in-Err.field-0; handles = c.in-Err.ensures.handles; ends = (refl, gives _ _ _ c.read_request.ensures.came) };
}

pub returns-in-Ok-handle-clause-stamped : goal.returns-in-Ok-handle-clause-stamped
returns-in-Ok-handle-clause-stamped g c = stands _ _ _ _ _ _ (returns-in-Ok-handle-clause-serves g c)
