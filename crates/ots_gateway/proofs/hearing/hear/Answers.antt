use Rattle.std.proofs.Common.{refl, arith, ap, Err}
use Rattle.ots_http.proofs.Seen.{gives}
use Rattle.ots_gateway.proofs.Request.{closed_heard, fault_heard, waits_heard, words_heard}
use Rattle.ots_gateway.proofs.hearing.hear.Goals as goal

pub returns-in-Err-Closed : goal.returns-in-Err-Closed
returns-in-Err-Closed g c =
    closed_heard _ _ refl (omega arith) _ _ c.in-Err-Closed.field-0 c.in-Err-Closed.field-0-is c.in-Err-Closed.ensures.answer (gives _ _ _ c.in-Err-Closed.ensures.came)

pub returns-in-Err-LinkFault : goal.returns-in-Err-LinkFault
returns-in-Err-LinkFault g c =
    fault_heard _ _ refl (omega arith) _ _ c.in-Err-LinkFault.field-0 c.in-Err-LinkFault.field-0-is c.in-Err-LinkFault.ensures.answer
    (c.in-Err-LinkFault.ensures.cause.rose (ap Err c.in-Err-LinkFault.field-0-is)) (gives _ _ _ c.in-Err-LinkFault.ensures.came)

pub returns-in-Ok-take_up : goal.returns-in-Ok-take_up
returns-in-Ok-take_up g c =
    waits_heard _ _ _ _ c.in-Ok.request c.in-Ok-take_up.waiting c.in-Ok-take_up.ensures.waits.0 c.in-Ok-take_up.ensures.waits.1 c.in-Ok-take_up.ensures.later
    c.in-Ok.ensures.answer (gives _ _ _ c.in-Ok.ensures.came) c.in-Ok.ensures.cause.later

pub returns-in-Err : goal.returns-in-Err
returns-in-Err g c =
    words_heard _ _ c.in-Err.ensures.kept c.in-Err.ensures.later _ _ _ c.in-Ok.request c.in-Err.word c.tell.ensures.sends.0 c.tell.result c.in-Ok.ensures.answer
    (gives _ _ _ c.in-Ok.ensures.came) c.in-Ok.ensures.cause.later c.in-Err.ensures.told c.tell.ensures.sends.1 c.tell.ensures.sends.2
