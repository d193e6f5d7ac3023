use Rattle.ots_calendar_url.proofs.Urls.{no_port, no_truth, port_read}
use Rattle.ots_calendar_url.proofs.authority.is_port.Goals as goal

pub returns-in-Ok : goal.returns-in-Ok
returns-in-Ok c =
    port_read c.args.digits.now c.in-Ok.word.now c.number.result c.is_some.result c.in-Ok.ensures.cases.0 c.number.ensures.number c.number.ensures.within c.is_some.ensures

pub returns-in-Err : goal.returns-in-Err
returns-in-Err c = (λ no. absurd (no_truth no), λ p. absurd (no_port c.args.digits.now c.in-Err.ensures.cases.0 p))
