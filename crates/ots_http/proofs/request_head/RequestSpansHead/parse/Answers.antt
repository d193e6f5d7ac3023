use Rattle.ots_http.proofs.HeadLemmas.{on_partial_weaker}
use Rattle.ots_http.proofs.RequestHeadLemmas.{none_yet, undecided}
use Rattle.ots_http.proofs.request_head.RequestSpansHead.parse.Goals as goal

pub returns-then-not-may_end-clause-undecided : goal.returns-then-not-may_end-clause-undecided
returns-then-not-may_end-clause-undecided c =
    undecided c.args.came.now (none_yet c.args.came.now c.args.before c.args.begun (c.requires.none (c.may_end.ensures.later c.if-not-may_end.true)) c.requires.blank
    (c.may_end.ensures.none c.if-not-may_end.true))

pub returns-clause-undecided : goal.returns-clause-undecided
returns-clause-undecided c = on_partial_weaker c.parse_request.result (undecided c.args.came.now) c.parse_request.ensures.partial
