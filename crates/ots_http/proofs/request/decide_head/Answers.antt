use Rattle.std.proofs.Common.{map, rules}
use Rattle.httparse.specs.Spans.{span_bytes, header_bytes}
use Rattle.ots_http.specs.RequestTable.{request_by, post_request}
use Rattle.ots_http.proofs.AnswerLemmas.{decides_same}
use Rattle.ots_http.proofs.request.decide_head.Goals as goal

pub returns-then-eq : goal.returns-then-eq
returns-then-eq c =
    let fields = map (header_bytes c.args.buffer.now) c.args.fields.now in
    decides_same (post_request fields) (request_by (span_bytes c.args.buffer.now c.args.head.method) (span_bytes c.args.buffer.now c.args.head.path) fields)
    c.decide_post.result (λ body. search rules) c.decide_post.ensures
