use Rattle.std.proofs.Common.{◌≡◌, ◌≤◌, ◌+◌, ◌-◌, ℕ, List, arith}
use Rattle.std.proofs.lemmas.List.{length-take}
use Rattle.ots_outside.specs.declared.small_bytes.TheConstants.{MAX_DIGEST}
use Rattle.ots_http.specs.declared.limits.TheConstants.{MAX_HEAD}
use Rattle.ots_http.specs.RequestRead.{digest_of}
use Rattle.ots_http.proofs.BufferLemmas.{body_read}
use Rattle.ots_http.proofs.LinkLemmas.{at_most_both, at_most_more}
use Rattle.ots_http.proofs.AnswerLemmas.{asks_digest, asks_now, told_nothing}
use Rattle.ots_http.proofs.request.read_request.Goals as goal

pub returns-in-Ok-read_on-clause-answer : goal.returns-in-Ok-read_on-clause-answer
returns-in-Ok-read_on-clause-answer g c =
    let found = rw c.in-Head.is at c.in_ok-read_head.ensures.head in
    let size = c.in-Ok.size in
    let filled = c.in-Head.filled in
    let starts : c.in-Head.head.len ≤ filled = omega (arith, found.parts.within.section.len_fits, length-take filled c.read_head.new.buffer) in
    asks_digest _ _ _ _ _ _ _ _ found c.read_head.auto.fields c.in-Ok.ensures
    (body_read (λ (body : List ℕ). c.digest_of_size.result ≡ digest_of size body) _ _ _ _ _ _ size starts (omega (arith, found.fits, c.read_head.auto.buffer))
    (omega (arith, starts, c.in-Ok-read_on.ensures.least)) c.in-Ok-read_on.ensures.whole c.digest_of_size.ensures)

pub returns-in-Ok-read_on-clause-came : goal.returns-in-Ok-read_on-clause-came
returns-in-Ok-read_on-clause-came g c =
    let found = rw c.in-Head.is at c.in_ok-read_head.ensures.head in
    at_most_both MAX_HEAD MAX_DIGEST _ _ _ c.read_head.ensures.came
    (at_most_more (c.in-Head.head.len + c.in-Ok.size - c.in-Head.filled) MAX_DIGEST _ _
    (omega (arith, found.parts.within.section.len_fits, length-take c.in-Head.filled c.read_head.new.buffer, c.in-Ok.ensures.1)) c.read_on.ensures.came)

pub returns-in-Err-read_on-clause-came : goal.returns-in-Err-read_on-clause-came
returns-in-Err-read_on-clause-came g c =
    let found = rw c.in-Head.is at c.in_ok-read_head.ensures.head in
    at_most_both MAX_HEAD MAX_DIGEST _ _ _ c.read_head.ensures.came
    (at_most_more (c.in-Head.head.len + c.in-Ok.size - c.in-Head.filled) MAX_DIGEST _ _
    (omega (arith, found.parts.within.section.len_fits, length-take c.in-Head.filled c.read_head.new.buffer, c.in-Ok.ensures.1)) c.read_on.ensures.came)

pub returns-in-Ok-read_on-clause-same : goal.returns-in-Ok-read_on-clause-same
returns-in-Ok-read_on-clause-same g c = g.met.L.Link.same_trans _ _ _ c.read_head.ensures.same c.read_on.ensures.same

pub returns-in-Err-read_on-clause-answer : goal.returns-in-Err-read_on-clause-answer
returns-in-Err-read_on-clause-answer g c = told_nothing (g.L.Link.told c.args.link.now)

pub returns-in-Err-read_on-clause-same : goal.returns-in-Err-read_on-clause-same
returns-in-Err-read_on-clause-same g c = g.met.L.Link.same_trans _ _ _ c.read_head.ensures.same c.read_on.ensures.same

pub returns-in-Err-clause-answer : goal.returns-in-Err-clause-answer
returns-in-Err-clause-answer g c =
    asks_now _ _ _ _ _ _ _ (rw c.in-Head.is at c.in_ok-read_head.ensures.head) c.read_head.auto.fields c.in-Err.ensures
