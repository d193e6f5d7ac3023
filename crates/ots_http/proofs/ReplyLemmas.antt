-- The answer to a reply, from what was read of it.
use Rattle.std.proofs.Common.{◌≡◌, ◌⊎◌, ◌≢◌, ◌+◌, ◌<◌, ◌≤◌, ℕ, List, [], ◌++◌, length, map, take, drop, refl, sym, ap, ◌∙◌, arith, le-ltb, eq-eqb, Option, Some, None, Result, Ok, Err, subst, inl, inr}
use Rattle.std.proofs.lemmas.Bool.{ne_eqb, lt-ltb}
use Rattle.std.proofs.lemmas.List.{take_all, length-take}
use Rattle.httparse.specs.declared.spans.HeaderSpan.{HeaderSpan}
use Rattle.httparse.specs.declared.spans.ResponseSpans.{ResponseSpans}
use Rattle.httparse.specs.Grammar.{ResponseHead, ReadsResponse}
use Rattle.httparse.specs.Spans.{IsResponseAt, IsResponseWithin, header_bytes}
use Rattle.httparse.proofs.GrammarLemmas.{ReadsResponse-append}
use Rattle.ots_base.specs.Told.{IfTold}
use Rattle.ots_outside.specs.Link.{LinkTold}
use Rattle.ots_base.specs.declared.limits.TheConstants.{MAX_REPLY_BODY}
use Rattle.ots_http.specs.declared.limits.TheConstants.{MAX_FIELDS, MAX_HEAD}
use Rattle.ots_http.specs.declared.fields.StatedLength.{StatedLength}
use Rattle.ots_http.specs.declared.fields.StatedLength.TheVariants.{Absent}
use Rattle.ots_http.specs.declared.reply.HttpReply.{HttpReply}
use Rattle.ots_http.specs.declared.reply.HttpReply.TheVariants.{Good, Status}
use Rattle.ots_http.specs.declared.reply.ReplyError.{ReplyError}
use Rattle.ots_http.specs.declared.reply.ReplyError.TheVariants.{TooLong, BadHttp, LinkFault, OutOfMemory}
use Rattle.ots_http.specs.Fields.{body_length}
use Rattle.ots_http.specs.Covered.{CoversReply}
use Rattle.ots_http.specs.Head.{HasNoReplyHead}
use Rattle.ots_http.specs.HeadRead.{FindsHead, IsHeadRead}
use Rattle.ots_http.specs.declared.heads.HeadRead.{HeadRead}
use Rattle.ots_http.specs.declared.heads.HeadRead.TheVariants.{NoHead, Ended}
use Rattle.ots_http.specs.ReplyTable.{ReplyOutcome, good, status, too_long, bad_http, IsOutcome, by_head, no_head, IsReplyAnswer, outcome_of_body, outcome_by}
use Rattle.ots_http.specs.ReplyBodyRead.{IsBodyAnswer}
use Rattle.ots_http.proofs.AnswerLemmas.{fields_few}
use Rattle.ots_http.proofs.ReplyHeadLemmas.{no_reply_in_nothing}

-- ---- a body

pub too_long_is : (body bytes : List ℕ) → bytes ≡ take (MAX_REPLY_BODY + 1) body → MAX_REPLY_BODY < length bytes → too_long ≡ outcome_of_body body Absent
too_long_is body bytes is long =
    let more : MAX_REPLY_BODY < length body = omega (arith, ap length is, length-take (MAX_REPLY_BODY + 1) body) in
    rw (lt-ltb MAX_REPLY_BODY (length body) more) refl

pub good_is : (body bytes : List ℕ) → bytes ≡ take (MAX_REPLY_BODY + 1) body → length bytes ≤ MAX_REPLY_BODY → good bytes ≡ outcome_of_body body Absent
good_is body bytes is few =
    let fits : length body ≤ MAX_REPLY_BODY = omega (arith, ap length is, length-take (MAX_REPLY_BODY + 1) body) in
    rw (le-ltb MAX_REPLY_BODY (length body) fits) (ap good (is ∙ take_all (MAX_REPLY_BODY + 1) body (omega arith)))

-- ---- a reply

replied : (input came rest : List ℕ) (spans : List HeaderSpan) (head : ResponseSpans) (h : ResponseHead) (outcome : ReplyOutcome) → input ≡ came ++ rest
    → length came ≤ MAX_HEAD → length spans ≡ MAX_FIELDS → IsResponseWithin came spans head → IsResponseAt came spans head h
    → outcome ≡ outcome_by head.code (map (header_bytes came) (take head.headers spans)) (drop head.len came ++ rest) → IsOutcome input outcome
replied input came rest spans head h outcome whole fits room within at is =
    let prefix : ReadsResponse (came ++ rest) h (drop head.len came ++ rest) = ReadsResponse-append came h (drop head.len came) rest at.reads in
    by_head h (drop head.len came ++ rest) (record {
      reads = (prefix.0, whole ∙ prefix.1);
      limits = record {
        short = omega (arith, at.len, within.section.len_fits);
        few = omega (arith, fields_few came spans head.headers h.fields at.fields);
      };
    }) (is ∙ (λ i. outcome_by (at.code i) (at.fields i) (drop head.len came ++ rest)))

pub found_status : (a b : Option LinkTold) (buffer : List ℕ) (spans : List HeaderSpan) (head : ResponseSpans) (filled : ℕ) → FindsHead CoversReply a b buffer spans head filled
    → length spans ≡ MAX_FIELDS → head.code ≢ 200 → IfTold a (λ told. IsReplyAnswer told.left (Ok (Status head.code)))
found_status None b buffer spans head filled found room code = tt
found_status (Some told) None buffer spans head filled found room code = absurd found.gives
found_status (Some told) (Some later) buffer spans head filled found room code =
    let came = take filled buffer in
    replied told.left came later.left spans head found.parts.is.0 (status head.code) found.gives.left (omega (arith, length-take filled buffer, found.fits)) room found.parts.within found.parts.is.1
    (rw (ne_eqb head.code 200 code) refl)

of_body : (input came rest : List ℕ) (spans : List HeaderSpan) (head : ResponseSpans) (h : ResponseHead) (stated : StatedLength) (result : Result HttpReply ReplyError) → input ≡ came ++ rest
    → length came ≤ MAX_HEAD → length spans ≡ MAX_FIELDS → IsResponseWithin came spans head → IsResponseAt came spans head h → head.code ≡ 200
    → stated ≡ body_length MAX_REPLY_BODY (map (header_bytes came) (take head.headers spans)) → IsBodyAnswer (drop head.len came ++ rest) stated result → IsReplyAnswer input result
of_body input came rest spans head h stated result whole fits room within at code states answer =
    let body = drop head.len came ++ rest in
    let by : outcome_of_body body stated ≡ outcome_by head.code (map (header_bytes came) (take head.headers spans)) body = rw (eq-eqb head.code 200 code, states) refl in
    let made = λ (outcome : ReplyOutcome) (is : outcome ≡ outcome_of_body body stated). replied input came rest spans head h outcome whole fits room within at (is ∙ by) in
    by_result result answer made
  where
    by_result : (result : Result HttpReply ReplyError) → IsBodyAnswer (drop head.len came ++ rest) stated result
        → ((outcome : ReplyOutcome) → outcome ≡ outcome_of_body (drop head.len came ++ rest) stated → IsOutcome input outcome) → IsReplyAnswer input result
    by_result (Ok (Good taken)) answer made = made (good taken) answer
    by_result (Ok (Status n)) answer made = made (status n) answer
    by_result (Err TooLong) answer made = made too_long answer
    by_result (Err BadHttp) answer made = made bad_http answer
    by_result (Err LinkFault) answer made = tt
    by_result (Err OutOfMemory) answer made = tt

pub found_body : (a b : Option LinkTold) (buffer : List ℕ) (spans : List HeaderSpan) (head : ResponseSpans) (filled : ℕ) (stated : StatedLength) (result : Result HttpReply ReplyError)
    → FindsHead CoversReply a b buffer spans head filled → length spans ≡ MAX_FIELDS → head.code ≡ 200
    → stated ≡ body_length MAX_REPLY_BODY (map (header_bytes (take filled buffer)) (take head.headers spans))
    → IfTold b (λ told. IsBodyAnswer (drop head.len (take filled buffer) ++ told.left) stated result)
    → IfTold a (λ told. IsReplyAnswer told.left result)
found_body None b buffer spans head filled stated result found room code states answer = tt
found_body (Some told) None buffer spans head filled stated result found room code states answer = absurd found.gives
found_body (Some told) (Some later) buffer spans head filled stated result found room code states answer =
    of_body told.left (take filled buffer) later.left spans head found.parts.is.0 stated result found.gives.left (omega (arith, length-take filled buffer, found.fits)) room found.parts.within found.parts.is.1 code states answer

-- an input that begins with no head, or has no byte, is no reply
pub no_reply : (a b : Option LinkTold) (buffer : List ℕ) (fields : List HeaderSpan) (read : HeadRead ResponseSpans) → (read ≡ NoHead) ⊎ (read ≡ Ended)
    → IsHeadRead CoversReply HasNoReplyHead a b buffer fields read → IfTold a (λ told. IsReplyAnswer told.left (Err BadHttp))
no_reply a b buffer fields read (inl is) answer = none_there a (subst (IsHeadRead CoversReply HasNoReplyHead a b buffer fields) is answer)
  where
    none_there : (a : Option LinkTold) → IfTold a (λ told. (0 < length told.left) × HasNoReplyHead told.left) → IfTold a (λ told. IsReplyAnswer told.left (Err BadHttp))
    none_there None none = tt
    none_there (Some told) none = no_head none.1 refl
no_reply a b buffer fields read (inr is) answer = nothing_there a (subst (IsHeadRead CoversReply HasNoReplyHead a b buffer fields) is answer)
  where
    nothing_there : (a : Option LinkTold) → IfTold a (λ told. told.left ≡ []) → IfTold a (λ told. IsReplyAnswer told.left (Err BadHttp))
    nothing_there None ended = tt
    nothing_there (Some told) ended = no_head (λ h body head. no_reply_in_nothing h body (head.reads.0, sym ended ∙ head.reads.1)) refl
