-- The answer to a request, from what was read of it.
use Rattle.std.proofs.Common.{◌≡◌, ◌≤◌, ℕ, List, ◌++◌, length, map, take, drop, sym, ap, ◌∙◌, arith, Option, Some, None, Result, Ok, Err}
use Rattle.std.proofs.lemmas.List.{length-take, length-map}
use Rattle.httparse.specs.declared.spans.HeaderSpan.{HeaderSpan}
use Rattle.httparse.specs.declared.spans.RequestSpans.{RequestSpans}
use Rattle.httparse.specs.Grammar.{Field, RequestHead, ReadsRequest}
use Rattle.httparse.specs.Spans.{IsRequestAt, IsRequestWithin, header_bytes, span_bytes, name_and_value}
use Rattle.httparse.proofs.GrammarLemmas.{ReadsRequest-append}
use Rattle.ots_base.specs.Told.{IfTold}
use Rattle.ots_outside.specs.Link.{LinkTold}
use Rattle.ots_http.specs.declared.limits.TheConstants.{MAX_FIELDS, MAX_HEAD}
use Rattle.ots_http.specs.declared.request.Request.{Request}
use Rattle.ots_http.specs.Covered.{CoversRequest}
use Rattle.ots_http.specs.HeadRead.{FindsHead}
use Rattle.ots_http.specs.RequestTable.{by_head, request_by}
use Rattle.ots_http.specs.RequestRead.{IsRequestAnswer, Decides, DecidesHead, digest_of}
use Rattle.ots_http.proofs.RequestHeadLemmas.{head_some}

-- what decides one request decides another that is the same for every body
pub decides_same : (f g : List ℕ → Request) (result : Result ℕ Request) → ((body : List ℕ) → g body ≡ f body) → Decides f result → Decides g result
decides_same f g (Ok n) same d = (d.0, d.1, λ body. same body ∙ d.2 body)
decides_same f g (Err request) same d = λ body. same body ∙ d body

-- as many fields as spans
pub fields_few : (came : List ℕ) (spans : List HeaderSpan) (n : ℕ) (fields : List Field) → map (header_bytes came) (take n spans) ≡ map name_and_value fields
    → length fields ≤ length spans
fields_few came spans n fields same =
    omega (arith, simp (length-map, length-take) at (ap length same))

asked : (input came rest : List ℕ) (spans : List HeaderSpan) (head : RequestSpans) (h : RequestHead) (request : Request) → input ≡ came ++ rest
    → length came ≤ MAX_HEAD → length spans ≡ MAX_FIELDS → IsRequestWithin came spans head → IsRequestAt came spans head h
    → request ≡ request_by (span_bytes came head.method) (span_bytes came head.path) (map (header_bytes came) (take head.headers spans)) (drop head.len came ++ rest)
    → IsRequestAnswer input (Ok request)
asked input came rest spans head h request whole fits room within at is =
    let prefix : ReadsRequest (came ++ rest) h (drop head.len came ++ rest) = ReadsRequest-append came h (drop head.len came) rest at.reads in
    let reads : ReadsRequest input h (drop head.len came ++ rest) = (prefix.0, whole ∙ prefix.1) in (
      omega (arith, ap length reads.1, head_some h (drop head.len came ++ rest) reads.0.method),
      by_head h (drop head.len came ++ rest) (record {
        reads = reads;
        limits = record {
          short = omega (arith, at.len, within.section.len_fits);
          few = omega (arith, fields_few came spans head.headers h.fields at.fields);
        };
      }) (is ∙ (λ i. request_by (at.method i) (at.path i) (at.fields i) (drop head.len came ++ rest))),
    )

pub asks_digest : (a b : Option LinkTold) (buffer : List ℕ) (spans : List HeaderSpan) (head : RequestSpans) (filled n : ℕ) (request : Request)
    → FindsHead CoversRequest a b buffer spans head filled → length spans ≡ MAX_FIELDS
    → DecidesHead (span_bytes (take filled buffer) head.method) (span_bytes (take filled buffer) head.path) (map (header_bytes (take filled buffer)) (take head.headers spans)) (Ok n)
    → IfTold b (λ told. request ≡ digest_of n (drop head.len (take filled buffer) ++ told.left))
    → IfTold a (λ told. IsRequestAnswer told.left (Ok request))
asks_digest None b buffer spans head filled n request found room decides is = tt
asks_digest (Some told) None buffer spans head filled n request found room decides is = absurd found.gives
asks_digest (Some told) (Some later) buffer spans head filled n request found room decides is =
    let came = take filled buffer in
    asked told.left came later.left spans head found.parts.is.0 request found.gives.left (omega (arith, length-take filled buffer, found.fits)) room found.parts.within found.parts.is.1
    (is ∙ sym (decides.2 (drop head.len came ++ later.left)))

pub asks_now : (a b : Option LinkTold) (buffer : List ℕ) (spans : List HeaderSpan) (head : RequestSpans) (filled : ℕ) (request : Request)
    → FindsHead CoversRequest a b buffer spans head filled → length spans ≡ MAX_FIELDS
    → DecidesHead (span_bytes (take filled buffer) head.method) (span_bytes (take filled buffer) head.path) (map (header_bytes (take filled buffer)) (take head.headers spans)) (Err request)
    → IfTold a (λ told. IsRequestAnswer told.left (Ok request))
asks_now None b buffer spans head filled request found room decides = tt
asks_now (Some told) None buffer spans head filled request found room decides = absurd found.gives
asks_now (Some told) (Some later) buffer spans head filled request found room decides =
    let came = take filled buffer in
    asked told.left came later.left spans head found.parts.is.0 request found.gives.left (omega (arith, length-take filled buffer, found.fits)) room found.parts.within found.parts.is.1
    (sym (decides (drop head.len came ++ later.left)))

pub told_nothing : (a : Option LinkTold) → IfTold a (λ told. Unit {0})
told_nothing None = tt
told_nothing (Some told) = tt
