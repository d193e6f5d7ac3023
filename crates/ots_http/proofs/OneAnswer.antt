-- An input has one answer.
use Rattle.std.proofs.Common.{◌≡◌, ◌≢◌, ℕ, List, length, refl, sym, ap, ◌∙◌, arith, Result, Ok, Err}
use Rattle.httparse.proofs.GrammarLemmas.{request_unique, response_unique}
use Rattle.httparse.specs.Grammar.{status_code}
use Rattle.ots_http.specs.declared.request.Request.{Request}
use Rattle.ots_http.specs.declared.request.RequestError.{RequestError}
use Rattle.ots_http.specs.declared.request.RequestError.TheVariants.{Closed, LinkFault}
use Rattle.ots_http.specs.Fields.{names_and_values}
use Rattle.ots_http.specs.RequestTable.{IsRequest, request_by, by_head, no_head}
use Rattle.ots_http.specs.RequestRead.{IsRequestAnswer}
use Rattle.ots_http.specs.ReplyTable.{ReplyOutcome, IsOutcome, outcome_by, by_head as reply_by_head, no_head as reply_no_head}

pub one_request : (input : List ℕ) (a b : Request) → IsRequest input a → IsRequest input b → a ≡ b
one_request input a b (by_head h body has is) (by_head k body' has' is') =
    let same = request_unique input h k body body' has.reads has'.reads in
    is ∙ (λ i. request_by (same.0 i).method (same.0 i).target (names_and_values (same.0 i).fields) (same.1 i)) ∙ sym is'
one_request input a b (by_head h body has is) (no_head none is') = absurd (none h body has)
one_request input a b (no_head none is) (by_head h body has is') = absurd (none h body has)
one_request input a b (no_head none is) (no_head none' is') = is ∙ sym is'

pub one_answer : (input : List ℕ) (a b : Result Request RequestError) → IsRequestAnswer input a → IsRequestAnswer input b
    → a ≢ Err LinkFault → b ≢ Err LinkFault → a ≡ b
one_answer input (Ok a) (Ok b) p q f g = ap Ok (one_request input a b p.1 q.1)
one_answer input (Ok a) (Err Closed) p q f g = absurd (omega (arith, p.0, ap length q))
one_answer input (Ok a) (Err LinkFault) p q f g = absurd (g refl)
one_answer input (Err Closed) (Ok b) p q f g = absurd (omega (arith, q.0, ap length p))
one_answer input (Err Closed) (Err Closed) p q f g = refl
one_answer input (Err Closed) (Err LinkFault) p q f g = absurd (g refl)
one_answer input (Err LinkFault) b p q f g = absurd (f refl)

pub one_outcome : (input : List ℕ) (a b : ReplyOutcome) → IsOutcome input a → IsOutcome input b → a ≡ b
one_outcome input a b (reply_by_head h body has is) (reply_by_head k body' has' is') =
    let same = response_unique input h k body body' has.reads has'.reads in
    is ∙ (λ i. outcome_by (status_code (same.0 i)) (names_and_values (same.0 i).fields) (same.1 i)) ∙ sym is'
one_outcome input a b (reply_by_head h body has is) (reply_no_head none is') = absurd (none h body has)
one_outcome input a b (reply_no_head none is) (reply_by_head h body has is') = absurd (none h body has)
one_outcome input a b (reply_no_head none is) (reply_no_head none' is') = is ∙ sym is'
