-- Each conversation is had, and has its outcome.
use Rattle.std.proofs.Common.{◌≡◌, ℕ, List, [], ◌∷◌, ◌++◌, codes, length, map, Some, inr, refl, sym, ap, subst, arith, append_assoc, append-nil, take_all}
use Rattle.std.proofs.lemmas.List.Elements.{All-from_recursion}
use Rattle.httparse.specs.Grammar.{ReadsResponse, ResponseHead, crlf, is_value_byte, print_response}
use Rattle.std.specs.Char.{is_ascii_digit}
use Rattle.std.specs.Prelude.{IsTrue}
use Rattle.ots_asking.specs.Conversation.{Converse, Converses, Question, query_of}
use Rattle.ots_asking.specs.Outcome.{IsOutcomeOf}
use Rattle.ots_asking.specs.declared.outcome.Outcome.TheVariants.{Status}
use Rattle.ots_conversation.specs.Conversation.{request_of, sent_to}
use Rattle.ots_examples.specs.NotFound.{after, before, idle, outcomes, reply, sent_for}
use Rattle.ots_http.specs.ReplyTable.{IsOutcome, by_head, status}
use Rattle.ots_outside.specs.Dialer.{DialerTold, Sent}

head : ResponseHead
head = record { blank = []; minor = 1; digits = codes "404"; reason = Some (codes "Not Found"); line_end = crlf; fields = []; last = crlf }

is_printed : reply ≡ print_response head ++ []
unfolding head print_response
is_printed = refl

is_head : ReadsResponse reply head []
unfolding head
is_head = (
  record {
    minor = omega arith;
    digits = (refl, All-from_recursion (λ b. IsTrue (is_ascii_digit b)) (codes "404") (refl, (refl, (refl, tt))));
    reason = All-from_recursion (λ b. IsTrue (is_value_byte b)) (codes "Not Found") (refl, (refl, (refl, (refl, (refl, (refl, (refl, (refl, (refl, tt)))))))));
    fields = λ k d less. absurd (omega arith);
  },
  is_printed,
)

is_status : IsOutcome reply (status 404)
unfolding head print_response
is_status = by_head head [] (record { reads = is_head; limits = record { short = omega arith; few = omega arith } }) refl

has_outcome : (n k : ℕ) → IsOutcomeOf n k reply (Status 404)
has_outcome n k = is_status

one_had : (q : Question) (sent : List Sent) (replies : List (List ℕ)) → Converses (λ (d : DialerTold). d) (λ d. 0) q (idle sent (reply ∷ replies)) (idle (sent ++ sent_for q ∷ []) replies) (Status 404)
one_had q sent replies = record {
  sends = record {
    prefix = inr (length (request_of (query_of q)), omega arith, ap (λ (z : List ℕ). Some (sent ++ sent_to (query_of q) z ∷ [])) (sym (take_all (length (request_of (query_of q))) (request_of (query_of q)) (omega arith))));
    whole = λ no. refl;
    replies = refl;
    slots = λ k. refl;
    later = omega arith;
  };
  outcome_is = has_outcome q.length q.depth;
  cause = λ is. absurd cc;
}

all_had : (qs : List Question) (sent : List Sent)
    → Converse (λ (d : DialerTold). d) (λ d. 0) qs (idle sent (map (λ q. reply) qs)) (idle (sent ++ map sent_for qs) []) (outcomes qs)
all_had [] sent = ap (λ (z : List Sent). idle z []) (append-nil sent)
all_had (q ∷ qs) sent = (
  idle (sent ++ sent_for q ∷ []) (map (λ q. reply) qs),
  one_had q sent (map (λ q. reply) qs),
  subst (λ (z : List Sent). Converse (λ (d : DialerTold). d) (λ d. 0) qs (idle (sent ++ sent_for q ∷ []) (map (λ q. reply) qs)) (idle z []) (outcomes qs))
      (append_assoc sent (sent_for q ∷ []) (map sent_for qs)) (all_had qs (sent ++ sent_for q ∷ [])),
)

pub each_had : (qs : List Question) → Converse (λ (d : DialerTold). d) (λ d. 0) qs (before qs) (after qs) (outcomes qs)
each_had qs = all_had qs []
