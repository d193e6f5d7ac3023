-- Calendars that are asked one after the other, each of which has nothing of what it is asked for.
use Rattle.std.specs.Prelude.{ℕ, List, [], codes, map, replicate, Some}
use Rattle.ots_asking.specs.Conversation.{Question, query_of}
use Rattle.ots_asking.specs.declared.outcome.Outcome.{Outcome}
use Rattle.ots_asking.specs.declared.outcome.Outcome.TheVariants.{Status}
use Rattle.ots_conversation.specs.Conversation.{request_of, sent_to}
use Rattle.ots_http.specs.declared.asking.Asked.TheVariants.{Get}
use Rattle.ots_outside.specs.Dialer.{DialerTold, Sent, unconnected}

-- the reply of each
abbrev pub reply : List ℕ
reply = codes "HTTP/1.1 404 Not Found\r\n\r\n"

-- what a dialer tells with no slot connected
abbrev pub idle : List Sent → List (List ℕ) → DialerTold
idle sent replies = record { replies = Some replies; sent = Some sent; slots = λ k. unconnected }

-- what is sent to the calendar of a question
abbrev pub sent_for : Question → Sent
sent_for q = sent_to (query_of q) (request_of (query_of q))

-- before they are asked, and after that
abbrev pub before : List Question → DialerTold
before questions = idle [] (map (λ q. reply) questions)

abbrev pub after : List Question → DialerTold
after questions = idle (map sent_for questions) []

abbrev pub outcomes : List Question → List Outcome
outcomes questions = map (λ q. Status 404) questions

-- the timestamp of a digest is asked for
abbrev pub question : Question
question = record {
  address = record { text = codes "http://a"; host = codes "a"; port = 80 };
  asked = Get (replicate 32 0);
  length = 32;
  depth = 0;
}
