-- Answers in one list of bytes.
use Rattle.std.proofs.Common.{◌≡◌, ◌≤◌, ◌/◌, ◌+◌, ℕ, List, [], ◌∷◌, ◌++◌, length, map, take, drop, refl, sym, ap, subst, ◌∙◌, arith, append_assoc, append-nil, length-append, length-drop}
use Rattle.std.specs.Borrow.{Bor}
use Rattle.std.specs.List.{AllByRecursion}
use Rattle.std.proofs.lemmas.List.{drop-append-le, drop_at, drop-drop, map-append, take-append-le, take_all, take_at}
use Rattle.hex.specs.Hex.{IsBytes, encode_lower}
use Rattle.ots_sheet.specs.declared.request.Kind.{Kind}
use Rattle.ots_sheet.specs.declared.request.Kind.TheVariants.{Get, Post}
use Rattle.ots_sheet.specs.Request.{HasLength}
use Rattle.ots_sheet.specs.Reply.{Answer, IsAnswer, IsReply, ReplyParts}
use Rattle.ots_sheet.specs.Reply as parts
use Rattle.ots_replies.specs.declared.shape.Outcome.{Outcome}
use Rattle.ots_replies.specs.declared.shape.Outcome.TheVariants as outcome
use Rattle.ots_replies.specs.declared.shape.Shape.{Shape}
use Rattle.ots_replies.specs.declared.store.Kept.{Kept}
use Rattle.ots_replies.specs.declared.store.KeptReply.{KeptReply}
use Rattle.ots_replies.specs.declared.store.KeptReply.TheVariants.{Body, Status, Nothing}
use Rattle.ots_replies.specs.inner.Kept.{Adds, IsWithin, KeepsReply, answer_in, body_bytes, body_length, reply_at}
use Rattle.ots_replies.specs.inner.Shape.{Shows, Tells}
use Rattle.ots_replies.proofs.Digits.{half}

-- ---- bytes after others

pub pushed : (old more resized there new filling : List ℕ) (start count long : ℕ) → start ≡ length old → count ≡ length more → long ≡ start + count
    → resized ≡ take (start + count) old ++ filling → there ≡ resized → new ≡ take start there ++ more
    → take long (new ++ drop (length new) resized) ≡ old ++ more
pushed old more resized there new filling start count long starts counts longs grown same is =
    let front : take start resized ≡ old =
    ap (take start) (grown ∙ ap (λ (z : List ℕ). z ++ filling) (take_all (start + count) old (omega (arith, starts)))) ∙ take_at old filling start (sym starts) in
    let all : new ≡ old ++ more = is ∙ ap (λ (z : List ℕ). take start z ++ more) same ∙ ap (λ (z : List ℕ). z ++ more) front in
    take_at new (drop (length new) resized) long (ap length all ∙ length-append old more ∙ omega (arith, starts, counts, longs)) ∙ all

pub body_small : (o : Outcome) (digits : Bor (List ℕ)) (r : ReplyParts) → o ≡ outcome.Body digits → Tells o r → IsReply r → length digits.now / 2 ≤ 10000
body_small o digits r is tells good = by r (subst (λ (z : Outcome). Tells z r) is tells) good
  where
    by : (r : ReplyParts) → Tells (outcome.Body digits) r → IsReply r → length digits.now / 2 ≤ 10000
    by (parts.Body bytes) tells good = let most = good.1 in omega (arith, half digits.now bytes tells, most)
    by (parts.Status code) tells good = absurd tells
    by parts.Nothing tells good = absurd tells

abbrev pub Pushes : List ℕ → List ℕ → List ℕ → Type 0
Pushes old new digits = (more : List ℕ) → IsBytes more → digits ≡ encode_lower more → new ≡ old ++ more

two_added : (old one two url message rest : List ℕ) → one ≡ old ++ url → two ≡ one ++ message → two ++ rest ≡ old ++ (url ++ (message ++ rest))
two_added old one two url message rest first second =
    ap (λ (z : List ℕ). z ++ rest) (second ∙ ap (λ (z : List ℕ). z ++ message) first)
    ∙ append_assoc (old ++ url) message rest ∙ append_assoc old url (message ++ rest)

pub adds_body : (s : Shape) (a : Answer) (digits : Bor (List ℕ)) (old one two three : List ℕ) → s.outcome ≡ outcome.Body digits → IsAnswer a → Shows s a
    → one ≡ old ++ s.url.now → Pushes one two s.message.now → Pushes two three digits.now → Adds old three a (Body (length digits.now / 2))
adds_body s a digits old one two three is good shows first second third =
    let message = second a.request.message good.0.bytes shows.message in
    by a.reply (subst (λ (z : Outcome). Tells z a.reply) is shows.outcome) good.1 message
  where
    by : (r : ReplyParts) → Tells (outcome.Body digits) r → IsReply r → two ≡ one ++ a.request.message
        → Adds old three (record { request = a.request; reply = r }) (Body (length digits.now / 2))
    by (parts.Body bytes) tells fine message = record {
      bytes = third bytes fine.2 tells ∙ two_added old one two a.request.url a.request.message bytes (first ∙ ap (λ (z : List ℕ). old ++ z) shows.url) message;
      keeps = half digits.now bytes tells;
    }
    by (parts.Status code) tells fine message = absurd tells
    by parts.Nothing tells fine message = absurd tells

pub adds_status : (s : Shape) (a : Answer) (code : ℕ) (old one two : List ℕ) → s.outcome ≡ outcome.Status code → IsAnswer a → Shows s a
    → one ≡ old ++ s.url.now → Pushes one two s.message.now → Adds old two a (Status code)
adds_status s a code old one two is good shows first second =
    let message = second a.request.message good.0.bytes shows.message in
    by a.reply (subst (λ (z : Outcome). Tells z a.reply) is shows.outcome) message
  where
    by : (r : ReplyParts) → Tells (outcome.Status code) r → two ≡ one ++ a.request.message → Adds old two (record { request = a.request; reply = r }) (Status code)
    by (parts.Body bytes) tells message = absurd tells
    by (parts.Status other) tells message = record {
      bytes = sym (append-nil two) ∙ two_added old one two a.request.url a.request.message [] (first ∙ ap (λ (z : List ℕ). old ++ z) shows.url) message;
      keeps = tells;
    }
    by parts.Nothing tells message = absurd tells

pub adds_nothing : (s : Shape) (a : Answer) (old one two : List ℕ) → s.outcome ≡ outcome.Nothing → IsAnswer a → Shows s a
    → one ≡ old ++ s.url.now → Pushes one two s.message.now → Adds old two a Nothing
adds_nothing s a old one two is good shows first second =
    let message = second a.request.message good.0.bytes shows.message in
    by a.reply (subst (λ (z : Outcome). Tells z a.reply) is shows.outcome) message
  where
    by : (r : ReplyParts) → Tells outcome.Nothing r → two ≡ one ++ a.request.message → Adds old two (record { request = a.request; reply = r }) Nothing
    by (parts.Body bytes) tells message = absurd tells
    by (parts.Status other) tells message = absurd tells
    by parts.Nothing tells message = record {
      bytes = sym (append-nil two) ∙ two_added old one two a.request.url a.request.message [] (first ∙ ap (λ (z : List ℕ). old ++ z) shows.url) message;
      keeps = tt;
    }

-- ---- one answer more

pub all_within : (n m : ℕ) (index : List Kept) → n ≤ m → AllByRecursion (IsWithin n) index → AllByRecursion (IsWithin m) index
all_within n m [] le all = tt
all_within n m (k ∷ index) le all = (let here = all.0 in omega (arith, le, here), all_within n m index le all.1)

pub within_more : (n : ℕ) (index : List Kept) (k : Kept) → AllByRecursion (IsWithin n) index → IsWithin n k → AllByRecursion (IsWithin n) (index ++ k ∷ [])
within_more n [] k all is = (is, tt)
within_more n (x ∷ index) k all is = (all.0, within_more n index k all.1 is)

piece : (n at : ℕ) (bytes more : List ℕ) → at + n ≤ length bytes → take n (drop at (bytes ++ more)) ≡ take n (drop at bytes)
piece n at bytes more le =
    ap (take n) (drop-append-le at bytes more (omega (arith, le))) ∙ take-append-le n (drop at bytes) more (omega (arith, le, length-drop at bytes))

reply_stays : (r : KeptReply) (at : ℕ) (bytes more : List ℕ) → at + body_length r ≤ length bytes → reply_at r (drop at (bytes ++ more)) ≡ reply_at r (drop at bytes)
reply_stays (Body n) at bytes more le = ap parts.Body (piece n at bytes more le)
reply_stays (Status code) at bytes more le = refl
reply_stays Nothing at bytes more le = refl

answer_stays : (k : Kept) (bytes more : List ℕ) → IsWithin (length bytes) k → answer_in (bytes ++ more) k ≡ answer_in bytes k
answer_stays k bytes more is =
    let url = piece k.url k.start bytes more (omega (arith, is)) in
    let message = piece k.message (k.start + k.url) bytes more (omega (arith, is)) in
    let reply = reply_stays k.reply (k.start + k.url + k.message) bytes more is in
    λ i. record { request = record { kind = k.kind; url = url i; message = message i }; reply = reply i }

pub answers_stay : (index : List Kept) (bytes more : List ℕ) → AllByRecursion (IsWithin (length bytes)) index → map (answer_in (bytes ++ more)) index ≡ map (answer_in bytes) index
answers_stay [] bytes more all = refl
answers_stay (k ∷ index) bytes more all = λ i. answer_stays k bytes more all.0 i ∷ answers_stay index bytes more all.1 i

same_reply : (r : KeptReply) (q : ReplyParts) → KeepsReply r q → reply_at r (body_bytes q) ≡ q
same_reply (Body n) (parts.Body bytes) is = ap parts.Body (take_all n bytes (omega (arith, is)))
same_reply (Body n) (parts.Status code) is = absurd is
same_reply (Body n) parts.Nothing is = absurd is
same_reply (Status n) (parts.Body bytes) is = absurd is
same_reply (Status n) (parts.Status code) is = ap parts.Status is
same_reply (Status n) parts.Nothing is = absurd is
same_reply Nothing (parts.Body bytes) is = absurd is
same_reply Nothing (parts.Status code) is = absurd is
same_reply Nothing parts.Nothing is = refl

kept_length : (r : KeptReply) (q : ReplyParts) → KeepsReply r q → body_length r ≡ length (body_bytes q)
kept_length (Body n) (parts.Body bytes) is = is
kept_length (Body n) (parts.Status code) is = absurd is
kept_length (Body n) parts.Nothing is = absurd is
kept_length (Status n) (parts.Body bytes) is = absurd is
kept_length (Status n) (parts.Status code) is = refl
kept_length (Status n) parts.Nothing is = absurd is
kept_length Nothing (parts.Body bytes) is = absurd is
kept_length Nothing (parts.Status code) is = absurd is
kept_length Nothing parts.Nothing is = refl

module _ (old new : List ℕ) (a : Answer) (k : Kept) (adds : Adds old new a k.reply) (starts : k.start ≡ length old) (kind : k.kind ≡ a.request.kind)
    (url : k.url ≡ length a.request.url) (message : k.message ≡ length a.request.message) where
  after : drop (length old) new ≡ a.request.url ++ (a.request.message ++ body_bytes a.reply)
  after = ap (drop (length old)) adds.bytes ∙ drop_at old (a.request.url ++ (a.request.message ++ body_bytes a.reply)) (length old) refl

  after_url : drop (k.start + k.url) new ≡ a.request.message ++ body_bytes a.reply
  after_url =
      ap (λ (n : ℕ). drop n new) (omega (arith, starts, url)) ∙ sym (drop-drop (length a.request.url) (length old) new)
      ∙ ap (drop (length a.request.url)) after ∙ drop_at a.request.url (a.request.message ++ body_bytes a.reply) (length a.request.url) refl

  after_message : drop (k.start + k.url + k.message) new ≡ body_bytes a.reply
  after_message =
      sym (drop-drop k.message (k.start + k.url) new) ∙ ap (drop k.message) after_url ∙ drop_at a.request.message (body_bytes a.reply) k.message (sym message)

  pub kept_within : IsWithin (length new) k
  kept_within =
      omega (
        arith,
        starts,
        url,
        message,
        kept_length k.reply a.reply adds.keeps,
        ap length adds.bytes,
        length-append old (a.request.url ++ (a.request.message ++ body_bytes a.reply)),
        length-append a.request.url (a.request.message ++ body_bytes a.reply),
        length-append a.request.message (body_bytes a.reply),
      )

  pub kept_answer : answer_in new k ≡ a
  kept_answer =
      let urls = ap (take k.url) (ap (λ (n : ℕ). drop n new) starts ∙ after) ∙ take_at a.request.url (a.request.message ++ body_bytes a.reply) k.url (sym url) in
      let messages = ap (take k.message) after_url ∙ take_at a.request.message (body_bytes a.reply) k.message (sym message) in
      let reply = ap (reply_at k.reply) after_message ∙ same_reply k.reply a.reply adds.keeps in
      λ i. record { request = record { kind = kind i; url = urls i; message = messages i }; reply = reply i }

  pub kept_more : (index all : List Kept) → AllByRecursion (IsWithin (length old)) index → all ≡ index ++ k ∷ [] → map (answer_in new) all ≡ map (answer_in old) index ++ a ∷ []
  kept_more index all within is =
      ap (map (answer_in new)) is ∙ map-append (answer_in new) index (k ∷ [])
      ∙ (λ i. (ap (λ (z : List ℕ). map (answer_in z) index) adds.bytes ∙ answers_stay index old (a.request.url ++ (a.request.message ++ body_bytes a.reply)) within) i ++ kept_answer i ∷ [])

pub message_small : (kind : Kind) (digits bytes : List ℕ) → digits ≡ encode_lower bytes → HasLength kind (length bytes) → length digits / 2 ≤ 4096
message_small Get digits bytes is long = let most = long.1 in omega (arith, half digits bytes is, most)
message_small Post digits bytes is long = omega (arith, half digits bytes is, long)
