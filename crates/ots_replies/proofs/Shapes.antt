-- What words tell.
use Rattle.std.proofs.Common.{◌≡◌, ◌≤◌, ◌/◌, ◌↔◌, ℕ, Bool, true, false, List, ◌∷◌, ◌++◌, length, Option, Some, None, refl, sym, ap, subst, ◌∙◌, arith, IsTrue, length-append}
use Rattle.std.specs.Prelude.{MatchResult, IfSome, IfNone, Result, Ok, Err, codes}
use Rattle.std.specs.Result.{result_ok}
use Rattle.hex.specs.Hex.{encode_lower}
use Rattle.ots_sheet.specs.declared.request.Kind.{Kind}
use Rattle.ots_calendar_url.specs.declared.url.Scheme.{Scheme}
use Rattle.ots_calendar_url.specs.CalendarUrl.{IsUrl}
use Rattle.ots_calendar_url.proofs.Bytes.{above_url}
use Rattle.ots_sheet.specs.Request.{HasLength, blank, kind_word}
use Rattle.ots_sheet.specs.Reply.{Answer, IsAnswer, IsReply, ReplyParts, body_text, code_text, reply_line, reply_words}
use Rattle.ots_sheet.proofs.OneSheet.{above_code, kind_same, no_blank, spread}
use Rattle.ots_sheet.proofs.Words.{above_hex, above_kind}
use Rattle.ots_replies.specs.declared.shape.Shape.{Shape}
use Rattle.ots_replies.specs.declared.words.Words.{Words}
use Rattle.ots_replies.specs.inner.Words.{Cuts, HasWords}
use Rattle.ots_sheet.specs.Reply as parts
use Rattle.ots_replies.specs.inner.Shape.{AreWordsOf, HasShape, IsBody, IsHex, IsMessage, IsOther, NoOutcome, TellsOutcome, TellsWords}
use Rattle.ots_replies.proofs.Blanks.{one_cut}
use Rattle.ots_replies.proofs.Digits.{half, hex_length, no_truth}

-- ---- a message and a body

pub message_is : (kind : Kind) (digits : List ℕ) (r : Bool) → HasLength kind (length digits / 2) → IsTrue r ↔ IsHex digits → IsTrue r ↔ IsMessage kind digits
message_is kind digits r long tests = (
  λ yes. let h = tests.0 yes in record { hex = h; long = subst (HasLength kind) (half digits h.bytes h.text) long },
  λ m. tests.1 m.hex,
)

pub message_not : (kind : Kind) (digits : List ℕ) (r : Bool) → r ≡ false → IsTrue r ↔ HasLength kind (length digits / 2) → IsTrue r ↔ IsMessage kind digits
message_not kind digits r fails tests = (
  λ yes. absurd (no_truth (subst IsTrue fails yes)),
  λ m. tests.1 (subst (HasLength kind) (sym (half digits m.hex.bytes m.hex.text)) m.long),
)

pub body_is : (digits : List ℕ) (r : Bool) → 1 ≤ length digits / 2 → length digits / 2 ≤ 10000 → IsTrue r ↔ IsHex digits → IsTrue r ↔ IsBody digits
body_is digits r least most tests = (
  λ yes. let h = tests.0 yes in let same = half digits h.bytes h.text in record { hex = h; is = (omega (arith, same, least), omega (arith, same, most), h.are) },
  λ b. tests.1 b.hex,
)

pub body_not : (digits : List ℕ) → (1 ≤ length digits / 2 → length digits / 2 ≤ 10000 → ⊥) → IsTrue false ↔ IsBody digits
body_not digits none = (
  λ yes. absurd (no_truth yes),
  λ b.
      let same = half digits b.hex.bytes b.hex.text in
      let least = b.is.0 in
      let most = b.is.1 in
      absurd (none (omega (arith, same, least)) (omega (arith, same, most))),
)

-- ---- the words of a line

one_kind : (j k : Kind) (word : List ℕ) → word ≡ kind_word j → word ≡ kind_word k → j ≡ k
one_kind j k word p q = kind_same j k (sym p ∙ q)

pub not_message : (kind : Kind) (a : Answer) (word digits : List ℕ) (r : Bool) → r ≡ false → IsTrue r ↔ IsMessage kind digits → word ≡ kind_word kind → IsAnswer a
    → word ≡ kind_word a.request.kind → digits ≡ encode_lower a.request.message → ⊥
not_message kind a word digits r fails tests named is kind_is text =
    let same = one_kind a.request.kind kind word kind_is named in
    no_truth (subst IsTrue fails (tests.1 (record {
      hex = record { bytes = a.request.message; are = is.0.bytes; text = text };
      long = subst (λ (k : Kind). HasLength k (length a.request.message)) same is.0.long;
    })))

pub words_told : (w : Words) (s : Shape) (scheme : Scheme) (r : Bool) → s.url.now ≡ w.url.now → s.message.now ≡ w.message.now → w.kind.now ≡ kind_word s.kind
    → IsUrl w.url.now scheme → r ≡ true → IsTrue r ↔ IsMessage s.kind w.message.now → TellsOutcome w.code.now w.body.now s.outcome → TellsWords w s
words_told w s scheme r url_is message_is named url holds tests outcome =
    let m = tests.0 holds in record {
      answer = record { request = record { kind = s.kind; url = w.url.now; message = m.hex.bytes }; reply = outcome.reply };
      is = (record { scheme = scheme; url = url; long = m.long; bytes = m.hex.are }, outcome.is);
      words = record { kind = named; url = refl; message = m.hex.text; code = outcome.code_is; body = outcome.body_is };
      shows = record { kind = refl; url = url_is; message = message_is ∙ m.hex.text; outcome = outcome.tells };
      same_url = url_is;
    }

-- the words that a line of an answer has
abbrev five : List ℕ → List ℕ → List ℕ → List ℕ → List ℕ → List ℕ
five kind url message code body = kind ++ blank ∷ (url ++ blank ∷ (message ++ blank ∷ (code ++ blank ∷ body)))

answer_words : (line : List ℕ) (a : Answer) → IsAnswer a → line ≡ reply_line a
    → HasWords line (kind_word a.request.kind) a.request.url (encode_lower a.request.message) (code_text a.reply) (body_text a.reply)
answer_words line a is text = record {
  after_kind = a.request.url ++ blank ∷ (encode_lower a.request.message ++ blank ∷ reply_words a.reply);
  after_url = encode_lower a.request.message ++ blank ∷ reply_words a.reply;
  after_message = reply_words a.reply;
  first = record { whole = text ∙ spread a.request (reply_words a.reply); no_blank = no_blank (kind_word a.request.kind) (above_kind a.request.kind) };
  second = record { whole = refl; no_blank = no_blank a.request.url (above_url a.request.url is.0.scheme is.0.url) };
  third = record { whole = refl; no_blank = no_blank (encode_lower a.request.message) (above_hex a.request.message is.0.bytes) };
  fourth = record { whole = refl; no_blank = no_blank (code_text a.reply) (above_code a.reply is.1) };
}

pub no_words : (line : List ℕ) (a : Answer) → ((kind url message code body : List ℕ) → HasWords line kind url message code body → ⊥) → IsAnswer a → line ≡ reply_line a → ⊥
no_words line a none is text = none (kind_word a.request.kind) a.request.url (encode_lower a.request.message) (code_text a.reply) (body_text a.reply) (answer_words line a is text)

same_words : (line : List ℕ) (w : Words) (a : Answer) → HasWords line w.kind.now w.url.now w.message.now w.code.now w.body.now → IsAnswer a → line ≡ reply_line a
    → AreWordsOf w a
same_words line w a h is text =
    let k = answer_words line a is text in
    let one = one_cut line w.kind.now h.after_kind (kind_word a.request.kind) k.after_kind h.first k.first in
    let two = one_cut h.after_kind w.url.now h.after_url a.request.url k.after_url h.second (subst (λ (z : List ℕ). Cuts z a.request.url k.after_url) (sym one.1) k.second) in
    let three = one_cut h.after_url w.message.now h.after_message (encode_lower a.request.message) k.after_message h.third
    (subst (λ (z : List ℕ). Cuts z (encode_lower a.request.message) k.after_message) (sym two.1) k.third) in
    let four = one_cut h.after_message w.code.now w.body.now (code_text a.reply) (body_text a.reply) h.fourth
    (subst (λ (z : List ℕ). Cuts z (code_text a.reply) (body_text a.reply)) (sym three.1) k.fourth) in
    record { kind = one.0; url = two.0; message = three.0; code = four.0; body = four.1 }

pub not_shaped : (line : List ℕ) (w : Words) (o : Option Shape) → HasWords line w.kind.now w.url.now w.message.now w.code.now w.body.now
    → IfNone o ((a : Answer) → IsAnswer a → AreWordsOf w a → ⊥) → IfNone o ((a : Answer) → IsAnswer a → line ≡ reply_line a → ⊥)
not_shaped line w None h none = λ a is text. none a is (same_words line w a h is text)
not_shaped line w (Some s) h none = tt

line_of : (line : List ℕ) (w : Words) (a : Answer) → HasWords line w.kind.now w.url.now w.message.now w.code.now w.body.now → AreWordsOf w a → line ≡ reply_line a
line_of line w a h are =
    h.first.whole ∙ ap (λ (z : List ℕ). w.kind.now ++ blank ∷ z) (h.second.whole ∙ ap (λ (z : List ℕ). w.url.now ++ blank ∷ z)
    (h.third.whole ∙ ap (λ (z : List ℕ). w.message.now ++ blank ∷ z) h.fourth.whole))
    ∙ (λ i. five (are.kind i) (are.url i) (are.message i) (are.code i) (are.body i)) ∙ sym (spread a.request (reply_words a.reply))

pub shaped : (line : List ℕ) (w : Words) (o : Option Shape) → HasWords line w.kind.now w.url.now w.message.now w.code.now w.body.now → IfSome o (TellsWords w)
    → IfSome o (HasShape line)
shaped line w None h told = tt
shaped line w (Some s) h told = record { answer = told.answer; is = told.is; text = line_of line w told.answer h told.words; shows = told.shows }

pub short : (line : List ℕ) (w : Words) (o : Option Shape) → HasWords line w.kind.now w.url.now w.message.now w.code.now w.body.now → IfSome o (TellsWords w)
    → IfSome o (λ s. length s.url.now ≤ length line)
short line w None h told = tt
short line w (Some s) h told = omega (
  arith,
  ap length told.same_url,
  ap length h.first.whole,
  length-append w.kind.now (blank ∷ h.after_kind),
  ap length h.second.whole,
  length-append w.url.now (blank ∷ h.after_url),
)

-- ---- a reply

pub ok_case : {T E : Type 0} (P : T → Type 0) (Q : E → Type 0) (r : Result T E) (x : T) → result_ok r ≡ Some x → MatchResult r P Q → P x
ok_case P Q (Ok y) x is h = let same : y ≡ x = cc in subst P same h
ok_case P Q (Err e) x is h = absurd cc

pub err_case : {T E : Type 0} (P : T → Type 0) (Q : E → Type 0) (r : Result T E) → result_ok r ≡ None → MatchResult r P Q → (e : E) × Q e
err_case P Q (Ok y) is h = absurd cc
err_case P Q (Err e) is h = (e, h)

no_dash : (bytes : List ℕ) → codes "-" ≡ encode_lower bytes → ⊥
no_dash bytes same = absurd (let long = hex_length (codes "-") bytes same in omega (arith, long))

pub no_status : (code : List ℕ) → (code ≡ codes "000" → ⊥) → ((status : ℕ) → IsOther code status → ⊥) → NoOutcome code (codes "-")
no_status code other none (parts.Body bytes) is c b = no_dash bytes b
no_status code other none (parts.Status status) is c b = none status (record { text = c; is = is })
no_status code other none parts.Nothing is c b = other c

pub no_body : (code body : List ℕ) → (body ≡ codes "-" → ⊥) → (code ≡ codes "200" → IsBody body → ⊥) → NoOutcome code body
no_body code body some none (parts.Body bytes) is c b = none c (record { hex = record { bytes = bytes; are = is.2; text = b }; is = is })
no_body code body some none (parts.Status status) is c b = some b
no_body code body some none parts.Nothing is c b = some b
