-- What is read of a text.
use Rattle.std.proofs.Common.{◌≡◌, ◌≢◌, ◌<◌, ◌≤◌, ◌+◌, ℕ, suc, Bool, true, false, List, [], ◌∷◌, ◌++◌, length, take, drop, get_or, Option, Some, None, refl, sym, ap, subst, ◌∙◌, arith, lit<, append_assoc, append-nil, length-append}
use Rattle.std.specs.Prelude.{codes, decimal, unwrap_or, bytes_eq, Result, Ok, Err, IsErrAnd}
use Rattle.std.specs.Io.KnownBytes.{IsAtEnd}
use Rattle.std.specs.Cmp.Lexicographic.{bytes_decides}
use Rattle.std.proofs.lemmas.Fmt.{length-decimal-le}
use Rattle.std.proofs.lemmas.List.{take-append-drop}
use Rattle.hex.specs.Hex.{encode_lower, lower_digits}
use Rattle.hex.proofs.HexLemmas.{length-encode_with}
use Rattle.sha2.specs.Sha256.{sha256}
use Rattle.sha2.proofs.Facts256.{length-sha256}
use Rattle.ots_base.specs.Told.{IfTold}
use Rattle.ots_outside.specs.Streams.{Gives, Gives-trans}
use Rattle.ots_calendar_url.proofs.Bytes.{url_short}
use Rattle.ots_line_reader.specs.declared.reader.Found.{Found}
use Rattle.ots_line_reader.specs.declared.reader.Found.TheVariants.{Line, End, Cut, Long}
use Rattle.ots_line_reader.specs.Lines.{Advances, IsFound, Lines, NoFeed, given, to_come}
use Rattle.ots_sheet.specs.declared.request.Kind.{Kind}
use Rattle.ots_sheet.specs.declared.request.Kind.TheVariants.{Get, Post}
use Rattle.ots_sheet.specs.declared.limits.TheConstants.{MAX_SHEET}
use Rattle.ots_sheet.specs.Request.{HasLength, blank, kind_word, request_line}
use Rattle.ots_sheet.specs.Reply.{Answer, IsAnswer, IsReply, ReplyParts, Body, Status, Nothing, body_text, code_text, reply_line, reply_words}
use Rattle.ots_sheet.specs.Sheet.{AreAnswers, Fits, FitsSheet, IsBadSheet, IsReplies, neither, follows, lines_text, reply_lines, reply_sheet, sum_line}
use Rattle.ots_sheet.proofs.Lines.{lines_append}
use Rattle.ots_sheet.proofs.OneSheet.{answer_no_feed, few_lines, sum_no_feed}
use Rattle.ots_sheet.proofs.Words.{same_until}
use Rattle.ots_replies.specs.declared.error.SheetError.{SheetError}
use Rattle.ots_replies.specs.declared.error.SheetError.TheVariants.{BadSheet, OutOfMemory, ReadFault}
use Rattle.ots_replies.specs.declared.reading.Answers.{Answers}
use Rattle.ots_replies.specs.Replies.{GivesReplies, ReadsReplies}
use Rattle.ots_replies.specs.inner.Reading.{HasCome, HasComeTo, IsBadLeft, IsEnd, ReadsAnswers, TakesAnswer, TakesOne}
use Rattle.ots_replies.proofs.Taken.{is_last}
use Rattle.ots_replies.proofs.Whole.{begun_no_answer, next_is, sum_is, text_append, text_of}

-- ---- what is left of the text

abbrev pub text_left : Lines → Option (List ℕ) → List ℕ
text_left lines now = lines.held ++ unwrap_or now []

pub told_is : (left now : Option (List ℕ)) (lines : Lines) (came : List ℕ) → Gives left (to_come lines now) came → IfTold left (λ b. b ≡ came ++ text_left lines now)
told_is None now lines came gave = tt
told_is (Some b) None lines came gave = absurd gave
told_is (Some b) (Some r) lines came gave = gave

end_is : (now : Option (List ℕ)) → IsAtEnd now → unwrap_or now [] ≡ []
end_is None end = refl
end_is (Some r) end = end

-- ---- a line that is neither an answer nor the sum

abbrev pub NoAnswer : List Answer → List ℕ → Type 0
NoAnswer xs line = (a : Answer) → AreAnswers (xs ++ a ∷ []) → Fits (reply_lines (xs ++ a ∷ [])) → line ≡ reply_line a → ⊥

abbrev pub NoSum : List Answer → List ℕ → Type 0
NoSum xs line = FitsSheet (reply_lines xs) → line ≡ sum_line (reply_lines xs) → ⊥

split : (xs : List Answer) (line rest : List ℕ) → (text_of xs ++ (line ++ 10 ∷ [])) ++ rest ≡ text_of xs ++ (line ++ 10 ∷ rest)
split xs line rest = append_assoc (text_of xs) (line ++ 10 ∷ []) rest ∙ ap (λ (z : List ℕ). text_of xs ++ z) (append_assoc line (10 ∷ []) rest)

line_bad : (text : List ℕ) (xs : List Answer) (line rest : List ℕ) → text ≡ text_of xs ++ (line ++ 10 ∷ rest) → AreAnswers xs → Fits (reply_lines xs) → NoFeed line
    → NoAnswer xs line → NoSum xs line → IsBadSheet text (length xs + 1)
line_bad text xs line rest whole good fits clean none nor =
    neither xs (line ++ 10 ∷ rest) (record { good = good; fits = fits; whole = whole }) refl
    (λ more after b.
    none more b.good b.fits (same_until 10 line (reply_line more) rest after clean (answer_no_feed more (is_last xs more b.good))
    (next_is text xs more (line ++ 10 ∷ rest) after whole b)).0)
    (λ after b.
    let fine = b.replies.fits in
    nor fine (same_until 10 line (sum_line (reply_lines xs)) rest after clean (sum_no_feed (reply_lines xs) (few_lines (reply_lines xs) fine))
    (sum_is text xs (line ++ 10 ∷ rest) after whole b)).0)

pub line_is_bad : (left now : Option (List ℕ)) (lines : Lines) (xs : List Answer) (number : ℕ) → Gives left (to_come lines now) (text_of xs ++ (lines.line ++ 10 ∷ []))
    → number ≡ length xs + 1 → AreAnswers xs → Fits (reply_lines xs) → NoFeed lines.line → NoAnswer xs lines.line → NoSum xs lines.line → IsBadLeft left number
line_is_bad left now lines xs number gave at good fits clean none nor =
    let came = text_of xs ++ (lines.line ++ 10 ∷ []) in
    record {
      text = came ++ text_left lines now;
      told = told_is left now lines came gave;
      bad = subst (IsBadSheet (came ++ text_left lines now)) (sym at)
          (line_bad (came ++ text_left lines now) xs lines.line (text_left lines now) (split xs lines.line (text_left lines now)) good fits clean none nor);
    }

-- ---- what is left is no line

before_feed : (bytes prefix more after : List ℕ) → NoFeed bytes → bytes ++ more ≡ prefix ++ 10 ∷ after → length bytes ≤ length prefix
before_feed [] prefix more after none same = omega arith
before_feed (b ∷ bytes) [] more after none same = absurd (none.0 (ap (λ (z : List ℕ). get_or z 0 0) same))
before_feed (b ∷ bytes) (c ∷ prefix) more after none same =
    let rest = before_feed bytes prefix more after none.1 (ap (λ (z : List ℕ). drop 1 z) same) in
    omega (arith, rest)

abbrev NoLine : List ℕ → Type 0
NoLine rest = (line after : List ℕ) → length line < 65536 → rest ≡ line ++ 10 ∷ after → ⊥

ended_no_line : (held : List ℕ) (now : Option (List ℕ)) → NoFeed held → IsAtEnd now → NoLine (held ++ unwrap_or now [])
ended_no_line held now clean end line after short same =
    let whole : held ++ [] ≡ line ++ 10 ∷ after = ap (λ (z : List ℕ). held ++ z) (sym (end_is now end)) ∙ same in
    absurd (omega (arith, before_feed held line [] after clean whole, ap length whole, length-append held [], length-append line (10 ∷ after)))

long_no_line : (held more : List ℕ) → NoFeed held → length held ≡ 65536 → NoLine (held ++ more)
long_no_line held more clean long line after short same = absurd (omega (arith, before_feed held line more after clean same, long, short))

-- ---- lines are short

kind_short : (k : Kind) → length (kind_word k) ≤ 4
kind_short Get = omega arith
kind_short Post = omega arith

message_short : (k : Kind) (n : ℕ) → HasLength k n → n ≤ 4096
message_short Get n long = long.1
message_short Post n long = omega (arith, long)

code_short : (r : ReplyParts) → IsReply r → length (code_text r) ≤ 3
code_short (Body bytes) is = omega arith
code_short (Status c) is = let most = is.1 in length-decimal-le 3 c (lit< tt) (omega (arith, most)) (omega (arith, most))
code_short Nothing is = omega arith

body_short : (r : ReplyParts) → IsReply r → length (body_text r) ≤ 20000
body_short (Body bytes) is = let most = is.1 in omega (arith, length-encode_with lower_digits bytes, most)
body_short (Status c) is = omega arith
body_short Nothing is = omega arith

answer_short : (a : Answer) → IsAnswer a → length (reply_line a) < 65536
answer_short a is =
    let r = a.request in
    omega (
      arith,
      length-append (request_line r) (blank ∷ reply_words a.reply),
      length-append (kind_word r.kind) (blank ∷ (r.url ++ blank ∷ encode_lower r.message)),
      length-append r.url (blank ∷ encode_lower r.message),
      length-encode_with lower_digits r.message,
      length-append (code_text a.reply) (blank ∷ body_text a.reply),
      kind_short r.kind,
      url_short r.url is.0.scheme is.0.url,
      message_short r.kind (length r.message) is.0.long,
      code_short a.reply is.1,
      body_short a.reply is.1,
    )

sum_short : (lines : List (List ℕ)) → FitsSheet lines → length (sum_line lines) < 65536
sum_short lines fits =
    let few = fits.few in
    let count = length-append lines (sum_line lines ∷ []) in
    omega (
      arith,
      length-append (codes "sum ") (decimal (length lines) ++ blank ∷ encode_lower (sha256 (lines_text lines))),
      length-append (decimal (length lines)) (blank ∷ encode_lower (sha256 (lines_text lines))),
      length-encode_with lower_digits (sha256 (lines_text lines)),
      length-sha256 (lines_text lines),
      length-decimal-le 7 (length lines) (lit< tt) (omega (arith, few, count)) (omega (arith, few, count)),
    )

rest_bad : (text : List ℕ) (xs : List Answer) (rest : List ℕ) → text ≡ text_of xs ++ rest → AreAnswers xs → Fits (reply_lines xs) → NoLine rest → IsBadSheet text (length xs + 1)
rest_bad text xs rest whole good fits none =
    neither xs rest (record { good = good; fits = fits; whole = whole }) refl
    (λ more after b. none (reply_line more) after (answer_short more (is_last xs more b.good)) (next_is text xs more rest after whole b))
    (λ after b. none (sum_line (reply_lines xs)) after (sum_short (reply_lines xs) b.replies.fits) (sum_is text xs rest after whole b))

no_line_left : (new : Lines) (now : Option (List ℕ)) (f : Found) → IsFound new now f → (f ≡ Line → ⊥) → NoLine (text_left new now)
no_line_left new now Line found other = absurd (other refl)
no_line_left new now End found other = ended_no_line new.held now (subst NoFeed (sym found.0) tt) found.1
no_line_left new now Cut found other = ended_no_line new.held now found.0 found.3
no_line_left new now Long found other = long_no_line new.held (unwrap_or now []) found.0 found.1

nothing_given : (new : Lines) (f : Found) → (f ≡ Line → ⊥) → given new (Ok f) ≡ []
nothing_given new Line other = absurd (other refl)
nothing_given new End other = refl
nothing_given new Cut other = refl
nothing_given new Long other = refl

pub no_line_bad : (left mid now : Option (List ℕ)) (old new : Lines) (f : Found) (xs : List Answer) (number : ℕ) → HasCome left mid old xs → Advances old new mid now (Ok f)
    → (f ≡ Line → ⊥) → number ≡ length xs + 1 → IsBadLeft left number
no_line_bad left mid now old new f xs number come step other at =
    let gave = Gives-trans left (to_come old mid) (to_come new now) (text_of xs) (given new (Ok f)) come.came step.gave in
    let came : text_of xs ++ given new (Ok f) ≡ text_of xs = ap (λ (z : List ℕ). text_of xs ++ z) (nothing_given new f other) ∙ append-nil (text_of xs) in
    let all = subst (Gives left (to_come new now)) came gave in
    record {
      text = text_of xs ++ text_left new now;
      told = told_is left now new (text_of xs) all;
      bad = subst (IsBadSheet (text_of xs ++ text_left new now)) (sym at)
          (rest_bad (text_of xs ++ text_left new now) xs (text_left new now) refl come.good come.fits (no_line_left new now f step.found other));
    }

-- ---- a line that was found

pub line_came : (left mid now : Option (List ℕ)) (old new : Lines) (f : Found) (xs : List Answer) → HasCome left mid old xs → Advances old new mid now (Ok f) → f ≡ Line
    → Gives left (to_come new now) (text_of xs ++ (new.line ++ 10 ∷ [])) × NoFeed new.line × (length new.line < 65536)
line_came left mid now old new Line xs come step is =
    (Gives-trans left (to_come old mid) (to_come new now) (text_of xs) (new.line ++ 10 ∷ []) come.came step.gave, step.found.0, step.found.1)
line_came left mid now old new End xs come step is = absurd cc
line_came left mid now old new Cut xs come step is = absurd cc
line_came left mid now old new Long xs come step is = absurd cc

one_text : (xs ys : List Answer) (line : List ℕ) → TakesOne xs ys line → text_of ys ≡ text_of xs ++ (line ++ 10 ∷ [])
one_text xs ys line t =
    ap text_of t.added ∙ text_append xs (t.answer ∷ []) ∙ ap (λ (z : List ℕ). text_of xs ++ (z ++ 10 ∷ [])) (sym t.text)

pub one_size : (xs ys : List Answer) (line : List ℕ) → TakesOne xs ys line → length (text_of ys) ≡ length (text_of xs) + (length line + 1)
one_size xs ys line t = omega (arith, ap length (one_text xs ys line t), length-append (text_of xs) (line ++ 10 ∷ []), length-append line (10 ∷ []))

pub lines_count : (ys : List Answer) → length (reply_lines ys) ≡ length ys
lines_count [] = refl
lines_count (y ∷ ys) = ap suc (lines_count ys)

pub come_more : (left now : Option (List ℕ)) (lines : Lines) (xs ys : List Answer) → Gives left (to_come lines now) (text_of xs ++ (lines.line ++ 10 ∷ []))
    → TakesOne xs ys lines.line → length (text_of ys) ≤ MAX_SHEET → HasCome left now lines ys
come_more left now lines xs ys gave t small = record {
  came = subst (Gives left (to_come lines now)) (sym (one_text xs ys lines.line t)) gave;
  good = t.good;
  fits = record { few = (let few = t.few in omega (arith, few, lines_count ys)); small = small };
}

pub text_more : (xs ys : List Answer) (line sum one two : List ℕ) → TakesOne xs ys line → sum ≡ text_of xs → one ≡ sum ++ line → two ≡ one ++ 10 ∷ [] → two ≡ text_of ys
text_more xs ys line sum one two t was first second =
    second ∙ ap (λ (z : List ℕ). z ++ 10 ∷ []) (first ∙ ap (λ (z : List ℕ). z ++ line) was) ∙ append_assoc (text_of xs) line (10 ∷ []) ∙ sym (one_text xs ys line t)

-- ---- how a line begins

pub begins_sum : (line : List ℕ) (r : Bool) → r ≡ bytes_eq (codes "sum ") (take 4 line) → r ≡ true → (rest : List ℕ) × (line ≡ codes "sum " ++ rest)
begins_sum line r tests is =
    (drop 4 line, sym (take-append-drop 4 line) ∙ ap (λ (z : List ℕ). z ++ drop 4 line) (sym ((bytes_decides (codes "sum ") (take 4 line)).0 (sym tests ∙ is))))

pub not_sum : (xs : List Answer) (line : List ℕ) (r : Bool) → r ≡ bytes_eq (codes "sum ") (take 4 line) → r ≡ false → NoSum xs line
not_sum xs line r tests is fits same =
    let begins : bytes_eq (codes "sum ") (take 4 line) ≡ true = (bytes_decides (codes "sum ") (take 4 line)).1 (sym (ap (take 4) same)) in
    let clash : true ≡ false = sym begins ∙ sym tests ∙ is in
    cc

pub sum_not_answer : (xs : List Answer) (line rest : List ℕ) → line ≡ codes "sum " ++ rest → NoAnswer xs line
sum_not_answer xs line rest begins a good fits same =
    begun_no_answer rest a [] [] (ap (λ (z : List ℕ). z ++ []) (sym begins ∙ same))

-- ---- too much

pub too_long : (xs : List Answer) (line : List ℕ) (size : ℕ) → size ≡ length (text_of xs) + (length line + 1) → MAX_SHEET < size → NoAnswer xs line
too_long xs line size is long a good fits same =
    let small = fits.small in
    absurd (omega (arith, is, long, small, ap length (text_append xs (a ∷ [])), length-append (text_of xs) (text_of (a ∷ [])), length-append (reply_line a) (10 ∷ []), ap length same))

pub not_taken : (xs ys : List Answer) (line : List ℕ) → TakesAnswer xs ys line false → NoAnswer xs line
not_taken xs ys line none a good fits same =
    let few = fits.few in none a (omega (arith, few, lines_count (xs ++ a ∷ []), length-append xs (a ∷ []))) good same

-- ---- the end

pub sheet_small : (xs : List Answer) (a : Answers) (line : List ℕ) → a.store ≡ xs → IsEnd a line → a.size ≡ length (text_of a.store) → a.digest ≡ sha256 (text_of a.store)
    → FitsSheet (reply_lines a.store) × (line ≡ sum_line (reply_lines a.store))
sheet_small xs a line same end size digest =
    let lines = reply_lines a.store in
    let count = lines_count a.store in
    let is : line ≡ sum_line lines = end.text ∙ (λ i. codes "sum " ++ (decimal (sym count i) ++ blank ∷ encode_lower (digest i))) in
    let few = end.few in
    let small = end.small in (
      record {
        few = omega (arith, few, count, length-append lines (sum_line lines ∷ []));
        small = omega (
          arith,
          small,
          size,
          ap length is,
          ap length (lines_append lines (sum_line lines ∷ [])),
          length-append (lines_text lines) (sum_line lines ++ 10 ∷ []),
          length-append (sum_line lines) (10 ∷ []),
        );
      },
      is,
    )

pub not_end : (a : Answers) (line : List ℕ) → (IsEnd a line → ⊥) → a.size ≡ length (text_of a.store) → a.digest ≡ sha256 (text_of a.store) → NoSum a.store line
not_end a line none size digest fits same =
    let lines = reply_lines a.store in
    let count = lines_count a.store in
    let few = fits.few in
    let small = fits.small in
    none (record {
      few = omega (arith, few, count, length-append lines (sum_line lines ∷ []));
      small = omega (
        arith,
        small,
        size,
        ap length same,
        ap length (lines_append lines (sum_line lines ∷ [])),
        length-append (lines_text lines) (sum_line lines ++ 10 ∷ []),
        length-append (sum_line lines) (10 ∷ []),
      );
      text = same ∙ (λ i. codes "sum " ++ (decimal (count i) ++ blank ∷ encode_lower (sym digest i)));
    })

module _ (left mid now : Option (List ℕ)) (old new : Lines) (a : Answers) (come : HasComeTo old left mid a) (end : IsEnd a old.line) where
  sum : FitsSheet (reply_lines a.store) × (old.line ≡ sum_line (reply_lines a.store))
  sum = sheet_small a.store a old.line refl end come.size come.digest

  replies : IsReplies a.store
  replies = record { good = come.good; fits = sum.0 }

  abbrev came : List ℕ
  came = text_of a.store ++ (old.line ++ 10 ∷ [])

  came_is : came ≡ reply_sheet a.store
  came_is = ap (λ (z : List ℕ). text_of a.store ++ (z ++ 10 ∷ [])) sum.1

  -- nothing follows
  pub sheet_read : (f : Found) → Advances old new mid now (Ok f) → f ≡ End → ReadsReplies left (Ok a.store)
  sheet_read Line step is = absurd cc
  sheet_read Cut step is = absurd cc
  sheet_read Long step is = absurd cc
  sheet_read End step is =
      let gave = Gives-trans left (to_come old mid) (to_come new now) came [] come.came step.gave in
      let rest : text_left new now ≡ [] = (λ i. step.found.0 i ++ end_is now step.found.1 i) in
      let whole : (came ++ []) ++ text_left new now ≡ reply_sheet a.store =
      ap (λ (z : List ℕ). (came ++ []) ++ z) rest ∙ append-nil (came ++ []) ∙ append-nil came ∙ came_is in
      record {
        text = (came ++ []) ++ text_left new now;
        told = told_is left now new (came ++ []) gave;
        gives = record { replies = replies; whole = whole };
      }

  some_left : (f : Found) → Advances old new mid now (Ok f) → (f ≡ End → ⊥) → given new (Ok f) ++ text_left new now ≢ []
  some_left Line step other none = absurd (omega (arith, ap length none, length-append (new.line ++ 10 ∷ []) (text_left new now), length-append new.line (10 ∷ [])))
  some_left End step other none = other refl
  some_left Cut step other none = nonempty new.held (step.found.1) (unwrap_or now []) none
    where
      nonempty : (held : List ℕ) → held ≢ [] → (rest : List ℕ) → held ++ rest ≡ [] → ⊥
      nonempty [] some rest none = some refl
      nonempty (x ∷ held) some rest none = absurd cc
  some_left Long step other none = let long = step.found.1 in absurd (omega (arith, ap length none, length-append new.held (unwrap_or now []), long))

  -- something follows
  pub sheet_follows : (f : Found) (number : ℕ) → Advances old new mid now (Ok f) → (f ≡ End → ⊥) → number ≡ length a.store + 2 → ReadsReplies left (Err (BadSheet number))
  sheet_follows f number step other at =
      let gave = Gives-trans left (to_come old mid) (to_come new now) came (given new (Ok f)) come.came step.gave in
      let rest = given new (Ok f) ++ text_left new now in
      let whole : (came ++ given new (Ok f)) ++ text_left new now ≡ reply_sheet a.store ++ rest =
      append_assoc came (given new (Ok f)) (text_left new now) ∙ ap (λ (z : List ℕ). z ++ rest) came_is in
      record {
        text = (came ++ given new (Ok f)) ++ text_left new now;
        told = told_is left now new (came ++ given new (Ok f)) gave;
        gives = follows a.store rest (record { replies = replies; whole = whole }) (some_left f step other) at;
      }

-- ---- no answer is had

pub reads_bad : (left : Option (List ℕ)) (number : ℕ) → IsBadLeft left number → ReadsReplies left (Err (BadSheet number))
reads_bad left number b = record { text = b.text; told = b.told; gives = b.bad }

unread : (left : Option (List ℕ)) (e : SheetError) → ((text : List ℕ) → GivesReplies text (Err e)) → ReadsReplies left (Err e)
unread None e gives = record { text = []; told = tt; gives = gives [] }
unread (Some text) e gives = record { text = text; told = refl; gives = gives text }

pub not_read : (left : Option (List ℕ)) (r : Result (List Answer) SheetError) → IsErrAnd r (λ e. e ≡ ReadFault) → ReadsReplies left r
not_read left (Ok x) is = absurd is
not_read left (Err e) is = subst (λ (z : SheetError). ReadsReplies left (Err z)) (sym is) (unread left ReadFault (λ text. tt))

pub no_memory : (left : Option (List ℕ)) (r : Result (List Answer) SheetError) → IsErrAnd r (λ e. e ≡ OutOfMemory) → ReadsReplies left r
no_memory left (Ok x) is = absurd is
no_memory left (Err e) is = subst (λ (z : SheetError). ReadsReplies left (Err z)) (sym is) (unread left OutOfMemory (λ text. tt))

pub answers_not_read : (lines : Lines) (left now : Option (List ℕ)) (r : Result (List Answer) SheetError) (e : SheetError) → IsErrAnd r (λ z. z ≡ e)
    → ReadsAnswers lines left now (Err e) → ReadsReplies left r
answers_not_read lines left now (Ok x) e is reads = absurd is
answers_not_read lines left now (Err z) e is reads = subst (λ (w : SheetError). ReadsReplies left (Err w)) (sym is) (by e reads)
  where
    by : (e : SheetError) → ReadsAnswers lines left now (Err e) → ReadsReplies left (Err e)
    by (BadSheet number) reads = reads_bad left number reads
    by ReadFault reads = unread left ReadFault (λ text. tt)
    by OutOfMemory reads = unread left OutOfMemory (λ text. tt)
