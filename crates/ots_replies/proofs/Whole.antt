-- A text begins with one list of answers that can't go on.
use Rattle.std.proofs.Common.{◌≡◌, ℕ, List, [], ◌∷◌, ◌++◌, length, get_or, refl, sym, ap, subst, ◌∙◌, arith, append_assoc, append-nil, length-append}
use Rattle.std.specs.Prelude.{codes}
use Rattle.std.proofs.lemmas.List.{append_cancel_left, map-append}
use Rattle.ots_sheet.specs.declared.request.Kind.{Kind}
use Rattle.ots_sheet.specs.declared.request.Kind.TheVariants.{Get, Post}
use Rattle.hex.specs.Hex.{encode_lower}
use Rattle.ots_sheet.specs.Request.{blank, kind_word, request_line}
use Rattle.ots_sheet.specs.Reply.{Answer, reply_line, reply_words}
use Rattle.ots_sheet.specs.Sheet.{Begins, BeginsSheet, Fits, IsBadSheet, neither, follows, lines_text, reply_lines, reply_sheet, sum_line}
use Rattle.ots_sheet.proofs.Lines.{lines_append}
use Rattle.ots_sheet.proofs.OneSheet.{answer_no_feed, one_replies, same_answer}
use Rattle.ots_sheet.proofs.Words.{same_until}
use Rattle.ots_replies.specs.Replies.{IsSheetOf}
use Rattle.ots_replies.proofs.Ordered.{answers_prefix}
use Rattle.ots_replies.proofs.Taken.{is_last}

abbrev pub text_of : List Answer → List ℕ
text_of answers = lines_text (reply_lines answers)

pub text_append : (xs ys : List Answer) → text_of (xs ++ ys) ≡ text_of xs ++ text_of ys
text_append xs ys = ap lines_text (map-append reply_line xs ys) ∙ lines_append (reply_lines xs) (reply_lines ys)

pub fits_prefix : (xs ys : List (List ℕ)) → Fits (xs ++ ys) → Fits xs
fits_prefix xs ys fits =
    let few = fits.few in
    let small = fits.small in
    record {
      few = omega (arith, few, length-append xs ys);
      small = omega (arith, small, ap length (lines_append xs ys), length-append (lines_text xs) (lines_text ys));
    }

pub begins_prefix : (text : List ℕ) (xs ys : List Answer) (rest : List ℕ) → Begins text (xs ++ ys) rest → Begins text xs (text_of ys ++ rest)
begins_prefix text xs ys rest b = record {
  good = answers_prefix xs ys b.good;
  fits = fits_prefix (reply_lines xs) (reply_lines ys) (subst Fits (map-append reply_line xs ys) b.fits);
  whole = b.whole ∙ ap (λ (z : List ℕ). z ++ rest) (text_append xs ys) ∙ append_assoc (text_of xs) (text_of ys) rest;
}

abbrev pub NoMore : List ℕ → List Answer → Type 0
NoMore text answers = (more : Answer) (after : List ℕ) → Begins text (answers ++ more ∷ []) after → ⊥

-- what stands after some answers, where one more does
pub next_is : (text : List ℕ) (xs : List Answer) (more : Answer) (rest after : List ℕ) → text ≡ text_of xs ++ rest → Begins text (xs ++ more ∷ []) after
    → rest ≡ reply_line more ++ 10 ∷ after
next_is text xs more rest after whole b =
    append_cancel_left (text_of xs) rest (reply_line more ++ 10 ∷ after)
    (sym whole ∙ (begins_prefix text xs (more ∷ []) after b).whole ∙ ap (λ (z : List ℕ). text_of xs ++ z) (append_assoc (reply_line more) (10 ∷ []) after))

pub sum_is : (text : List ℕ) (xs : List Answer) (rest after : List ℕ) → text ≡ text_of xs ++ rest → BeginsSheet text xs after
    → rest ≡ sum_line (reply_lines xs) ++ 10 ∷ after
sum_is text xs rest after whole b =
    append_cancel_left (text_of xs) rest (sum_line (reply_lines xs) ++ 10 ∷ after)
    (sym whole ∙ b.whole ∙ append_assoc (text_of xs) (sum_line (reply_lines xs) ++ 10 ∷ []) after
    ∙ ap (λ (z : List ℕ). text_of xs ++ z) (append_assoc (sum_line (reply_lines xs)) (10 ∷ []) after))

same_answers : (text : List ℕ) (before xs ys : List Answer) (r s : List ℕ) → Begins text (before ++ xs) r → Begins text (before ++ ys) s
    → NoMore text (before ++ xs) → NoMore text (before ++ ys) → xs ≡ ys
same_answers text before [] [] r s p q f g = refl
same_answers text before [] (y ∷ ys) r s p q f g =
    absurd (f y (text_of ys ++ s)
    (subst (λ (z : List Answer). Begins text (z ++ y ∷ []) (text_of ys ++ s)) (sym (append-nil before))
    (begins_prefix text (before ++ y ∷ []) ys s (subst (λ (z : List Answer). Begins text z s) (sym (append_assoc before (y ∷ []) ys)) q))))
same_answers text before (x ∷ xs) [] r s p q f g =
    absurd (g x (text_of xs ++ r)
    (subst (λ (z : List Answer). Begins text (z ++ x ∷ []) (text_of xs ++ r)) (sym (append-nil before))
    (begins_prefix text (before ++ x ∷ []) xs r (subst (λ (z : List Answer). Begins text z r) (sym (append_assoc before (x ∷ []) xs)) p))))
same_answers text before (x ∷ xs) (y ∷ ys) r s p q f g =
    let assoc : (z : Answer) (zs : List Answer) → before ++ z ∷ zs ≡ (before ++ z ∷ []) ++ zs = λ z zs. sym (append_assoc before (z ∷ []) zs) in
    let first = begins_prefix text (before ++ x ∷ []) xs r (subst (λ (z : List Answer). Begins text z r) (assoc x xs) p) in
    let second = begins_prefix text (before ++ y ∷ []) ys s (subst (λ (z : List Answer). Begins text z s) (assoc y ys) q) in
    let good = is_last before x first.good in
    let fine = is_last before y second.good in
    let start = begins_prefix text before (y ∷ []) (text_of ys ++ s) second in
    let lines = same_until 10 (reply_line x) (reply_line y) (text_of xs ++ r) (text_of ys ++ s) (answer_no_feed x good) (answer_no_feed y fine)
    (sym (next_is text before x (text_of (y ∷ []) ++ (text_of ys ++ s)) (text_of xs ++ r) start.whole first)
    ∙ next_is text before y (text_of (y ∷ []) ++ (text_of ys ++ s)) (text_of ys ++ s) start.whole second) in
    let one = same_answer x y good fine lines.0 in
    let rest = same_answers text (before ++ x ∷ []) xs ys r s (subst (λ (z : List Answer). Begins text z r) (assoc x xs) p)
    (subst (λ (z : List Answer). Begins text z s) (assoc y ys ∙ ap (λ (z : Answer). (before ++ z ∷ []) ++ ys) (sym one)) q)
    (subst (NoMore text) (assoc x xs) f) (subst (NoMore text) (assoc y ys ∙ ap (λ (z : Answer). (before ++ z ∷ []) ++ ys) (sym one)) g) in
    λ i. one i ∷ rest i

pub one_beginning : (text : List ℕ) (xs ys : List Answer) (r s : List ℕ) → Begins text xs r → Begins text ys s → NoMore text xs → NoMore text ys → xs ≡ ys
one_beginning text xs ys r s p q f g = same_answers text [] xs ys r s p q f g

-- ---- the sum

sum_no_answer : (kind : Kind) (rest sum : List ℕ) → codes "sum " ++ sum ≡ kind_word kind ++ rest → ⊥
sum_no_answer Get rest sum same = absurd (let clash = ap (λ (z : List ℕ). get_or z 0 0) same in omega (arith, clash))
sum_no_answer Post rest sum same = absurd (let clash = ap (λ (z : List ℕ). get_or z 0 0) same in omega (arith, clash))

-- a line that begins as a sum is no answer's
pub begun_no_answer : (rest : List ℕ) (a : Answer) (after more : List ℕ) → (codes "sum " ++ rest) ++ more ≡ reply_line a ++ after → ⊥
begun_no_answer rest a after more same =
    sum_no_answer a.request.kind _ (rest ++ more)
    (sym (append_assoc (codes "sum ") rest more) ∙ same ∙ append_assoc (request_line a.request) (blank ∷ reply_words a.reply) after
    ∙ append_assoc (kind_word a.request.kind) (blank ∷ (a.request.url ++ blank ∷ encode_lower a.request.message)) (blank ∷ reply_words a.reply ++ after))

pub sheet_begins : (text : List ℕ) (xs : List Answer) (rest : List ℕ) → BeginsSheet text xs rest → Begins text xs ((sum_line (reply_lines xs) ++ 10 ∷ []) ++ rest)
sheet_begins text xs rest b = record {
  good = b.replies.good;
  fits = fits_prefix (reply_lines xs) (sum_line (reply_lines xs) ∷ []) b.replies.fits;
  whole = b.whole ∙ append_assoc (text_of xs) (sum_line (reply_lines xs) ++ 10 ∷ []) rest;
}

pub sheet_no_more : (text : List ℕ) (xs : List Answer) (rest : List ℕ) → BeginsSheet text xs rest → NoMore text xs
sheet_no_more text xs rest b more after begins =
    let sum = sum_line (reply_lines xs) in
    let next = next_is text xs more ((sum ++ 10 ∷ []) ++ rest) after (sheet_begins text xs rest b).whole begins in
    begun_no_answer _ more (10 ∷ after) (10 ∷ rest) (sym (append_assoc sum (10 ∷ []) rest) ∙ next)

-- ---- one answer

two_sheets : (text : List ℕ) (xs ys : List Answer) (r s : List ℕ) → BeginsSheet text xs r → BeginsSheet text ys s → xs ≡ ys
two_sheets text xs ys r s p q =
    one_beginning text xs ys _ _ (sheet_begins text xs r p) (sheet_begins text ys s q) (sheet_no_more text xs r p) (sheet_no_more text ys s q)

not_neither : (text : List ℕ) (xs ys : List Answer) (r s : List ℕ) → BeginsSheet text xs r → Begins text ys s → NoMore text ys
    → ((after : List ℕ) → BeginsSheet text ys after → ⊥) → ⊥
not_neither text xs ys r s p q more none =
    none r (subst (λ (z : List Answer). BeginsSheet text z r) (one_beginning text xs ys _ s (sheet_begins text xs r p) q (sheet_no_more text xs r p) more) p)

pub one_bad : (text : List ℕ) (number other : ℕ) → IsBadSheet text number → IsBadSheet text other → number ≡ other
one_bad text n m (neither xs r p at more none) (neither ys s q there less nor) =
    let same = one_beginning text xs ys r s p q more less in omega (arith, at, there, ap length same)
one_bad text n m (neither xs r p at more none) (follows ys s q some there) = absurd (not_neither text ys xs s r q p more none)
one_bad text n m (follows xs r p some at) (neither ys s q there less nor) = absurd (not_neither text xs ys r s p q less nor)
one_bad text n m (follows xs r p some at) (follows ys s q more there) =
    let same = two_sheets text xs ys r s p q in omega (arith, at, there, ap length same)

sheet_is : (text : List ℕ) (xs : List Answer) → IsSheetOf text xs → BeginsSheet text xs []
sheet_is text xs is = record { replies = is.replies; whole = is.whole ∙ sym (append-nil (reply_sheet xs)) }

pub never_both : (text : List ℕ) (xs : List Answer) (number : ℕ) → IsSheetOf text xs → IsBadSheet text number → ⊥
never_both text xs n is (neither ys s q at more none) = not_neither text xs ys [] s (sheet_is text xs is) q more none
never_both text xs n is (follows ys s q some at) =
    let same = two_sheets text xs ys [] s (sheet_is text xs is) q in
    some (append_cancel_left (reply_sheet xs) s []
    (ap (λ (z : List Answer). reply_sheet z ++ s) same ∙ sym q.whole ∙ is.whole ∙ sym (append-nil (reply_sheet xs))))

pub one_list : (text : List ℕ) (xs ys : List Answer) → IsSheetOf text xs → IsSheetOf text ys → xs ≡ ys
one_list text xs ys p q = one_replies xs ys p.replies q.replies (sym p.whole ∙ q.whole)
