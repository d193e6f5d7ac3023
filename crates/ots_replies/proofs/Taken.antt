-- One answer more, by a line.
use Rattle.std.proofs.Common.{◌≡◌, ◌<◌, ◌↔◌, ℕ, Bool, true, false, List, [], ◌∷◌, ◌++◌, length, refl, sym, ap, subst, ◌∙◌, arith, IsTrue, append_assoc, length-append}
use Rattle.ots_sheet.specs.declared.limits.TheConstants.{MAX_LINES}
use Rattle.ots_sheet.specs.Reply.{Answer, IsAnswer}
use Rattle.ots_sheet.specs.Sheet.{AreAnswers}
use Rattle.ots_sheet.proofs.OneSheet.{same_answer}
use Rattle.ots_replies.specs.declared.shape.Shape.{Shape}
use Rattle.ots_replies.specs.inner.Reading.{EndsInOrder, TakesAnswer}
use Rattle.ots_replies.specs.inner.Shape.{HasShape, Shows}
use Rattle.ots_replies.proofs.Digits.{no_truth}
use Rattle.ots_replies.proofs.Ordered.{all_before, answers_more, ends_in_order, first_answer}

record EndsWith (xs : List Answer) : Type 0 where
  before : List Answer
  a : Answer
  is : xs ≡ before ++ a ∷ []

last_of : (x : Answer) (xs : List Answer) → EndsWith (x ∷ xs)
last_of x [] = record { before = []; a = x; is = refl }
last_of x (y ∷ xs) = let rest = last_of y xs in record { before = x ∷ rest.before; a = rest.a; is = ap (λ (l : List Answer). x ∷ l) rest.is }

good_more : (old : List Answer) (a : Answer) → AreAnswers old → IsAnswer a → EndsInOrder (old ++ a ∷ []) → AreAnswers (old ++ a ∷ [])
good_more [] a good is order = first_answer a is
good_more (x ∷ xs) a good is order =
    let last = last_of x xs in
    let whole : (x ∷ xs) ++ a ∷ [] ≡ (last.before ++ last.a ∷ []) ++ a ∷ [] = ap (λ (l : List Answer). l ++ a ∷ []) last.is in
    subst AreAnswers (sym whole)
    (answers_more last.before last.a a (subst AreAnswers last.is good) is
    (order last.before last.a a (whole ∙ append_assoc last.before (last.a ∷ []) (a ∷ []))))

pub is_last : (old : List Answer) (a : Answer) → AreAnswers (old ++ a ∷ []) → IsAnswer a
is_last old a good = (all_before IsAnswer old a good.each).1

module _ (old new : List Answer) (line : List ℕ) (s : Shape) (good : AreAnswers old) (few : length old < MAX_LINES) (shape : HasShape line s)
    (pushed : (a : Answer) → IsAnswer a → Shows s a → new ≡ old ++ a ∷ []) where
  all : new ≡ old ++ shape.answer ∷ []
  all = pushed shape.answer shape.is shape.shows

  pub take_is : (r : Bool) → IsTrue r ↔ EndsInOrder new → TakesAnswer old new line r
  take_is true tests = record {
    answer = shape.answer;
    added = all;
    text = shape.text;
    good = subst AreAnswers (sym all) (good_more old shape.answer good shape.is (subst EndsInOrder all (tests.0 refl)));
    few = omega (arith, few, ap length all, length-append old (shape.answer ∷ []));
  }
  take_is false tests = λ b less fine text.
      let same = same_answer b shape.answer (is_last old b fine) shape.is (sym text ∙ shape.text) in
      no_truth (tests.1 (ends_in_order new (subst AreAnswers (ap (λ (z : Answer). old ++ z ∷ []) same ∙ sym all) fine)))
