-- Answers in order.
use Rattle.std.proofs.Common.{◌≡◌, ◌<◌, ◌≤◌, ◌+◌, ◌-◌, ℕ, zero, suc, List, [], ◌∷◌, ◌++◌, length, map, get_or, refl, sym, ap, subst, ◌∙◌, arith, inl, inr, append_assoc, length-append}
use Rattle.std.specs.List.{AllByRecursion}
use Rattle.std.specs.Cmp.Lexicographic.{slice_cmp, nat_list_cmp_total}
use Rattle.std.specs.Ordering.{nat_cmp}
use Rattle.std.specs.declared.cmp.Ordering.{Ordering}
use Rattle.std.specs.declared.cmp.Ordering.TheVariants.{Less}
use Rattle.std.proofs.Math.Seq.{get_or-append_seam}
use Rattle.std.proofs.lemmas.List.{get_or_append_left, get_or-map, length-map, map-append}
use Rattle.ots_sheet.specs.Order.{request_order}
use Rattle.ots_sheet.specs.Request.{RequestParts, request_line}
use Rattle.ots_sheet.specs.Reply.{Answer, IsAnswer, request_of}
use Rattle.ots_sheet.specs.Sheet.{AreAnswers, AreInOrder}
use Rattle.ots_sheet.proofs.Orders.{lines_order}
use Rattle.ots_sheet.proofs.Words.{le_or_lt}
use Rattle.ots_replies.specs.inner.Reading.{EndsInOrder}

-- ---- the last two

first_of_two : (xs before : List Answer) (a b d : Answer) (count : ℕ) → xs ≡ before ++ a ∷ b ∷ [] → count ≡ length xs → get_or xs (count - 2) d ≡ a
first_of_two xs before a b d count is counts =
    let at : count - 2 ≡ length before = omega (arith, counts, ap length is, length-append before (a ∷ b ∷ [])) in
    (λ i. get_or (is i) (at i) d) ∙ get_or-append_seam before a (b ∷ []) d

second_of_two : (xs before : List Answer) (a b d : Answer) (count : ℕ) → xs ≡ before ++ a ∷ b ∷ [] → count ≡ length xs → get_or xs (count - 1) d ≡ b
second_of_two xs before a b d count is counts =
    let whole : xs ≡ (before ++ a ∷ []) ++ b ∷ [] = is ∙ sym (append_assoc before (a ∷ []) (b ∷ [])) in
    let at : count - 1 ≡ length (before ++ a ∷ []) = omega (arith, counts, ap length whole, length-append (before ++ a ∷ []) (b ∷ [])) in
    (λ i. get_or (whole i) (at i) d) ∙ get_or-append_seam (before ++ a ∷ []) b [] d

-- the answers that were compared
pub last_order : (xs before : List Answer) (a b : Answer) (count : ℕ) (p q : RequestParts) (o : Ordering) → xs ≡ before ++ a ∷ b ∷ [] → count ≡ length xs
    → ((d : Answer) → p ≡ (get_or xs (count - 2) d).request) → ((d : Answer) → q ≡ (get_or xs (count - 1) d).request) → o ≡ request_order p q
    → o ≡ request_order a.request b.request
last_order xs before a b count p q o is counts first second tested =
    tested ∙ (λ i. request_order ((first a ∙ ap request_of (first_of_two xs before a b a count is counts)) i)
    ((second a ∙ ap request_of (second_of_two xs before a b a count is counts)) i))

pub record LastTwo (xs : List Answer) : Type 0 where
  pub before : List Answer
  pub a : Answer
  pub b : Answer
  pub is : xs ≡ before ++ a ∷ b ∷ []

pub two_last : (xs : List Answer) → 2 ≤ length xs → LastTwo xs
two_last [] many = absurd (omega (arith, many))
two_last (x ∷ []) many = absurd (omega (arith, many))
two_last (x ∷ y ∷ []) many = record { before = []; a = x; b = y; is = refl }
two_last (x ∷ y ∷ z ∷ zs) many =
    let rest = two_last (y ∷ z ∷ zs) (omega arith) in
    record { before = x ∷ rest.before; a = rest.a; b = rest.b; is = ap (λ (l : List Answer). x ∷ l) rest.is }

pub few_in_order : (xs : List Answer) → length xs < 2 → EndsInOrder xs
few_in_order xs few before a b is = absurd (omega (arith, few, ap length is, length-append before (a ∷ b ∷ [])))

-- ---- one answer more

pub all_before : {A : Type 0} (P : A → Type 0) (xs : List A) (x : A) → AllByRecursion P (xs ++ x ∷ []) → AllByRecursion P xs × P x
all_before P [] x all = (tt, all.0)
all_before P (y ∷ xs) x all = let rest = all_before P xs x all.1 in ((all.0, rest.0), rest.1)

all_and : {A : Type 0} (P : A → Type 0) (xs : List A) (x : A) → AllByRecursion P xs → P x → AllByRecursion P (xs ++ x ∷ [])
all_and P [] x all is = (is, tt)
all_and P (y ∷ xs) x all is = (all.0, all_and P xs x all.1 is)

pub each_at : {A : Type 0} (P : A → Type 0) (xs : List A) (i : ℕ) (d : A) → AllByRecursion P xs → i < length xs → P (get_or xs i d)
each_at P [] i d all less = absurd (omega (arith, less))
each_at P (x ∷ xs) zero d all less = all.0
each_at P (x ∷ xs) (suc i) d all less = each_at P xs i d all.1 (omega (arith, less))

abbrev line_order : RequestParts → RequestParts → Ordering
line_order p q = slice_cmp nat_cmp (request_line p) (request_line q)

requests_more : (xs : List Answer) (x : Answer) → map request_of (xs ++ x ∷ []) ≡ map request_of xs ++ x.request ∷ []
requests_more xs x = map-append request_of xs (x ∷ [])

-- a prefix is in order
order_prefix : (xs ys : List RequestParts) → AreInOrder (xs ++ ys) → AreInOrder xs
order_prefix xs ys order r i j less within =
    subst (λ (z : RequestParts). line_order z (get_or xs j r) ≡ Less) (get_or_append_left xs ys r i (omega (arith, less, within)))
    (subst (λ (z : RequestParts). line_order (get_or (xs ++ ys) i r) z ≡ Less) (get_or_append_left xs ys r j within)
    (order r i j less (omega (arith, within, length-append xs ys))))

all_prefix : {A : Type 0} (P : A → Type 0) (xs ys : List A) → AllByRecursion P (xs ++ ys) → AllByRecursion P xs
all_prefix P [] ys all = tt
all_prefix P (x ∷ xs) ys all = (all.0, all_prefix P xs ys all.1)

pub answers_prefix : (xs ys : List Answer) → AreAnswers (xs ++ ys) → AreAnswers xs
answers_prefix xs ys good = record {
  each = all_prefix IsAnswer xs ys good.each;
  order = order_prefix (map request_of xs) (map request_of ys) (subst AreInOrder (map-append request_of xs ys) good.order);
}

-- the last of a list in order comes before one that comes after it
order_more : (xs : List RequestParts) (x y : RequestParts) → AreInOrder (xs ++ x ∷ []) → line_order x y ≡ Less → AreInOrder ((xs ++ x ∷ []) ++ y ∷ [])
order_more xs x y order next r i j less within =
    let all = xs ++ x ∷ [] in
    let long : length all ≡ length xs + 1 = length-append xs (x ∷ []) in
    let count = length-append all (y ∷ []) in
    elim (le_or_lt (length all) j) [
      | inr inside ↦
          subst (λ (z : RequestParts). line_order z (get_or (all ++ y ∷ []) j r) ≡ Less) (sym (get_or_append_left all (y ∷ []) r i (omega (arith, less, inside))))
          (subst (λ (z : RequestParts). line_order (get_or all i r) z ≡ Less) (sym (get_or_append_left all (y ∷ []) r j inside)) (order r i j less inside))
      | inl last ↦
          let here : get_or (all ++ y ∷ []) j r ≡ y = ap (λ (n : ℕ). get_or (all ++ y ∷ []) n r) (omega (arith, last, within, count)) ∙ get_or-append_seam all y [] r in
          let there : get_or (all ++ y ∷ []) i r ≡ get_or all i r = get_or_append_left all (y ∷ []) r i (omega (arith, less, within, count)) in
          let end : get_or all (length xs) r ≡ x = get_or-append_seam xs x [] r in
          (λ k. line_order (there k) (here k)) ∙ elim (le_or_lt (length xs) i) [
            | inl at ↦ let same : i ≡ length xs = omega (arith, at, less, within, count, long) in
                (λ k. line_order ((ap (λ (n : ℕ). get_or all n r) same ∙ end) k) y) ∙ next
            | inr below ↦ nat_list_cmp_total.trans (request_line (get_or all i r)) (request_line x) (request_line y)
                (subst (λ (z : RequestParts). line_order (get_or all i r) z ≡ Less) end (order r i (length xs) below (omega (arith, long)))) next
          ]
    ]

pub answers_more : (before : List Answer) (a b : Answer) → AreAnswers (before ++ a ∷ []) → IsAnswer b → request_order a.request b.request ≡ Less
    → AreAnswers ((before ++ a ∷ []) ++ b ∷ [])
answers_more before a b good is next =
    let last = (all_before IsAnswer before a good.each).1 in record {
      each = all_and IsAnswer (before ++ a ∷ []) b good.each is;
      order = subst AreInOrder (sym (requests_more (before ++ a ∷ []) b ∙ ap (λ (z : List RequestParts). z ++ b.request ∷ []) (requests_more before a)))
          (order_more (map request_of before) a.request b.request (subst AreInOrder (requests_more before a) good.order) (sym (lines_order a.request b.request last.0 is.0) ∙ next));
    }

one_in_order : (x : RequestParts) → AreInOrder (x ∷ [])
one_in_order x r i j less within = absurd (omega (arith, less, within))

pub first_answer : (a : Answer) → IsAnswer a → AreAnswers (a ∷ [])
first_answer a is = record { each = (is, tt); order = one_in_order a.request }

-- each request comes before each later one, by their parts
pub parts_order : (xs : List Answer) → AreAnswers xs → (d : Answer) (i j : ℕ) → i < j → j < length xs
    → request_order (get_or xs i d).request (get_or xs j d).request ≡ Less
parts_order xs good d i j less within =
    let first = each_at IsAnswer xs i d good.each (omega (arith, less, within)) in
    let second = each_at IsAnswer xs j d good.each within in
    lines_order (get_or xs i d).request (get_or xs j d).request first.0 second.0
    ∙ (λ k. line_order (sym (get_or-map request_of xs i d d.request (omega (arith, less, within))) k) (sym (get_or-map request_of xs j d d.request within) k))
    ∙ good.order d.request i j less (omega (arith, within, length-map xs request_of))

-- so the last two are in order
pub ends_in_order : (xs : List Answer) → AreAnswers xs → EndsInOrder xs
ends_in_order xs good before a b is =
    let count = ap length is ∙ length-append before (a ∷ b ∷ []) in
    (λ k. request_order (sym (first_of_two xs before a b a (length xs) is refl) k).request (sym (second_of_two xs before a b a (length xs) is refl) k).request)
    ∙ parts_order xs good a (length xs - 2) (length xs - 1) (omega (arith, count)) (omega (arith, count))
