-- A sheet has one list of counts.
use Rattle.std.proofs.Common.{◌≡◌, ℕ, Bool, true, false, List, [], ◌∷◌, length, refl, sym, ap, subst, ◌∙◌, arith, inl, inr}
use Rattle.std.specs.Cmp.Lexicographic.{nat_list_cmp_total, slice_cmp}
use Rattle.std.specs.List.{AllByRecursion, list_any}
use Rattle.std.specs.List.Sorted.{IsStrictlySortedBy}
use Rattle.std.specs.Ordering.{nat_cmp}
use Rattle.std.specs.Prelude.{◌||◌, ◌⊎◌, bytes_eq}
use Rattle.std.specs.declared.cmp.Ordering.TheVariants.{Equal, Less}
use Rattle.std.proofs.lemmas.Cmp.{tied_itself}
use Rattle.std.proofs.lemmas.Map.Keys.{sorted_head, sorted_tail}
use Rattle.std.proofs.lemmas.Slice.Eq.{bytes_eq-Decides}
use Rattle.ots_archive_counts.proofs.Tallies.{bounds}
use Rattle.ots_archive_counts.specs.Counts.{AreCounts, AreSeen, Counted, IsCameOf, IsSeen, Seen, addresses, counts_of}
use Rattle.ots_archive_counts.specs.declared.came.Came.{Came}
use Rattle.ots_archive_counts.specs.declared.came.Came.TheVariants.{Timestamp, Refused, BadBody}
use Rattle.ots_asking.proofs.KnownLaws.{known_laws}
use Rattle.ots_asking.proofs.OneOutcome.{one_of_body}
use Rattle.ots_asking.specs.declared.outcome.Outcome.TheVariants.{BadReply, Tree}
use Rattle.ots_reader.specs.OneAnswer.{IsShape}
use Rattle.ots_sheet.specs.Reply.{Answer, Body, IsAnswer, Nothing, ReplyParts, Status}
use Rattle.ots_sheet.specs.Sheet.{AreAnswers}

-- ---- what came

one_came : (n : ℕ) (reply : ReplyParts) → IsShape n 0 → (a b : Came) → IsCameOf n reply a → IsCameOf n reply b → a ≡ b
one_came n (Body body) shape Timestamp Timestamp f g = refl
one_came n (Body body) shape Timestamp Refused f g = absurd g
one_came n (Body body) shape Timestamp BadBody f g = absurd (let e = one_of_body known_laws n 0 shape body (Tree f.0) (BadReply g.0) f.1 g.1 in cc)
one_came n (Body body) shape Refused b f g = absurd f
one_came n (Body body) shape BadBody Timestamp f g = absurd (let e = one_of_body known_laws n 0 shape body (Tree g.0) (BadReply f.0) g.1 f.1 in cc)
one_came n (Body body) shape BadBody Refused f g = absurd g
one_came n (Body body) shape BadBody BadBody f g = refl
one_came n (Status code) shape a b f g = f ∙ sym g
one_came n Nothing shape a b f g = f ∙ sym g

one_seen : (a : Answer) → IsAnswer a → (s t : Seen) → IsSeen a s → IsSeen a t → s ≡ t
one_seen a good s t f g =
    let long = bounds a.request.kind (length a.request.message) good.0.long in
    let shape : IsShape (length a.request.message) 0 = record { least = long.0; greatest = long.1; depth = omega arith } in
    let url = f.url ∙ sym g.url in
    let came = one_came (length a.request.message) a.reply shape s.came t.came f.came g.came in
    λ i. record { url = url i; came = came i }

all_seen : (answers : List Answer) → AllByRecursion IsAnswer answers → (xs ys : List Seen) → AreSeen answers xs → AreSeen answers ys → xs ≡ ys
all_seen [] good [] [] f g = refl
all_seen [] good [] (y ∷ ys) f g = absurd g
all_seen [] good (x ∷ xs) ys f g = absurd f
all_seen (a ∷ answers) good [] ys f g = absurd f
all_seen (a ∷ answers) good (x ∷ xs) [] f g = absurd g
all_seen (a ∷ answers) good (x ∷ xs) (y ∷ ys) f g =
    let first = one_seen a good.0 x y f.0 g.0 in let rest = all_seen answers good.1 xs ys f.1 g.1 in λ i. first i ∷ rest i

-- ---- addresses in order

abbrev Before : List ℕ → List ℕ → Type 0
Before x y = slice_cmp nat_cmp x y ≡ Less

abbrev IsRising : List (List ℕ) → Type 0
IsRising xs = IsStrictlySortedBy (slice_cmp nat_cmp) xs

abbrev Has : List (List ℕ) → List ℕ → Type 0
Has [] q = ⊥
Has (x ∷ xs) q = (x ≡ q) ⊎ Has xs q

not_itself : (x : List ℕ) → Before x x → ⊥
not_itself x e = let tie : Equal ≡ Less = sym (tied_itself nat_list_cmp_total x) ∙ e in cc

above : (x : List ℕ) (xs : List (List ℕ)) → AllByRecursion (λ y. slice_cmp nat_cmp x y ≡ Less) xs → (q : List ℕ) → Has xs q → Before x q
above x [] all q has = absurd has
above x (y ∷ xs) all q (inl e) = subst (Before x) e all.0
above x (y ∷ xs) all q (inr has) = above x xs all.1 q has

rest_has : (x y : List ℕ) (xs ys : List (List ℕ)) → x ≡ y → IsRising (x ∷ xs) → ((r : List ℕ) → Has (x ∷ xs) r → Has (y ∷ ys) r) → (r : List ℕ) → Has xs r → Has ys r
rest_has x y xs ys same o all r has = elim (all r (inr has)) [
  | inl e ↦ absurd (not_itself x (subst (Before x) (sym (same ∙ e)) (above x xs (sorted_head (slice_cmp nat_cmp) x xs o) r has)))
  | inr h ↦ h
]

one_order : (xs ys : List (List ℕ)) → IsRising xs → IsRising ys → ((q : List ℕ) → Has xs q → Has ys q) → ((q : List ℕ) → Has ys q → Has xs q) → xs ≡ ys
one_order [] [] o p there back = refl
one_order [] (y ∷ ys) o p there back = absurd (back y (inl refl))
one_order (x ∷ xs) [] o p there back = absurd (there x (inl refl))
one_order (x ∷ xs) (y ∷ ys) o p there back =
    let first : x ≡ y = elim (there x (inl refl)) [
      | inl e ↦ sym e
      | inr a ↦ elim (back y (inl refl)) [
        | inl e ↦ e
        | inr b ↦
            absurd (not_itself x (nat_list_cmp_total.trans x y x (above x xs (sorted_head (slice_cmp nat_cmp) x xs o) y b) (above y ys (sorted_head (slice_cmp nat_cmp) y ys p) x a)))
      ]
    ] in
    let rest = one_order xs ys (sorted_tail (slice_cmp nat_cmp) x xs o) (sorted_tail (slice_cmp nat_cmp) y ys p) (rest_has x y xs ys first o there) (rest_has y x ys xs (sym first) p back) in
    λ i. first i ∷ rest i

-- ---- counts

either : (b c : Bool) → (b || c) ≡ true → (b ≡ true) ⊎ (c ≡ true)
either true c h = inl refl
either false c h = inr h

or_true : (b c : Bool) → c ≡ true → (b || c) ≡ true
or_true true c h = refl
or_true false c h = h

has_any : (list : List Counted) (q : List ℕ) → list_any (λ c. bytes_eq c.address q) list ≡ true → Has (addresses list) q
has_any [] q any = absurd cc
has_any (c ∷ list) q any = elim (either (bytes_eq c.address q) (list_any (λ d. bytes_eq d.address q) list) any) [
  | inl e ↦ inl ((bytes_eq-Decides c.address q).0 e)
  | inr rest ↦ inr (has_any list q rest)
]

any_has : (list : List Counted) (q : List ℕ) → Has (addresses list) q → list_any (λ c. bytes_eq c.address q) list ≡ true
any_has [] q has = absurd has
any_has (c ∷ list) q (inl e) = ap (λ (z : Bool). z || list_any (λ d. bytes_eq d.address q) list) ((bytes_eq-Decides c.address q).1 e)
any_has (c ∷ list) q (inr has) = or_true (bytes_eq c.address q) (list_any (λ d. bytes_eq d.address q) list) (any_has list q has)

one_list : (seen : List Seen) (xs ys : List Counted) → addresses xs ≡ addresses ys → AllByRecursion (λ c. c.counts ≡ counts_of c.address seen) xs
    → AllByRecursion (λ c. c.counts ≡ counts_of c.address seen) ys → xs ≡ ys
one_list seen [] [] is f g = refl
one_list seen [] (y ∷ ys) is f g = absurd cc
one_list seen (x ∷ xs) [] is f g = absurd cc
one_list seen (x ∷ xs) (y ∷ ys) is f g =
    let address : x.address ≡ y.address = cc in
    let counts : x.counts ≡ y.counts = f.0 ∙ ap (λ (a : List ℕ). counts_of a seen) address ∙ sym g.0 in
    let rest = one_list seen xs ys (cc) f.1 g.1 in
    λ i. record { address = address i; counts = counts i } ∷ rest i

pub one_counts : (answers : List Answer) → AreAnswers answers → (xs ys : List Counted) → AreCounts answers xs → AreCounts answers ys → xs ≡ ys
one_counts answers good xs ys f g =
    let seen = all_seen answers good.each f.seen g.seen f.are_seen g.are_seen in
    let members : (url : List ℕ) → list_any (λ c. bytes_eq c.address url) xs ≡ list_any (λ c. bytes_eq c.address url) ys =
    λ url. f.members url ∙ ap (list_any (λ (s : Seen). bytes_eq s.url url)) seen ∙ sym (g.members url) in
    let order = one_order (addresses xs) (addresses ys) f.rising g.rising (λ q has. has_any ys q (sym (members q) ∙ any_has xs q has)) (λ q has. has_any xs q (members q ∙ any_has ys q has)) in
    one_list g.seen xs ys order (subst (λ (z : List Seen). AllByRecursion (λ c. c.counts ≡ counts_of c.address z) xs) seen f.each) g.each
