-- Lists of addresses, piece by piece.
use Rattle.std.proofs.Common.{◌≡◌, ◌≢◌, ◌+◌, ◌<◌, ◌==◌, ℕ, Bool, false, List, [], ◌∷◌, ◌++◌, length, map, take, drop, get_or, refl, sym, ap, subst, ◌∙◌, arith, append_assoc, append-nil, length-drop, Option, Some, None}
use Rattle.std.specs.Prelude.{sum_by, codes, bytes_eq, true, IfNone, All}
use Rattle.std.specs.List.{AllByRecursion, position_or_len, before_first, after_first}
use Rattle.std.proofs.lemmas.List.{length-take, length-map, get_or-map, map-append, take_more}
use Rattle.std.proofs.lemmas.List.Elements.{All-push}
use Rattle.std.proofs.lemmas.List.Splits.{slice_split_first, slice_split_none}
use Rattle.std.proofs.lemmas.List.Sums.{fails_before_first, sum_by-append}
use Rattle.std.specs.Cmp.Lexicographic.{bytes_decides}
use Rattle.ots_address.specs.Address.{AddressParts, IsAddress, IsNamed, text_of}
use Rattle.ots_address.specs.AddressList.{comma, pieces_of, pieces_left, CutsPiece, IsNext, AreNext, AreAddresses, IsBadAddress, begins_with}

-- ---- the first piece

pub cuts_at_comma : (text piece rest : List ℕ) → position_or_len (λ b. b == comma) text < length text → piece ≡ before_first (λ b. b == comma) text
    → rest ≡ after_first (λ b. b == comma) text → CutsPiece text piece (Some rest)
cuts_at_comma text piece rest less prefix back = record {
  pieces = slice_split_first (λ b. b == comma) text 0 less ∙ (λ i. sym prefix i ∷ pieces_of (sym back i));
  lengths = omega (arith, less, ap length prefix, ap length back, length-take (position_or_len (λ b. b == comma) text) text, length-drop (position_or_len (λ b. b == comma) text + 1) text);
}

pub no_comma : (text : List ℕ) → position_or_len (λ b. b == comma) text ≡ length text → CutsPiece text text None
no_comma text all = record {
  pieces = slice_split_none (λ b. b == comma) text (λ k d less. fails_before_first (λ b. b == comma) text k d (omega (arith, all, less)));
  lengths = omega arith;
}

-- ---- one address more

pub next_more : (before pieces : List (List ℕ)) (piece : List ℕ) → AreNext before pieces → IsNext (before ++ pieces) piece → AreNext before (pieces ++ piece ∷ [])
next_more before [] piece good next = (subst (λ (z : List (List ℕ)). IsNext z piece) (append-nil before) next, tt)
next_more before (first ∷ pieces) piece good next =
    (good.0, next_more (before ++ first ∷ []) pieces piece good.1 (subst (λ (z : List (List ℕ)). IsNext z piece) (sym (append_assoc before (first ∷ []) pieces)) next))

-- ---- one bad address

abbrev first_of : List (List ℕ) → List ℕ
first_of pieces = get_or pieces 0 []

same_first : (before xs ys xs' ys' : List (List ℕ)) (x y : List ℕ) → xs ++ x ∷ xs' ≡ ys ++ y ∷ ys' → AreNext before xs → AreNext before ys
    → (IsNext (before ++ xs) x → ⊥) → (IsNext (before ++ ys) y → ⊥) → (xs ≡ ys) × (x ≡ y)
same_first before [] [] xs' ys' x y same p q f g = (refl, ap first_of same)
same_first before [] (z ∷ ys) xs' ys' x y same p q f g =
    absurd (f (subst (λ (w : List ℕ). IsNext (before ++ []) w) (sym (ap first_of same)) (subst (λ (w : List (List ℕ)). IsNext w z) (sym (append-nil before)) q.0)))
same_first before (z ∷ xs) [] xs' ys' x y same p q f g =
    absurd (g (subst (λ (w : List ℕ). IsNext (before ++ []) w) (ap first_of same) (subst (λ (w : List (List ℕ)). IsNext w z) (sym (append-nil before)) p.0)))
same_first before (z ∷ xs) (w ∷ ys) xs' ys' x y same p q f g =
    let first : z ≡ w = ap first_of same in
    let rest = same_first (before ++ z ∷ []) xs ys xs' ys' x y (ap (drop 1) same) p.1
    (subst (λ (u : List ℕ). AreNext (before ++ u ∷ []) ys) (sym first) q.1)
    (λ next. f (subst (λ (u : List (List ℕ)). IsNext u x) (append_assoc before (z ∷ []) xs) next))
    (λ next. g (subst (λ (u : List (List ℕ)). IsNext u y) (append_assoc before (z ∷ []) ys ∙ ap (λ (u : List ℕ). before ++ u ∷ ys) first) next)) in
    ((λ i. first i ∷ rest.0 i), rest.1)

pub one_bad : (list : List ℕ) (place other : ℕ) (https another : Bool) → IsBadAddress list place https → IsBadAddress list other another → (place ≡ other) × (https ≡ another)
one_bad list place other https another a b =
    let same = same_first [] a.before b.before a.after b.after a.bad b.bad (sym a.split ∙ b.split) a.good b.good a.refused b.refused in
    (a.place_is ∙ ap (sum_by (λ (piece : List ℕ). length piece + 1)) same.0 ∙ sym b.place_is, a.https_is ∙ ap (begins_with (codes "https://")) same.1 ∙ sym b.https_is)

not_all : (before xs xs' : List (List ℕ)) (x : List ℕ) → AreNext before (xs ++ x ∷ xs') → (IsNext (before ++ xs) x → ⊥) → ⊥
not_all before [] xs' x good refused = refused (subst (λ (z : List (List ℕ)). IsNext z x) (sym (append-nil before)) good.0)
not_all before (first ∷ xs) xs' x good refused =
    not_all (before ++ first ∷ []) xs xs' x good.1 (λ next. refused (subst (λ (z : List (List ℕ)). IsNext z x) (append_assoc before (first ∷ []) xs) next))

pub none_bad : (list : List ℕ) (place : ℕ) (https : Bool) → IsBadAddress list place https → AreAddresses (pieces_of list) → ⊥
none_bad list place https a good = not_all [] a.before a.after a.bad (subst AreAddresses a.split good) a.refused

-- ---- texts of addresses that were read

shown_at : (xs : List AddressParts) (i : ℕ) (a : AddressParts) (shown : List ℕ) → i < length xs → a ≡ get_or xs i a → shown ≡ a.text → get_or (map text_of xs) i [] ≡ shown
shown_at xs i a shown less at is = get_or-map text_of xs i a [] less ∙ ap text_of (sym at) ∙ sym is

pub has_text_at : (xs : List AddressParts) (i : ℕ) (a : AddressParts) (shown text : List ℕ) (equal : Bool) → i < length xs → a ≡ get_or xs i a → shown ≡ a.text
    → equal ≡ bytes_eq shown text → equal ≡ true → All (λ (earlier : List ℕ). earlier ≢ text) (map text_of xs) → ⊥
has_text_at xs i a shown text equal less at is tests holds all =
    all i [] (omega (arith, less, length-map xs text_of)) (shown_at xs i a shown less at is ∙ (bytes_decides shown text).0 (sym tests ∙ holds))

pub lacks_text_more : (xs : List AddressParts) (i : ℕ) (a : AddressParts) (shown text : List ℕ) (equal : Bool) → i < length xs → a ≡ get_or xs i a → shown ≡ a.text
    → equal ≡ bytes_eq shown text → equal ≡ false → All (λ (earlier : List ℕ). earlier ≢ text) (map text_of (take i xs))
    → All (λ (earlier : List ℕ). earlier ≢ text) (map text_of (take (i + 1) xs))
lacks_text_more xs i a shown text equal less at is tests fails all =
    let other : text_of (get_or xs i a) ≢ text = λ e.
    let same : bytes_eq shown text ≡ true = (bytes_decides shown text).1 (is ∙ ap text_of at ∙ e) in absurd (cc) in
    subst (All (λ (earlier : List ℕ). earlier ≢ text)) (sym (ap (map text_of) (take_more xs i a less) ∙ map-append text_of (take i xs) (get_or xs i a ∷ [])))
    (All-push (λ (earlier : List ℕ). earlier ≢ text) (map text_of (take i xs)) (text_of (get_or xs i a)) all other)

pub no_next : {T : Type 0} (r : Option T) (before : List (List ℕ)) (piece bytes : List ℕ) → bytes ≡ piece
    → IfNone r ((host : List ℕ) (port : ℕ) → IsAddress bytes host port → ⊥) → IfNone r (IsNext before piece → ⊥)
no_next None before piece bytes is none = λ next. none next.address.0 next.address.1 (subst (λ (z : List ℕ). IsAddress z next.address.0 next.address.1) (sym is) next.address.2)
no_next (Some x) before piece bytes is none = tt

one_more : (xs : List AddressParts) (a : AddressParts) → AllByRecursion IsNamed xs → IsNamed a → AllByRecursion IsNamed (xs ++ a ∷ [])
one_more [] a all is = (is, tt)
one_more (x ∷ xs) a all is = (all.0, one_more xs a all.1 is)

-- an address more was read
pub record ReadsMore (list : List ℕ) (addresses : List AddressParts) (place : ℕ) (rest : Option (List ℕ)) : Type 0 where
  pub pieces : pieces_of list ≡ map text_of addresses ++ pieces_left rest
  pub named : AllByRecursion IsNamed addresses
  pub good : AreAddresses (map text_of addresses)
  pub place_is : place ≡ sum_by (λ (piece : List ℕ). length piece + 1) (map text_of addresses)

pub reads_more : (list : List ℕ) (old new : List AddressParts) (address : AddressParts) (text piece : List ℕ) (place : ℕ) (rest : Option (List ℕ))
    → ReadsMore list old place (Some text) → CutsPiece text piece rest → address.text ≡ piece → IsNamed address → IsNext (map text_of old) piece → new ≡ old ++ address ∷ []
    → ReadsMore list new (place + (length piece + 1)) rest
reads_more list old new address text piece place rest before cut is named next more =
    let texts : map text_of new ≡ map text_of old ++ piece ∷ [] = ap (map text_of) more ∙ map-append text_of old (address ∷ []) ∙ ap (λ (z : List ℕ). map text_of old ++ z ∷ []) is in
    record {
      pieces = before.pieces ∙ ap (λ (z : List (List ℕ)). map text_of old ++ z) cut.pieces ∙ sym (append_assoc (map text_of old) (piece ∷ []) (pieces_left rest))
          ∙ ap (λ (z : List (List ℕ)). z ++ pieces_left rest) (sym texts);
      named = subst (AllByRecursion IsNamed) (sym more) (one_more old address before.named named);
      good = subst AreAddresses (sym texts) (next_more [] (map text_of old) piece before.good next);
      place_is = rw texts (omega (arith, before.place_is, sum_by-append (λ (p : List ℕ). length p + 1) (map text_of old) (piece ∷ [])));
    }
