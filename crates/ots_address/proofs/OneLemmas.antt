-- A word that is one address or none.
use Rattle.std.proofs.Common.{◌≡◌, refl, ◌≤◌, ◌+◌, ℕ, Bool, true, false, List, [], ◌∷◌, length, cond, map, drop, get_or, sym, ap, subst, ◌∙◌, arith}
use Rattle.std.specs.Prelude.{Result, Ok, Err, ◌==◌, IfErr}
use Rattle.std.specs.List.{AllByRecursion, onto_first}
use Rattle.ots_address.specs.Address.{AddressParts, IsNamed, text_of}
use Rattle.ots_address.specs.AddressList.{IfBadAddress, IsListOf, comma, pieces_of}
use Rattle.ots_address.specs.OneAddress.{IsOneAddress, IsNotOneAddress, IfNotOneAddress, IsOnly, bad, several}
use Rattle.ots_address.specs.declared.list.AddressError.{AddressError}
use Rattle.ots_address.specs.declared.list.AddressError.TheVariants.{BadAddress, OutOfMemory}
use Rattle.ots_address.proofs.AddressLemmas.{one_address}
use Rattle.ots_address.proofs.ListLemmas.{none_bad, one_bad}

-- there is always a piece
onto_some : (b : Bool) (x : ℕ) (pieces : List (List ℕ)) → cond b ([] ∷ pieces) (onto_first x pieces) ≡ [] → ⊥
onto_some true x pieces none = absurd cc
onto_some false x [] none = absurd cc
onto_some false x (p ∷ pieces) none = absurd cc

some_pieces : (word : List ℕ) → pieces_of word ≡ [] → ⊥
some_pieces [] none = absurd cc
some_pieces (x ∷ xs) none = onto_some (x == comma) x (pieces_of xs) none

pub some_addresses : (word : List ℕ) (addresses : List AddressParts) → IsListOf word addresses → 1 ≤ length addresses
some_addresses word [] list = absurd (some_pieces word list.texts)
some_addresses word (a ∷ rest) list = omega arith

-- what the addresses of a list give
pub one_gives : (word : List ℕ) (addresses : List AddressParts) (a : AddressParts) → IsListOf word addresses
    → IsOnly addresses (Ok a) → IsOneAddress word a
one_gives word [] a list only = absurd only
one_gives word (one ∷ []) a list only = subst (IsOneAddress word) (sym only) list
one_gives word (one ∷ two ∷ rest) a list only = absurd only

pub several_refused : (word : List ℕ) (addresses : List AddressParts) (r : Result AddressParts AddressError)
    → IsListOf word addresses → IsOnly addresses r → IfErr r (IfNotOneAddress word)
several_refused word addresses (Ok a) list only = tt
several_refused word [] (Err e) list only = absurd only
several_refused word (one ∷ []) (Err e) list only = absurd only
several_refused word (one ∷ two ∷ rest) (Err e) list only =
    subst (IfNotOneAddress word) (sym only) (several one two rest list refl refl)

pub bad_refused : (word : List ℕ) (e : AddressError) → IfBadAddress word e → IfNotOneAddress word e
bad_refused word (BadAddress place https) is = bad is
bad_refused word OutOfMemory is = tt

-- ---- the answer is one

first_text : (a b : AddressParts) (more others : List AddressParts) → map text_of (a ∷ more) ≡ map text_of (b ∷ others)
    → a.text ≡ b.text
first_text a b more others same = ap (λ (z : List (List ℕ)). get_or z 0 []) same

same_parts : (a b : AddressParts) → a.text ≡ b.text → IsNamed a → IsNamed b → a ≡ b
same_parts a b same p q =
    let rest = one_address a.text a.host b.host a.port b.port p (rw same q) in λ i. record { text = same i; host = rest.0 i; port = rest.1 i }

same_addresses : (xs ys : List AddressParts) → map text_of xs ≡ map text_of ys → AllByRecursion IsNamed xs → AllByRecursion IsNamed ys → xs ≡ ys
same_addresses [] [] same p q = refl
same_addresses [] (y ∷ ys) same p q = absurd cc
same_addresses (x ∷ xs) [] same p q = absurd cc
same_addresses (x ∷ xs) (y ∷ ys) same p q =
    let first = same_parts x y (first_text x y xs ys same) p.0 q.0 in let rest = same_addresses xs ys (ap (drop 1) same) p.1 q.1 in λ i. first i ∷ rest i

pub one_list : (list : List ℕ) (xs ys : List AddressParts) → IsListOf list xs → IsListOf list ys → xs ≡ ys
one_list list xs ys f g = same_addresses xs ys (sym f.texts ∙ g.texts) f.named g.named

pub given_once : (word : List ℕ) (a b : AddressParts) → IsOneAddress word a → IsOneAddress word b → a ≡ b
given_once word a b f g = ap (λ (z : List AddressParts). get_or z 0 a) (one_list word (a ∷ []) (b ∷ []) f g)

pub refused_once : (word : List ℕ) (place other : ℕ) (https another : Bool) → IsNotOneAddress word place https
    → IsNotOneAddress word other another → (place ≡ other) × (https ≡ another)
refused_once word p q h k (bad f) (bad g) = one_bad word p q h k f g
refused_once word p q h k (bad f) (several a b rest list at is) = absurd (none_bad word p h f list.good)
refused_once word p q h k (several a b rest list at is) (bad g) = absurd (none_bad word q k g list.good)
refused_once word p q h k (several a b rest list at is) (several c d more other there also) = (
  at ∙ ap (λ (z : List ℕ). length z + 1) (first_text a c (b ∷ rest) (d ∷ more) (sym list.texts ∙ other.texts)) ∙ sym there,
  is ∙ sym also,
)

pub never_both : (word : List ℕ) (a : AddressParts) (place : ℕ) (https : Bool) → IsOneAddress word a
    → IsNotOneAddress word place https → ⊥
never_both word a place https one (bad f) = none_bad word place https f one.good
never_both word a place https one (several b c rest list at is) =
    let same : map text_of (a ∷ []) ≡ map text_of (b ∷ c ∷ rest) = sym one.texts ∙ list.texts in
    absurd (omega (arith, ap length same))
