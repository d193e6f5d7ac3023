-- Tickets among others: their places, and what is made of them one after another.
use Rattle.std.proofs.Common.{◌≡◌, ℕ, zero, suc, ◌+◌, ◌^◌, ◌<◌, ◌≤◌, Bool, true, false, cond, List, [], ◌∷◌, ◌++◌, length, take, drop, map, get_or, set, refl, sym, ap, subst, ◌∙◌, arith}
use Rattle.std.proofs.lemmas.List.{take_more, take_more_set, length-map, map-append, drop-set-lt, drop-drop}
use Rattle.std.proofs.lemmas.Option.{get_or_from_slice_get, slice_get-get_or}
use Rattle.std.specs.List.{AllByRecursion}
use Rattle.std.specs.Prelude.{slice_get}
use Rattle.ots_merkle.specs.CalendarTree.{path}
use Rattle.ots_merkle.proofs.PathLaws.{path_leads, path_short}
use Rattle.ots_round.specs.declared.ticket.Ticket.{Ticket}
use Rattle.ots_round.specs.Round.{leaf, leaves, round_commitment}
use Rattle.ots_round.proofs.Leading.{leads_in_round}
use Rattle.ots_tickets.specs.declared.settled.Settled.{Settled}
use Rattle.ots_tickets.specs.Ready.{at_index}
use Rattle.ots_tickets.specs.Search.{IsPlace}
use Rattle.ots_tickets.specs.Numbers.{Fits}
use Rattle.ots_tickets.specs.Tickets.{Leads, IsShort, NoneIs, TakesOne, OneIs, settles_from, settles}

all_push : {A : Type 0} (P : A → Type 0) (xs : List A) (x : A) → AllByRecursion P xs → P x → AllByRecursion P (xs ++ x ∷ [])
all_push P [] x all one = (one, tt)
all_push P (y ∷ xs) x all one = (all.0, all_push P xs x all.1 one)

pub none_more : {A : Type 0} (P : A → Type 0) (xs : List A) (i : ℕ) (d : A) → i < length xs → NoneIs P (take i xs) → (P (get_or xs i d) → ⊥) → NoneIs P (take (i + 1) xs)
none_more P xs i d less none not = subst (NoneIs P) (sym (take_more xs i d less)) (all_push (λ x. P x → ⊥) (take i xs) (get_or xs i d) none not)

pub place_at : {A : Type 0} (P : A → Type 0) (xs : List A) (i : ℕ) (d : A) → i < length xs → P (get_or xs i d) → IsPlace P xs i
place_at P xs i d less is = record { inside = less; is = λ x at. subst P (get_or_from_slice_get xs i x d at) is }

-- what is taken away at a place
split_at : {A : Type 0} (xs : List A) (i : ℕ) (d : A) → i < length xs → xs ≡ take i xs ++ get_or xs i d ∷ drop (suc i) xs
split_at [] i d less = absurd (omega arith)
split_at (x ∷ xs) zero d less = refl
split_at (x ∷ xs) (suc i) d less = ap (λ (l : List _). x ∷ l) (split_at xs i d (omega arith))

pub takes_at : {A : Type 0} (P : A → Type 0) (old new : List A) (i : ℕ) (d : A) → IsPlace P old i → new ≡ take i old ++ drop (suc i) old → TakesOne P (get_or old i d) old new
takes_at P old new i d place is = record {
  before = take i old;
  after = drop (suc i) old;
  whole = split_at old i d place.inside;
  rest = is;
  is = place.is (get_or old i d) (slice_get-get_or old i d place.inside);
}

pub one_at : {A : Type 0} (P : A → Type 0) (xs : List A) (i : ℕ) (d : A) → IsPlace P xs i → OneIs P xs
one_at P xs i d place = record {
  before = take i xs;
  one = get_or xs i d;
  after = drop (suc i) xs;
  whole = split_at xs i d place.inside;
  is = place.is (get_or xs i d) (slice_get-get_or xs i d place.inside);
}

-- ---- what is written over in place

first : {A : Type 0} (l : List A) (i : ℕ) (d : A) → get_or (drop i l) 0 d ≡ get_or l i d
first l zero d = refl
first [] (suc i) d = refl
first (x ∷ l) (suc i) d = first l i d

pub mapped_more : {A : Type 0} (f : A → A) (i : ℕ) (xs ys : List A) (d : A) → i < length ys → length xs ≡ length ys → take i xs ≡ map f (take i ys) → drop i xs ≡ drop i ys
    → take (i + 1) (set xs i (f (get_or xs i d))) ≡ map f (take (i + 1) ys)
mapped_more f i xs ys d less long done rest =
    let same : get_or xs i d ≡ get_or ys i d = sym (first xs i d) ∙ ap (λ (l : List _). get_or l 0 d) rest ∙ first ys i d in
    take_more_set xs i (f (get_or xs i d)) (omega arith)
    ∙ (λ j. done j ++ f (same j) ∷ [])
    ∙ sym (map-append f (take i ys) (get_or ys i d ∷ []))
    ∙ ap (map f) (sym (take_more ys i d less))

pub rest_more : {A : Type 0} (i : ℕ) (y : A) (xs ys : List A) → i < length xs → drop i xs ≡ drop i ys → drop (i + 1) (set xs i y) ≡ drop (i + 1) ys
rest_more i y xs ys less rest = drop-set-lt (i + 1) xs i y (omega arith) ∙ sym (drop-drop 1 i xs) ∙ ap (drop 1) rest ∙ drop-drop 1 i ys

-- ---- the tickets of a round

abbrev pub settled_at : ℕ → List ℕ → List (List ℕ) → ℕ → Ticket → Settled
settled_at index commitment leaves i ticket = record { ticket = ticket; receipt = record { index = index; commitment = commitment }; path = path leaves i }

settles_next : (index : ℕ) (c : List ℕ) (leaves : List (List ℕ)) (s : ℕ) (tickets : List Ticket) (i : ℕ) (d : Ticket) → i < length tickets
    → take (suc i) (settles_from index c leaves s tickets) ≡ take i (settles_from index c leaves s tickets) ++ settled_at index c leaves (s + i) (get_or tickets i d) ∷ []
settles_next index c leaves s [] i d less = absurd (omega arith)
settles_next index c leaves s (t ∷ tickets) zero d less = ap (λ (n : ℕ). settled_at index c leaves n t ∷ []) (let e : s ≡ s + 0 = omega arith in e)
settles_next index c leaves s (t ∷ tickets) (suc i) d less =
    ap (λ (l : List Settled). settled_at index c leaves s t ∷ l) (settles_next index c leaves (suc s) tickets i d (omega arith)
    ∙ ap (λ (n : ℕ). take i (settles_from index c leaves (suc s) tickets) ++ settled_at index c leaves n (get_or tickets i d) ∷ []) (let e : suc s + i ≡ s + suc i = omega arith in e))

pub settles_more : (index : ℕ) (c : List ℕ) (leaves : List (List ℕ)) (tickets : List Ticket) (i : ℕ) (d : Ticket) → i < length tickets
    → take (i + 1) (settles_from index c leaves 0 tickets) ≡ take i (settles_from index c leaves 0 tickets) ++ settled_at index c leaves i (get_or tickets i d) ∷ []
settles_more index c leaves tickets i d less =
    ap (λ (n : ℕ). take n (settles_from index c leaves 0 tickets)) (let e : i + 1 ≡ suc i = omega arith in e) ∙ settles_next index c leaves 0 tickets i d less
    ∙ ap (λ (n : ℕ). take i (settles_from index c leaves 0 tickets) ++ settled_at index c leaves n (get_or tickets i d) ∷ []) (let e : 0 + i ≡ i = omega arith in e)

pub settles_long : (index : ℕ) (c : List ℕ) (leaves : List (List ℕ)) (s : ℕ) (tickets : List Ticket) → length (settles_from index c leaves s tickets) ≡ length tickets
settles_long index c leaves s [] = refl
settles_long index c leaves s (t ∷ tickets) = ap suc (settles_long index c leaves (suc s) tickets)

-- the same tickets, stored at another index
pub settles_index : (index : ℕ) (c : List ℕ) (leaves : List (List ℕ)) (s : ℕ) (tickets : List Ticket) → map (at_index index) (settles_from 0 c leaves s tickets) ≡ settles_from index c leaves s tickets
settles_index index c leaves s [] = refl
settles_index index c leaves s (t ∷ tickets) = ap (λ (l : List Settled). settled_at index c leaves s t ∷ l) (settles_index index c leaves (suc s) tickets)

-- their numbers are those of the tickets
pub settles_below : (next index : ℕ) (c : List ℕ) (leaves : List (List ℕ)) (s : ℕ) (tickets : List Ticket) → AllByRecursion (λ (t : Ticket). t.number < next) tickets
    → AllByRecursion (λ (x : Settled). x.ticket.number < next) (settles_from index c leaves s tickets)
settles_below next index c leaves s [] all = tt
settles_below next index c leaves s (t ∷ tickets) all = (all.0, settles_below next index c leaves (suc s) tickets all.1)

pub all_joined : {A : Type 0} (P : A → Type 0) (xs ys : List A) → AllByRecursion P xs → AllByRecursion P ys → AllByRecursion P (xs ++ ys)
all_joined P [] ys one two = two
all_joined P (x ∷ xs) ys one two = (one.0, all_joined P xs ys one.1 two)

pub any_default : {A : Type 0} (xs : List A) (i : ℕ) (d e : A) → i < length xs → get_or xs i d ≡ get_or xs i e
any_default [] i d e less = absurd (omega arith)
any_default (x ∷ xs) zero d e less = refl
any_default (x ∷ xs) (suc i) d e less = any_default xs i d e (omega arith)

pub below_index : (next index : ℕ) (xs : List Settled) → AllByRecursion (λ (x : Settled). x.ticket.number < next) xs → AllByRecursion (λ (x : Settled). x.ticket.number < next) (map (at_index index) xs)
below_index next index [] all = tt
below_index next index (x ∷ xs) all = (all.0, below_index next index xs all.1)

-- ---- where their ways lead

later : (all : List Ticket) (s : ℕ) (t : Ticket) (tickets : List Ticket) → ((i : ℕ) → slice_get all (s + i) ≡ slice_get (t ∷ tickets) i) → (i : ℕ) → slice_get all (suc s + i) ≡ slice_get tickets i
later all s t tickets at i = ap (slice_get all) (let e : suc s + i ≡ s + suc i = omega arith in e) ∙ at (suc i)

leads_from : (index : ℕ) (key : List ℕ) (second : ℕ) (all : List Ticket) (s : ℕ) (tickets : List Ticket) → ((i : ℕ) → slice_get all (s + i) ≡ slice_get tickets i) → AllByRecursion Fits tickets
    → AllByRecursion Leads (settles_from index (round_commitment key second all) (leaves all) s tickets)
leads_from index key second all s [] at fit = tt
leads_from index key second all s (t ∷ tickets) at fit = (
  leads_in_round key second all s t path_leads (fit.0).leaf (fit.0).nonce (ap (slice_get all) (let e : s ≡ s + 0 = omega arith in e) ∙ at 0),
  leads_from index key second all (suc s) tickets (later all s t tickets at) fit.1,
)

-- each ticket of a round has a way that leads to its commitment
pub settles_lead : (index : ℕ) (key : List ℕ) (second : ℕ) (tickets : List Ticket) → AllByRecursion Fits tickets → AllByRecursion Leads (settles key second index tickets)
settles_lead index key second tickets fit = leads_from index key second tickets 0 tickets (λ i. ap (slice_get tickets) (let e : 0 + i ≡ i = omega arith in e)) fit

pub lead_index : (index : ℕ) (xs : List Settled) → AllByRecursion Leads xs → AllByRecursion Leads (map (at_index index) xs)
lead_index index [] all = tt
lead_index index (x ∷ xs) all = (all.0, lead_index index xs all.1)

-- ---- how long their ways are

pub settles_short : (index : ℕ) (c : List ℕ) (all : List Ticket) (s : ℕ) (tickets : List Ticket) → length all ≤ 2 ^ 16 → AllByRecursion IsShort (settles_from index c (leaves all) s tickets)
settles_short index c all s [] few = tt
settles_short index c all s (t ∷ tickets) few =
    (path_short 16 (leaves all) s (let n : length (leaves all) ≤ 2 ^ 16 = omega (arith, length-map all leaf) in n), settles_short index c all (suc s) tickets few)

pub short_index : (index : ℕ) (xs : List Settled) → AllByRecursion IsShort xs → AllByRecursion IsShort (map (at_index index) xs)
short_index index [] all = tt
short_index index (x ∷ xs) all = (all.0, short_index index xs all.1)

-- what holds of all holds of one
pub all_at : {A : Type 0} (P : A → Type 0) (xs : List A) (i : ℕ) (d : A) → i < length xs → AllByRecursion P xs → P (get_or xs i d)
all_at P [] i d less all = absurd (omega arith)
all_at P (x ∷ xs) zero d less all = all.0
all_at P (x ∷ xs) (suc i) d less all = all_at P xs i d (omega arith) all.1

-- ---- one less

pub all_left : {A : Type 0} (P : A → Type 0) (xs : List A) (y : A) (ys : List A) → AllByRecursion P (xs ++ y ∷ ys) → AllByRecursion P (xs ++ ys)
all_left P [] y ys all = all.1
all_left P (x ∷ xs) y ys all = (all.0, all_left P xs y ys all.1)

pub all_one : {A : Type 0} (P : A → Type 0) (xs : List A) (y : A) (ys : List A) → AllByRecursion P (xs ++ y ∷ ys) → P y
all_one P [] y ys all = all.0
all_one P (x ∷ xs) y ys all = all_one P xs y ys all.1
