-- No bytes have two faults, and bytes that begin with a sound tree have none.
use Rattle.std.proofs.Common.{◌≡◌, ℕ, ◌≤◌, Bool, List, [], ◌∷◌, ◌++◌, length, Option, Some, None, refl, sym, ap, subst, ◌∙◌, arith, append_assoc, length-append}
use Rattle.std.specs.Prelude.{option_and_then}
use Rattle.std.specs.List.{AllByRecursion}
use Rattle.std.proofs.lemmas.Grind.{flat_map-append}
use Rattle.std.proofs.lemmas.List.{append-nil, append_cancel_left}
use Rattle.ots_tree.specs.declared.shape.Shape.{Shape}
use Rattle.ots_tree.specs.declared.token.Token.{Token}
use Rattle.ots_tree.specs.Wire.{Node, pre, bytes, spell, spelled, IsToken}
use Rattle.ots_tree.specs.Front.{Open, start, next_at, next, opened, IsClosed}
use Rattle.ots_tree.proofs.Closing.{front_law}
use Rattle.ots_tree.proofs.Determined.{token-apart, OneBegins, first, second, begins}
use Rattle.ots_reader.specs.declared.fault.Fault.{Fault}
use Rattle.ots_reader.specs.declared.fault.Reason.{Reason}
use Rattle.ots_reader.specs.TreeRead.{IsSoundNode}
use Rattle.ots_reader.specs.TreeFault.{BeginsWith, IsReason, no_token, no_place, HasTreeFault}

-- ---- the nodes that are open after more tokens

open_more : (o : Option Open) (ts us : List Token) → ((s : Open) → opened s (ts ++ us) ≡ option_and_then (λ v. opened v us) (opened s ts))
    → option_and_then (λ u. opened u (ts ++ us)) o ≡ option_and_then (λ v. opened v us) (option_and_then (λ u. opened u ts) o)
open_more None ts us h = refl
open_more (Some s) ts us h = h s

pub opened-append : (s : Open) (ts us : List Token) → opened s (ts ++ us) ≡ option_and_then (λ v. opened v us) (opened s ts)
opened-append s [] us = refl
opened-append s (x ∷ ts) us = open_more (next x s) ts us (λ u. opened-append u ts us)

-- ---- no front goes on past a fault

abbrev pub open_at : Shape → List Shape → Bool → Open
open_at at others forked = record { nodes = at ∷ others; forked = forked }

-- one token at the start of some bytes
one_token : (input : List ℕ) (x y : Token) → BeginsWith input x → BeginsWith input y → x ≡ y
one_token input x y f g = (token-apart x y f.rest g.rest f.fits g.fits (sym f.spelled ∙ g.spelled)).0

stops : (at : Shape) (others : List Shape) (forked : Bool) (rest : List ℕ) (r : Reason) → IsReason at others forked rest r
    → (y : Token) (ys : List Token) (s : Open) → BeginsWith rest y → opened (open_at at others forked) (y ∷ ys) ≡ Some s → ⊥
stops at others forked rest r (no_token none e) y ys s front leads = none y front
stops at others forked rest r (no_place x x-front gone e) y ys s front leads =
    let none : next_at at others forked y ≡ None = subst (λ (z : Token). next_at at others forked z ≡ None) (one_token rest x y x-front front) gone in
    let ended : opened (open_at at others forked) (y ∷ ys) ≡ None = ap (option_and_then (λ u. opened u ys)) none in
    absurd cc

last_fits : (ts : List Token) (y : Token) (ys : List Token) → AllByRecursion IsToken (ts ++ y ∷ ys) → IsToken y
last_fits [] y ys h = h.0
last_fits (t ∷ ts) y ys h = last_fits ts y ys h.1

goes_on : (n k : ℕ) (input : List ℕ) (f : Fault) (h : HasTreeFault n k input f) (y : Token) (ys : List Token) (rest : List ℕ) (s : Open)
    → AllByRecursion IsToken (h.front ++ y ∷ ys) → input ≡ spelled (h.front ++ y ∷ ys) ++ rest → opened (start n k) (h.front ++ y ∷ ys) ≡ Some s → ⊥
goes_on n k input f h y ys rest s fits whole leads =
    let cut : h.rest ≡ spell y ++ (spelled ys ++ rest) =
    append_cancel_left (spelled h.front) h.rest (spell y ++ (spelled ys ++ rest))
    (sym h.whole ∙ whole ∙ ap (λ (z : List ℕ). z ++ rest) (flat_map-append spell h.front (y ∷ ys))
    ∙ append_assoc (spelled h.front) (spell y ++ spelled ys) rest ∙ ap (λ (z : List ℕ). spelled h.front ++ z) (append_assoc (spell y) (spelled ys) rest)) in
    let after : opened (open_at h.at h.others h.forked) (y ∷ ys) ≡ Some s =
    sym (ap (option_and_then (λ v. opened v (y ∷ ys))) h.is_front.opens) ∙ sym (opened-append (start n k) h.front (y ∷ ys)) ∙ leads in
    stops h.at h.others h.forked h.rest f.reason h.reason y ys s (record { fits = last_fits h.front y ys fits; rest = spelled ys ++ rest; spelled = cut }) after

longer : (n k : ℕ) (input : List ℕ) (f g : Fault) (h : HasTreeFault n k input f) (i : HasTreeFault n k input g) (more : List Token) → i.front ≡ h.front ++ more → h.front ≡ i.front
longer n k input f g h i [] e = sym (e ∙ append-nil h.front)
longer n k input f g h i (y ∷ ys) e =
    absurd (goes_on n k input f h y ys i.rest (open_at i.at i.others i.forked) (subst (AllByRecursion IsToken) e i.is_front.fits)
    (i.whole ∙ ap (λ (z : List Token). spelled z ++ i.rest) e) (sym (ap (opened (start n k)) e) ∙ i.is_front.opens))

same_front : (n k : ℕ) (input : List ℕ) (f g : Fault) (h : HasTreeFault n k input f) (i : HasTreeFault n k input g) → OneBegins h.front i.front → h.front ≡ i.front
same_front n k input f g h i (first more e) = longer n k input f g h i more e
same_front n k input f g h i (second more e) = sym (longer n k input g f i h more e)

-- ---- one reason

one_reason : (at : Shape) (others : List Shape) (forked : Bool) (rest : List ℕ) (r s : Reason) → IsReason at others forked rest r → IsReason at others forked rest s → r ≡ s
one_reason at others forked rest r s (no_token n e) (no_token m d) = cc
one_reason at others forked rest r s (no_token n e) (no_place y front gone d) = absurd (n y front)
one_reason at others forked rest r s (no_place x front gone e) (no_token m d) = absurd (m x front)
one_reason at others forked rest r s (no_place x x-front x-gone e) (no_place y front gone d) =
    let same = one_token rest x y x-front front in
    cc

open_parts : (a b : Shape) (cs ds : List Shape) (f g : Bool) → Some (open_at a cs f) ≡ Some (open_at b ds g) → (a ≡ b) × (cs ≡ ds) × (f ≡ g)
open_parts a b cs ds f g e =
    let states : open_at a cs f ≡ open_at b ds g = cc in
    let nodes : a ∷ cs ≡ b ∷ ds = ap (λ (s : Open). s.nodes) states in
    (cc, cc, ap (λ (s : Open). s.forked) states)

pub one_fault_lem : (n k : ℕ) (input : List ℕ) (f g : Fault) → HasTreeFault n k input f → HasTreeFault n k input g → f ≡ g
one_fault_lem n k input f g h i =
    let fronts = same_front n k input f g h i (begins h.front i.front h.rest i.rest h.is_front.fits i.is_front.fits (sym h.whole ∙ i.whole)) in
    let rests : h.rest ≡ i.rest = append_cancel_left (spelled h.front) h.rest i.rest (sym h.whole ∙ i.whole ∙ ap (λ (z : List Token). spelled z ++ i.rest) (sym fronts)) in
    let opens : Some (open_at h.at h.others h.forked) ≡ Some (open_at i.at i.others i.forked) = sym h.is_front.opens ∙ ap (opened (start n k)) fronts ∙ i.is_front.opens in
    let parts = open_parts h.at i.at h.others i.others h.forked i.forked opens in
    let places : f.place ≡ g.place = h.place ∙ ap (λ (z : List Token). length (spelled z)) fronts ∙ sym i.place in
    let other : IsReason h.at h.others h.forked h.rest g.reason = rw (parts.0, parts.1, parts.2, rests) i.reason in
    let reasons : f.reason ≡ g.reason = one_reason h.at h.others h.forked h.rest f.reason g.reason h.reason other in
    λ j. record { place = places j; reason = reasons j }

-- ---- no fault where a sound tree is

closed_is : (o : Option Open) → IsClosed o → (s : Open) × (o ≡ Some s) × (s.nodes ≡ [])
closed_is None h = absurd h
closed_is (Some s) h = (s, refl, h)

none_next : (s : Open) (x : Token) → s.nodes ≡ [] → next x s ≡ None
none_next s x e = rw e refl

ended : (s : Open) (more : List Token) (u : Open) → s.nodes ≡ [] → opened s more ≡ Some u → u.nodes ≡ []
ended s [] u e o = let same : s ≡ u = cc in subst (λ (v : Open). v.nodes ≡ []) same e
ended s (x ∷ xs) u e o = let gone : opened s (x ∷ xs) ≡ None = ap (option_and_then (λ v. opened v xs)) (none_next s x e) in absurd cc

not_ended : (at : Shape) (others : List Shape) → at ∷ others ≡ [] → ⊥
not_ended at others e = cc

apart_from : (n k : ℕ) (input : List ℕ) (f : Fault) (h : HasTreeFault n k input f) (t : Node) (rest : List ℕ) (s : Open) → AllByRecursion IsToken (pre t)
    → opened (start n k) (pre t) ≡ Some s → s.nodes ≡ [] → input ≡ bytes t ++ rest → OneBegins (pre t) h.front → ⊥
apart_from n k input f h t rest s fits closes none whole (first more e) =
    let leads : opened s more ≡ Some (open_at h.at h.others h.forked) =
    sym (ap (option_and_then (λ v. opened v more)) closes) ∙ sym (opened-append (start n k) (pre t) more) ∙ sym (ap (opened (start n k)) e) ∙ h.is_front.opens in
    not_ended h.at h.others (ended s more (open_at h.at h.others h.forked) none leads)
apart_from n k input f h t rest s fits closes none whole (second [] e) =
    let leads : opened s [] ≡ Some (open_at h.at h.others h.forked) = sym closes ∙ ap (opened (start n k)) (e ∙ append-nil h.front) ∙ h.is_front.opens in
    not_ended h.at h.others (ended s [] (open_at h.at h.others h.forked) none leads)
apart_from n k input f h t rest s fits closes none whole (second (y ∷ ys) e) =
    goes_on n k input f h y ys rest s (subst (AllByRecursion IsToken) e fits) (whole ∙ ap (λ (z : List Token). spelled z ++ rest) e) (sym (ap (opened (start n k)) e) ∙ closes)

pub never_both_lem : (n k : ℕ) (input : List ℕ) (f : Fault) (t : Node) (rest : List ℕ) → k ≤ 255 → HasTreeFault n k input f → IsSoundNode n k t → input ≡ bytes t ++ rest → ⊥
never_both_lem n k input f t rest deep h tree whole =
    let c = closed_is (opened (start n k) (pre t)) ((front_law n k (pre t) deep).1 (t, tree.sound, refl)) in
    apart_from n k input f h t rest c.0 tree.fits c.1 c.2 whole (begins (pre t) h.front rest h.rest tree.fits h.is_front.fits (sym whole ∙ h.whole))

-- ---- a fault stands after every front

before : (ts us : List Token) (f : Fault) → us ≡ ts → f.place ≡ length (spelled us) → length (spelled ts) ≤ f.place
before ts us f e place = omega (arith, place, ap (λ (z : List Token). length (spelled z)) e)

not_past : (n k : ℕ) (input : List ℕ) (f : Fault) (h : HasTreeFault n k input f) (ts : List Token) (rest : List ℕ) (s : Open) → AllByRecursion IsToken ts
    → input ≡ spelled ts ++ rest → opened (start n k) ts ≡ Some s → OneBegins ts h.front → length (spelled ts) ≤ f.place
not_past n k input f h ts rest s fits whole leads (first more e) =
    omega (arith, h.place, ap (λ (z : List Token). length (spelled z)) e, ap length (flat_map-append spell ts more), length-append (spelled ts) (spelled more))
not_past n k input f h ts rest s fits whole leads (second [] e) = before ts h.front f (sym (e ∙ append-nil h.front)) h.place
not_past n k input f h ts rest s fits whole leads (second (y ∷ ys) e) =
    absurd (goes_on n k input f h y ys rest s (subst (AllByRecursion IsToken) e fits) (whole ∙ ap (λ (z : List Token). spelled z ++ rest) e) (sym (ap (opened (start n k)) e) ∙ leads))

pub front_before : (n k : ℕ) (input : List ℕ) (f : Fault) (ts : List Token) (rest : List ℕ) (s : Open) → HasTreeFault n k input f → AllByRecursion IsToken ts
    → input ≡ spelled ts ++ rest → opened (start n k) ts ≡ Some s → length (spelled ts) ≤ f.place
front_before n k input f ts rest s h fits whole leads = not_past n k input f h ts rest s fits whole leads (begins ts h.front rest h.rest fits h.is_front.fits (sym whole ∙ h.whole))
