-- The least of what the ends of paths give.
use Rattle.std.proofs.Common.{◌≡◌, ◌≤◌, ◌<◌, ◌⊎◌, inl, inr, Bool, true, false, cond, ltb, List, [], ◌∷◌, Option, Some, None, refl, sym, ap, subst, arith}
use Rattle.std.proofs.lemmas.Bool.{ltb-true, ltb-false}
use Rattle.ots_verdicts.specs.declared.best.Found.{Found}
use Rattle.ots_verdicts.specs.Walked.{lesser}
use Rattle.ots_verdicts.proofs.PathValues.{End}

-- one of these ends gives it
abbrev pub SomeEnd : (End → Option Found) → List End → Found → Type 0
SomeEnd f [] g = ⊥
SomeEnd f (e ∷ es) g = (f e ≡ Some g) ⊎ SomeEnd f es g

-- the least of those that are P, none where none is
abbrev pub IsLeast : (Found → Type 0) → Option Found → Type 0
IsLeast P None = (g : Found) → P g → ⊥
IsLeast P (Some g) = P g × ((k : Found) → P k → g.height ≤ k.height)

-- with the ends one after the other
abbrev pub least : (End → Option Found) → Option Found → List End → Option Found
least f b [] = b
least f b (e ∷ es) = least f (lesser b (f e)) es

-- one that is Q and not over g
record Below (Q : Found → Type 0) (g : Found) : Type 0 where
  one : Found
  is : Q one
  low : one.height ≤ g.height

by_less : (P Q : Found → Type 0) → ((g : Found) → Q g → P g) → ((g : Found) → P g → Below Q g) → (r : Option Found) → IsLeast Q r → IsLeast P r
by_less P Q among below None h = λ g p. let b = below g p in h b.one b.is
by_less P Q among below (Some g) h = (
  among g h.0,
  λ k p. let b = below k p in let one = h.1 b.one b.is in let low = b.low in omega arith,
)

some_same : (f g : Found) → (let o : Option Found = Some f in o) ≡ Some g → f ≡ g
some_same f g e = cc

none_some : (g : Found) → (let o : Option Found = None in o) ≡ Some g → ⊥
none_some g e = absurd cc

one_of : (c : Bool) (f g k : Found) → cond c (Some g) (Some f) ≡ Some k → (Some f ≡ Some k) ⊎ (Some g ≡ Some k)
one_of true f g k e = inr e
one_of false f g k e = inl e

lesser-one_of : (b x : Option Found) (k : Found) → lesser b x ≡ Some k → (b ≡ Some k) ⊎ (x ≡ Some k)
lesser-one_of None x k e = inr e
lesser-one_of (Some f) None k e = inl e
lesser-one_of (Some f) (Some g) k e = one_of (ltb g.height f.height) f g k e

itself : (o : Option Found) (g : Found) → o ≡ Some g → Below (λ k. o ≡ Some k) g
itself o g e = record { one = g; is = e; low = omega arith }

first_below : (c : Bool) (f g : Found) → c ≡ ltb g.height f.height → Below (λ k. cond c (Some g) (Some f) ≡ Some k) f
first_below true f g e = let less : g.height < f.height = ltb-true g.height f.height (sym e) in record { one = g; is = refl; low = omega arith }
first_below false f g e = record { one = f; is = refl; low = omega arith }

second_below : (c : Bool) (f g : Found) → c ≡ ltb g.height f.height → Below (λ k. cond c (Some g) (Some f) ≡ Some k) g
second_below true f g e = record { one = g; is = refl; low = omega arith }
second_below false f g e = let less : f.height ≤ g.height = ltb-false g.height f.height (sym e) in record { one = f; is = refl; low = less }

lesser-first : (b x : Option Found) (k : Found) → b ≡ Some k → Below (λ o. lesser b x ≡ Some o) k
lesser-first None x k e = absurd (none_some k e)
lesser-first (Some f) None k e = itself (Some f) k e
lesser-first (Some f) (Some g) k e =
    subst (Below (λ o. lesser (Some f) (Some g) ≡ Some o)) (some_same f k e) (first_below (ltb g.height f.height) f g refl)

lesser-second : (b x : Option Found) (k : Found) → x ≡ Some k → Below (λ o. lesser b x ≡ Some o) k
lesser-second None x k e = itself x k e
lesser-second (Some f) None k e = absurd (none_some k e)
lesser-second (Some f) (Some g) k e =
    subst (Below (λ o. lesser (Some f) (Some g) ≡ Some o)) (some_same g k e) (second_below (ltb g.height f.height) f g refl)

abbrev Among : (End → Option Found) → Option Found → List End → Found → Type 0
Among f b es g = (b ≡ Some g) ⊎ SomeEnd f es g

one_less : (f : End → Option Found) (b : Option Found) (e : End) (es : List End) (g : Found) → Among f (lesser b (f e)) es g → Among f b (e ∷ es) g
one_less f b e es g (inl is) = elim (lesser-one_of b (f e) g is) [ inl h ↦ inl h | inr h ↦ inr (inl h) ]
one_less f b e es g (inr h) = inr (inr h)

still_below : (f : End → Option Found) (b : Option Found) (e : End) (es : List End) (g : Found) → Below (λ o. lesser b (f e) ≡ Some o) g
    → Below (Among f (lesser b (f e)) es) g
still_below f b e es g h = record { one = h.one; is = inl h.is; low = h.low }

one_more : (f : End → Option Found) (b : Option Found) (e : End) (es : List End) (g : Found) → Among f b (e ∷ es) g → Below (Among f (lesser b (f e)) es) g
one_more f b e es g (inl is) = still_below f b e es g (lesser-first b (f e) g is)
one_more f b e es g (inr (inl is)) = still_below f b e es g (lesser-second b (f e) g is)
one_more f b e es g (inr (inr h)) = record { one = g; is = inr h; low = omega arith }

least_among : (f : End → Option Found) (es : List End) (b : Option Found) → IsLeast (Among f b es) (least f b es)
least_among f [] None = λ g h. elim h [ inl e ↦ none_some g e | inr e ↦ e ]
least_among f [] (Some g) = (inl refl, λ k h. elim h [ inl e ↦ (let same = some_same g k e in let heights : g.height ≡ k.height = ap (λ (z : Found). z.height) same in omega arith) | inr e ↦ absurd e ])
least_among f (e ∷ es) b =
    by_less (Among f b (e ∷ es)) (Among f (lesser b (f e)) es) (one_less f b e es) (one_more f b e es) (least f (lesser b (f e)) es) (least_among f es (lesser b (f e)))

-- from nothing
pub least_is : (f : End → Option Found) (es : List End) → IsLeast (SomeEnd f es) (least f None es)
least_is f es =
    by_less (SomeEnd f es) (Among f None es) (λ g h. elim h [ inl e ↦ absurd (none_some g e) | inr e ↦ e ])
    (λ g h. record { one = g; is = inr h; low = omega arith }) (least f None es) (least_among f es None)
