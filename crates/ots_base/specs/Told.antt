-- Contents that an object of the outside may tell: those in memory do, a file or a socket does not.
use Rattle.std.specs.Prelude.{Option, None, Some, IfSome}

-- What is said of told contents holds where they are told.
abbrev pub IfTold : {A : Type 0} → Option A → (A → Type 0) → Type 0
IfTold told P = IfSome told P

-- Told before and after, with P; or told neither before nor after. So no call makes an object that tells nothing begin
-- to tell, and none that tells stop.
abbrev pub BothTold : {A : Type 0} → (A → A → Type 0) → Option A → Option A → Type 0
BothTold P None None = Unit {0}
BothTold P None (Some new) = ⊥
BothTold P (Some old) None = ⊥
BothTold P (Some old) (Some new) = P old new

-- Nothing changed.
pub BothTold-same : {A : Type 0} (P : A → A → Type 0) → ((x : A) → P x x) → (a : Option A) → BothTold P a a
BothTold-same P same None = tt
BothTold-same P same (Some x) = same x

-- One change after the other.
pub BothTold-trans : {A : Type 0} (P Q R : A → A → Type 0) → ((x y z : A) → P x y → Q y z → R x z)
    → (a b c : Option A) → BothTold P a b → BothTold Q b c → BothTold R a c
BothTold-trans P Q R step None None None p q = tt
BothTold-trans P Q R step None None (Some z) p q = absurd q
BothTold-trans P Q R step None (Some y) c p q = absurd p
BothTold-trans P Q R step (Some x) None c p q = absurd p
BothTold-trans P Q R step (Some x) (Some y) None p q = absurd q
BothTold-trans P Q R step (Some x) (Some y) (Some z) p q = step x y z p q
