-- What a command hears that draws no nonces.
use Rattle.std.proofs.Common.{ℕ, List, Option, refl, sym, subst}
use Rattle.ots_client_endings.specs.Outside.{DrawsOrFails, Happens, Hears, Outside}
use Rattle.ots_outside.specs.Dialer.{DialerTold}

pub heard : {D N : Type 0} (told : D → DialerTold) (faults : D → ℕ) (left : N → Option (List ℕ)) (draw_faults : N → ℕ) (old new : D) (nonces : N) (o : Outside)
    → Hears told faults old new o → Happens told faults left draw_faults old new nonces nonces o
heard told faults left draw_faults old new nonces o h = record {
  heard = h.heard;
  drawn = subst (λ (z : Option (List (List ℕ))). DrawsOrFails left draw_faults z nonces nonces) (sym h.none) refl;
}
