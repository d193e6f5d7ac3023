-- How many links were stamped.
use Rattle.std.proofs.Common.{◌≡◌, ◌<◌, ◌∙◌, ℕ, ◌+◌, List, [], ◌∷◌, ◌++◌, length, get_or, take, refl, sym, ap, arith}
use Rattle.std.specs.Prelude.{Option, None, Some}
use Rattle.std.proofs.lemmas.List.{take_more}
use Rattle.ots_tree.specs.declared.token.Token.{Token}
use Rattle.ots_gateway.specs.declared.served.GateServed.{GateServed}
use Rattle.ots_gateway.specs.declared.served.GateServed.TheVariants.{Stamped, Replied, Closed, LinkFault}
use Rattle.ots_gateway_run.specs.Accepted.{StaysWithin}
use Rattle.ots_gateway_run.specs.Rounds.{stamped}

stamped_more : (xs ys : List GateServed) → stamped (xs ++ ys) ≡ stamped xs + stamped ys
stamped_more [] ys = omega arith
stamped_more (Stamped tree ∷ xs) ys = let more = stamped_more xs ys in omega (arith, more)
stamped_more (Replied status ∷ xs) ys = stamped_more xs ys
stamped_more (Closed ∷ xs) ys = stamped_more xs ys
stamped_more (LinkFault ∷ xs) ys = stamped_more xs ys

pub stamped_next : (xs : List GateServed) (i : ℕ) (x : GateServed) → i < length xs → x ≡ get_or xs i x → stamped (take (i + 1) xs) ≡ stamped (take i xs) + stamped (x ∷ [])
stamped_next xs i x less is =
    ap stamped (take_more xs i x less ∙ ap (λ (y : GateServed). take i xs ++ y ∷ []) (sym is)) ∙ stamped_more (take i xs) (x ∷ [])

pub stamped_none : (x : GateServed) → ((tree : List Token) → x ≡ Stamped tree → ⊥) → stamped (x ∷ []) ≡ 0
stamped_none (Stamped tree) none = absurd (none tree refl)
stamped_none (Replied status) none = refl
stamped_none Closed none = refl
stamped_none LinkFault none = refl

-- ---- whether there are links

pub no_links : {L : Type 0} (xs : List L) → length xs ≡ 0 → xs ≡ []
no_links [] none = refl
no_links (x ∷ xs) none = absurd (omega arith)

-- ---- counts that stay within

pub within_same : (until : Option ℕ) (n : ℕ) → StaysWithin until n n
within_same None n = tt
within_same (Some until) n = omega arith

pub within_more : (until : Option ℕ) (a b c : ℕ) → StaysWithin until a b → StaysWithin until b c → StaysWithin until a c
within_more None a b c first second = tt
within_more (Some until) a b c first second = omega (arith, first, second)
