-- A request that was read, and a reply that was written after it.
use Rattle.std.proofs.Common.{ℕ, List, [], ◌++◌, sym, ap, ◌∙◌, append_assoc, append-nil}
use Rattle.std.specs.Prelude.{Option, None, Some}
use Rattle.ots_base.specs.Told.{BothTold, BothTold-trans}
use Rattle.ots_outside.specs.Link.{LinkTold, LinkGives, LinkTakes}
use Rattle.ots_http.specs.Given.{GivesAtMost}
use Rattle.ots_http.specs.Seen.{LinkSeen, Took, Takes}

both : {A : Type 0} (P Q : A → A → Type 0) → ((x y : A) → P x y → Q x y) → (a b : Option A) → BothTold P a b → BothTold Q a b
both P Q step None None p = tt
both P Q step None (Some y) p = absurd p
both P Q step (Some x) None p = absurd p
both P Q step (Some x) (Some y) p = step x y p

took : (bytes : List ℕ) (old new : LinkTold) → LinkTakes bytes old new → Took bytes old new
took bytes old new t = record { input = (λ i. t.given i ++ t.left i); taken = t.taken }

pub takes : (bytes : List ℕ) (old new : Option LinkTold) → BothTold (LinkTakes bytes) old new → BothTold (Took bytes) old new
takes bytes old new t = both (LinkTakes bytes) (Took bytes) (took bytes) old new t

gave : (bytes : List ℕ) (old new : LinkTold) → LinkGives bytes old new → Took [] old new
gave bytes old new g = record {
  input = (λ i. g.given i ++ new.left) ∙ (append_assoc old.given bytes new.left ∙ ap (λ (l : List ℕ). old.given ++ l) (sym g.left));
  taken = g.taken ∙ sym (append-nil old.taken);
}

pub gives : (most : ℕ) (old new : Option LinkTold) → GivesAtMost most old new → BothTold (Took []) old new
gives most old new g = both (LinkGives g.bytes) (Took []) (gave g.bytes) old new g.gives

took_after : (bytes : List ℕ) (old mid new : LinkTold) → Took [] old mid → Took bytes mid new → Took bytes old new
took_after bytes old mid new one two = record {
  input = two.input ∙ one.input;
  taken = two.taken ∙ ap (λ (l : List ℕ). l ++ bytes) (one.taken ∙ append-nil old.taken);
}

pub takes_after : (bytes : List ℕ) (old mid new : LinkSeen) → Takes [] old mid → Takes bytes mid new → Takes bytes old new
takes_after bytes old mid new one two = BothTold-trans (Took []) (Took bytes) (Took bytes) (took_after bytes) old.told mid.told new.told one two
