-- Holds of a call, one after the other.
use Rattle.std.proofs.Common.{◌≡◌, ℕ, ◌+◌, ◌-◌, ◌^◌, ◌≤◌, length, false, List, [], ◌∷◌, ◌++◌, refl, sym, ap, subst, ◌∙◌, arith}
use Rattle.std.specs.Prelude.{min, Result, Ok, Err}
use Rattle.ots_calendar.specs.Book.{BookTold}
use Rattle.ots_shared.specs.Records.{StartsWith}
use Rattle.ots_shared.specs.Rows.{latest, row}
use Rattle.ots_shared.specs.Told.{PassTold, HeldTold}
use Rattle.ots_store.specs.Records.{Record}
use Rattle.ots_shared.specs.declared.row.Row.{Row}
use Rattle.ots_shared.proofs.Begins.{starts_self, starts_trans}
use Rattle.ots_round.specs.declared.ticket.Ticket.{Ticket}
use Rattle.ots_tickets.specs.declared.tickets.PutError.{PutError}
use Rattle.ots_tickets.specs.declared.tickets.PutError.TheVariants.{Busy, OutOfMemory}
use Rattle.ots_connection.specs.Putting.{Puts}
use Rattle.ots_connection.specs.Holds.{Holds, PutsOne, with_rows, with_count}

pub no_hold : (p : PassTold) → p.holding ≡ false → Holds p p []
no_hold p free = record { seat = refl; free = free; seen = starts_self p.seen; told = refl; holds = refl; made = refl; few = omega arith; put_one = tt }

pub and_then : (old mid new : PassTold) (a : Row) (rows : List Row) → length rows ≤ 2 → Holds old mid (a ∷ []) → Holds mid new rows → Holds old new (a ∷ rows)
and_then old mid new a rows few one others = record {
  seat = others.seat ∙ one.seat;
  free = others.free;
  seen = starts_trans _ _ _ one.seen others.seen;
  told = others.told ∙ one.told;
  holds = others.holds ∙ ap (λ (holds : List Row). with_rows holds rows) one.holds;
  made = others.made ∙ ap (λ (made : ℕ). with_count made rows) one.made;
  few = omega arith;
  put_one = (one.put_one.0, others.put_one);
}

-- one hold: the pass took the book out, and gave it back
module _ {D : Type 0} (faults : D → ℕ) (old mid new : PassTold) (held : HeldTold D) (left : BookTold D) where
  pub one_hold : (mid.holds ≡ old.holds) × (mid.made ≡ old.made) → (held.seat ≡ old.seat) × (held.seen ≡ old.seen) × (held.told ≡ old.told) → StartsWith held.book.store.records old.seen
      → (new.seat ≡ held.seat) × (new.holding ≡ false) → new.seen ≡ left.store.records → new.told ≡ held.told
      → new.holds ≡ latest (mid.holds ++ row faults held.found left ∷ []) → new.made ≡ min (mid.made + 1) (2 ^ 64 - 1)
      → StartsWith left.store.records held.book.store.records → PutsOne (row faults held.found left) → Holds old new (row faults held.found left ∷ [])
  one_hold rest seat seen back all told holds made more one = record {
    seat = back.0 ∙ seat.0;
    free = back.1;
    seen = subst (λ (l : List Record). StartsWith l old.seen) (sym all) (starts_trans _ _ _ seen more);
    told = told ∙ seat.2;
    holds = holds ∙ ap (λ (l : List Row). latest (l ++ row faults held.found left ∷ [])) rest.0;
    made = made ∙ ap (λ (n : ℕ). min (n + 1) (2 ^ 64 - 1)) rest.1;
    few = omega arith;
    put_one = (one, tt);
  }

pub puts_one : (row : Row) (result : Result Ticket PutError) → Puts row result → PutsOne row
puts_one row (Ok ticket) puts = let e = puts.one in omega arith
puts_one row (Err Busy) puts = let e = (puts.0).waiting in omega arith
puts_one row (Err OutOfMemory) puts = let e = (puts.0).waiting in omega arith
