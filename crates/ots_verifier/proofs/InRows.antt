-- The messages of open nodes in their rows.
use Rattle.std.proofs.Common.{◌≡◌, ℕ, suc, ◌-◌, ◌<◌, ◌≤◌, Bool, true, false, if◌then◌else◌, List, [], ◌∷◌, length, take, Option, Some, None, refl, sym, ap, ◌∙◌, arith}
use Rattle.std.specs.Prelude.{slice_index_or}
use Rattle.std.specs.List.{AllByRecursion}
use Rattle.ots_attest.specs.declared.attestation.Attestation.{Attestation}
use Rattle.ots_ops.specs.Apply.{apply}
use Rattle.ots_ops.specs.declared.op.Op.{Op}
use Rattle.ots_tree.specs.declared.token.Token.TheVariants as token
use Rattle.ots_tree.specs.Walk.{Open, Position, begun, next, none_open, open_at}
use Rattle.ots_verifier.specs.Rows.{row_of, IsPut}
use Rattle.ots_verifier.specs.Messages.{in_rows, position, IsRoom, AreHeld}

-- each open node but the last has a row
pub rows_of_others : (rows : List (List ℕ)) (ns : List ℕ) → length (in_rows rows ns) ≡ length ns
rows_of_others rows [] = refl
rows_of_others rows (n ∷ ns) = ap suc (rows_of_others rows ns)

-- and keeps its message where only rows after them change
pub others_stay : (old new : List (List ℕ)) (row : ℕ) (ns : List ℕ) → length ns ≤ row
    → ((k : ℕ) → k < row → slice_index_or new k [] ≡ slice_index_or old k []) → in_rows new ns ≡ in_rows old ns
others_stay old new row [] low h = refl
others_stay old new row (n ∷ ns) low h =
    let here = h (length ns) (omega arith) in
    let rest = others_stay old new row ns (omega arith) h in
    rw (here, rest) refl

-- ---- a walk that carries lengths goes on, and the messages with it

-- the messages of the open nodes
abbrev messages_in : List (List ℕ) → List ℕ → Bool → Open (List ℕ)
messages_in rows [] forked = record { nodes = []; forked = forked }
messages_in rows (n ∷ ns) forked = record { nodes = take n (slice_index_or rows (row_of forked (length ns)) []) ∷ in_rows rows ns; forked = forked }

abbrev messages_of : List (List ℕ) → Open ℕ → Open (List ℕ)
messages_of rows s = messages_in rows s.nodes s.forked

pub record StandsAt (w : Position ℕ) (n : ℕ) (ns : List ℕ) (forked : Bool) : Type 0 where
  pub last : w.last ≡ n
  pub others : w.others ≡ ns
  pub forked_is : w.forked ≡ forked

pub stands : (w : Position ℕ) (n : ℕ) (ns : List ℕ) (forked : Bool) → open_at w ≡ record { nodes = n ∷ ns; forked = forked } → StandsAt w n ns forked
stands w n ns forked e =
    let nodes : w.last ∷ w.others ≡ n ∷ ns = ap (λ (z : Open ℕ). z.nodes) e in
    record { last = cc; others = cc; forked_is = ap (λ (z : Open ℕ). z.forked) e }

pub held : (rows : List (List ℕ)) (w : Position ℕ) (n : ℕ) (ns : List ℕ) (forked : Bool) → open_at w ≡ record { nodes = n ∷ ns; forked = forked }
    → length rows ≡ 256 → n ≤ 4096 → AllByRecursion (λ m. m ≤ 4096) ns → IsRoom forked (length ns) → w.room ≡ 256 → AreHeld rows w
held rows w n ns forked e count last others places kept =
    let s = stands w n ns forked e in
    record { count = count; last = rw s.last last; others = rw s.others others; places = rw (s.others, s.forked_is) places; kept = kept }

-- the first node's message is kept open
pub forks_in : (rows : List (List ℕ)) (w v : Position ℕ) → w.forked ≡ false → open_at v ≡ record { nodes = w.last ∷ w.last ∷ w.others; forked = true }
    → next apply token.Fork (open_at (position rows w)) ≡ Some (open_at (position rows v))
forks_in rows w v free e =
    let n = w.last in
    let shared : length w.others ≡ suc (length w.others) - 1 = omega arith in
    let first : (let s : Open (List ℕ) = record { nodes = take n (slice_index_or rows (length w.others) []) ∷ in_rows rows (n ∷ w.others); forked = true } in s) ≡ messages_in rows (n ∷ n ∷ w.others) true =
    ap (λ k. let s : Open (List ℕ) = record { nodes = take n (slice_index_or rows k []) ∷ in_rows rows (n ∷ w.others); forked = true } in s) shared in
    rw free (ap Some (first ∙ ap (messages_of rows) (sym e)))

plain : (rows : List (List ℕ)) (ns : List ℕ) → messages_in rows ns false ≡ record { nodes = in_rows rows ns; forked = false }
plain rows [] = refl
plain rows (n ∷ ns) = refl

pub closes_in : (rows : List (List ℕ)) (w v : Position ℕ) (going : Bool) (a : Attestation) → Some (record { nodes = w.others; forked = false }) ≡ Some (if going then open_at v else none_open)
    → next apply (token.Attestation a) (open_at (position rows w)) ≡ Some (if going then open_at (position rows v) else none_open)
closes_in rows w v true a e =
    let is : (let s : Open ℕ = record { nodes = w.others; forked = false } in s) ≡ open_at v = cc in
    ap Some (sym (plain rows w.others) ∙ ap (messages_of rows) is)
closes_in rows w v false a e =
    let is : (let s : Open ℕ = record { nodes = w.others; forked = false } in s) ≡ none_open = cc in
    ap Some (sym (plain rows w.others) ∙ ap (messages_of rows) is)

-- the result of an operation, in a row of its own
pub led : (rows mid new : List (List ℕ)) (o : Op) (w v : Position ℕ) (shared : Bool) (n m row : ℕ) → row ≡ length w.others → shared ≡ w.forked → n ≡ w.last
    → open_at v ≡ record { nodes = m ∷ w.others; forked = false }
    → IsPut rows mid row (slice_index_or rows (row_of shared row) []) → IsPut mid new row (slice_index_or new row [])
    → apply o (take n (slice_index_or mid row [])) ≡ Some (take m (slice_index_or new row []))
    → next apply (token.Op o) (open_at (position rows w)) ≡ Some (open_at (position new v))
led rows mid new o w v shared n m row is same low to first second value =
    let first' = rw (is, same) at first.put in
    let value' = rw (is, low) at value in
    let stay : in_rows new w.others ≡ in_rows rows w.others = others_stay rows new row w.others (omega arith) (λ k below. second.before k below ∙ first.before k below) in
    let led_to : next apply (token.Op o) (open_at (position rows w)) ≡ Some (messages_in new (m ∷ w.others) false) = rw (← first', value', ← stay) refl in
    led_to ∙ ap (λ s. Some (messages_of new s)) (sym to)

-- ---- where the walk over the lengths stands

some_open : (s u : Open ℕ) → (let one : Option (Open ℕ) = Some s in one) ≡ Some u → s ≡ u
some_open s u e = cc

pub kept_open : (w v : Position ℕ) → w.forked ≡ false → next (λ o n. None) token.Fork (open_at w) ≡ Some (open_at v)
    → open_at v ≡ record { nodes = w.last ∷ w.last ∷ w.others; forked = true }
kept_open w v free e = sym (some_open (record { nodes = w.last ∷ w.last ∷ w.others; forked = true }) (open_at v) (rw free at e))

pub led_open : (w v : Position ℕ) (m : ℕ) (o : Op) → next (λ p n. Some m) (token.Op o) (open_at w) ≡ Some (open_at v) → open_at v ≡ record { nodes = m ∷ w.others; forked = false }
led_open w v m o e = sym (some_open (record { nodes = m ∷ w.others; forked = false }) (open_at v) e)

few_left : (forked : Bool) (n : ℕ) → IsRoom forked (suc n) → n < 256
few_left false n h = omega arith
few_left true n h = let few = h.1 in omega arith

closed_on : (rows : List (List ℕ)) (w v : Position ℕ) (ns : List ℕ) → w.others ≡ ns → AreHeld rows w → v.room ≡ w.room
    → (let one : Open ℕ = record { nodes = w.others; forked = false } in one) ≡ open_at v → AreHeld rows v
closed_on rows w v [] are h room e =
    let none : (let one : List ℕ = [] in one) ≡ v.last ∷ v.others = sym are ∙ ap (λ (z : Open ℕ). z.nodes) e in
    absurd cc
closed_on rows w v (n ∷ ns) are h room e =
    let others = rw are at h.others in
    held rows v n ns false (sym e ∙ ap (λ z. record { nodes = z; forked = false }) are) h.count others.0 others.1 (few_left w.forked (length ns) (rw are at h.places)) (room ∙ h.kept)

-- after an attestation: the message of another open node, or at the end that of the node that closed
pub held_closed : (rows : List (List ℕ)) (w v : Position ℕ) (going : Bool) → AreHeld rows w → v.room ≡ w.room
    → (let one : Option (Open ℕ) = Some (record { nodes = w.others; forked = false }) in one) ≡ Some (if going then open_at v else none_open)
    → (going ≡ false → open_at v ≡ begun w.last) → AreHeld rows v
held_closed rows w v false h room e end = held rows v w.last [] false (end refl) h.count h.last tt (omega arith) (room ∙ h.kept)
held_closed rows w v true h room e end = closed_on rows w v w.others refl h room (some_open (record { nodes = w.others; forked = false }) (open_at v) e)
