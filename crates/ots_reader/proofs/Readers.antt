-- What feeding a reader answers, by what it holds.
use Rattle.std.proofs.Common.{◌≡◌, ℕ, List, length, refl, sym, ap, subst, ◌∙◌}
use Rattle.std.specs.Prelude.{Result, Ok, Err}
use Rattle.ots_tree.specs.declared.token.Token.{Token}
use Rattle.ots_tree.specs.Wire.{spelled}
use Rattle.ots_reader.specs.declared.fault.Fault.{Fault}
use Rattle.ots_reader.specs.declared.fault.ReadError.{ReadError}
use Rattle.ots_reader.specs.declared.fed.Fed.{Fed}
use Rattle.ots_reader.specs.declared.fed.Fed.TheVariants.{More, Done}
use Rattle.ots_reader.specs.declared.tree_reader.State.{State}
use Rattle.ots_reader.specs.declared.tree_reader.State.TheVariants as state
use Rattle.ots_reader.specs.Held.{progress_of, Holds, state_after, Reads}
use Rattle.ots_reader.specs.Progress.{Reader, ends_at, reading, Feeds, IsExact}
use Rattle.ots_reader.specs.Tokens.{Tokens, so_far, IsReading}
use Rattle.ots_reader.specs.TreeFault.{HasTreeFault}
use Rattle.ots_reader.proofs.OneFault.{one_fault_lem}
use Rattle.ots_reader.proofs.Exact.{IsFed, exact}
use Rattle.ots_reader.proofs.Steps.{goes_on}

-- a reader whose tree goes on, as contracts see it
pub record Seen (r : Reader) (t : Tokens) (tokens : List Token) : Type 0 where
  pub is : r ≡ record { shape = t.shape; progress = reading (so_far t) }
  pub reading : IsReading t
  pub same : tokens ≡ t.came

pub seen : (r : Reader) (s : State) (t : Tokens) (tokens : List Token) → record { shape = t.shape; progress = progress_of s t tokens } ≡ r → s ≡ state.Reading → Holds s t tokens → Seen r t tokens
seen r s t tokens e is h =
    let both = subst (λ (z : State). Holds z t tokens) is h in
    record {
      is = sym e ∙ ap (λ (z : State). record { shape = t.shape; progress = progress_of z t tokens }) is;
      reading = both.0;
      same = both.1;
    }

pub feeds : (t new : Tokens) (piece : List ℕ) (tokens : List Token) (answer : Result Fed ReadError) → Reads t piece new tokens answer
    → Feeds t.shape (reading (so_far t)) piece answer (progress_of (state_after answer) new tokens)
feeds t new piece tokens (Ok More) r = ((length (spelled new.came), rw (← r.0.shape, ← r.0.fed) (goes_on new r.0.reading)), ap reading r.0.fed)
feeds t new piece tokens (Ok (Done used)) r = (tokens, r, refl)
feeds t new piece tokens (Err e) r = (r, refl)

same_fed : (r : Reader) (t : Tokens) (tokens : List Token) (fed : List ℕ) → Seen r t tokens → r.progress ≡ reading fed → fed ≡ so_far t
same_fed r t tokens fed s e = let one : reading (so_far t) ≡ reading fed = sym (ap (λ (z : Reader). z.progress) s.is) ∙ e in cc

pub is_fed : (t new : Tokens) (piece : List ℕ) (tokens : List Token) (answer : Result Fed ReadError) → IsReading t → Reads t piece new tokens answer → IsFed t.shape (so_far t) piece answer
is_fed t new piece tokens answer r h = record { deep = r.shape.depth; now = progress_of (state_after answer) new tokens; feeds = feeds t new piece tokens answer h }

pub exact_now : (r : Reader) (t : Tokens) (tokens : List Token) (piece : List ℕ) (answer : Result Fed ReadError) → Seen r t tokens → IsFed t.shape (so_far t) piece answer
    → (fed : List ℕ) → r.progress ≡ reading fed → IsExact r.shape fed piece answer
exact_now r t tokens piece answer s h fed e = rw (same_fed r t tokens fed s e, s.is) (exact t.shape (so_far t) piece answer h)

pub ended : (r : Reader) (t : Tokens) (tokens : List Token) → Seen r t tokens → (fed : List ℕ) (g : Fault) → r.progress ≡ reading fed → HasTreeFault r.shape.length r.shape.depth fed g
    → ends_at (length (spelled t.came)) ≡ g
ended r t tokens s fed g e h =
    one_fault_lem t.shape.length t.shape.depth (so_far t) (ends_at (length (spelled t.came))) g (goes_on t s.reading) (rw (same_fed r t tokens fed s e, s.is) at h)
