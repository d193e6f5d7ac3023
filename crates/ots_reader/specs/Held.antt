-- What a reader of trees holds. These words serve its code.
use Rattle.std.specs.Prelude.{◌≡◌, ℕ, List, ◌++◌, Result, Ok, Err}
use Rattle.ots_tree.specs.declared.token.Token.{Token}
use Rattle.ots_tree.specs.Wire.{IsPre}
use Rattle.ots_reader.specs.declared.fault.ReadError.{ReadError}
use Rattle.ots_reader.specs.declared.fed.Fed.{Fed}
use Rattle.ots_reader.specs.declared.fed.Fed.TheVariants.{More, Done}
use Rattle.ots_reader.specs.declared.tree_reader.State.{State}
use Rattle.ots_reader.specs.declared.tree_reader.State.TheVariants as state
use Rattle.ots_reader.specs.Progress.{Progress, reading, whole, refused, EndsIn, IsRefusal}
use Rattle.ots_reader.specs.Tokens.{Tokens, so_far, IsReading}

abbrev pub progress_of : State → Tokens → List Token → Progress
progress_of state.Reading r tokens = reading (so_far r)
progress_of state.Whole r tokens = whole tokens
progress_of (state.Refused e) r tokens = refused e

abbrev pub Holds : State → Tokens → List Token → Type 0
Holds state.Reading r tokens = IsReading r × (tokens ≡ r.came)
Holds state.Whole r tokens = IsPre tokens
Holds (state.Refused e) r tokens = Unit {0}

-- after this answer
abbrev pub state_after : Result Fed ReadError → State
state_after (Ok More) = state.Reading
state_after (Ok (Done used)) = state.Whole
state_after (Err e) = state.Refused e

-- these bytes more have come, and the tree goes on
pub record IsReadTo (old : Tokens) (more : List ℕ) (new : Tokens) : Type 0 where
  pub shape : new.shape ≡ old.shape
  pub reading : IsReading new
  pub fed : so_far new ≡ so_far old ++ more

-- reading a whole piece, and which tokens are kept then
abbrev pub Reads : Tokens → List ℕ → Tokens → List Token → Result Fed ReadError → Type 0
Reads old piece new tokens (Ok More) = IsReadTo old piece new × (tokens ≡ new.came)
Reads old piece new tokens (Ok (Done used)) = EndsIn old.shape (so_far old) piece tokens used
Reads old piece new tokens (Err e) = IsRefusal old.shape (so_far old ++ piece) e
