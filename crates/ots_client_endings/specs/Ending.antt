-- How a command ends where nothing of the outside fails: a status, and what is done before, act by act.
use Rattle.std.specs.Prelude.{◌≡◌, ℕ, List, [], ◌∷◌, slice_get, Some}
use Rattle.ots_tree.specs.declared.detached.Detached.{Detached}
use Rattle.ots_tree.specs.declared.token.Token.{Token}
use Rattle.ots_stamp.specs.Stamped.{IsStampOf}
use Rattle.ots_stamp.specs.declared.target.Target.{Target}
use Rattle.ots_client_text.specs.declared.status.Status.{Status}
use Rattle.ots_client_text.specs.Refusal.{refusal_text}

-- A text is printed; or a file with these bytes is made under a name; or the proof of the i-th of these files, where
-- calendars answered these trees, is made under a name.
pub data Act : Type 0 where
  prints : (text : List ℕ) → Act
  makes : (name bytes : List ℕ) → Act
  makes_stamp : (targets : List Target) (trees : List (List Token)) (i : ℕ) (name : List ℕ) → Act

pub record Ending : Type 0 where
  pub status : Status
  pub acts : List Act

-- a text is printed, and that is all
abbrev pub printing : Status → List ℕ → Ending
printing status text = record { status = status; acts = prints text ∷ [] }

-- a refusal over a name: its line is printed
abbrev pub refused : List ℕ → Status → Ending
refused name status = printing status (refusal_text name status)

-- This is the proof of the i-th of these files, where calendars answered these trees.
abbrev pub IsStampAt : List Target → List (List Token) → ℕ → Detached → Type 0
IsStampAt targets trees i proof = (t : Target) × (slice_get targets i ≡ Some t) × IsStampOf targets i t trees proof
