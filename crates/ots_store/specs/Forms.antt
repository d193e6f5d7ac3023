-- What is told of an entry's form without taking memory.
use Rattle.std.specs.Prelude.{◌≡◌, ◌≤◌, ℕ, List, length}
use Rattle.std.specs.List.{flat_map, AllByRecursion}
use Rattle.ots_store.specs.declared.form.Form.{Form}
use Rattle.ots_store.specs.declared.form.Form.TheVariants.{Commit, Tip, Anchor}
use Rattle.ots_store.specs.Records.{Record, CommitRecord, TipRecord, AnchorRecord, step_bytes, branch_bytes, steps_at}
use Rattle.ots_store.specs.Records.{branch_at, anchor_payload, anchor_at, FitsAnchor, HasHash}

-- the kind, and of a tip and an anchor the first index and the count
abbrev pub IsForm : Form → Record → Type 0
IsForm Commit (CommitRecord commitment) = Unit {0}
IsForm (Tip span) (TipRecord tip) = (span.first ≡ tip.first) × (span.count ≡ tip.count)
IsForm (Anchor span) (AnchorRecord anchor) = (span.first ≡ anchor.first) × (span.count ≡ anchor.count)
IsForm form r = ⊥

-- the bytes are `count` steps
pub record AreSteps (count : ℕ) (bytes : List ℕ) : Type 0 where
  pub whole : bytes ≡ flat_map step_bytes (steps_at count bytes)
  pub many : length (steps_at count bytes) ≡ count
  pub hashes : AllByRecursion HasHash (steps_at count bytes)

pub record IsBranch (bytes : List ℕ) : Type 0 where
  pub whole : bytes ≡ branch_bytes (branch_at bytes)
  pub steps : length (branch_at bytes) ≤ 32
  pub hashes : AllByRecursion HasHash (branch_at bytes)

pub record IsAnchor (payload : List ℕ) : Type 0 where
  pub whole : payload ≡ anchor_payload (anchor_at payload)
  pub fits : FitsAnchor (anchor_at payload)
