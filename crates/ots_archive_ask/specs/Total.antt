-- What proofs want in all. Source: this project's rule of what an archive asks for.
use Rattle.std.specs.Prelude.{◌≡◌, ◌+◌, ℕ, Bool, List, [], ◌∷◌, ◌++◌, map, Result, Ok, Err}
use Rattle.ots_archive_steps.specs.Ends.{IfRoom}
use Rattle.ots_archive_steps.specs.Entries.{Entry}
use Rattle.ots_archive_steps.specs.Proofs.{Tries}
use Rattle.ots_archive_steps.specs.Worst.{worst}
use Rattle.ots_archive_text.specs.declared.status.ArchiveStatus.{ArchiveStatus}
use Rattle.ots_archive_text.specs.declared.status.ArchiveStatus.TheVariants.{Done}
use Rattle.ots_archive_world.specs.Steps.{Each, Step}
use Rattle.ots_sheet.specs.Request.{RequestParts}
use Rattle.ots_tree.specs.declared.detached.Detached.{Detached}
use Rattle.ots_wanted.specs.Wanted.{Wants}

pub record Total : Type 0 where
  -- the requests that proofs want, those of each after those of the one before
  pub wanted : List RequestParts
  -- how many of their pairs have another address
  pub skipped : ℕ
  -- the worst of their statuses
  pub status : ArchiveStatus

-- a proof that was read, or the status of its refusal
abbrev pub Tried : Type 0
Tried = Result Detached ArchiveStatus

abbrev pub status_of : Tried → ArchiveStatus
status_of (Ok proof) = Done
status_of (Err s) = s

-- All of these want these requests, and skip so many pairs. A proof that was refused wants nothing.
abbrev pub AllWant : List (List ℕ) → Bool → List Tried → List RequestParts → ℕ → Type 0
AllWant urls all [] wanted skipped = (wanted ≡ []) × (skipped ≡ 0)
AllWant urls all (Ok proof ∷ tried) wanted skipped = (first : List RequestParts) × (later : List RequestParts)
    × (few : ℕ) × (more : ℕ) × Wants urls all proof first few × AllWant urls all tried later more
    × (wanted ≡ first ++ later) × (skipped ≡ few + more)
AllWant urls all (Err s ∷ tried) wanted skipped = AllWant urls all tried wanted skipped

-- This is what these proofs want in all.
pub record IsTotal (urls : List (List ℕ)) (all : Bool) (tried : List Tried) (t : Total) : Type 0 where
  pub want : AllWant urls all tried t.wanted t.skipped
  pub status : t.status ≡ worst (map status_of tried)

-- The proofs that are named are tried in order.
abbrev pub TriesEach : List Entry → Step (List Tried) ArchiveStatus
TriesEach entries = Each (λ e. IfRoom (Tries e)) entries

-- This is what they want in all.
abbrev pub TriesAll : List (List ℕ) → Bool → List Entry → Step Total ArchiveStatus
TriesAll urls all entries old new (Ok t) =
    (tried : List Tried) × TriesEach entries old new (Ok tried) × IsTotal urls all tried t
TriesAll urls all entries old new (Err s) = TriesEach entries old new (Err s)
