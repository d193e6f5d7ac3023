-- What a status says of how a command ran.
use Rattle.std.specs.Prelude.{◌≡◌, ◌⊎◌, ◌↔◌, ℕ, List, Option, Some, IsSome}
use Rattle.std.specs.FinMap as map
use Rattle.ots_base.specs.Cause.{Rose}
use Rattle.ots_client_endings.specs.Runs.{Moment}
use Rattle.ots_client_text.specs.declared.status.Status.{Status}
use Rattle.ots_client_text.specs.declared.status.Status.TheVariants.{Done, No, ReadFault, WriteFault, OutOfMemory}
use Rattle.ots_outside.specs.Shelf.{Names}

-- The status is that of a fault, which was counted; or memory ran out.
abbrev pub Excused : Moment → Moment → Status → Type 0
Excused old new ReadFault = Rose old.faults.opening new.faults.opening ⊎ Rose old.faults.reading new.faults.reading
Excused old new WriteFault = Rose old.faults.writing new.faults.writing ⊎ Rose old.lost new.lost
Excused old new OutOfMemory = Unit {0}
Excused old new other = ⊥

-- The status is this one, or it is excused.
abbrev pub UnlessExcused : Moment → Moment → Status → Status → Type 0
UnlessExcused old new status r = (r ≡ status) ⊎ Excused old new r

-- The status is Done exactly where this holds, or it is excused.
abbrev pub IsDoneExactlyWhere : Moment → Moment → Type 0 → Status → Type 0
IsDoneExactlyWhere old new says r = ((r ≡ Done) ↔ says) ⊎ Excused old new r

-- The command did its work, or has a result without a Bitcoin path.
abbrev pub IsDoneOrNo : Status → Type 0
IsDoneOrNo s = (s ≡ Done) ⊎ (s ≡ No)

-- Each name holds what it held, but for the outputs that were not there.
abbrev pub Leaves : Names → (List ℕ → Type 0) → Option Names → Type 0
Leaves names is_output new =
    (after : Names) × (new ≡ Some after) × ((name : List ℕ) → (is_output name → IsSome (map.get names name))
    → map.get after name ≡ map.get names name)
