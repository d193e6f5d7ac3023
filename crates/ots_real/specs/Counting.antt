-- The count of faults of a real form, which rises by one exactly where a call fails.
use Rattle.std.specs.Prelude.{ℕ, Result, Ok, Err}
use Rattle.ots_base.specs.Cause.{one_more}
use Rattle.ots_outside.specs.declared.shelf.Slot.{Slot}
use Rattle.ots_outside.specs.declared.shelf.OpenError.{OpenError}
use Rattle.ots_outside.specs.declared.shelf.OpenError.TheVariants as opening
use Rattle.ots_outside.specs.declared.shelf.CreateError.{CreateError}
use Rattle.ots_outside.specs.declared.shelf.CreateError.TheVariants as creating
use Rattle.ots_outside.specs.declared.dialer.DialError.{DialError}
use Rattle.ots_outside.specs.declared.dialer.DialError.TheVariants as dialing

-- The count after a call with this answer, of which each `Err` is a fault.
abbrev pub count_after : {T E : Type 0} → ℕ → Result T E → ℕ
count_after count (Ok value) = count
count_after count (Err error) = one_more count

-- The count of a shelf after an `open` with this answer.
abbrev pub count_after_open : ℕ → Result Slot OpenError → ℕ
count_after_open count (Ok slot) = count
count_after_open count (Err opening.NotThere) = count
count_after_open count (Err opening.Failed) = one_more count
count_after_open count (Err opening.OutOfMemory) = count

-- The count of a shelf after a `create` with this answer.
abbrev pub count_after_create : ℕ → Result Slot CreateError → ℕ
count_after_create count (Ok slot) = count
count_after_create count (Err creating.Exists) = count
count_after_create count (Err creating.Failed) = one_more count
count_after_create count (Err creating.OutOfMemory) = count

-- The count of a dialer after a `connect` with this answer.
abbrev pub count_after_connect : ℕ → Result Slot DialError → ℕ
count_after_connect count (Ok slot) = count
count_after_connect count (Err dialing.Failed) = one_more count
count_after_connect count (Err dialing.OutOfMemory) = count
