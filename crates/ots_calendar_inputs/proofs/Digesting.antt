-- A bad line is told as a bad line of digests.
use Rattle.std.proofs.Common.{◌≡◌, ℕ, List, refl, sym, subst}
use Rattle.std.specs.Prelude.{Err, Vec}
use Rattle.std.specs.declared.alloc.Global.{Global}
use Rattle.ots_outside.specs.Shelf.{ShelfFaults, ShelfTold}
use Rattle.ots_calendar_text.specs.declared.status.DaemonStatus.{DaemonStatus}
use Rattle.ots_calendar_text.specs.declared.status.DaemonStatus.TheVariants as status
use Rattle.ots_inputs.specs.declared.error.InputError.{InputError}
use Rattle.ots_inputs.specs.Input.{ReadsInput, map_refusal}
use Rattle.ots_inputs.proofs.Meant.{refused_into}
use Rattle.ots_calendar_inputs.specs.Digests.{IsBadLine, IsDigestsOf, RefusesDigests}

pub told_as : {name : List ℕ} {old new : ShelfTold} {before now : ShelfFaults} (e : InputError ℕ) (f : InputError DaemonStatus) → f ≡ map_refusal status.BadDigests e
    → ReadsInput {A = Vec (List ℕ) Global} IsDigestsOf IsBadLine name old new before now (Err e) → ReadsInput {A = Vec (List ℕ) Global} IsDigestsOf RefusesDigests name old new before now (Err f)
told_as {name} {old} {new} {before} {now} e f is h =
    subst (λ (z : InputError DaemonStatus). ReadsInput {A = Vec (List ℕ) Global} IsDigestsOf RefusesDigests name old new before now (Err z)) (sym is)
    (refused_into status.BadDigests e (λ bytes line bad. record { number = line; bad = bad; status = refl }) h)
