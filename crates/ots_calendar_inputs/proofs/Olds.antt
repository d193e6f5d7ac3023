-- A file that is no journal of version 1.
use Rattle.std.proofs.Common.{◌≡◌, ◌≤◌, ℕ, List, length, refl, sym, subst}
use Rattle.std.specs.Prelude.{Result, Ok, Err, Vec}
use Rattle.std.specs.declared.alloc.Global.{Global}
use Rattle.ots_journal.specs.Version1.{Refuses1}
use Rattle.ots_journal.specs.declared.entry.Entry.{Entry}
use Rattle.ots_journal.specs.declared.errors.OldError.{OldError}
use Rattle.ots_journal.specs.declared.errors.OldError.TheVariants as old
use Rattle.ots_journal.specs.declared.limits.TheConstants.{MAX_JOURNAL}
use Rattle.ots_calendar_text.specs.declared.status.DaemonStatus.TheVariants.{Damaged}
use Rattle.ots_inputs.specs.declared.error.InputError.{InputError}
use Rattle.ots_inputs.specs.declared.error.InputError.TheVariants.{Refused}
use Rattle.ots_inputs.specs.declared.file.TooBig.{TooBig}
use Rattle.ots_inputs.specs.File.{IsWithin, MeansInput}
use Rattle.ots_calendar_inputs.specs.Old.{AreOldEntries, RefusesOld, damaged}

pub old_damaged : (read : Result (Vec ℕ Global) (InputError TooBig)) (bytes : Vec ℕ Global) (items : List ℕ) (e : OldError) (place : ℕ) → read ≡ Ok bytes → items ≡ bytes.items
    → e ≡ old.Damaged place → IsWithin MAX_JOURNAL read → Refuses1 items e → MeansInput {A = Vec Entry Global} AreOldEntries RefusesOld MAX_JOURNAL read (Err (Refused (Damaged place)))
old_damaged read bytes items e place is same why within refuses =
    let few : length bytes.items ≤ MAX_JOURNAL = subst (IsWithin MAX_JOURNAL) is within in
    subst (λ (z : Result (Vec ℕ Global) (InputError TooBig)). MeansInput {A = Vec Entry Global} AreOldEntries RefusesOld MAX_JOURNAL z (Err (Refused (Damaged place)))) (sym is)
    (damaged place few (subst (λ (z : List ℕ). Refuses1 z (old.Damaged place)) same (subst (Refuses1 items) why refuses)) refl)
