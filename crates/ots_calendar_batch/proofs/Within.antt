-- A round, by the journal's limit.
use Rattle.std.proofs.Common.{◌≡◌, ℕ, List, Option, subst}
use Rattle.ots_journal.specs.declared.entry.Entry.{Entry}
use Rattle.ots_calendar_text.specs.declared.status.DaemonStatus.{DaemonStatus}
use Rattle.ots_calendar_endings.specs.RunEnd.{Comes, Ends, nowhere}
use Rattle.ots_calendar_batch.specs.Batch.{Drawing, RoundAnswers}

pub round_within : (happens : Drawing → Type 0) (faulted : Type 0) (limit most : ℕ) (key uri : List ℕ) (digests : List (List ℕ)) (gate : ℕ) (entries : List Entry) (disk : Type 0) (images : List ℕ → Type 0) (printing : Type 0)
    (taken now : Option (List ℕ)) (r : DaemonStatus) → limit ≡ most → Ends (Comes (RoundAnswers happens faulted limit key uri digests gate entries) nowhere disk) images printing taken now r
    → Ends (Comes (RoundAnswers happens faulted most key uri digests gate entries) nowhere disk) images printing taken now r
round_within happens faulted limit most key uri digests gate entries disk images printing taken now r is h =
    subst (λ (z : ℕ). Ends (Comes (RoundAnswers happens faulted z key uri digests gate entries) nowhere disk) images printing taken now r) is h
