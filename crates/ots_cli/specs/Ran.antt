-- What a run of the client is: how it ends, what it does to a shelf and a sink, and what follows from that.
use Rattle.std.specs.Prelude.{◌≡◌, ◌⊎◌, ℕ, List, Option, Some}
use Rattle.ots_checking.specs.Verified.{RunsShort}
use Rattle.ots_checking.specs.WholeChain.{HasWholeChain}
use Rattle.ots_checking.specs.Yes.{HasFiles, SaysYes}
use Rattle.ots_cli.specs.Answer.{Answers, inputs_read}
use Rattle.ots_cli.specs.Asking.{IsOffline}
use Rattle.ots_cli.specs.ReadsBack.{IsOutput, IsOutputAsked, ReadsBack}
use Rattle.ots_cli.specs.Taken.{TakesProofs, proofs_read}
use Rattle.ots_client_endings.specs.CarriedOut.{status_over}
use Rattle.ots_client_endings.specs.Ending.{Ending}
use Rattle.ots_client_endings.specs.Outcome.{Excused, IsDoneExactlyWhere, IsDoneOrNo, Leaves, UnlessExcused}
use Rattle.ots_client_endings.specs.Outside.{Outside}
use Rattle.ots_client_endings.specs.Runs.{Moment, Runs}
use Rattle.ots_client_text.specs.declared.status.Status.{Status}
use Rattle.ots_client_text.specs.declared.status.Status.TheVariants.{Done, OutOfMemory}
use Rattle.ots_client_words.specs.Words.{Chaining, ClientCommand, Stamping, Upgrading, Verification}
use Rattle.ots_client_words.specs.Words.{verify, stamp, upgrade, sample, chain}
use Rattle.ots_completing.specs.Complete as completing
use Rattle.ots_headers.specs.HeaderTable.{Table}
use Rattle.ots_outside.specs.Shelf.{Names, ShelfTold}
use Rattle.ots_stamping.specs.Complete as stamping
use Rattle.ots_tree.specs.declared.detached.Detached.{Detached}

-- Where `verify` ran out of memory, nothing was opened but files of headers, or the shelf ran out.
abbrev pub BoundsMemory : Option ClientCommand → ShelfTold → ShelfTold → Status → Type 0
BoundsMemory c old new r = (v : Verification) → c ≡ Some (verify v) → r ≡ OutOfMemory → RunsShort v old new

-- Where names are told, and `happens` says what happened outside.
pub record Ran (happens : Outside → Type 0) (drawing : Type 0) (c : Option ClientCommand) (old new : Moment)
    (r : Status) : Type 0 where
  -- all that a run does
  pub runs : Runs (Answers happens c) (inputs_read c) old new r
  -- where `verify` may run out of memory
  pub bounded : BoundsMemory c old.shelf new.shelf r
  -- Where nobody is asked, the status is that of the answer, a name that is there being refused.
  pub exact : (names : Names) (e : Ending) → old.shelf.names ≡ Some names → IsOffline c
      → Answers happens c (Some names) e → UnlessExcused old new (status_over names e.status e.acts) r
  -- No name changes but outputs that were not there.
  pub leaves : (names : Names) → old.shelf.names ≡ Some names → Leaves names (IsOutputAsked c) new.shelf.names
  -- what the status says of the proofs that are read
  pub takes : (names : Names) (d : ClientCommand) → old.shelf.names ≡ Some names → c ≡ Some d
      → TakesProofs names (proofs_read d) r
  -- what was written reads back
  pub reads_back : (names : Names) (d : ClientCommand) (to : List ℕ) → old.shelf.names ≡ Some names → c ≡ Some d
      → IsOutput d to → IsDoneOrNo r → ReadsBack happens names d to new.shelf.names
  -- `verify` is done exactly where some path takes the target's digest to a given root.
  pub yes : (names : Names) (v : Verification) (bitcoin : Table) (litecoin : Option Table) (proof : Detached)
      (target : List ℕ) → old.shelf.names ≡ Some names → c ≡ Some (verify v)
      → HasFiles names v bitcoin litecoin proof target
      → IsDoneExactlyWhere old new (SaysYes proof target bitcoin litecoin) r
  -- `chain` is done exactly where the headers are one chain that has the pins.
  pub chains : (names : Names) (w : Chaining) → old.shelf.names ≡ Some names → c ≡ Some (chain w)
      → IsDoneExactlyWhere old new (HasWholeChain names w) r
  -- A sample is always verified.
  pub samples : (n : ℕ) → c ≡ Some (sample n) → (r ≡ Done) ⊎ Excused old new r
  -- when `stamp` and `upgrade` do their work
  pub stamps : (names : Names) (s : Stamping) → old.shelf.names ≡ Some names → c ≡ Some (stamp s)
      → stamping.CanStamp names s
      → stamping.Concludes (stamping.AreSubmitted happens (Some names) s) s.least drawing old new r
  pub upgrades : (names : Names) (u : Upgrading) → old.shelf.names ≡ Some names → c ≡ Some (upgrade u)
      → completing.CanUpgrade names u
      → completing.Concludes (completing.IsResult happens (Some names) u) old new r
