-- The proofs are taken in turn.
use Rattle.std.specs.Prelude.{ℕ, Bool, true, false, List, Result, Ok, Err}
use Rattle.ots_archive_steps.specs.Ends.{IfRoom}
use Rattle.ots_archive_steps.specs.Entries.{Entry, name_of}
use Rattle.ots_archive_steps.specs.Proofs.{Tries}
use Rattle.ots_archive_take.specs.Making.{MakesProof, TellsRefused, TellsSame}
use Rattle.ots_archive_take.specs.Names.{made_name}
use Rattle.ots_archive_take.specs.declared.taking.Job.{Job as ReadJob}
use Rattle.ots_archive_taken.specs.Taken.{IsTakenBy}
use Rattle.ots_archive_taken.specs.declared.taking.Taken.{Taken}
use Rattle.ots_archive_taken.specs.declared.taking.Taken.TheVariants as taken
use Rattle.ots_archive_text.specs.declared.status.ArchiveStatus.{ArchiveStatus}
use Rattle.ots_archive_text.specs.declared.status.ArchiveStatus.TheVariants.{Done, Pending, TooBig, TooFew}
use Rattle.ots_archive_world.specs.Steps.{Each, Gives, Step, Then}
use Rattle.ots_detached.specs.File.{file_of}
use Rattle.ots_sheet.specs.Reply.{Answer}
use Rattle.ots_tree.specs.declared.detached.Detached.{Detached}

-- What proofs are taken by: the folder that they are made in, how many calendars have to timestamp a draft, and what
-- calendars answered.
pub record Job : Type 0 where
  pub into : List ℕ
  pub least : ℕ
  pub answers : List Answer

-- that of a proof that was no draft
abbrev pub status_of : Bool → ArchiveStatus
status_of true = Done
status_of false = Pending

-- What was taken is made under a name, or it is told why nothing is.
abbrev pub MakesTaken : ℕ → Entry → List ℕ → Taken → Step ArchiveStatus ArchiveStatus
MakesTaken least e name (taken.Stamped proof complete) old new r =
    MakesProof name (file_of proof) complete Done old new r
MakesTaken least e name (taken.Upgraded proof complete) old new r =
    MakesProof name (file_of proof) complete (status_of complete) old new r
MakesTaken least e name (taken.Same complete) old new r = TellsSame (name_of e) complete (status_of complete) old new r
MakesTaken least e name taken.TooBig old new r = TellsRefused (name_of e) TooBig old new r
MakesTaken least e name (taken.TooFew got) old new r = TellsRefused (name_of e) (TooFew got least) old new r

-- What the replies make of a proof is made.
abbrev pub MakesOf : Job → Entry → Detached → Step ArchiveStatus ArchiveStatus
MakesOf j e proof old new r = (t : Taken) × IsTakenBy j.answers proof j.least t
    × MakesTaken j.least e (made_name j.into e) t old new r

abbrev pub TakesProof : Job → Entry → Detached → Step ArchiveStatus ArchiveStatus
TakesProof j e proof = IfRoom (MakesOf j e proof)

-- A proof that was read is taken, and one that was refused has that status.
abbrev pub TakesTried : Job → Entry → Result Detached ArchiveStatus → Step ArchiveStatus ArchiveStatus
TakesTried j e (Ok proof) = TakesProof j e proof
TakesTried j e (Err why) = Gives why

abbrev pub TakesOne : Job → Entry → Step ArchiveStatus ArchiveStatus
TakesOne j e = Then (Tries e) (TakesTried j e)

-- the statuses of all, in order
abbrev pub TakesAll : Job → List Entry → Step (List ArchiveStatus) ArchiveStatus
TakesAll j entries = Each (TakesOne j) entries

-- ---- what was read

abbrev pub read_job : ReadJob → Job
read_job j = record { into = j.into.now; least = j.least; answers = j.replies.now }
