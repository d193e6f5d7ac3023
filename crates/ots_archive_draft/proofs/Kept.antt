-- What loops keep.
use Rattle.std.proofs.Common.{◌≡◌, ℕ, Bool, List, Bor, map, take, length}
use Rattle.std.specs.Prelude.{Ok}
use Rattle.std.specs.List.{AllByRecursion, list_all, range_with_len}
use Rattle.std.specs.Str.{IsUtf8}
use Rattle.ots_archive_draft.specs.Drawing.{DrawsAll, digest_of}
use Rattle.ots_archive_draft.specs.Files.{AreLong, HashesAll}
use Rattle.ots_archive_draft.specs.Writing.{Batch, WritesAt}
use Rattle.ots_archive_steps.specs.Ends.{IfRoom}
use Rattle.ots_archive_world.specs.Steps.{Each}
use Rattle.ots_archive_world.specs.Told.{Told}
use Rattle.ots_arguments.specs.Values.{texts}
use Rattle.ots_stamp.specs.declared.target.Target.{Target}
use Rattle.ots_sums.specs.Sums.{Entry, digests, names}

-- The first files are hashed.
pub record Hashed (words : List (List ℕ)) (i : ℕ) (old new : Told) (found : List (List ℕ)) : Type 0 where
  pub each : HashesAll (take i words) old new (Ok found)
  pub long : AreLong found

-- The first nonces are drawn.
pub record Drawn (hashes : List (List ℕ)) (i : ℕ) (old new : Told) (targets : List Target) : Type 0 where
  pub each : DrawsAll (take i hashes) old new (Ok targets)
  pub same : map digest_of targets ≡ take i hashes

-- The first lines have names of UTF-8.
pub record Named (lines : List Entry) (i : ℕ) (found : List (Bor (List ℕ))) : Type 0 where
  pub are : texts found ≡ take i (names lines)
  pub texts_are : AllByRecursion IsUtf8 (take i (names lines))

-- The digests of the first lines.
pub record Taken (lines : List Entry) (i : ℕ) (found : List (List ℕ)) : Type 0 where
  pub are : found ≡ take i (digests lines)
  pub long : AreLong found

-- The first drafts are written, and it is known whether all were made.
pub record Written (b : Batch) (i : ℕ) (old new : Told) (all : Bool) : Type 0 where
  pub made : List Bool
  pub each : Each (λ k. IfRoom (WritesAt b k)) (take i (range_with_len 0 (length b.names))) old new (Ok made)
  pub known : all ≡ list_all (λ one. one) made
