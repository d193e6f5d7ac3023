-- How far a proof file has come after its header.
use Rattle.std.specs.Prelude.{◌≡◌, ◌≢◌, ◌≤◌, ℕ, ◌+◌, List, length, drop, Option}
use Rattle.ots_base.specs.declared.limits.TheConstants.{MAX_PROOF_FILE}
use Rattle.ots_ops.specs.declared.hash_op.HashOp.{HashOp}
use Rattle.ots_tree.specs.declared.token.Token.{Token}
use Rattle.ots_reader.specs.declared.fault.Fault.{Fault}
use Rattle.ots_reader.specs.declared.fault.Reason.TheVariants.{Truncated}
use Rattle.ots_reader.specs.Tokens.{so_far}
use Rattle.ots_reader.specs.TreeRead.{IsTreeAt}
use Rattle.ots_detached.specs.declared.header.FileHeader.{FileHeader}
use Rattle.ots_detached.specs.File.{IsHeader}
use Rattle.ots_detached.specs.FileFault.{HasFault}
use Rattle.ots_headers.specs.HeaderTable.{Table}
use Rattle.ots_verdicts.specs.declared.best.Best.{Best}
use Rattle.ots_verifier.specs.declared.following.Following.{Following}
use Rattle.ots_verifier.specs.declared.stage.Stage.{Stage}
use Rattle.ots_verifier.specs.declared.stage.Stage.TheVariants.{Tree, Whole, Refused}
use Rattle.ots_verifier.specs.Following.{Follows, best_in}

-- the bytes after the header
abbrev pub after : FileHeader → List ℕ → List ℕ
after h bytes = drop (33 + length h.digest) bytes

-- The tree goes on.
pub record IsOpen (bitcoin : Table) (litecoin : Option Table) (bytes : List ℕ) (h : FileHeader)
    (f : Following) : Type 0 where
  pub header : IsHeader bytes h.hash h.digest
  pub rest : after h bytes ≡ so_far f.reader
  pub follows : Follows bitcoin litecoin h.digest f.reader f.messages.position f.best

-- The tree is whole, and nothing is after it.
pub record IsWhole (bitcoin : Table) (litecoin : Option Table) (bytes : List ℕ) (h : FileHeader)
    (best : Best) : Type 0 where
  pub header : IsHeader bytes h.hash h.digest
  pub tokens : List Token
  pub tree : IsTreeAt (length h.digest) 0 (after h bytes) tokens (length (after h bytes))
  pub is_best : best ≡ best_in bitcoin litecoin h.digest tokens

-- The bytes have a fault after the header, which is another than that they end.
pub record IsRefused (bytes : List ℕ) (f : Fault) : Type 0 where
  pub hash : HashOp
  pub digest : List ℕ
  pub header : IsHeader bytes hash digest
  pub fault : HasFault bytes f
  pub settled : f.reason ≢ Truncated

abbrev pub IsAt : Table → Option Table → List ℕ → Stage → Following → Type 0
IsAt bitcoin litecoin bytes (Tree h) f = IsOpen bitcoin litecoin bytes h f
IsAt bitcoin litecoin bytes (Whole h) f = IsWhole bitcoin litecoin bytes h f.best
IsAt bitcoin litecoin bytes (Refused fault) f = IsRefused bytes fault

-- These bytes have come, of this number.
pub record Stands (bitcoin : Table) (litecoin : Option Table) (bytes : List ℕ) (count : ℕ) (s : Stage)
    (f : Following) : Type 0 where
  pub counted : count ≡ length bytes
  pub is_at : IsAt bitcoin litecoin bytes s f

-- The same, of no more than a proof file may have.
pub record IsWithin (bitcoin : Table) (litecoin : Option Table) (bytes : List ℕ) (s : Stage)
    (f : Following) : Type 0 where
  pub size : length bytes ≤ MAX_PROOF_FILE
  pub within : IsAt bitcoin litecoin bytes s f
