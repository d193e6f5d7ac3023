-- Bytes have one fault, or are one proof's file.
use Rattle.std.specs.Prelude.{◌≡◌, ℕ, List}
use Rattle.ots_ops.specs.declared.hash_op.HashOp.{HashOp}
use Rattle.ots_tree.specs.Wire.{Node}
use Rattle.ots_reader.specs.declared.fault.Fault.{Fault}
use Rattle.ots_detached.specs.File.{file, HasFile}
use Rattle.ots_detached.specs.FileFault.{HasFault}

-- the bytes have this fault and no other
pub record HasOneFault (b : List ℕ) : Type 0 where
  pub fault : Fault
  pub has : HasFault b fault
  pub only : (g : Fault) → HasFault b g → g ≡ fault

-- the bytes are the file of this hash, digest and tree, and of no others
pub record HasOneFile (b : List ℕ) : Type 0 where
  pub hash : HashOp
  pub digest : List ℕ
  pub tree : Node
  pub has_file : HasFile hash digest tree
  pub spelled : b ≡ file hash digest tree
  pub only : (k : HashOp) (e : List ℕ) (u : Node) → HasFile k e u → b ≡ file k e u
      → (k ≡ hash) × (e ≡ digest) × (u ≡ tree)
