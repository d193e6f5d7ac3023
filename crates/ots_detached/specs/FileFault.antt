-- Where and why bytes are no proof file.
use Rattle.std.specs.Prelude.{◌≡◌, ℕ, ◌+◌, List, [], ◌∷◌, ◌++◌, length, drop, not, ◌||◌, nat_lt, nat_eq, slice_get}
use Rattle.std.specs.Prelude.{Option, Some, None, if◌then◌else◌}
use Rattle.std.specs.List.{starts_with}
use Rattle.ots_base.specs.Table.{line, first_line}
use Rattle.ots_ops.specs.declared.hash_op.HashOp.{HashOp}
use Rattle.ots_tree.specs.Wire.{Node}
use Rattle.ots_reader.specs.declared.fault.Fault.{Fault}
use Rattle.ots_reader.specs.declared.fault.Reason.{Reason}
use Rattle.ots_reader.specs.declared.fault.Reason.TheVariants.{Truncated, Keccak, BadMagic, BadVersion, BadHashOp}
use Rattle.ots_reader.specs.declared.fault.Reason.TheVariants.{TrailingBytes}
use Rattle.ots_reader.specs.TreeFault.{HasTreeFault}
use Rattle.ots_detached.specs.File.{magic, file, HasFile, IsHeader}

abbrev pub at : ℕ → Reason → Fault
at place reason = record { place = place; reason = reason }

-- The magic bytes: a prefix of them is cut, else the bytes are others.
abbrev pub magic_fault : List ℕ → Option Fault
magic_fault b =
    if starts_with nat_eq b magic then None
    else if starts_with nat_eq magic b then Some (at 0 Truncated)
    else Some (at 0 BadMagic)

-- The byte at place 31, if there is one, is the version.
abbrev pub version_fault_of : Option ℕ → Option Fault
version_fault_of None = Some (at 31 Truncated)
version_fault_of (Some b) = if nat_eq b 0x01 then None else Some (at 31 BadVersion)

abbrev pub version_fault : List ℕ → Option Fault
version_fault b = version_fault_of (slice_get b 31)

-- The byte at place 32, if there is one, is the tag of a hash.
abbrev pub hash_fault_of : Option ℕ → Option Fault
hash_fault_of None = Some (at 32 Truncated)
hash_fault_of (Some b) = first_line (
    line (nat_eq b 0x67) (at 32 Keccak)
    ∷ line (not (nat_eq b 0x02 || nat_eq b 0x03 || nat_eq b 0x08)) (at 32 BadHashOp)
    ∷ [])

abbrev pub hash_fault : List ℕ → Option Fault
hash_fault b = hash_fault_of (slice_get b 32)

-- the length of the digest, by the tag of its hash
abbrev pub digest_length_of : Option ℕ → ℕ
digest_length_of None = 0
digest_length_of (Some b) = if nat_eq b 0x08 then 32 else 20

-- Then the digest is there whole.
abbrev pub digest_fault : List ℕ → Option Fault
digest_fault b = first_line (line (nat_lt (length b) (33 + digest_length_of (slice_get b 32))) (at 33 Truncated) ∷ [])

-- the first of these that there is
unfoldable pub header_fault : List ℕ → Option Fault
header_fault b = first_line (magic_fault b ∷ version_fault b ∷ hash_fault b ∷ digest_fault b ∷ [])

-- a fault that is counted from a later place
abbrev pub moved : ℕ → Fault → Fault
moved n f = record { place = n + f.place; reason = f.reason }

-- The fault of the header; else of the tree after it; else, where a file is whole, the first byte
-- after it.
pub data HasFault (b : List ℕ) (f : Fault) : Type 0 where
  in_header : header_fault b ≡ Some f → HasFault b f
  in_tree : (h : HashOp) (d : List ℕ) (g : Fault) → IsHeader b h d
      → HasTreeFault (length d) 0 (drop (33 + length d) b) g
      → f ≡ moved (33 + length d) g → HasFault b f
  after : (h : HashOp) (d : List ℕ) (t : Node) (x : ℕ) (rest : List ℕ) → HasFile h d t
      → b ≡ file h d t ++ (x ∷ rest) → f ≡ at (length (file h d t)) TrailingBytes → HasFault b f
