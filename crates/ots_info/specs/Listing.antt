-- What is printed of a proof. Each line ends in LF, and bytes print as lower-case hexadecimal.
use Rattle.std.specs.Prelude.{◌≡◌, ℕ, List, [], ◌∷◌, ◌++◌, codes, decimal}
use Rattle.std.specs.List.{flat_map}
use Rattle.hex.specs.Hex.{encode_lower}
use Rattle.ots_ops.specs.declared.hash_op.HashOp.{HashOp}
use Rattle.ots_ops.specs.declared.hash_op.HashOp.TheVariants as hash
use Rattle.ots_ops.specs.declared.op.Op.{Op}
use Rattle.ots_ops.specs.declared.op.Op.TheVariants as op
use Rattle.ots_attest.specs.declared.attestation.Attestation.{Attestation}
use Rattle.ots_attest.specs.declared.attestation.Attestation.TheVariants.{Pending, Bitcoin, Litecoin, Unknown}
use Rattle.ots_tree.specs.declared.detached.Detached.{Detached}
use Rattle.ots_tree.specs.Listed.{IsListed}
use Rattle.ots_tree.specs.declared.token.Token.{Token}
use Rattle.ots_tree.specs.declared.token.Token.TheVariants as token
use Rattle.ots_tree.specs.declared.token.TokenAt.{TokenAt}

abbrev pub hash_words : HashOp → List ℕ
hash_words hash.Sha1 = codes "sha1"
hash_words hash.Ripemd160 = codes "ripemd160"
hash_words hash.Sha256 = codes "sha256"

-- what is empty prints as a dash
abbrev pub or_dash : List ℕ → List ℕ
or_dash [] = codes "-"
or_dash (b ∷ bytes) = b ∷ bytes

abbrev pub op_words : Op → List ℕ
op_words op.Sha1 = hash_words hash.Sha1
op_words op.Ripemd160 = hash_words hash.Ripemd160
op_words op.Sha256 = hash_words hash.Sha256
op_words (op.Append bytes) = codes "append " ++ encode_lower bytes
op_words (op.Prepend bytes) = codes "prepend " ++ encode_lower bytes
op_words op.Reverse = codes "reverse"
op_words op.Hexlify = codes "hexlify"

abbrev pub attestation_words : Attestation → List ℕ
attestation_words (Pending uri) = codes "pending " ++ or_dash uri
attestation_words (Bitcoin height) = codes "bitcoin " ++ decimal height
attestation_words (Litecoin height) = codes "litecoin " ++ decimal height
attestation_words (Unknown other) = codes "unknown " ++ encode_lower other.kind ++ codes " "
    ++ or_dash (encode_lower other.payload)

-- words and LF
abbrev pub line : List ℕ → List ℕ
line words = words ++ 10 ∷ []

-- the number of operations before an item, a space, and its words; a fork prints nothing
abbrev pub item_words : ℕ → Token → List ℕ
item_words depth token.Fork = []
item_words depth (token.Op o) = line (decimal depth ++ codes " " ++ op_words o)
item_words depth (token.Attestation a) = line (decimal depth ++ codes " " ++ attestation_words a)

abbrev pub item_line : TokenAt → List ℕ
item_line at = item_words at.depth at.token

-- a hash and a digest
abbrev pub pair_words : HashOp → List ℕ → List ℕ
pair_words hash digest = hash_words hash ++ codes " " ++ encode_lower digest

-- the hash and the digest of the file
abbrev pub file_line : HashOp → List ℕ → List ℕ
file_line h digest = line (codes "file " ++ pair_words h digest)

-- `info` prints the line of the file, and then a line for each item in preorder.
abbrev pub IsInfoText : Detached → List ℕ → Type 0
IsInfoText proof text = (items : List TokenAt) × IsListed proof.tree items
    × (text ≡ file_line proof.hash proof.digest ++ flat_map item_line items)
