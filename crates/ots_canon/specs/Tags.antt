-- The bytes with which tokens are spelled first. They serve the functions that compare tokens.
use Rattle.std.specs.Prelude.{ℕ, nat_eq, Option, Some, Bool, true, false, ◌&&◌, not}
use Rattle.ots_ops.specs.Operation.{tag}
use Rattle.ots_ops.specs.declared.tags.TheConstants.{APPEND_TAG, PREPEND_TAG}
use Rattle.ots_tree.specs.declared.token.Token.{Token}
use Rattle.ots_tree.specs.declared.token.Token.TheVariants as token

abbrev pub tag_of : Token → ℕ
tag_of token.Fork = 0xff
tag_of (token.Op o) = tag o
tag_of (token.Attestation a) = 0

-- all tokens with this tag are equal
abbrev pub is_bare : ℕ → Bool
is_bare n = not (nat_eq n 0) && not (nat_eq n APPEND_TAG) && not (nat_eq n PREPEND_TAG)

abbrev pub is_fork : Option Token → Bool
is_fork (Some token.Fork) = true
is_fork x = false

abbrev pub is_op : Option Token → Bool
is_op (Some (token.Op o)) = true
is_op x = false
