-- The file of a sample is no longer than a proof file may be.
use Rattle.std.proofs.Common.{◌≡◌, ℕ, zero, suc, ◌+◌, ◌*◌, ◌≤◌, [], ◌∷◌, ◌++◌, length, ap, ◌∙◌, arith, length-append}
use Rattle.std.specs.Int.{w32, to_be_bytes}
use Rattle.std.proofs.lemmas.List.Concat.{flat_map-append}
use Rattle.ots_varint.specs.Varuint.{varuint}
use Rattle.ots_varint.proofs.OneNumber.{varuint_at_most_ten, varuint_at_most_two}
use Rattle.ots_varint.proofs.Written.{varbytes_length}
use Rattle.ots_ops.specs.HashOp.{digest_length}
use Rattle.ots_tree.specs.declared.detached.Detached.{Detached}
use Rattle.ots_tree.specs.declared.token.Token.{Token}
use Rattle.ots_tree.specs.Wire.{spell, spelled}
use Rattle.ots_detached.specs.File.{file_of, header}
use Rattle.ots_detached.proofs.Headers.{header_length}
use Rattle.ots_sample.specs.Tokens.{fork_before, path_tokens, item_tokens, tokens_below, IsMadeOf}

fork_short : (i : ℕ) → length (spelled (fork_before i)) ≤ 1
fork_short zero = omega arith
fork_short (suc i) = omega arith

three_long : (a b c : Token) → length (spelled (a ∷ b ∷ c ∷ [])) ≡ length (spell a) + length (spell b) + length (spell c)
three_long a b c = omega (arith, length-append (spell a) (spell b ++ (spell c ++ [])), length-append (spell b) (spell c ++ []), length-append (spell c) [])

path_short : (i : ℕ) → length (spelled (path_tokens i)) ≤ 29
path_short i =
    let ten = varuint_at_most_ten i in
    let two = varuint_at_most_two (length (varuint i)) (omega arith) in
    let four = varuint_at_most_two 4 (omega arith) in
    let argument = varbytes_length (to_be_bytes w32 i) in
    let height = varbytes_length (varuint i) in
    rw three_long (omega arith)

items_short : (n : ℕ) → length (spelled (tokens_below n)) ≤ 30 * n
items_short zero = omega arith
items_short (suc i) =
    let fork = fork_short i in
    let path = path_short i in
    let below = items_short i in
    rw (flat_map-append spell (item_tokens i) (tokens_below i), flat_map-append spell (fork_before i) (path_tokens i))
    (omega (arith, length-append (spelled (fork_before i) ++ spelled (path_tokens i)) (spelled (tokens_below i)), length-append (spelled (fork_before i)) (spelled (path_tokens i))))

pub file_short : (n : ℕ) (p : Detached) → n ≤ 100000 → IsMadeOf n p → length (file_of p) ≤ 4194304
unfolding file_of
file_short n p few made =
    let long : length p.digest ≡ 32 = p.digest_of_hash ∙ ap digest_length made.hash in
    let tree = ap (λ z. length (spelled z)) made.tree in
    omega (arith, length-append (header p.hash p.digest) (spelled p.tree), header_length p.hash p.digest, items_short n)
