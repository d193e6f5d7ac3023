-- The fields of a block in the order in which they stand, and the first that is not whole. A field is read at
-- the prefix of bytes: it gives a value and the bytes after it, or it halts.
use Rattle.std.specs.Prelude.{ℕ, zero, suc, ◌^◌, List, [], ◌∷◌, length, take, drop, Bool, true, false, Option, Some}
use Rattle.std.specs.Prelude.{None, Result, Ok, Err, nat_lt, nat_eq, if◌then◌else◌}
use Rattle.std.specs.Int.{Width, w16, w32, w64, byte_len, from_le_bytes}
use Rattle.ots_headers.specs.declared.header.Header.{Header}
use Rattle.ots_headers.specs.Header.{header_in}
use Rattle.ots_block.specs.declared.fault.BlockReason.{BlockReason}
use Rattle.ots_block.specs.declared.fault.BlockReason.TheVariants.{Truncated, NonMinimal, TooLarge, BadFlag}
use Rattle.ots_block.specs.declared.fault.BlockReason.TheVariants.{NoTransaction, Rest}
use Rattle.ots_block.specs.declared.limits.TheConstants.{MAX_COMPACT}
use Rattle.ots_block.specs.Transaction.{Input, Output, Transaction}
use Rattle.ots_block.specs.Block.{Contents}

-- Why reading halts, and how many bytes are left from the first byte of that field on.
pub record Halt : Type 0 where
  pub left : ℕ
  pub reason : BlockReason

abbrev pub Read : Type 0 → Type 0
Read A = Result (A × List ℕ) Halt

abbrev pub halts : {A : Type 0} → List ℕ → BlockReason → Result A Halt
halts bytes why = Err (record { left = length bytes; reason = why })

infixl 10 ◌>>=◌
abbrev pub ◌>>=◌ : {A B : Type 0} → Result A Halt → (A → Result B Halt) → Result B Halt
(Ok x) >>= f = f x
(Err h) >>= f = Err h

-- ---- numbers and runs

-- n bytes
unfoldable pub run_at : ℕ → List ℕ → Read (List ℕ)
run_at n bytes = if nat_lt (length bytes) n then halts bytes Truncated else Ok (take n bytes, drop n bytes)

-- a number that no shorter form has from a least one on
abbrev pub in_range : ℕ → List ℕ → ℕ → List ℕ → Read ℕ
in_range least bytes n rest =
    if nat_lt n least then halts bytes NonMinimal else if nat_lt MAX_COMPACT n then halts bytes TooLarge
    else Ok (n, rest)

-- a number after the first byte of its form, of as many bytes as the form has
abbrev pub wide_at : Width → ℕ → List ℕ → List ℕ → Read ℕ
wide_at w least bytes after =
    if nat_lt (length after) (byte_len w) then halts bytes Truncated
    else in_range least bytes (from_le_bytes w (take (byte_len w) after)) (drop (byte_len w) after)

unfoldable pub compact_at : List ℕ → Read ℕ
compact_at [] = halts [] Truncated
compact_at (first ∷ after) =
    if nat_eq first 0xfd then wide_at w16 0xfd (first ∷ after) after
    else if nat_eq first 0xfe then wide_at w32 (2 ^ 16) (first ∷ after) after
    else if nat_eq first 0xff then wide_at w64 (2 ^ 32) (first ∷ after) after
    else Ok (first, after)

unfoldable pub sized_at : List ℕ → Read (List ℕ)
sized_at bytes = do
  n ← compact_at bytes
  run_at n.0 n.1

-- ---- n things, one after the other

unfoldable pub many_at : {A : Type 0} → (List ℕ → Read A) → ℕ → List ℕ → Read (List A)
many_at one zero bytes = Ok ([], bytes)
many_at one (suc n) bytes = do
  first ← one bytes
  others ← many_at one n first.1
  Ok (first.0 ∷ others.0, others.1)

unfoldable pub counted_at : {A : Type 0} → (List ℕ → Read A) → List ℕ → Read (List A)
counted_at one bytes = do
  n ← compact_at bytes
  many_at one n.0 n.1

-- ---- a transaction

unfoldable pub input_at : List ℕ → Read Input
input_at bytes = do
  outpoint ← run_at 36 bytes
  script ← sized_at outpoint.1
  sequence ← run_at 4 script.1
  Ok (record { outpoint = outpoint.0; script = script.0; sequence = sequence.0 }, sequence.1)

unfoldable pub output_at : List ℕ → Read Output
output_at bytes = do
  value ← run_at 8 bytes
  script ← sized_at value.1
  Ok (record { value = value.0; script = script.0 }, script.1)

unfoldable pub stack_at : List ℕ → Read (List (List ℕ))
stack_at bytes = counted_at sized_at bytes

-- the flag after a marker
unfoldable pub flag_at : List ℕ → Read Bool
flag_at [] = halts [] Truncated
flag_at (first ∷ after) = if nat_eq first 1 then Ok (true, after) else halts (first ∷ after) BadFlag

-- whether there are a marker and a flag
unfoldable pub marker_at : List ℕ → Read Bool
marker_at [] = Ok (false, [])
marker_at (first ∷ after) = if nat_eq first 0 then flag_at after else Ok (false, first ∷ after)

-- after a marker, a list of items for each input
unfoldable pub witness_at : Bool → ℕ → List ℕ → Read (Option (List (List (List ℕ))))
witness_at false inputs bytes = Ok (None, bytes)
witness_at true inputs bytes = do
  stacks ← many_at stack_at inputs bytes
  Ok (Some stacks.0, stacks.1)

unfoldable pub transaction_at : List ℕ → Read Transaction
transaction_at bytes = do
  version ← run_at 4 bytes
  marked ← marker_at version.1
  inputs ← counted_at input_at marked.1
  outputs ← counted_at output_at inputs.1
  witness ← witness_at marked.0 (length inputs.0) outputs.1
  lock ← run_at 4 witness.1
  Ok (
    record {
      version = version.0;
      inputs = inputs.0;
      outputs = outputs.0;
      witness = witness.0;
      lock_time = lock.0;
    },
    lock.1,
  )

-- ---- a block

-- the six fields of a header
unfoldable pub header_at : List ℕ → Read Header
header_at bytes = do
  version ← run_at 4 bytes
  previous ← run_at 32 version.1
  root ← run_at 32 previous.1
  time ← run_at 4 root.1
  bits ← run_at 4 time.1
  nonce ← run_at 4 bits.1
  Ok (header_in bytes, nonce.1)

-- the number of transactions
unfoldable pub count_at : List ℕ → Read ℕ
count_at bytes = do
  n ← compact_at bytes
  if nat_eq n.0 0 then halts bytes NoTransaction else Ok n

-- what is read, where nothing is left
abbrev pub ended : {A : Type 0} → A → List ℕ → Result A Halt
ended all [] = Ok all
ended all (next ∷ rest) = halts (next ∷ rest) Rest

unfoldable pub block_at : List ℕ → Result Contents Halt
block_at bytes = do
  header ← header_at bytes
  count ← count_at header.1
  transactions ← many_at transaction_at count.0 count.1
  ended (record { header = header.0; transactions = transactions.0 }) transactions.1
