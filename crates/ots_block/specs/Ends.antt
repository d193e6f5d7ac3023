-- For the code alone: where each field ends, without its value, and where the parts of a transaction begin.
use Rattle.std.specs.Prelude.{◌≤◌, ℕ, zero, suc, ◌+◌, ◌-◌, List, ◌++◌, length, take, drop, Bool, true, false, Result}
use Rattle.std.specs.Prelude.{Ok, nat_lt, if◌then◌else◌}
use Rattle.ots_block.specs.declared.fault.BlockReason.TheVariants.{Truncated}
use Rattle.ots_block.specs.declared.places.Places.{Places}
use Rattle.ots_block.specs.Reading.{Halt, Read, halts, ◌>>=◌, compact_at, many_at, marker_at, count_at, ended}

abbrev pub End : Type 0
End = Result (List ℕ) Halt

abbrev pub run_end : ℕ → List ℕ → End
run_end n bytes = if nat_lt (length bytes) n then halts bytes Truncated else Ok (drop n bytes)

unfoldable pub sized_end : List ℕ → End
sized_end bytes = do
  n ← compact_at bytes
  run_end n.0 n.1

unfoldable pub many_end : (List ℕ → End) → ℕ → List ℕ → End
many_end one zero bytes = Ok bytes
many_end one (suc n) bytes = do
  rest ← one bytes
  many_end one n rest

-- with the number of things
unfoldable pub counted_end : (List ℕ → End) → List ℕ → Read ℕ
counted_end one bytes = do
  n ← compact_at bytes
  rest ← many_end one n.0 n.1
  Ok (n.0, rest)

unfoldable pub input_end : List ℕ → End
input_end bytes = do
  outpoint ← run_end 36 bytes
  script ← sized_end outpoint
  run_end 4 script

unfoldable pub output_end : List ℕ → End
output_end bytes = do
  value ← run_end 8 bytes
  sized_end value

unfoldable pub stack_end : List ℕ → End
stack_end bytes = do
  n ← compact_at bytes
  many_end sized_end n.0 n.1

unfoldable pub witness_end : Bool → ℕ → List ℕ → End
witness_end false inputs bytes = Ok bytes
witness_end true inputs bytes = many_end stack_end inputs bytes

-- where a transaction and its parts begin, counted from the end of the bytes
unfoldable pub laid_at : List ℕ → Read Places
laid_at bytes = do
  version ← run_end 4 bytes
  marked ← marker_at version
  inputs ← counted_end input_end marked.1
  outputs ← counted_end output_end inputs.1
  witness ← witness_end marked.0 inputs.0 outputs.1
  lock ← run_end 4 witness
  Ok (
    record {
      start = length bytes;
      body = length marked.1;
      witness = length outputs.1;
      lock_time = length witness;
    },
    lock,
  )

unfoldable pub header_end : List ℕ → End
header_end bytes = do
  version ← run_end 4 bytes
  previous ← run_end 32 version
  root ← run_end 32 previous
  time ← run_end 4 root
  bits ← run_end 4 time
  run_end 4 bits

-- the number of transactions after the header
unfoldable pub prefix_at : List ℕ → Read ℕ
prefix_at bytes = do
  header ← header_end bytes
  count_at header

unfoldable pub kept_at : List ℕ → Result (List Places) Halt
kept_at bytes = do
  count ← prefix_at bytes
  all ← many_at laid_at count.0 count.1
  ended all.0 all.1

-- the last n bytes
abbrev pub last : ℕ → List ℕ → List ℕ
last n bytes = drop (length bytes - n) bytes

-- the stripped form of the transaction with these places
unfoldable pub stripped_in : List ℕ → Places → List ℕ
stripped_in bytes p = take 4 (last p.start bytes) ++ take (p.body - p.witness) (last p.body bytes)
    ++ take 4 (last p.lock_time bytes)

-- the places lie within n bytes, in their order
pub record AreWithin (n : ℕ) (p : Places) : Type 0 where
  pub start : p.start ≤ n
  pub body : p.body + 4 ≤ p.start
  pub witness : p.witness ≤ p.body
  pub lock_time : p.lock_time ≤ p.witness
  pub room : 4 ≤ p.lock_time
