-- What the forms in memory of a source, a sink and a link tell.
use Rattle.std.specs.Prelude.{ℕ, List}
use Rattle.ots_memory.specs.Calls.{CallsTold}
use Rattle.ots_outside.specs.Link.{LinkTold}

pub record BytesSourceTold : Type 0 where
  -- the bytes left
  pub left : List ℕ
  -- the most bytes that each of the next reads gives, as long as there are such numbers
  pub pieces : List ℕ
  -- its reads
  pub calls : CallsTold
  -- how many of them failed
  pub faults : ℕ

pub record BytesSinkTold : Type 0 where
  -- the bytes taken
  pub taken : List ℕ
  -- how many bytes it takes at most in all
  pub capacity : ℕ
  -- its writes
  pub calls : CallsTold
  -- how many of them failed
  pub faults : ℕ

pub record BytesLinkTold : Type 0 where
  -- the bytes left, given and taken
  pub link : LinkTold
  -- the most bytes that each of the next reads gives, as long as there are such numbers
  pub pieces : List ℕ
  -- how many bytes it takes at most in all
  pub capacity : ℕ
  -- its reads and writes together
  pub calls : CallsTold
  -- how many of them failed
  pub faults : ℕ
