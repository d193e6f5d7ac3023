-- Lemmas on links.
use Rattle.std.proofs.Common.{ℕ, List, [], take, Option, None, Some, Result, Ok, Err, refl, ap}
use Rattle.std.specs.Option.{option_map}
use Rattle.ots_base.specs.Told.{BothTold}
use Rattle.ots_outside.specs.Streams.{Takes, Writes}
use Rattle.ots_outside.specs.Link.{LinkTold, LinkTakes, LinkWrites, taken_of, but_taken, SameButTaken}

-- What a link takes is what it takes as a sink.
takes_as_sink : (a b : Option LinkTold) (bytes : List ℕ) → BothTold (LinkTakes bytes) a b → Takes (taken_of a) (taken_of b) bytes
takes_as_sink None None bytes p = tt
takes_as_sink None (Some t) bytes p = absurd p
takes_as_sink (Some s) None bytes p = absurd p
takes_as_sink (Some s) (Some t) bytes p = p.taken

pub writes_as_sink : {E : Type 0} (a b : Option LinkTold) (result : Result ℕ E) (piece : List ℕ)
    → LinkWrites a b result piece → Writes (taken_of a) (taken_of b) result piece
writes_as_sink a b (Ok n) piece p = takes_as_sink a b (take n piece) p
writes_as_sink a b (Err e) piece p = ap taken_of p

-- All but the bytes taken stays.
takes_only : (a b : Option LinkTold) (bytes : List ℕ) → BothTold (LinkTakes bytes) a b → SameButTaken a b
takes_only None None bytes p = refl
takes_only None (Some t) bytes p = absurd p
takes_only (Some s) None bytes p = absurd p
takes_only (Some s) (Some t) bytes p = ap Some (λ i. record { left = p.left i; given = p.given i; taken = [] })

pub writes_only : {E : Type 0} (a b : Option LinkTold) (result : Result ℕ E) (piece : List ℕ) → LinkWrites a b result piece → SameButTaken a b
writes_only a b (Ok n) piece p = takes_only a b (take n piece) p
writes_only a b (Err e) piece p = ap (option_map but_taken) p
