use Rattle.std.proofs.Common.{◌≡◌, ◌∷◌, ◌++◌, take}
use Rattle.ots_sums.specs.Names.{escaped}
use Rattle.ots_sums.proofs.names.put_escaped.Given as goal

-- The bytes so far were put after the mark.
abbrev pub invariant-loop-byte : goal.invariant-loop-byte
invariant-loop-byte l = l.out.items ≡ l.fn.out.items ++ (92 ∷ escaped (take l.byte-index l.name))
