use Rattle.std.proofs.Common.{◌≢◌, ℕ, List, map, take}
use Rattle.std.specs.Prelude.{All}
use Rattle.ots_address.specs.Address.{text_of}
use Rattle.ots_address.proofs.list.has_text.Given as goal

-- None of the addresses up to here has the text.
abbrev pub invariant-loop-address : goal.invariant-loop-address
invariant-loop-address l = All (λ (earlier : List ℕ). earlier ≢ l.text) (map text_of (take l.address-index l.addresses))
