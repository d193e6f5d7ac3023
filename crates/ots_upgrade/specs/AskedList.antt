-- How a list of asked pairs is seen, for its code.
use Rattle.std.specs.Prelude.{List, Option, map, zip}
use Rattle.ots_asking.specs.declared.outcome.Outcome.{Outcome}
use Rattle.ots_pending.specs.Pairs.{PairAt}
use Rattle.ots_upgrade.specs.declared.asking.AskedAt.{AskedAt}

-- a pair, and what came of asking for it
abbrev pub asked_at : PairAt × Option Outcome → AskedAt
asked_at x = record { uri = x.0.pair.uri; message = x.0.pair.message; outcome = x.1 }

-- each of these pairs with what came of asking for it, in order
abbrev pub asked_with : List PairAt → List (Option Outcome) → List AskedAt
asked_with pairs outcomes = map asked_at (zip pairs outcomes)
