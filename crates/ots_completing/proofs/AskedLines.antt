-- The line of one pair more that was asked for.
use Rattle.std.proofs.Common.{◌≡◌, ℕ, ◌+◌, ◌<◌, List, [], ◌++◌, Option, None, Some, length, get_or, take, sym}
use Rattle.std.specs.List.{flat_map, slice_get}
use Rattle.std.proofs.lemmas.Option.{get_or_from_slice_get, slice_get-get_or}
use Rattle.ots_asking.specs.declared.outcome.Outcome.{Outcome}
use Rattle.ots_completing.specs.Upgrade.{asked_line}
use Rattle.ots_lines.proofs.More.{one_more}
use Rattle.ots_lines.specs.Lines.{uri_line}
use Rattle.ots_upgrade.specs.declared.asking.AskedAt.{AskedAt}

pub one_asked_more : (asked : List AskedAt) (i : ℕ) (uri : List ℕ) (outcome : Option Outcome) → i < length asked
    → ((a : AskedAt) → slice_get asked i ≡ Some a → uri ≡ a.uri) → ((a : AskedAt) → slice_get asked i ≡ Some a → outcome ≡ a.outcome)
    → flat_map asked_line (take i asked) ++ uri_line uri outcome ≡ flat_map asked_line (take (i + 1) asked)
one_asked_more asked i uri outcome in_range uri-is outcome-is =
    let a : AskedAt = get_or asked i (record { uri = []; message = []; outcome = None }) in
    let at : slice_get asked i ≡ Some a = slice_get-get_or asked i (record { uri = []; message = []; outcome = None }) in_range in
    rw (uri-is a at, outcome-is a at) (one_more asked_line asked i a in_range (sym (get_or_from_slice_get asked i a a at)))
