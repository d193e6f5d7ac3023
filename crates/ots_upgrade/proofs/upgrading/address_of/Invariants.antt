use Rattle.std.proofs.Common.{◌≡◌, drop}
use Rattle.ots_upgrade.specs.Upgrading.{address_of}
use Rattle.ots_upgrade.proofs.upgrading.address_of.Given as goal

-- The first of those that are left is the first of all.
abbrev pub invariant-loop-address : goal.invariant-loop-address
invariant-loop-address l = address_of (drop l.address-index l.calendars) l.uri ≡ address_of l.calendars l.uri
