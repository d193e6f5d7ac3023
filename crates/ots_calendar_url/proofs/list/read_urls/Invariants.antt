use Rattle.std.proofs.Common.{◌≡◌, ◌+◌, length}
use Rattle.std.specs.Option.{option_copied}
use Rattle.ots_address.specs.AddressList.{length_left}
use Rattle.ots_calendar_url.proofs.Lists.{ReadsMore}
use Rattle.ots_calendar_url.proofs.list.read_urls.Given as goal

-- The list's pieces are the texts of the URLs, and then those of what is left, which stands at the place.
abbrev pub invariant-loop-rest : goal.invariant-loop-rest
invariant-loop-rest l = record {
  reads : ReadsMore l.fn.list l.urls.items l.place (option_copied l.rest);
  lengths : l.place + length_left (option_copied l.rest) ≡ length l.fn.list + 1;
}

-- Each turn takes a piece off.
abbrev pub decreases-loop-rest : goal.decreases-loop-rest
decreases-loop-rest l = length_left (option_copied l.rest)
