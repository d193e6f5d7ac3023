-- What is printed of conversations with calendars: a line for each, which ends in LF.
use Rattle.std.specs.Prelude.{ℕ, List, ◌++◌, Option, None, Some, codes, decimal}
use Rattle.ots_address.specs.Address.{AddressParts}
use Rattle.ots_info.specs.Listing.{or_dash}
use Rattle.ots_reader.specs.Printed.{printed}
use Rattle.ots_asking.specs.declared.outcome.Outcome.{Outcome}
use Rattle.ots_asking.specs.declared.outcome.Outcome.TheVariants.{Tree, Unreachable, Status, TooLong, BadHttp}
use Rattle.ots_asking.specs.declared.outcome.Outcome.TheVariants.{BadReply}
use Rattle.ots_outputs.specs.Lines.{line}

-- what came of asking a calendar
abbrev pub outcome_words : Outcome → List ℕ
outcome_words (Tree tree) = codes "ok"
outcome_words Unreachable = codes "unreachable"
outcome_words (Status code) = codes "status " ++ decimal code
outcome_words TooLong = codes "too long"
outcome_words BadHttp = codes "not http"
outcome_words (BadReply fault) = codes "bad reply at " ++ decimal fault.place ++ codes ": " ++ printed fault.reason

-- the address of a calendar, and what came of asking it
abbrev pub calendar_line : AddressParts × Outcome → List ℕ
calendar_line p = line (p.0.text ++ codes " " ++ outcome_words p.1)

-- a URI, and what came of asking its calendar, or that none was asked; an empty URI prints as a dash
abbrev pub uri_line : List ℕ → Option Outcome → List ℕ
uri_line uri None = line (codes "skipped " ++ or_dash uri)
uri_line uri (Some outcome) = line (or_dash uri ++ codes " " ++ outcome_words outcome)
