-- The row of a hold that puts a ticket, for the code of the call.
use Rattle.std.specs.Prelude.{◌≡◌, ◌<◌, Result, Ok, Err}
use Rattle.ots_round.specs.declared.ticket.Ticket.{Ticket}
use Rattle.ots_shared.specs.declared.row.Row.{Row}
use Rattle.ots_tickets.specs.declared.tickets.PutError.{PutError}
use Rattle.ots_tickets.specs.declared.tickets.PutError.TheVariants.{Busy, OutOfMemory}
use Rattle.ots_tickets.specs.declared.tickets.TheConstants.{MAX_WAITING}
use Rattle.ots_connection.specs.Holds.{ChangesNothing}
use Rattle.ots_connection.specs.Stamping.{PutsTicket}

abbrev pub Puts : Row → Result Ticket PutError → Type 0
Puts row (Ok ticket) = PutsTicket row
Puts row (Err Busy) = ChangesNothing row × (row.waiting_found ≡ MAX_WAITING)
Puts row (Err OutOfMemory) = ChangesNothing row × (row.waiting_found < MAX_WAITING)
