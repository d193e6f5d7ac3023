use Rattle.std.proofs.Common.{◌≡◌, List, length, map, take}
use Rattle.ots_http.specs.Seen.{LinkSeen}
use Rattle.ots_gateway.specs.Answer.{IsAnswer}
use Rattle.ots_gateway.specs.Arrived.{HearAll, waiting_in}
use Rattle.ots_gateway.specs.Round.{Given, Heard}
use Rattle.ots_gateway.proofs.Replied.{Replying}
use Rattle.ots_gateway.proofs.replying.reply_all.Given as goal

abbrev pub invariant-loop-i : goal.invariant-loop-i
invariant-loop-i g l = record {
  replying : (heard : List Heard) (olds : List LinkSeen) (given : Given)
      → HearAll heard olds (map (λ k. record { told = g.L.Link.told k; faults = g.L.Link.faults k }) l.fn.links) l.arrived
      → IsAnswer given l.answer
      → Replying (λ k. record { told = g.L.Link.told k; faults = g.L.Link.faults k }) heard olds l.fn.links l.links l.served.items given l.place l.i;
  place_is : l.place ≡ length (waiting_in (take l.i l.arrived));
  long : length l.links ≡ length l.fn.links;
}
