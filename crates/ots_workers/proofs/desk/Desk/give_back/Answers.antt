use Rattle.std.proofs.Common.{sym, ap, subst, ◌∙◌}
use Rattle.ots_connection.proofs.Later.{by_any}
use Rattle.ots_shared.specs.Told.{SeatTold}
use Rattle.ots_workers.proofs.Within.{given_back}
use Rattle.ots_workers.specs.Returned.{AllWithin}
use Rattle.ots_workers.proofs.desk.Desk.give_back.Goals as goal

pub give_back-requires-after_bounds : goal.give_back-requires-after_bounds
give_back-requires-after_bounds g c lifetimes bounds is = by_any c.args.pass.now.seen _ _ (c.requires.answered is)

pub invariant_of-self : goal.invariant_of-self
invariant_of-self g c =
    let d = c.args.self.now in
    let e = c.share_seen.ensures in
    let b = c.give_back.ensures in
    record {
      own = (ap (λ (s : SeatTold). s.table) e.seat.1 ∙ d.own.0, ap (λ (s : SeatTold). s.limit) e.seat.1 ∙ d.own.1);
      free = e.free.1;
      one = ap (λ (s : SeatTold). s.share) e.seat.1 ∙ d.one;
      answered = λ fresh whole.
          subst (λ z. AllWithin z g.A.Link.Link.told g.A.Link.Link.faults (g.A.Accepter.returned c.give_back.new.self.accepter)) (sym e.seen.2)
          (given_back g.A.Link.Link.told g.A.Link.Link.faults c.share_seen.new.first.seen d.pass.seen c.args.pass.now.seen (g.A.Accepter.returned d.front.accepter)
          (g.A.Accepter.returned c.give_back.new.self.accepter) c.args.link c.args.answered d.front.short c.give_back.new.self.short b.short whole (d.answered fresh)
          e.seen.1 c.requires.answered e.seen.0 b.returned);
    }
