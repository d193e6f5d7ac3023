use Rattle.std.proofs.Common.{inr, refl, ap, subst}
use Rattle.std.specs.Prelude.{Err}
use Rattle.ots_base.specs.Cause.{Rose}
use Rattle.ots_store.specs.Store.{StoreTold}
use Rattle.ots_calendar_batch.proofs.Closing.{are_settled, close_ends, draws, puts_end, puts_of, second_ends, some_wait, trees_end, trees_given}
use Rattle.ots_calendar_batch.proofs.Rounding.{closes_rose, ends_as, ends_over}
use Rattle.ots_calendar_batch.proofs.round.close_round.Goals as goal

pub returns-in_err-second-clause-ends : goal.returns-in_err-second-clause-ends
returns-in_err-second-clause-ends g c = ends_as _ _ c.from_residual.ensures.1
    (second_ends g.D.Disk.clock g.D.Disk.images g.D.Disk.images_since g.met.D.Disk.only_now (g.C.Clock.coming c.args.clock.now) (g.N.Nonces.left c.args.nonces.now) (g.N.Nonces.left c.args.nonces.now) _ _ c.args.round.now.key c.args.round.now.uri c.args.round.now.digests.items c.args.book.now.store.journal c.requires.stands c.in_err-second.field-0.0 refl c.in_err-second.ensures)

pub returns-in_err-tickets-clause-ends : goal.returns-in_err-tickets-clause-ends
returns-in_err-tickets-clause-ends g c = ends_as _ _ c.from_residual-in_err-tickets.ensures.1
    (ends_over c.args.book.now.store c.put_all.new.book.store _ c.put_all.ensures.store
    (puts_end g.D.Disk.clock g.D.Disk.images g.D.Disk.images_since g.met.D.Disk.only_now (g.C.Clock.coming c.args.clock.now) (g.N.Nonces.left c.args.nonces.now) (g.N.Nonces.left c.put_all.new.nonces) (Rose (g.N.Nonces.faults c.args.nonces.now) (g.N.Nonces.faults c.put_all.new.nonces)) (Rose (g.D.Disk.faults c.args.book.now.store.journal.disk) (g.D.Disk.faults c.put_all.new.book.store.journal.disk)) c.args.round.now.key c.args.round.now.uri c.args.round.now.digests.items c.args.book.now.store.journal c.requires.stands c.in_ok-second.second c.in_ok-second.ensures c.put_all.new.book.tickets.waiting c.put_all.result (puts_of _ _ _ c.deref.result.now c.args.round.now.digests.items _ _ c.deref.ensures.value c.put_all.ensures.puts) c.in_err-tickets.field-0.0 c.in_err-tickets.was))

pub returns-in_err-tickets-clause-nonces : goal.returns-in_err-tickets-clause-nonces
returns-in_err-tickets-clause-nonces g c = inr (draws g.D.Disk.clock g.D.Disk.images g.D.Disk.images_since g.met.D.Disk.only_now (g.C.Clock.coming c.args.clock.now) (g.N.Nonces.left c.args.nonces.now) (g.N.Nonces.left c.put_all.new.nonces) (Rose (g.N.Nonces.faults c.args.nonces.now) (g.N.Nonces.faults c.put_all.new.nonces)) (Rose (g.D.Disk.faults c.args.book.now.store.journal.disk) (g.D.Disk.faults c.put_all.new.book.store.journal.disk)) c.args.round.now.key c.args.round.now.uri c.args.round.now.digests.items c.args.book.now.store.journal c.requires.stands c.in_ok-second.second c.in_ok-second.ensures c.put_all.new.book.tickets.waiting c.put_all.result (puts_of _ _ _ c.deref.result.now c.args.round.now.digests.items _ _ c.deref.ensures.value c.put_all.ensures.puts))

pub close-requires-clause-some : goal.close-requires-clause-some
close-requires-clause-some g c = some_wait g.D.Disk.clock g.D.Disk.images g.D.Disk.images_since g.met.D.Disk.only_now (g.C.Clock.coming c.args.clock.now) (g.N.Nonces.left c.args.nonces.now) (g.N.Nonces.left c.put_all.new.nonces) (Rose (g.N.Nonces.faults c.args.nonces.now) (g.N.Nonces.faults c.put_all.new.nonces)) (Rose (g.D.Disk.faults c.args.book.now.store.journal.disk) (g.D.Disk.faults c.put_all.new.book.store.journal.disk)) c.args.round.now.key c.args.round.now.uri c.args.round.now.digests.items c.args.book.now.store.journal c.requires.stands c.in_ok-second.second c.in_ok-second.ensures c.put_all.new.book.tickets.waiting c.put_all.result (puts_of _ _ _ c.deref.result.now c.args.round.now.digests.items _ _ c.deref.ensures.value c.put_all.ensures.puts) c.in_ok-tickets.tickets c.in_ok-tickets.was c.requires.round.some

pub returns-in_err-index-clause-ends : goal.returns-in_err-index-clause-ends
returns-in_err-index-clause-ends g c = ends_as _ _ c.from_residual-in_err-index.ensures.1
    (close_ends g.D.Disk.clock g.D.Disk.images g.D.Disk.images_since g.met.D.Disk.only_now (g.C.Clock.coming c.args.clock.now) (g.N.Nonces.left c.args.nonces.now) (g.N.Nonces.left c.put_all.new.nonces) (Rose (g.N.Nonces.faults c.args.nonces.now) (g.N.Nonces.faults c.put_all.new.nonces)) (Rose (g.D.Disk.faults c.args.book.now.store.journal.disk) (g.D.Disk.faults c.close.new.book.store.journal.disk)) c.args.round.now.key c.args.round.now.uri c.args.round.now.digests.items c.args.book.now.store.journal c.requires.stands c.in_ok-second.second c.in_ok-second.ensures c.put_all.new.book.tickets.waiting c.put_all.result (puts_of _ _ _ c.deref.result.now c.args.round.now.digests.items _ _ c.deref.ensures.value c.put_all.ensures.puts) c.in_ok-tickets.tickets c.in_ok-tickets.was c.put_all.new.book c.close.new.book refl (ap (λ (z : StoreTold g.row.D.Denot). z.journal) c.put_all.ensures.store) c.in_err-index.field-0.0 (closes_rose g.D.Disk.clock g.D.Disk.images g.D.Disk.images_since (Rose (g.D.Disk.faults c.put_all.new.book.store.journal.disk) (g.D.Disk.faults c.close.new.book.store.journal.disk)) (Rose (g.D.Disk.faults c.args.book.now.store.journal.disk) (g.D.Disk.faults c.close.new.book.store.journal.disk)) c.args.round.now.key c.in_ok-second.second c.put_all.new.book c.close.new.book (Err c.in_err-index.field-0.0) (λ rose. subst (λ (z : StoreTold g.row.D.Denot). Rose (g.D.Disk.faults z.journal.disk) (g.D.Disk.faults c.close.new.book.store.journal.disk)) c.put_all.ensures.store rose) c.in_err-index.ensures.closes))

pub returns-in_err-index-clause-nonces : goal.returns-in_err-index-clause-nonces
returns-in_err-index-clause-nonces g c = inr (draws g.D.Disk.clock g.D.Disk.images g.D.Disk.images_since g.met.D.Disk.only_now (g.C.Clock.coming c.args.clock.now) (g.N.Nonces.left c.args.nonces.now) (g.N.Nonces.left c.put_all.new.nonces) (Rose (g.N.Nonces.faults c.args.nonces.now) (g.N.Nonces.faults c.put_all.new.nonces)) (Rose (g.D.Disk.faults c.args.book.now.store.journal.disk) (g.D.Disk.faults c.put_all.new.book.store.journal.disk)) c.args.round.now.key c.args.round.now.uri c.args.round.now.digests.items c.args.book.now.store.journal c.requires.stands c.in_ok-second.second c.in_ok-second.ensures c.put_all.new.book.tickets.waiting c.put_all.result (puts_of _ _ _ c.deref.result.now c.args.round.now.digests.items _ _ c.deref.ensures.value c.put_all.ensures.puts))

pub take_all-requires : goal.take_all-requires
take_all-requires g c = are_settled g.D.Disk.clock g.D.Disk.images g.D.Disk.images_since g.met.D.Disk.only_now (g.C.Clock.coming c.args.clock.now) (g.N.Nonces.left c.args.nonces.now) (g.N.Nonces.left c.put_all.new.nonces) (Rose (g.N.Nonces.faults c.args.nonces.now) (g.N.Nonces.faults c.put_all.new.nonces)) (Rose (g.D.Disk.faults c.args.book.now.store.journal.disk) (g.D.Disk.faults c.close.new.book.store.journal.disk)) c.args.round.now.key c.args.round.now.uri c.args.round.now.digests.items c.args.book.now.store.journal c.requires.stands c.in_ok-second.second c.in_ok-second.ensures c.put_all.new.book.tickets.waiting c.put_all.result (puts_of _ _ _ c.deref.result.now c.args.round.now.digests.items _ _ c.deref.ensures.value c.put_all.ensures.puts) c.in_ok-tickets.tickets c.in_ok-tickets.was c.put_all.new.book c.close.new.book refl (ap (λ (z : StoreTold g.row.D.Denot). z.journal) c.put_all.ensures.store) c.in_ok-index.index c.in_ok-index.ensures.closes

pub returns-in_err-trees-clause-ends : goal.returns-in_err-trees-clause-ends
returns-in_err-trees-clause-ends g c = ends_as _ _ c.from_residual-in_err-trees.ensures.1
    (ends_over c.close.new.book.store c.take_all.new.book.store _ c.take_all.ensures.store
    (trees_end g.D.Disk.clock g.D.Disk.images g.D.Disk.images_since g.met.D.Disk.only_now (g.C.Clock.coming c.args.clock.now) (g.N.Nonces.left c.args.nonces.now) (g.N.Nonces.left c.put_all.new.nonces) (Rose (g.N.Nonces.faults c.args.nonces.now) (g.N.Nonces.faults c.put_all.new.nonces)) (Rose (g.D.Disk.faults c.args.book.now.store.journal.disk) (g.D.Disk.faults c.take_all.new.book.store.journal.disk)) c.args.round.now.key c.args.round.now.uri c.args.round.now.digests.items c.args.book.now.store.journal c.requires.stands c.in_ok-second.second c.in_ok-second.ensures c.put_all.new.book.tickets.waiting c.put_all.result (puts_of _ _ _ c.deref.result.now c.args.round.now.digests.items _ _ c.deref.ensures.value c.put_all.ensures.puts) c.in_ok-tickets.tickets c.in_ok-tickets.was c.put_all.new.book c.close.new.book refl (ap (λ (z : StoreTold g.row.D.Denot). z.journal) c.put_all.ensures.store) c.in_ok-index.index c.in_ok-index.ensures.closes c.in_err-trees.field-0.0 c.in_err-trees.ensures.trees))

pub returns-in_err-trees-clause-nonces : goal.returns-in_err-trees-clause-nonces
returns-in_err-trees-clause-nonces g c = inr (draws g.D.Disk.clock g.D.Disk.images g.D.Disk.images_since g.met.D.Disk.only_now (g.C.Clock.coming c.args.clock.now) (g.N.Nonces.left c.args.nonces.now) (g.N.Nonces.left c.put_all.new.nonces) (Rose (g.N.Nonces.faults c.args.nonces.now) (g.N.Nonces.faults c.put_all.new.nonces)) (Rose (g.D.Disk.faults c.args.book.now.store.journal.disk) (g.D.Disk.faults c.put_all.new.book.store.journal.disk)) c.args.round.now.key c.args.round.now.uri c.args.round.now.digests.items c.args.book.now.store.journal c.requires.stands c.in_ok-second.second c.in_ok-second.ensures c.put_all.new.book.tickets.waiting c.put_all.result (puts_of _ _ _ c.deref.result.now c.args.round.now.digests.items _ _ c.deref.ensures.value c.put_all.ensures.puts))

pub returns-clause-ends : goal.returns-clause-ends
returns-clause-ends g c = ends_over c.close.new.book.store c.take_all.new.book.store _ c.take_all.ensures.store
    (trees_given g.D.Disk.clock g.D.Disk.images g.D.Disk.images_since g.met.D.Disk.only_now (g.C.Clock.coming c.args.clock.now) (g.N.Nonces.left c.args.nonces.now) (g.N.Nonces.left c.put_all.new.nonces) (Rose (g.N.Nonces.faults c.args.nonces.now) (g.N.Nonces.faults c.put_all.new.nonces)) (Rose (g.D.Disk.faults c.args.book.now.store.journal.disk) (g.D.Disk.faults c.take_all.new.book.store.journal.disk)) c.args.round.now.key c.args.round.now.uri c.args.round.now.digests.items c.args.book.now.store.journal c.requires.stands c.in_ok-second.second c.in_ok-second.ensures c.put_all.new.book.tickets.waiting c.put_all.result (puts_of _ _ _ c.deref.result.now c.args.round.now.digests.items _ _ c.deref.ensures.value c.put_all.ensures.puts) c.in_ok-tickets.tickets c.in_ok-tickets.was c.put_all.new.book c.close.new.book refl (ap (λ (z : StoreTold g.row.D.Denot). z.journal) c.put_all.ensures.store) c.in_ok-index.index c.in_ok-index.ensures.closes (record { index = c.in_ok-index.index; trees = c.in_ok-trees.trees }) refl c.in_ok-trees.ensures.trees)

pub returns-clause-nonces : goal.returns-clause-nonces
returns-clause-nonces g c = inr (draws g.D.Disk.clock g.D.Disk.images g.D.Disk.images_since g.met.D.Disk.only_now (g.C.Clock.coming c.args.clock.now) (g.N.Nonces.left c.args.nonces.now) (g.N.Nonces.left c.put_all.new.nonces) (Rose (g.N.Nonces.faults c.args.nonces.now) (g.N.Nonces.faults c.put_all.new.nonces)) (Rose (g.D.Disk.faults c.args.book.now.store.journal.disk) (g.D.Disk.faults c.put_all.new.book.store.journal.disk)) c.args.round.now.key c.args.round.now.uri c.args.round.now.digests.items c.args.book.now.store.journal c.requires.stands c.in_ok-second.second c.in_ok-second.ensures c.put_all.new.book.tickets.waiting c.put_all.result (puts_of _ _ _ c.deref.result.now c.args.round.now.digests.items _ _ c.deref.ensures.value c.put_all.ensures.puts))
