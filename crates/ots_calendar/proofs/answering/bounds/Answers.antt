use Rattle.std.proofs.Common.{arith}
use Rattle.ots_calendar.proofs.Asked.{covering_records}
use Rattle.ots_calendar.proofs.answering.bounds.Goals as goal

pub overflow_add-result : goal.overflow_add-result
overflow_add-result g c =
    let h = covering_records c.args.store.now.records c.args.store.now.journal.entries c.args.i c.args.anchor.now c.stands.ensures.records c.stands.ensures.are c.requires.covers in
    omega (arith, h.within, c.commits-first.ensures.count, c.commits-first.ensures.bound)

pub returns-clause-begins : goal.returns-clause-begins
returns-clause-begins g c = (covering_records c.args.store.now.records c.args.store.now.journal.entries c.args.i c.args.anchor.now c.stands.ensures.records c.stands.ensures.are c.requires.covers).begins

pub returns-clause-ends : goal.returns-clause-ends
returns-clause-ends g c = (covering_records c.args.store.now.records c.args.store.now.journal.entries c.args.i c.args.anchor.now c.stands.ensures.records c.stands.ensures.are c.requires.covers).ends

pub returns-clause-within : goal.returns-clause-within
returns-clause-within g c = (covering_records c.args.store.now.records c.args.store.now.journal.entries c.args.i c.args.anchor.now c.stands.ensures.records c.stands.ensures.are c.requires.covers).within

pub returns-clause-short : goal.returns-clause-short
returns-clause-short g c =
    let h = covering_records c.args.store.now.records c.args.store.now.journal.entries c.args.i c.args.anchor.now c.stands.ensures.records c.stands.ensures.are c.requires.covers in
    omega (arith, h.fits.message)
