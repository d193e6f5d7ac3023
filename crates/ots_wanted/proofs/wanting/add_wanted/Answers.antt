use Rattle.ots_wanted.proofs.Asked.{asked_as, gains_wanted, pairs_fit, takes_wanted}
use Rattle.ots_wanted.proofs.wanting.add_wanted.Goals as goal

pub add_pairs-requires : goal.add_pairs-requires
add_pairs-requires c =
    let asked = asked_as c.args.all c.args.proof.now c.in_ok-kind.field-0 c.in-Some.kind c.in_ok-kind.ensures c.in-Some.is in
    pairs_fit c.args.all c.args.proof.now c.in-Some.kind c.in_ok-pairs.pairs asked c.in_ok-pairs.ensures.pairs c.in_ok-pairs.ensures.askable

pub returns-clause-takes : goal.returns-clause-takes
returns-clause-takes c =
    let asked = asked_as c.args.all c.args.proof.now c.in_ok-kind.field-0 c.in-Some.kind c.in_ok-kind.ensures c.in-Some.is in
    takes_wanted c.args.set.now c.add_pairs.new.set c.args.all c.args.proof.now c.in-Some.kind c.in_ok-pairs.pairs c.add_pairs.result asked
    c.in_ok-pairs.ensures.pairs c.add_pairs.ensures.takes

pub returns-clause-gains : goal.returns-clause-gains
returns-clause-gains c = λ wanted skipped.
    let asked = asked_as c.args.all c.args.proof.now c.in_ok-kind.field-0 c.in-Some.kind c.in_ok-kind.ensures c.in-Some.is in
    gains_wanted c.args.set.now c.add_pairs.new.set c.args.all c.args.proof.now c.in-Some.kind c.in_ok-pairs.pairs wanted skipped asked
    c.in_ok-pairs.ensures.pairs c.add_pairs.ensures.gains
