use Rattle.ots_upgrade.proofs.Pairwise.{there}
use Rattle.ots_upgrade.proofs.upgrading.ask_for.Goals as goal

pub ask_at-requires-clause-least : goal.ask_at-requires-clause-least
ask_at-requires-clause-least g c =
    let p = there c.args.pairs.now c.args.i c.requires.place in
    rw (c.message.ensures p.0 p.1) (c.requires.askable c.args.i p.0 p.1).least

pub ask_at-requires-clause-depth : goal.ask_at-requires-clause-depth
ask_at-requires-clause-depth g c =
    let p = there c.args.pairs.now c.args.i c.requires.place in
    rw (c.depth.ensures p.0 p.1) (c.requires.askable c.args.i p.0 p.1).shallow
