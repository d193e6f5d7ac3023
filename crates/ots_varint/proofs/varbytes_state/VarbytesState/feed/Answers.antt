use Rattle.std.proofs.Common.{arith, rules, ◌∷◌, [], ◌++◌}
use Rattle.ots_varint.specs.Reading.{reading}
use Rattle.ots_varint.proofs.Ended.{length_ends}
use Rattle.ots_varint.proofs.varbytes_state.VarbytesState.feed.Goals as goal

pub returns-clause-answer : goal.returns-clause-answer
returns-clause-answer c = search rules

pub returns-clause-length : goal.returns-clause-length
returns-clause-length c =
    let s = c.self.inside in
    let seen = s.state ++ c.args.byte ∷ [] in
    let answer = returns-clause-answer c in
    rw (← c.self.view_is)
    (length_ends s.least s.greatest seen (reading seen) c.feed.result (omega arith) c.feed.ensures.answer c.feed.ensures.value (rw (← c.self.view_is) at answer))
