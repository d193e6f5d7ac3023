use Rattle.ots_reader.proofs.Readers.{seen, feeds, is_fed, exact_now}
use Rattle.ots_reader.proofs.tree_reader.TreeReader.feed.Goals as goal

pub returns-clause-fed : goal.returns-clause-fed
returns-clause-fed c =
    let t = c.self.inside.reader in
    let tokens = c.self.inside.tokens in
    let a = c.read_piece-answer in
    let s = seen c.args.self.now c.self.inside.state t tokens c.self.view_is c.in-Reading.is c.self.invariant in
    rw (s.is, c.state_after-self-inside.ensures) (feeds t a.new.reader c.args.piece.now a.new.tokens a.result a.ensures.read)

pub returns-clause-exact : goal.returns-clause-exact
returns-clause-exact c =
    let t = c.self.inside.reader in
    let tokens = c.self.inside.tokens in
    let a = c.read_piece-answer in
    let s = seen c.args.self.now c.self.inside.state t tokens c.self.view_is c.in-Reading.is c.self.invariant in
    exact_now c.args.self.now t tokens c.args.piece.now a.result s (is_fed t a.new.reader c.args.piece.now a.new.tokens a.result s.reading a.ensures.read)
