use Rattle.std.proofs.Common.{sym, subst}
use Rattle.ots_reader.specs.Tokens.{IsReading}
use Rattle.ots_reader.proofs.Steps.{begun_reads}
use Rattle.ots_reader.proofs.token_reader.TokenReader.place_below.Goals as goal

pub returns-clause-reading : goal.returns-clause-reading
returns-clause-reading c =
    subst IsReading (sym c.place_below.ensures.begun) (begun_reads c.args.shape (record { least = c.requires.least; greatest = c.requires.greatest; depth = c.requires.depth }))
