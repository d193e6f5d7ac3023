use Rattle.std.proofs.Common.{rules, arith, refl}
use Rattle.ots_verifier.proofs.Gathered.{kept_prefix}
use Rattle.ots_verifier.proofs.progress.keep_prefix.Goals as goal

pub returns-clause-kept : goal.returns-clause-kept
returns-clause-kept c =
    kept_prefix c.args.header.now c.args.piece.now _ _ c.args.count c.min-taken.result (search rules) c.requires (omega (arith, c.min-taken.ensures)) refl c.put_at.ensures
