use Rattle.std.proofs.Common.{rules}
use Rattle.ots_tree.specs.Kept.{IsKept}
use Rattle.ots_tree.proofs.Numbered.{kept_listed, kept_length}
use Rattle.ots_tree.proofs.tree.Tree.depths.Goals as goal

pub returns-clause-listed : goal.returns-clause-listed
returns-clause-listed c =
    let kept : IsKept c.args.self.now c.as_slice.result.now = search rules in
    kept_listed c.args.self.now c.as_slice.result.now kept

pub returns-clause-length : goal.returns-clause-length
returns-clause-length c =
    let kept : IsKept c.args.self.now c.as_slice.result.now = search rules in
    kept_length c.args.self.now c.as_slice.result.now kept
