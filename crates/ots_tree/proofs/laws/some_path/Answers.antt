use Rattle.std.proofs.Common.{◌∙◌, sym}
use Rattle.ots_tree.proofs.Closing.{node_path}
use Rattle.ots_tree.proofs.laws.some_path.Goals as goal

pub returns : goal.returns
returns c = λ t none. let p = node_path t in let same = sym p.are ∙ none in absurd cc
