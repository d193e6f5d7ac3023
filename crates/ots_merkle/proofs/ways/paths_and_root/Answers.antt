use Rattle.std.proofs.Common.{◌∙◌, ap, subst, List, [], get_or, length, arith}
use Rattle.std.proofs.lemmas.List.{take_at}
use Rattle.ots_ops.specs.declared.op.Op.{Op}
use Rattle.ots_merkle.specs.CalendarTree.{path_within}
use Rattle.ots_merkle.specs.Extended.{Extended}
use Rattle.ots_merkle.proofs.Extending.{all_paths}
use Rattle.ots_merkle.proofs.Trees.{root_at_height}
use Rattle.ots_merkle.proofs.ways.paths_and_root.Goals as goal

pub returns-clause-paths : goal.returns-clause-paths
returns-clause-paths c =
    let whole = take_at c.extend_paths.new.paths _ c.in_ok-all.all.len (c.extend_paths.auto.paths ∙ c.as_mut_slice.ensures.len) in
    let old = c.as_mut_slice.ensures.value ∙ c.in_ok-all.ensures in
    let made =
    subst (λ (o : List (List Op)). Extended 0 (length c.args.leaves.now) (λ j. path_within 32 c.args.leaves.now j) o c.extend_paths.new.paths) old c.in_ok-root.ensures.paths in
    λ i h. ap (λ l. get_or l i []) whole ∙ all_paths c.extend_paths.new.paths _ c.args.leaves.now made (omega arith) i h

pub returns-clause-root : goal.returns-clause-root
returns-clause-root c = c.in_ok-root.ensures.root ∙ root_at_height 32 c.args.leaves.now (omega arith)
