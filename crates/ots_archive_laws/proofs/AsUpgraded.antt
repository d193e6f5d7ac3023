-- What is taken is what `ots upgrade` makes of the same answers.
use Rattle.std.proofs.Common.{◌≡◌, List, subst}
use Rattle.std.specs.Prelude.{◌↔◌}
use Rattle.ots_address.specs.Address.{AddressParts}
use Rattle.ots_archive_laws.specs.AskedFor.{AreAskedFor}
use Rattle.ots_archive_taken.proofs.As.{as_completed}
use Rattle.ots_archive_taken.specs.Given.{AreTreesFor}
use Rattle.ots_archive_taken.specs.Taken.{IsUpgradeBy}
use Rattle.ots_client_endings.specs.Outside.{Outside}
use Rattle.ots_completing.specs.Upgrade.{IsUpgradeOf}
use Rattle.ots_pending.specs.Completed.{IsCompleted}
use Rattle.ots_pending.specs.Pairs.{PairAt}
use Rattle.ots_sheet.specs.Reply.{Answer}
use Rattle.ots_sheet.specs.Sheet.{AreAnswers}
use Rattle.ots_sheet.specs.declared.request.Kind.TheVariants.{Get}
use Rattle.ots_tree.specs.declared.detached.Detached.{Detached}
use Rattle.ots_upgrade.proofs.OneList.{one_list}
use Rattle.ots_upgrade.specs.Upgrading.{trees_of}
use Rattle.ots_upgrade.specs.declared.asking.AskedAt.{AskedAt}

pub as_upgraded : (o : Outside) (calendars : List AddressParts) (answers : List Answer) (proof made : Detached) (pairs : List PairAt) (asked : List AskedAt) → AreAnswers answers
    → AreAskedFor o calendars proof pairs asked → AreTreesFor answers Get pairs (trees_of asked) → IsUpgradeBy answers proof made ↔ IsUpgradeOf o calendars proof asked made
as_upgraded o calendars answers proof made pairs asked good for each =
    let both = as_completed answers proof made pairs (trees_of asked) good for.are each in (
      (λ is. let with_trees = both.0 is in record {
        pairs = pairs;
        are = for.are;
        are_asked = for.are_asked;
        questions_are = for.questions_are;
        outcomes_are = for.outcomes_are;
        hash = with_trees.hash;
        digest = with_trees.digest;
        tree = with_trees.tree;
      }),
      (λ is.
          let same : is.pairs ≡ pairs = one_list proof is.pairs pairs is.are for.are in
          both.1 (record { hash = is.hash; digest = is.digest; tree = subst (λ (ps : List PairAt). IsCompleted proof ps (trees_of asked) made.tree) same is.tree })),
    )
