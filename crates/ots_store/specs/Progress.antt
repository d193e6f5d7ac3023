-- What is known of the records before one, while records are taken in order.
use Rattle.std.specs.Prelude.{◌≡◌, ◌≤◌, ℕ, List, ◌++◌, length, take}
use Rattle.std.specs.List.{AllByRecursion}
use Rattle.ots_journal.specs.declared.entry.Entry.{Entry}
use Rattle.ots_store.specs.declared.progress.Progress.{Progress}
use Rattle.ots_store.specs.declared.tip.Tip.{Tip}
use Rattle.ots_store.specs.Records.{Record}
use Rattle.ots_store.specs.Order.{commits_of, tips_of, tip_end, covered_of, records_of}

abbrev pub TipEndsBy : ℕ → Tip → Type 0
TipEndsBy covered tip = tip_end tip ≤ covered

-- The tips that were passed in a group end by what is covered.
pub record Passed (group : List Entry) (p : Progress) : Type 0 where
  pub group_there : p.group ≤ length group
  pub group_ends : AllByRecursion (TipEndsBy p.covered) (tips_of (records_of (take p.group group)))

-- The tips of these records are some in a list and then those of a group.
pub record IsProgress (before : List Record) (tips : List Tip) (group : List Entry) (p : Progress) : Type 0 where
  pub commits : p.commits ≡ length (commits_of before)
  pub covered : p.covered ≡ covered_of before
  pub tips_are : tips_of before ≡ tips ++ tips_of (records_of group)
