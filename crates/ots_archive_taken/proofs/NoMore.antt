-- A proof that has no path more is in canonical form.
use Rattle.std.proofs.Common.{◌≡◌, ◌∙◌, List, sym, ap, subst}
use Rattle.std.specs.Prelude.{◌↔◌}
use Rattle.ots_archive_taken.specs.Taken.{IsUpgradeBy}
use Rattle.ots_canon.specs.Canonical.{IsCanonOf}
use Rattle.ots_canon.specs.Join.{HaveSamePaths}
use Rattle.ots_canon.specs.Order.{HaveSame}
use Rattle.ots_sheet.specs.Reply.{Answer}
use Rattle.ots_tree.proofs.Determined.{same_pre}
use Rattle.ots_tree.specs.Wire.{paths}
use Rattle.ots_tree.specs.declared.detached.Detached.{Detached}

pub no_path_more : (answers : List Answer) (proof made : Detached) → IsUpgradeBy answers proof made → HaveSamePaths proof.tree made.tree ↔ IsCanonOf proof.tree made.tree
no_path_more answers proof made is =
    let f = is.tree.form in (
      (λ have.
          let same : have.second ≡ f.node = same_pre have.second f.node (have.second_are ∙ sym f.are) in
          let paths_are : paths have.second ≡ f.sorted = ap paths same ∙ f.is_tree.same in
          record {
            node = have.first;
            are = have.first_are;
            form = record {
              sorted = f.sorted;
              is_canon = record { rising = f.is_canon.rising; same = subst (HaveSame (paths have.first)) paths_are have.same };
              node = f.node;
              is_tree = f.is_tree;
              are = f.are;
            };
          }),
      (λ canon. record {
        first = canon.node;
        first_are = canon.are;
        second = canon.form.node;
        second_are = canon.form.are;
        same = subst (HaveSame (paths canon.node)) (sym canon.form.is_tree.same) canon.form.is_canon.same;
      }),
    )
