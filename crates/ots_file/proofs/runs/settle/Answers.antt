use Rattle.std.proofs.Common.{[], refl, true, false, subst, List, ℕ, Option}
use Rattle.ots_file.specs.Events.FileEvent.{opened, pages_dropped}
use Rattle.ots_file.specs.Told.{Quiet, quiet_is, quiet_both, quiet_folder}
use Rattle.ots_file.proofs.runs.settle.Goals as goal

pub returns-in_err-open-clause-quiet : goal.returns-in_err-open-clause-quiet
returns-in_err-open-clause-quiet g c = quiet_is _ (opened [] false) _ _ c.in_err-open.ensures.noted refl

pub returns-in_err-sync_file-clause-quiet : goal.returns-in_err-sync_file-clause-quiet
returns-in_err-sync_file-clause-quiet g c =
    let opening = g.F.FileCalls.history c.open.new.self in
    let synced = g.F.FileCalls.history c.sync_file.new.file in
    quiet_both _ _ opening _ (quiet_is _ (opened _ true) _ _ c.in_ok-open.ensures.noted refl)
    (subst (λ (f : Option (List ℕ)). Quiet f opening synced) c.in_ok-open.ensures.kept c.sync_file.ensures.quiet)

pub returns-in_err-drop_pages-clause-quiet : goal.returns-in_err-drop_pages-clause-quiet
returns-in_err-drop_pages-clause-quiet g c =
    let opening = g.F.FileCalls.history c.open.new.self in
    let synced = g.F.FileCalls.history c.sync_file.new.file in
    quiet_both _ _ opening _ (quiet_is _ (opened _ true) _ _ c.in_ok-open.ensures.noted refl)
    (quiet_both _ _ synced _ (subst (λ (f : Option (List ℕ)). Quiet f opening synced) c.in_ok-open.ensures.kept c.sync_file.ensures.quiet)
    (quiet_is _ (pages_dropped false) _ _ c.in_err-drop_pages.ensures.noted refl))

pub returns-clause-quiet : goal.returns-clause-quiet
returns-clause-quiet g c =
    let opening = g.F.FileCalls.history c.open.new.self in
    let synced = g.F.FileCalls.history c.sync_file.new.file in
    let dropped = g.F.FileCalls.history c.drop_pages.new.self in
    quiet_both _ _ opening _ (quiet_is _ (opened _ true) _ _ c.in_ok-open.ensures.noted refl)
    (quiet_both _ _ synced _ (subst (λ (f : Option (List ℕ)). Quiet f opening synced) c.in_ok-open.ensures.kept c.sync_file.ensures.quiet)
    (quiet_both _ _ dropped _ (quiet_is _ (pages_dropped true) _ _ c.in_ok-drop_pages.ensures.noted refl)
    (quiet_folder _ _ _ _ c.sync_folder.result c.sync_folder.ensures.noted)))
