-- Honesty is a fact: there is at most one proof of it.
use Rattle.std.specs.Prelude.{ℕ, true, false, List, [], ◌∷◌}
use Rattle.std.proofs.Props.{props}
use Rattle.ots_disk.specs.History.{DiskState}
use Rattle.ots_file.specs.Events.{FileEvent, replay, HonestEvent, IsHonest}
use Rattle.ots_file.specs.Events.FileEvent.{opened, folder_synced, pages_dropped, measured, got, wrote, synced}

event_prop : (e : FileEvent) (s : DiskState) → IsProp (HonestEvent e s)
event_prop (opened folder ok) s = hlevel props
event_prop (folder_synced folder ok) s = hlevel props
event_prop (pages_dropped ok) s = hlevel props
event_prop (measured true n) s = hlevel props
event_prop (measured false n) s = hlevel props
event_prop (got place asked true bytes) s = hlevel props
event_prop (got place asked false bytes) s = hlevel props
event_prop (wrote place piece ok n) s = hlevel props
event_prop (synced ok) s = hlevel props

pub honest_prop : (b : List ℕ) (h : List FileEvent) → IsProp (IsHonest b h)
honest_prop b [] = hlevel props
honest_prop b (e ∷ earlier) = hlevel (props, honest_prop b earlier, event_prop e (replay b earlier))
