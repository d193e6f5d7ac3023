use Rattle.std.proofs.Common.{◌≡◌, List, ℕ, drop, sym, ◌∙◌, ap}
use Rattle.std.proofs.lemmas.List.{drop-drop, take_rest}
use Rattle.ots_journal.specs.Stored.{entries_at, staged_bytes}
use Rattle.ots_journal.proofs.stored.Stored.body.Goals as goal

pub returns : goal.returns
returns c =
    let s = c.self.inside in
    let staged : drop s.mark s.file.items ≡ staged_bytes (entries_at s.file.items (drop s.held s.places.items)) = rw (← c.self.view_is) at c.requires in
    rw (c.deref.ensures.value, take_rest, ← c.self.view_is) (sym (drop-drop 1 s.mark s.file.items) ∙ ap (λ (l : List ℕ). drop 1 l) staged)
