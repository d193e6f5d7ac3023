use Rattle.std.proofs.Common.{◌-◌, drop, take, sym, ◌∙◌, subst, List, ℕ}
use Rattle.ots_disk.specs.Choice.{chosen_is_image, in_first}
use Rattle.ots_disk.specs.History.{IsImage, after_calls, start}
use Rattle.ots_disk.proofs.memory_disk.MemoryDisk.image.Goals as goal

pub returns-clause-is_image : goal.returns-clause-is_image
returns-clause-is_image c =
    let j = c.self.inside in
    let s = in_first (drop (c.args.moment - 1) j.notes.calls) (after_calls (start j.first.items) (take (c.args.moment - 1) j.notes.calls)) in
    let image = rw (c.deref.ensures.value, c.calls-calls.ensures) at c.in_ok-image.ensures in
    rw (← c.self.view_is) (subst (λ (l : List ℕ). IsImage s l) (sym (c.from_vec.ensures ∙ image)) (chosen_is_image c.args.choice s.durable s.pending))
