use Rattle.std.proofs.Common.{◌<◌, ◌^◌, subst, length, List, ℕ}
use Rattle.ots_calendar.proofs.Anchored.{all_may_stand}
use Rattle.ots_calendar.proofs.book.Book.find_anchor.Goals as goal

pub returns-clause-may_stand : goal.returns-clause-may_stand
returns-clause-may_stand g c =
    let s = c.self.inside.store in
    rw (← c.self.view_is) (all_may_stand s.records s.journal.entries c.args.block.now c.args.height c.find_anchor.result c.stands.ensures.records c.stands.ensures.are c.self.invariant.records.are_true
    (subst (λ (l : List (List ℕ)). length l < 2 ^ 32) c.requires.ids c.requires.most) c.requires.height c.requires.root c.find_anchor.ensures.root c.find_anchor.ensures.found)
