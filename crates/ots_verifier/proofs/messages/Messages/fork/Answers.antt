use Rattle.std.proofs.Common.{◌∷◌, ◌∙◌, true, None, arith}
use Rattle.ots_verifier.proofs.InRows.{rows_of_others, forks_in, kept_open, held}
use Rattle.ots_verifier.proofs.messages.Messages.fork.Goals as goal

pub invariant_of-self : goal.invariant_of-self
invariant_of-self c =
    let s = c.self.inside in
    let (h, rows) = c.self.invariant in
    let n = s.lengths.last in
    let free = rw (← c.self.view_is) at c.requires.free in
    let room = rw (← c.self.view_is) at c.requires.room in
    let kept = kept_open s.lengths c.fork.new.self free ((rw c.unwrap.ensures at c.fork.ensures.forked free) (λ o n. None)) in
    let others = rows_of_others s.rows.items s.lengths.others in (
      held s.rows.items c.fork.new.self n (n ∷ s.lengths.others) true kept h.count h.last (h.last, h.others) (omega arith, omega (arith, room, others))
          (c.fork.ensures.same_room (omega (arith, room, others, h.kept)) ∙ h.kept),
      rows,
    )

pub returns-clause-forks : goal.returns-clause-forks
returns-clause-forks c =
    let s = c.self.inside in
    let free = rw (← c.self.view_is) at c.requires.free in
    rw (← c.self.view_is) (forks_in s.rows.items s.lengths c.fork.new.self free (kept_open s.lengths c.fork.new.self free ((rw c.unwrap.ensures at c.fork.ensures.forked free) (λ o n. None))))
