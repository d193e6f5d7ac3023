use Rattle.std.proofs.Common.{sym, ◌∙◌, ◌≡◌, true, false, arith}
use Rattle.ots_store.proofs.Storing.{taken_in, taken_in_few}
use Rattle.ots_store.proofs.Adding.{refresh_readable, nothing_flies}
use Rattle.ots_store.proofs.store.Store.refresh.Goals as goal

pub keep-requires : goal.keep-requires
keep-requires g c =
    let few = taken_in_few g.D.Disk.bytes c.self.inside.journal c.refresh.new.self c.self.inside.held c.self.invariant c.in_ok-refresh.ensures.ok
    (λ same. c.if-count-before.false (c.count.ensures.count ∙ same ∙ sym c.count-before.ensures.count)) in
    record { few = omega (arith, few, c.count.ensures.count, c.count.ensures.bound) }

pub invariant_of-self-else-count-before : goal.invariant_of-self-else-count-before
invariant_of-self-else-count-before g c =
    taken_in g.D.Disk.bytes c.self.inside.journal c.refresh.new.self c.self.inside.held c.keep.new.self c.self.invariant c.in_ok-refresh.ensures.ok
    (λ same. c.if-count-before.false (c.count.ensures.count ∙ same ∙ sym c.count-before.ensures.count)) c.keep.ensures.holds

pub returns-in_err-refresh-clause-readable : goal.returns-in_err-refresh-clause-readable
returns-in_err-refresh-clause-readable g c =
    let j = c.self.inside.journal in
    rw (← c.self.view_is) (refresh_readable g.D.Disk.clock g.D.Disk.images_since j c.refresh.new.self.disk c.self.inside.held c.self.invariant
    (λ sure. absurd (let h : true ≡ false = sym sure ∙ c.in_err-refresh.ensures.err.was_unsure in cc)) c.refresh.ensures.any_moment)

pub returns-then-count-before-clause-readable : goal.returns-then-count-before-clause-readable
returns-then-count-before-clause-readable g c =
    let j = c.self.inside.journal in
    rw (← c.self.view_is) (refresh_readable g.D.Disk.clock g.D.Disk.images_since j c.refresh.new.self.disk c.self.inside.held c.self.invariant
    (nothing_flies g.D.Disk.bytes j c.refresh.new.self c.in_ok-refresh.ensures.ok) c.refresh.ensures.any_moment)

pub returns-else-count-before-clause-readable : goal.returns-else-count-before-clause-readable
returns-else-count-before-clause-readable g c =
    let j = c.self.inside.journal in
    rw (← c.self.view_is) (refresh_readable g.D.Disk.clock g.D.Disk.images_since j c.refresh.new.self.disk c.self.inside.held c.self.invariant
    (nothing_flies g.D.Disk.bytes j c.refresh.new.self c.in_ok-refresh.ensures.ok) c.refresh.ensures.any_moment)
