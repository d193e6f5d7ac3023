use Rattle.std.proofs.Common.{◌≡◌, ◌+◌, false, inr, refl, sym, ◌∙◌, arith, subst}
use Rattle.ots_disk.specs.Moments.{started, weaker, if_told}
use Rattle.ots_journal.specs.Journal.{Keeps, size_with}
use Rattle.ots_journal.specs.Within.{started_within}
use Rattle.ots_journal.proofs.Staging.{staged_next}
use Rattle.ots_journal.proofs.Standing.{keeps_either}
use Rattle.ots_journal.proofs.Refreshing.{told_at, gate_there, keeps_opened, keeps_closed}
use Rattle.ots_journal.proofs.journal.Journal.refresh.Goals as goal

pub returns-then-self-clause-any_moment : goal.returns-then-self-clause-any_moment
returns-then-self-clause-any_moment g c =
    let d = g.D.Disk in
    let j = c.self.inside in
    rw (← c.self.view_is) (started d.clock d.images_since j.disk _ (λ f left. keeps_either (d.images j.disk) _ _ _ _ c.self.invariant.0 f (g.met.D.Disk.only_now j.disk f left)))

pub returns-in_err-is_gate_open-clause-any_moment : goal.returns-in_err-is_gate_open-clause-any_moment
returns-in_err-is_gate_open-clause-any_moment g c =
    let d = g.D.Disk in
    let j = c.self.inside in
    rw (← c.self.view_is) (weaker d.clock d.images_since j.disk c.is_gate_open.new.disk _ _ c.is_gate_open.ensures.any_moment (keeps_either (d.images j.disk) _ _ _ _ c.self.invariant.0))

pub returns-then-branch-clause-any_moment : goal.returns-then-branch-clause-any_moment
returns-then-branch-clause-any_moment g c =
    let d = g.D.Disk in
    let j = c.self.inside in
    rw (← c.self.view_is) (weaker d.clock d.images_since j.disk c.is_gate_open.new.disk _ _ c.is_gate_open.ensures.any_moment (keeps_either (d.images j.disk) _ _ _ _ c.self.invariant.0))

pub returns-clause-any_moment : goal.returns-clause-any_moment
returns-clause-any_moment g c =
    let d = g.D.Disk in
    let j = c.self.inside in
    rw (← c.self.view_is) (weaker d.clock d.images_since j.disk c.is_gate_open.new.disk _ _ c.is_gate_open.ensures.any_moment (keeps_either (d.images j.disk) _ _ _ _ c.self.invariant.0))

pub invariant_of-self-then-branch : goal.invariant_of-self-then-branch
invariant_of-self-then-branch g c =
    let d = g.D.Disk in
    let j = c.self.inside in
    let s = j.stored in
    let k : Keeps (d.images j.disk) s.entries s.flight false s.size = subst (λ x. Keeps (d.images j.disk) s.entries s.flight x s.size) c.if-self.false c.self.invariant.0 in
    let next : c.keep.new.self.size + 1 ≡ size_with s.size s.flight = staged_next s.size c.keep.new.self.size s.staged s.flight (c.self.invariant.3 c.if-self.false) c.keep.ensures.size in
    let told = rw c.size.ensures.size at c.in_ok-is_gate_open.ensures.gate in (
      keeps_opened (d.images j.disk) s.entries s.flight s.size k (d.images c.is_gate_open.new.disk) _ _ c.keep.new.self.size c.keep.ensures.entries c.keep.ensures.flight next c.is_gate_open.ensures.no_more
          (λ b image.
          let is = sym c.is_gate_open.ensures.same ∙ c.in_ok-is_gate_open.ensures.only b image in
          (told_at (d.bytes j.disk) _ b is told (gate_there (d.images j.disk) _ _ _ k b (c.is_gate_open.ensures.no_more b image))).0 c.if-branch.true),
      record {
        gate_within = omega (arith, next, c.self.invariant.1.flight_within c.if-self.false);
        most = c.self.invariant.1.most;
        flight_within = λ is. absurd (cc);
      },
      λ is. c.keep.ensures.staged,
      λ is. absurd (cc),
      λ f image. c.self.invariant.4 f (c.is_gate_open.ensures.no_more f image),
    )

pub returns-then-branch-clause-ok : goal.returns-then-branch-clause-ok
returns-then-branch-clause-ok g c =
    let d = g.D.Disk in
    let j = c.self.inside in
    let s = j.stored in
    let k : Keeps (d.images j.disk) s.entries s.flight false s.size = subst (λ x. Keeps (d.images j.disk) s.entries s.flight x s.size) c.if-self.false c.self.invariant.0 in
    let next : c.keep.new.self.size + 1 ≡ size_with s.size s.flight = staged_next s.size c.keep.new.self.size s.staged s.flight (c.self.invariant.3 c.if-self.false) c.keep.ensures.size in
    let told = rw c.size.ensures.size at c.in_ok-is_gate_open.ensures.gate in
    rw (← c.self.view_is) (record {
      sure = refl;
      none_in_flight = c.keep.ensures.flight;
      already = λ is. absurd (cc (is, c.if-self.false));
      decided = λ _. inr (c.keep.ensures.entries, next);
      opened = λ _. if_told (d.bytes j.disk) _ (λ b is at. c.keep.ensures.entries);
      closed = λ _. if_told (d.bytes j.disk) _ (λ b is at. absurd (at ((told_at (d.bytes j.disk) _ b is told (gate_there (d.images j.disk) _ _ _ k b (g.met.D.Disk.read_is_image j.disk b is))).0 c.if-branch.true)));
      bytes_stay = c.is_gate_open.ensures.same;
      limit = refl;
      spare_entries = c.keep.ensures.spare_entries;
      spare_bytes = c.keep.ensures.spare_bytes;
    })

pub invariant_of-self-2 : goal.invariant_of-self-2
invariant_of-self-2 g c =
    let d = g.D.Disk in
    let j = c.self.inside in
    let s = j.stored in
    let k : Keeps (d.images j.disk) s.entries s.flight false s.size = subst (λ x. Keeps (d.images j.disk) s.entries s.flight x s.size) c.if-self.false c.self.invariant.0 in
    let told = rw c.size.ensures.size at c.in_ok-is_gate_open.ensures.gate in (
      rw c.forget.ensures.size (keeps_closed (d.images j.disk) s.entries s.flight s.size k (d.images c.is_gate_open.new.disk) _ _ c.forget.ensures.entries c.forget.ensures.flight c.is_gate_open.ensures.no_more
          (λ b image at.
          let is = sym c.is_gate_open.ensures.same ∙ c.in_ok-is_gate_open.ensures.only b image in
          let open_now = (told_at (d.bytes j.disk) _ b is told (gate_there (d.images j.disk) _ _ _ k b (c.is_gate_open.ensures.no_more b image))).1 at in
          absurd (cc (open_now, c.if-branch.false)))),
      record {
        gate_within = omega (arith, c.forget.ensures.size, c.self.invariant.1.gate_within);
        most = c.self.invariant.1.most;
        flight_within = λ is. absurd (cc);
      },
      λ is. c.forget.ensures.staged,
      λ is. absurd (cc),
      λ f image. c.self.invariant.4 f (c.is_gate_open.ensures.no_more f image),
    )

pub returns-then-self-clause-within : goal.returns-then-self-clause-within
returns-then-self-clause-within g c =
    let d = g.D.Disk in
    started_within d.clock d.images_since d.images c.args.self.now g.met.D.Disk.only_now (rw (← c.self.view_is) c.self.invariant.4)

pub returns-in_err-is_gate_open-clause-within : goal.returns-in_err-is_gate_open-clause-within
returns-in_err-is_gate_open-clause-within g c =
    let d = g.D.Disk in
    let j = c.self.inside in
    rw (← c.self.view_is) (weaker d.clock d.images_since j.disk c.is_gate_open.new.disk _ _ c.is_gate_open.ensures.any_moment c.self.invariant.4)

pub returns-then-branch-clause-within : goal.returns-then-branch-clause-within
returns-then-branch-clause-within g c =
    let d = g.D.Disk in
    let j = c.self.inside in
    rw (← c.self.view_is) (weaker d.clock d.images_since j.disk c.is_gate_open.new.disk _ _ c.is_gate_open.ensures.any_moment c.self.invariant.4)

pub returns-clause-within : goal.returns-clause-within
returns-clause-within g c =
    let d = g.D.Disk in
    let j = c.self.inside in
    rw (← c.self.view_is) (weaker d.clock d.images_since j.disk c.is_gate_open.new.disk _ _ c.is_gate_open.ensures.any_moment c.self.invariant.4)
