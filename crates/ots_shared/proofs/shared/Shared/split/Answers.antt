use Rattle.std.proofs.Common.{sym, ap, ◌∙◌, arith}
use Rattle.ots_shared.specs.Steps.{Sat}
use Rattle.ots_shared.specs.Told.{SharedTold}
use Rattle.ots_shared.proofs.Callers.{splits}
use Rattle.ots_shared.proofs.shared.Shared.split.Goals as goal

pub split_seat-other-requires : goal.split_seat-other-requires
split_seat-other-requires g c =
    let e = c.rise-place.ensures in
    let three = c.self.invariant.0 in
    let share = ap (λ (m : Sat g.row.D.Denot). m.0.share) e.me in
    let two = c.requires.share in (
      e.table ∙ (c.requires.own.0 ∙ sym (ap (λ (s : SharedTold). s.table) c.self.view_is)),
      omega arith,
      splits _ _ _ _ (ap (λ (m : Sat g.row.D.Denot). m.0.stage) e.me) (omega arith),
    )
