use Rattle.std.proofs.Common.{sym, ap, ◌∙◌, arith}
use Rattle.ots_shared.specs.Steps.{Sat}
use Rattle.ots_shared.specs.Told.{SharedTold}
use Rattle.ots_shared.proofs.Callers.{splits}
use Rattle.ots_shared.proofs.shared.Shared.share_seen.Goals as goal

pub split_seat-other-requires : goal.split_seat-other-requires
split_seat-other-requires g c =
    let e = c.rise-place.ensures in
    let x = c.glue.ensures in
    let three = c.self.invariant.0 in
    let first = ap (λ (m : Sat g.row.D.Denot). m.0.share) e.me in
    let second = ap (λ (m : Sat g.row.D.Denot). m.0.share) c.rise.ensures.me in
    let both = ap (λ (m : Sat g.row.D.Denot). m.0.share) x.glued.1 in
    let some = e.share in
    let one = c.requires.one in (
      x.same.0 ∙ (e.table ∙ (c.requires.own.0.0 ∙ sym (ap (λ (s : SharedTold). s.table) c.self.view_is))),
      omega arith,
      splits _ _ _ _ (ap (λ (m : Sat g.row.D.Denot). m.0.stage) x.glued.1 ∙ ap (λ (m : Sat g.row.D.Denot). m.0.stage) e.me) (omega arith),
    )
