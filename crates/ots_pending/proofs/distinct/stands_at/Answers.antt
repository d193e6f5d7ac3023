use Rattle.std.proofs.Common.{arith, ◌≡◌, ◌∙◌, Some, None, sym, rules}
use Rattle.std.specs.List.{slice_get}
use Rattle.std.proofs.lemmas.Grind.{common_steps}
use Rattle.std.proofs.lemmas.Option.{gets}
use Rattle.ots_pending.proofs.Maps.{same_at}
use Rattle.ots_pending.proofs.distinct.stands_at.Goals as goal

pub returns-in-Some : goal.returns-in-Some
returns-in-Some c =
    let some : slice_get c.args.items.now c.args.place ≡ Some c.in-Some.item.now = grind (arith, common_steps, gets) in
    same_at (slice_get c.args.items.now c.args.place) c.in-Some.item.now c.args.bytes.now c.eq.result some (search rules)

pub returns-in-None : goal.returns-in-None
returns-in-None c =
    let none : slice_get c.args.items.now c.args.place ≡ None = grind (arith, common_steps, gets) in
    ((λ h. absurd cc), (λ h. absurd (let no = sym none ∙ h in cc)))
