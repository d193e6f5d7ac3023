use Rattle.std.proofs.Common.{◌≡◌, ◌+◌, ◌-◌, ◌∙◌, ℕ, ap, subst, sym, take, drop, arith, length-drop}
use Rattle.std.specs.List.{copy_within}
use Rattle.std.proofs.lemmas.List.{drop-take}
use Rattle.std.proofs.lemmas.List.Edits.{take-paste}
use Rattle.ots_inputs.proofs.lines.keep_rest.Goals as goal

pub returns-clause-kept : goal.returns-clause-kept
returns-clause-kept c =
    let room = c.args.room.now in
    let used = c.args.used in
    let many = c.args.end - used in
    let order = c.requires.order in
    let within = c.requires.within in
    let end : used + many ≡ c.args.end = omega (arith, order) in
    let start : 0 + many ≡ many = omega arith in
    let moved = subst (λ (z : ℕ). take z (copy_within room used c.args.end 0) ≡ take many (drop used room)) start
    (take-paste room 0 (drop used room) many (omega arith) (omega (arith, length-drop used room, within, order))) in
    ap (take many) c.copy_within.ensures.after
    ∙ (moved ∙ (sym (drop-take used many room) ∙ ap (λ (z : ℕ). drop used (take z room)) end))
