use Rattle.std.proofs.Common.{◌≡◌, ℕ, suc, ◌-◌, subst, arith, ◌∙◌}
use Rattle.std.proofs.lemmas.List.{take_rest}
use Rattle.ots_store.specs.Forms.{AreSteps}
use Rattle.ots_store.proofs.Formed.{more_steps, first_step}
use Rattle.ots_store.proofs.form.+are_steps.Goals as goal
use Rattle.ots_store.proofs.form.+are_steps.Goals.{then-bytes-lt33-via-then-bytes-lt33, then-bytes-lt33-via-else-bytes-lt33+then-bytes-gt1}

pub returns-then-bytes-lt33-clause-no : goal.returns-then-bytes-lt33-clause-no
returns-then-bytes-lt33-clause-no t c is branch many fit whole =
    let step = first_step c.args.bytes.now (c.args.count - 1) branch (omega (arith, many)) fit whole in
    elim c.then-bytes-lt33.branch [ then-bytes-lt33-via-then-bytes-lt33 w ↦ omega (arith, step.long) | then-bytes-lt33-via-else-bytes-lt33+then-bytes-gt1 w ↦ omega (arith, step.side) ]

pub returns-clause-yes : goal.returns-clause-yes
returns-clause-yes t c is =
    let count : suc (c.args.count - 1) ≡ c.args.count = omega arith in
    subst (λ (n : ℕ). AreSteps n c.args.bytes.now) count (more_steps c.args.bytes.now (c.args.count - 1) (omega arith) (omega arith) (rw take_rest at (c.are_steps.ensures.yes is)))

pub returns-clause-no : goal.returns-clause-no
returns-clause-no t c is branch many fit whole =
    let step = first_step c.args.bytes.now (c.args.count - 1) branch (omega (arith, many)) fit whole in
    c.are_steps.ensures.no is step.others step.many step.hashes (take_rest c.args.bytes.now 33 ∙ step.whole)
