use Rattle.std.proofs.Common.{◌≡◌, ◌∙◌, ◌+◌, ◌*◌, ◌++◌, ◌∷◌, [], suc, ap, ℕ, List, drop, take, sym, arith}
use Rattle.std.proofs.lemmas.List.{take_rest}
use Rattle.ots_merkle.specs.declared.branch.Side.{Side}
use Rattle.ots_store.specs.Records.{steps_at, side_at}
use Rattle.ots_store.proofs.Formed.{steps_push, pair_is}
use Rattle.ots_store.proofs.reading.read_steps.Goals as goal

pub loop-i-preserved : goal.loop-i-preserved
loop-i-preserved c =
    let bytes = c.args.bytes.now in
    let rest = drop (33 * c.loop-i.i) bytes in
    let one : suc c.loop-i.i ≡ c.loop-i.i + 1 = omega arith in
    let step : c.step_at.result ≡ (side_at rest, take 32 (drop 1 rest)) = pair_is c.step_at.result (side_at rest) (take 32 (drop 1 rest)) (rw take_rest at c.step_at.ensures.side) (rw take_rest at c.step_at.ensures.hash) in
    c.in_ok-push.ensures ∙ ap (λ (l : List (Side × List ℕ)). l ++ c.step_at.result ∷ []) c.loop-i.invariant
    ∙ ap (λ (s : Side × List ℕ). steps_at c.loop-i.i bytes ++ s ∷ []) step
    ∙ sym (steps_push c.loop-i.i bytes) ∙ ap (λ (n : ℕ). steps_at n bytes) one
