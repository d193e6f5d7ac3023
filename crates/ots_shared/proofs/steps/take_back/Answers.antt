use Rattle.std.proofs.Common.{sym, ap, ◌∙◌}
use mathlib.Core.Option.{some, some-injective}
use Rattle.ots_shared.proofs.Callers.{closes, closes_with}
use Rattle.ots_shared.proofs.steps.take_back.Goals as goal

pub unreachable-requires : goal.unreachable-requires
unreachable-requires g c =
    let end = closes _ _ _ _ _ _ c.requires.idle c.requires.whole c.requires.some c.close_with-closed.ensures.values.2 in c.in_default.not-Some end.0 (some-injective _ _ (sym c.take.ensures.value ∙ end.1))

pub returns : goal.returns
returns g c = closes_with _ _ _ _ _ _ _ c.requires.idle c.requires.whole c.requires.some c.close_with-closed.ensures.values.2 (c.take.ensures.value ∙ ap some c.in-Some.is)
