use Rattle.std.proofs.Common.{◌∙◌, refl, sym, replicate}
use Rattle.std.proofs.lemmas.Bool.{leb-false, leb-true}
use Rattle.ots_tree.proofs.PathLengths.{passes_where_sound, deep_unsound}
use Rattle.ots_tree.proofs.sound.is_sound.Goals as goal

pub returns-then-not-is_within : goal.returns-then-not-is_within
returns-then-not-is_within c = (λ e. absurd cc, λ sound. absurd (deep_unsound _ _ _ (leb-false c.args.shape.depth 255 (sym c.is_within.ensures ∙ c.if-not-is_within.true)) sound))

pub returns : goal.returns
returns c =
    let n = c.args.shape.length in
    let found = c.all_pass.ensures in
    let law = passes_where_sound c.args.tree.now _ c.depths.result.now c.args.shape.depth n (replicate 256 n) c.tokens.ensures.tokens c.depths.ensures.kept (leb-true c.args.shape.depth 255 (sym c.is_within.ensures ∙ c.if-not-is_within.false)) refl refl in
    (λ e. law.0 (found.0 e), λ s. found.1 (law.1 s))
