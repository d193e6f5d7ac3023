use Rattle.std.proofs.Common.{List, ℕ, ap, ap₂, ◌∙◌}
use Rattle.ots_ripemd.specs.Ripemd160.{after, compressed, joined, left, right}
use Rattle.ots_ripemd.proofs.block.compress.Goals as goal

pub returns : goal.returns
unfolding compressed
returns c =
    let h = c.args.h in
    ap₂ (joined h) c.left_line-left.ensures c.right_line-right.ensures
    ∙ ap (λ (x : List ℕ). joined h (after x left h) (after x right h)) c.words_of-x.ensures
