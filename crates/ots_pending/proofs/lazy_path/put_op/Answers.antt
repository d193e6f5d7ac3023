use Rattle.std.proofs.Common.{◌≡◌, ◌++◌, ◌∷◌, [], ◌∙◌, List, length, take, Bor, ap, sym}
use Rattle.ots_ops.specs.declared.op.Op.{Op}
use Rattle.ots_pending.specs.LazyPath.{ops_of}
use Rattle.ots_pending.proofs.LazyPaths.{op_put, no_op_put}
use Rattle.ots_pending.proofs.lazy_path.put_op.Goals as goal

pub returns-then-len-depth : goal.returns-then-len-depth
returns-then-len-depth c =
    let long : length (take c.args.depth c.args.ops.now.items) ≡ c.args.depth =
    ap (λ (z : List (Bor Op)). length z) (sym c.truncate.ensures.items) ∙ sym c.truncate.new.self.ok.0 ∙ sym c.len.ensures ∙ c.if-len-depth.true in
    ap ops_of (c.push_reserved.ensures.items ∙ ap (λ (z : List (Bor Op)). z ++ c.args.op ∷ []) c.truncate.ensures.items)
    ∙ op_put c.args.op c.args.depth c.args.ops.now.items long

pub returns-else-len-depth : goal.returns-else-len-depth
returns-else-len-depth c =
    ap ops_of c.truncate.ensures.items
    ∙ no_op_put c.args.op c.args.depth c.args.ops.now.items (λ e.
    c.if-len-depth.false (c.len.ensures ∙ c.truncate.new.self.ok.0 ∙ ap (λ (z : List (Bor Op)). length z) c.truncate.ensures.items ∙ e))
