use Rattle.std.proofs.Common.{◌≡◌, ◌+◌, ◌++◌, ◌∙◌, ℕ, List, take, Bor, ap, sym, subst}
use Rattle.std.specs.Prelude.{option_to_list}
use Rattle.ots_ops.specs.declared.op.Op.{Op}
use Rattle.ots_tree.specs.PendingWalk.{result_at}
use Rattle.ots_pending.specs.LazyPath.{all_made, ops_of, with_op, IsMade}
use Rattle.ots_pending.proofs.LazyPaths.{made_follows, cut_made}
use Rattle.ots_pending.proofs.lazy_path.LazyPath.follow.Goals as goal

pub invariant_of-self : goal.invariant_of-self
invariant_of-self c = subst (IsMade c.self.inside.made.items) (sym c.reserve.ensures.items) c.self.invariant

pub invariant_of-self-2 : goal.invariant_of-self-2
invariant_of-self-2 c =
    let put : ops_of c.put_op.new.ops.items ≡ with_op c.args.op.now c.args.depth (ops_of c.self.inside.ops.items) =
    c.put_op.ensures ∙ ap (λ (z : List (Bor Op)). with_op c.args.op.now c.args.depth (ops_of z)) c.reserve.ensures.items in
    subst (λ (z : List (List ℕ)). IsMade z c.put_op.new.ops.items) (sym c.truncate.ensures.items)
    (cut_made c.args.op.now c.args.depth c.self.inside.made.items c.self.inside.ops.items c.put_op.new.ops.items put c.self.invariant)

pub returns : goal.returns
returns c =
    let put : ops_of c.put_op.new.ops.items ≡ with_op c.args.op.now c.args.depth (ops_of c.self.inside.ops.items) =
    c.put_op.ensures ∙ ap (λ (z : List (Bor Op)). with_op c.args.op.now c.args.depth (ops_of z)) c.reserve.ensures.items in
    ap (λ (z : List (List ℕ)). all_made z c.put_op.new.ops.items) c.truncate.ensures.items
    ∙ made_follows c.args.op.now c.args.depth c.self.inside.made.items c.self.inside.ops.items c.put_op.new.ops.items put
    ∙ ap (λ (z : List (List ℕ)). take (c.args.depth + 1) z ++ option_to_list (result_at c.args.op.now c.args.depth z)) c.self.view_is
