use Rattle.std.proofs.Common.{◌≡◌, ◌∙◌, ℕ, List, Some, ap, sym, subst, arith}
use Rattle.ots_pending.specs.LazyPath.{all_made, next_made, ops_of, IsMade}
use Rattle.ots_pending.proofs.LazyPaths.{made_there, more_made, none_there, same_made}
use Rattle.ots_pending.proofs.lazy_path.make.Goals as goal

pub returns-in_default-clause-there : goal.returns-in_default-clause-there
returns-in_default-clause-there c =
    none_there c.loop-alloc.made.items c.args.ops.now c.loop-alloc.invariant.made c.args.depth (omega arith)
    (ap (λ (z : List (List ℕ)). next_made z (ops_of c.args.ops.now)) (sym c.deref.ensures.value) ∙ sym c.in_ok-message.ensures ∙ c.in_default.is)

pub loop-alloc-preserved : goal.loop-alloc-preserved
loop-alloc-preserved c =
    let made = c.loop-alloc.made.items in
    let inv = c.loop-alloc.invariant in
    let next : next_made made (ops_of c.args.ops.now) ≡ Some c.in-Some.message =
    ap (λ (z : List (List ℕ)). next_made z (ops_of c.args.ops.now)) (sym c.deref.ensures.value) ∙ sym c.in_ok-message.ensures ∙ c.in-Some.is in
    record {
      made = subst (λ (z : List (List ℕ)). IsMade z c.args.ops.now) (sym c.in_ok-push.ensures.items) (more_made made c.args.ops.now inv.made c.in-Some.message next);
      same = ap (λ (z : List (List ℕ)). all_made z c.args.ops.now) c.in_ok-push.ensures.items ∙ same_made made c.args.ops.now inv.made c.in-Some.message ∙ inv.same;
    }

pub returns-clause-there : goal.returns-clause-there
returns-clause-there c = made_there c.loop-alloc.made.items c.args.ops.now c.loop-alloc.invariant.made c.args.depth (omega arith)
