use Rattle.std.proofs.Common.{◌+◌, get_or, arith, sym, ◌∙◌, inl, inr}
use Rattle.ots_canon.proofs.Ends.{at_fork, at_op, weaker}
use Rattle.ots_canon.proofs.Leading.{leads_fork, leads_op, leads_here}
use Rattle.ots_canon.proofs.pruning.leads_at.Goals as goal

pub bounds-leads-at : goal.bounds-leads-at
bounds-leads-at c =
    let f = at_fork (weaker _ _ (c.args.at + 1) c.requires.ends) (c.requires.nodes c.args.at c.requires.in_range) (sym c.is_fork.ensures ∙ c.if-is_fork.true) in
    let same = c.requires.leads.length_is in
    omega arith

pub bounds-ends-at : goal.bounds-ends-at
bounds-ends-at c =
    let f = at_fork (weaker _ _ (c.args.at + 1) c.requires.ends) (c.requires.nodes c.args.at c.requires.in_range) (sym c.is_fork.ensures ∙ c.if-is_fork.true) in
    let same = c.requires.ends.length_is in
    omega arith

pub bounds-leads-ends : goal.bounds-leads-ends
bounds-leads-ends c =
    let f = at_fork (weaker _ _ (c.args.at + 1) c.requires.ends) (c.requires.nodes c.args.at c.requires.in_range) (sym c.is_fork.ensures ∙ c.if-is_fork.true) in
    let same = c.requires.leads.length_is in
    omega arith

pub bounds-leads-at-then-is_op : goal.bounds-leads-at-then-is_op
bounds-leads-at-then-is_op c =
    let f = at_op (weaker _ _ (c.args.at + 1) c.requires.ends) (c.requires.nodes c.args.at c.requires.in_range) (sym c.is_op.ensures ∙ c.if-is_op.true) in
    let same = c.requires.leads.length_is in
    omega arith

pub returns-then-leads-at : goal.returns-then-leads-at
returns-then-leads-at c =
    let f = at_fork (weaker _ _ (c.args.at + 1) c.requires.ends) (c.requires.nodes c.args.at c.requires.in_range) (sym c.is_fork.ensures ∙ c.if-is_fork.true) in
    let inner = f.inner in
    ((λ e. (leads_fork f).1 (inl ((c.requires.leads.leads (c.args.at + 1) (omega arith) inner).0 e))), (λ h. c.if-leads-at.true))

pub returns-else-leads-at : goal.returns-else-leads-at
returns-else-leads-at c =
    let f = at_fork (weaker _ _ (c.args.at + 1) c.requires.ends) (c.requires.nodes c.args.at c.requires.in_range) (sym c.is_fork.ensures ∙ c.if-is_fork.true) in
    let next = f.next in
    let rest = c.requires.leads.leads (get_or c.args.ends.now (c.args.at + 1) 0) (omega arith) f.outer in
    let one = c.requires.leads.leads (c.args.at + 1) (omega arith) f.inner in
    ((λ e. (leads_fork f).1 (inr (rest.0 e))), (λ h. elim ((leads_fork f).0 h) [ inl a ↦ absurd (let t = one.1 a in let f = c.if-leads-at.false in cc) | inr b ↦ rest.1 b ]))

pub returns-then-is_op : goal.returns-then-is_op
returns-then-is_op c =
    let f = at_op (weaker _ _ (c.args.at + 1) c.requires.ends) (c.requires.nodes c.args.at c.requires.in_range) (sym c.is_op.ensures ∙ c.if-is_op.true) in
    let mark = c.requires.leads.leads (c.args.at + 1) (omega arith) f.inner in
    ((λ e. (leads_op f).1 (mark.0 e)), (λ h. mark.1 ((leads_op f).0 h)))

pub returns-else-is_op : goal.returns-else-is_op
returns-else-is_op c =
    leads_here (c.requires.nodes c.args.at c.requires.in_range) (sym c.is_fork.ensures ∙ c.if-is_fork.false) (sym c.is_op.ensures ∙ c.if-is_op.false) c.is_bitcoin.ensures
