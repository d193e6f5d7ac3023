use Rattle.std.proofs.Common.{ap, length, arith, length-append}
use Rattle.ots_sums.proofs.Naming.{as_spells, is_marked, none_marked}
use Rattle.ots_sums.proofs.names.put_marked.Goals as goal

pub returns-then-not-branch : goal.returns-then-not-branch
returns-then-not-branch c =
    let p = rw c.if-not-branch.true at c.in_ok-put_unescaped.ensures in
    (λ name s. p.0 name (as_spells c.args.text.now name s), p.1)

pub returns-then-len-start : goal.returns-then-len-start
returns-then-len-start c =
    let p = rw c.if-not-branch.false at c.in_ok-put_unescaped.ensures in (
      λ other s. none_marked c.args.text.now p.0 other p.2
          (omega (arith, c.if-len-start.true, c.len.ensures, c.len-start.ensures, ap length p.1, length-append c.args.names.now.items p.0)) s,
      (p.0, p.1),
    )

pub returns : goal.returns
returns c =
    let p = rw c.if-not-branch.false at c.in_ok-put_unescaped.ensures in (
      p.0,
      p.1,
      is_marked c.args.text.now p.0 p.2
          (omega (arith, c.if-len-start.false, c.len.ensures, c.len-start.ensures, ap length p.1, length-append c.args.names.now.items p.0)),
    )
