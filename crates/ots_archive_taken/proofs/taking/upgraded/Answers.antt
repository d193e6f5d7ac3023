use Rattle.std.proofs.Common.{refl}
use Rattle.ots_archive_taken.specs.inner.Telling.{no_more, some_more}
use Rattle.ots_archive_taken.proofs.taking.upgraded.Goals as goal

pub returns-then-branch : goal.returns-then-branch
returns-then-branch c = no_more c.has_bitcoin-complete.result (c.in_ok-equal.ensures.0 c.if-branch.true) c.has_bitcoin-complete.ensures refl

pub returns : goal.returns
returns c =
    some_more c.has_bitcoin-complete-2.result (λ same. let yes = c.in_ok-equal.ensures.1 same in let no = c.if-branch.false in absurd cc)
    c.has_bitcoin-complete-2.ensures refl
