use Rattle.std.proofs.Common.{ap, ◌∙◌, sym, List, ℕ, ◌++◌, arith}
use Rattle.ots_sums.proofs.Naming.{put_more, shown_plain}
use Rattle.ots_sums.proofs.names.put_escaped.Goals as goal

pub returns-then-not-is_escaped-clause-ok : goal.returns-then-not-is_escaped-clause-ok
returns-then-not-is_escaped-clause-ok c =
    c.in_ok-extend_from_slice.ensures.items ∙ ap (λ (z : List ℕ). c.args.out.now.items ++ z) (shown_plain c.args.name.now (sym c.is_escaped.ensures ∙ c.if-not-is_escaped.true))

pub loop-byte-preserved : goal.loop-byte-preserved
loop-byte-preserved c =
    put_more c.args.name.now c.args.out.now.items c.loop-byte.out.items c.put_byte.new.out.items c.loop-byte.byte-index c.loop-byte.invariant (omega (arith, c.loop-byte-test.true))
    c.in_ok-put_byte.ensures
