use Rattle.std.proofs.Common.{◌≡◌, ◌+◌, ◌-◌, ◌≤◌, ◌∙◌, sym, subst, ap, arith}
use Rattle.std.proofs.Common.{Some, None, IsTrue, inl, inr}
use Rattle.ots_headers.specs.DoubleSha256.{double_sha256}
use Rattle.ots_headers.specs.HeaderTable.{header_at}
use Rattle.ots_chain.specs.Chain.{IsTip, IsLinked, FaultOf, MeetsTarget, HasFaultAt, hash_of}
use Rattle.ots_chain.proofs.Heights.{end_of_table, within_table, one_more, same_bytes}
use Rattle.ots_chain.proofs.checking.check.Goals as goal
use Rattle.ots_chain.proofs.checking.check.Goals.{then-height-first, else-height-first}

pub loop-header-preserved : goal.loop-header-preserved
loop-header-preserved c =
    let i = c.loop-header.invariant in
    let t = c.args.headers.now in
    let there : header_at t c.loop-header.height ≡ Some c.in-Some.header = sym c.at.ensures ∙ c.in-Some.is in
    let hash : c.block_hash-hash.result ≡ hash_of c.in-Some.header = c.block_hash-hash.ensures ∙ ap double_sha256 c.to_bytes.ensures.bytes in
    let found = subst (λ o. FaultOf (IsTrue c.if-height-first.is_linked) c.in-Some.header.bits c.block_hash-hash.result o) c.in_default-fault_of.is c.fault_of.ensures in
    let linked : IsLinked t c.loop-header.height c.in-Some.header = elim c.if-height-first.branch [
      | then-height-first w ↦ inl (w.if-height-first.true ∙ i.0)
      | else-height-first w ↦
          let tip = i.4 (omega (arith, w.if-height-first.false, i.1)) in
          let same = same_bytes c.in-Some.header.previous c.loop-header.tip (sym w.eq-is_linked.ensures ∙ sym w.is_linked-is ∙ found.0) in
          inr (tip.header, tip.there, same ∙ tip.hash)
    ] in
    let good : HasFaultAt t c.loop-header.height None = record {
      header = c.in-Some.header;
      there = there;
      fault = (linked, found.1, subst (λ h. MeetsTarget c.in-Some.header.bits h) hash found.2);
    } in
    let tip : IsTip t c.loop-header.height c.block_hash-hash.result = record { header = c.in-Some.header; there = there; hash = hash } in
    let before : c.loop-header.height ≡ c.loop-header.height + 1 - 1 = omega arith in (
      i.0,
      omega (arith, i.1),
      omega (arith, within_table t c.loop-header.height c.in-Some.header there, i.0),
      one_more t c.loop-header.height i.3 good,
      λ _. subst (λ n. IsTip t n c.block_hash-hash.result) before tip,
    )

pub overflow_sub-result : goal.overflow_sub-result
overflow_sub-result c =
    let i = c.loop-header.invariant in
    let past = end_of_table c.args.headers.now c.loop-header.height (subst (λ n. n ≤ c.loop-header.height) i.0 i.1) (sym c.at.ensures ∙ c.in_default.is) in
    omega (arith, past, c.first-first.ensures.limits.some)

pub returns : goal.returns
returns c =
    let i = c.loop-header.invariant in
    let past = end_of_table c.args.headers.now c.loop-header.height (subst (λ n. n ≤ c.loop-header.height) i.0 i.1) (sym c.at.ensures ∙ c.in_default.is) in
    let some = c.first-first.ensures.limits.some in
    (i.0, omega (arith, past, some, i.0, i.2), λ height from below. i.3 height from (omega (arith, below, past, some)), i.4 (omega (arith, i.0, past, some)))
