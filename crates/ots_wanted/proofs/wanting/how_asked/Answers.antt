use Rattle.std.proofs.Common.{◌≡◌, true}
use Rattle.ots_wanted.proofs.Drafts.{found_draft, no_bitcoin}
use Rattle.ots_wanted.proofs.wanting.how_asked.Goals as goal
use Rattle.ots_wanted.proofs.wanting.how_asked.Goals.{in-Some, in-None}

pub returns-then-all : goal.returns-then-all
returns-then-all c = ((λ ops draft. no_bitcoin c.args.proof.now ops draft (c.has_bitcoin.ensures.0 c.if-has_bitcoin.true)), λ _. c.if-all.true)

pub returns-else-all : goal.returns-else-all
returns-else-all c = (
  (λ ops draft. no_bitcoin c.args.proof.now ops draft (c.has_bitcoin.ensures.0 c.if-has_bitcoin.true)),
  c.has_bitcoin.ensures.0 c.if-has_bitcoin.true,
  c.if-all.false,
)

pub returns : goal.returns
returns c =
    let proof = c.args.proof.now in
    elim c.match-branch-2.branch [
      | in-Some w ↦
          rw w.result-is (w.in-Some.field-0, found_draft proof c.in_ok-draft_operations.field-0 w.in-Some.field-0 c.in_ok-draft_operations.ensures.some w.in-Some.is)
      | in-None w ↦
          rw w.result-is
          (c.in_ok-draft_operations.ensures.none w.in-None.is, λ has. let yes : c.has_bitcoin.result ≡ true = c.has_bitcoin.ensures.1 has in absurd (let no = c.if-has_bitcoin.false in cc))
    ]
