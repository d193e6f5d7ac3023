use Rattle.ots_store.proofs.Holding.{is_commit, is_tip, is_anchor, anchor_spelled, commit_held, tip_held, anchor_held, on_ok}
use Rattle.ots_store.proofs.Recorded.{entry}
use Rattle.ots_store.specs.Records.{record_of, tip_at, anchor_at}
use Rattle.ots_store.proofs.lists.Lists.stage.Goals as goal

pub returns-then-kind-eq-COMMIT-clause-ok : goal.returns-then-kind-eq-COMMIT-clause-ok
returns-then-kind-eq-COMMIT-clause-ok c =
    on_ok c.stage_commitment.result (λ staged kept flight h. commit_held (record_of (entry c.args.kind c.args.payload.now)) c.args.payload.now c.args.self.now c.stage_commitment.new.self kept flight
    (is_commit c.args.kind c.args.payload.now c.if-kind-eq-COMMIT.true) staged c.stage_commitment.ensures.tips c.stage_commitment.ensures.anchors h) c.stage_commitment.ensures.ok

pub returns-then-kind-eq-TIP-clause-ok : goal.returns-then-kind-eq-TIP-clause-ok
returns-then-kind-eq-TIP-clause-ok c =
    on_ok c.stage_tip.result (λ staged kept flight h. tip_held (record_of (entry c.args.kind c.args.payload.now)) (tip_at c.args.payload.now) c.args.self.now c.stage_tip.new.self kept flight
    (is_tip c.args.kind c.args.payload.now c.if-kind-eq-TIP.true) staged c.stage_tip.ensures.commitments c.stage_tip.ensures.anchors h) c.stage_tip.ensures.ok

pub stage_anchor-requires : goal.stage_anchor-requires
stage_anchor-requires c = anchor_spelled c.args.kind c.args.payload.now c.if-kind-eq-COMMIT.false c.if-kind-eq-TIP.false c.requires

pub returns-clause-ok : goal.returns-clause-ok
returns-clause-ok c =
    on_ok c.stage_anchor.result (λ staged kept flight h. anchor_held (record_of (entry c.args.kind c.args.payload.now)) (anchor_at c.args.payload.now) c.args.self.now c.stage_anchor.new.self kept flight
    (is_anchor c.args.kind c.args.payload.now c.if-kind-eq-COMMIT.false c.if-kind-eq-TIP.false) staged c.stage_anchor.ensures.commitments c.stage_anchor.ensures.tips h) c.stage_anchor.ensures.ok
