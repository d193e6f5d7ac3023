use Rattle.std.proofs.Common.{◌≡◌, ◌∙◌, [], List, map, refl, subst}
use Rattle.ots_calendar_url.specs.CalendarUrl.{text_of}
use Rattle.ots_canon.specs.Canonical.{IsCanonTree}
use Rattle.ots_draft.proofs.AfterOps.{canon_after}
use Rattle.ots_draft.proofs.Leads.{after_waiting, draft_sound, form_of_paths}
use Rattle.ots_draft.specs.Draft.{waiting}
use Rattle.ots_ops.specs.declared.op.Op.{Op}
use Rattle.ots_stamp.specs.Ways.{way_from}
use Rattle.ots_tree.specs.Made.{after}
use Rattle.ots_tree.specs.Wire.{Path}
use Rattle.ots_draft.proofs.drafting.draft_proof.Goals as goal

pub invariant_of-result : goal.invariant_of-result
invariant_of-result c =
    let t = c.args.target.now in
    let addresses = map text_of c.args.urls.now in
    let tree = c.in_ok-tree.tree in
    let form = form_of_paths (waiting [] addresses) c.in_ok-waiting_tree.field-0 c.in_ok-form.form c.in_ok-waiting_tree.ensures c.in_ok-form.ensures in
    let made = canon_after c.items.result.now (waiting [] addresses) c.in_ok-form.form tree form c.in_ok-tree.ensures in
    let canon : IsCanonTree (waiting (way_from c.args.ways.now c.args.i t.nonce) addresses) tree =
    subst (λ (ops : List Op). IsCanonTree (waiting ops addresses) tree) (c.items.ensures ∙ c.in_ok-ops.ensures)
    (subst (λ (ps : List Path). IsCanonTree ps tree) (after_waiting c.items.result.now addresses) made) in
    record {
      digest_of_hash = t.is_sha256;
      tree_sound = ∣ draft_sound c.args.ways.now c.args.i t addresses tree c.depth.result c.requires.hashes c.requires.leaf c.depth.ensures.depth c.depth.ensures.most canon ∣₁;
    }

pub returns : goal.returns
returns c =
    let t = c.args.target.now in
    let addresses = map text_of c.args.urls.now in
    let tree = c.in_ok-tree.tree in
    let form = form_of_paths (waiting [] addresses) c.in_ok-waiting_tree.field-0 c.in_ok-form.form c.in_ok-waiting_tree.ensures c.in_ok-form.ensures in
    let made = canon_after c.items.result.now (waiting [] addresses) c.in_ok-form.form tree form c.in_ok-tree.ensures in
    record {
      hash = refl;
      digest = refl;
      form = subst (λ (ops : List Op). IsCanonTree (waiting ops addresses) tree) (c.items.ensures ∙ c.in_ok-ops.ensures)
          (subst (λ (ps : List Path). IsCanonTree ps tree) (after_waiting c.items.result.now addresses) made);
    }
