use Rattle.std.proofs.Common.{◌≡◌, ◌<◌, ℕ, List, Some, refl, sym, subst, ◌∙◌, ap, length, map}
use Rattle.std.specs.List.{flat_map, slice_get}
use Rattle.std.proofs.lemmas.Option.{get_or_from_slice_get}
use Rattle.ots_canon.proofs.OneTree.{paths_rise}
use Rattle.ots_canon.specs.Canonical.{IsCanonTree}
use Rattle.ots_merkle.proofs.PathLaws.{path_leads}
use Rattle.ots_ops.proofs.AppliedLength.{length_of_applied}
use Rattle.ots_ops.specs.declared.op.Op.{Op}
use Rattle.ots_stamp.specs.Stamped.{IsSoundBelow, leaves, to_root}
use Rattle.ots_stamp.specs.declared.target.Target.{Target}
use Rattle.ots_stamp.proofs.FormBelow.{form_below}
use Rattle.ots_stamp.proofs.Founded.{proof_paths, sound_after}
use Rattle.ots_stamp.proofs.batch.Batch.proof_below.Goals as goal
use Rattle.ots_tree.proofs.Determined.{pre-apart}
use Rattle.ots_tree.proofs.MadePaths.{paths-chain, sound_under}
use Rattle.ots_tree.specs.Made.{IsSoundAfter, IsUnder, after}
use Rattle.ots_tree.specs.Sound.{IsSoundPre}
use Rattle.ots_tree.specs.Wire.{paths}
use Rattle.ots_tree.specs.declared.token.Token.{Token}

pub invariant_of-result : goal.invariant_of-result
invariant_of-result c =
    let t = c.index-target.result.now in
    let targets : List Target = c.self.inside.targets.items in
    let kept = c.self.invariant in
    let form : List Token = c.args.form.now in
    let less : c.args.i < length targets = rw c.self.view_is c.requires.index in
    let sound : IsSoundBelow targets form = subst (λ (ts : List Target). IsSoundBelow ts form) (sym c.self.view_is) c.requires.sound in
    let after : IsSoundAfter c.items.result.now 32 0 form =
    subst (λ (ops : List Op). IsSoundAfter ops 32 0 form) (sym (c.items.ensures ∙ c.in_ok-ops.ensures ∙ ap (λ (ls : List (List ℕ)). to_root ls c.args.i t) kept.ways_are))
    (sound_after length_of_applied targets c.args.i t form path_leads less c.index-target.ensures t.is_sha256 t.is_nonce
    sound.0 sound.1 sound.2) in
    let made = subst (λ (ts : List Token). IsUnder c.items.result.now ts c.in_ok-tree.tree) c.in_ok-copy.ensures c.in_ok-tree.ensures in
    record {
      digest_of_hash = t.is_sha256;
      tree_sound = ∣ subst (λ (n : ℕ). IsSoundPre n 0 c.in_ok-tree.tree) (sym t.is_sha256)
          ((sound_under 32 0 c.items.result.now form c.in_ok-tree.tree made).1 after) ∣₁;
    }

pub returns : goal.returns
returns c = λ t trees is below.
    let all = below.gathers in
    let targets : List Target = c.self.inside.targets.items in
    let kept = c.self.invariant in
    let less : c.args.i < length targets = rw c.self.view_is c.requires.index in
    let same : c.index-target.result.now ≡ t =
    c.index-target.ensures ∙ get_or_from_slice_get targets c.args.i t c.index-target.result.now (subst (λ (ts : List Target). slice_get ts c.args.i ≡ Some t) (sym c.self.view_is) is) in
    let ops-are : c.items.result.now ≡ to_root (leaves targets) c.args.i c.index-target.result.now =
    c.items.ensures ∙ c.in_ok-ops.ensures ∙ ap (λ (ls : List (List ℕ)). to_root ls c.args.i c.index-target.result.now) kept.ways_are in
    record {
      hash = refl;
      digest = ap (λ (u : Target). u.digest) same;
      nodes = all.nodes;
      are = all.are;
      form = subst (λ (ops : List Op). IsCanonTree (map (after ops) (flat_map paths all.nodes)) c.in_ok-tree.tree)
          (ops-are ∙ ap (to_root (leaves targets) c.args.i) same ∙ ap (λ (ts : List Target). to_root (leaves ts) c.args.i t) c.self.view_is)
          (proof_paths pre-apart paths-chain trees c.items.result.now below.good c.in_ok-tree.tree all
          (form_below pre-apart paths-chain paths_rise c.items.result.now below.good c.args.form.now c.in_ok-tree.tree below.canon
          (subst (λ (ts : List Token). IsUnder c.items.result.now ts c.in_ok-tree.tree) c.in_ok-copy.ensures c.in_ok-tree.ensures)));
    }
