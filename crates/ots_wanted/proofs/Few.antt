-- A proof skips no more pairs than its file has bytes.
use Rattle.std.proofs.Common.{◌≡◌, ◌∙◌, ◌+◌, ◌≤◌, ℕ, Bool, List, [], ◌∷◌, Option, Some, length, map, sym, ap, arith, length-append}
use Rattle.std.specs.Prelude.{None, not}
use Rattle.std.proofs.lemmas.List.{length-map}
use Rattle.std.proofs.lemmas.List.Concat.{flat_map-append}
use Rattle.std.proofs.lemmas.List.Sums.{count_by-le-length, length-filter}
use Rattle.ots_attest.specs.declared.attestation.Attestation.{Attestation}
use Rattle.ots_attest.specs.declared.attestation.Attestation.TheVariants.{Pending, Bitcoin, Litecoin, Unknown}
use Rattle.ots_base.specs.declared.limits.TheConstants.{MAX_PROOF_FILE}
use Rattle.ots_detached.specs.File.{IsFileOf, header}
use Rattle.ots_ops.specs.Operation.{spell as spell_op}
use Rattle.ots_ops.specs.Value.{value}
use Rattle.ots_pending.specs.Pairs.{Pair, at_depth, asked_by, is_same, once}
use Rattle.ots_sheet.specs.declared.request.Kind.{Kind}
use Rattle.ots_sheet.specs.Request.{RequestParts}
use Rattle.ots_tree.proofs.Determined.{same_pre}
use Rattle.ots_tree.specs.Pending.{asked, pending_from}
use Rattle.ots_tree.specs.Wire.{Item, Node, Path, attested, below, bytes, last, more, paths, paths_of_item, pre, pre_item, spell, spelled, step}
use Rattle.ots_tree.specs.declared.detached.Detached.{Detached}
use Rattle.ots_wanted.specs.Wanted.{Asks, Wants, complete, draft, is_listed, pending, request_for}

mutual
  few_paths : (t : Node) → length (paths t) ≤ length (bytes t)
  few_paths (last i) = few_of_item i
  few_paths (more i t) =
      omega (arith, few_of_item i, few_paths t, length-append (paths_of_item i) (paths t), ap length (flat_map-append spell (pre_item i) (pre t)), length-append (spelled (pre_item i)) (bytes t))

  few_of_item : (i : Item) → length (paths_of_item i) ≤ length (spelled (pre_item i))
  few_of_item (attested a) = omega arith
  few_of_item (step o t) = omega (arith, few_paths t, length-map (paths t) (below o), length-append (spell_op o) (bytes t))

one_asked : (n d : ℕ) (a : Attestation) (m : Option (List ℕ)) → length (asked n d a m) ≤ 1
one_asked n d (Pending uri) (Some m) = omega arith
one_asked n d (Pending uri) None = omega arith
one_asked n d (Bitcoin height) m = omega arith
one_asked n d (Litecoin height) m = omega arith
one_asked n d (Unknown other) m = omega arith

few_pending : (digest : List ℕ) (n : ℕ) (ps : List Path) → length (pending_from digest n ps) ≤ length ps
few_pending digest n [] = omega arith
few_pending digest n (p ∷ ps) =
    let here = asked n (length p.ops) p.end (value p.ops digest) in
    omega (arith, one_asked n (length p.ops) p.end (value p.ops digest), few_pending digest (n + 1) ps, length-append here (pending_from digest (n + 1) ps))

few_once : (ps : List Pair) → length (once ps) ≤ length ps
few_once [] = omega arith
few_once (p ∷ ps) = omega (arith, few_once ps, length-filter (λ q. not (is_same p q)) (once ps), count_by-le-length (λ q. not (is_same p q)) (once ps))

few_asked : (urls : List (List ℕ)) (kind : Kind) (proof : Detached) (wanted : List RequestParts) (skipped : ℕ) (b : List ℕ) → Asks urls kind proof wanted skipped
    → IsFileOf b proof → skipped ≤ MAX_PROOF_FILE
few_asked urls kind proof wanted skipped b asks file =
    let pending = asks.are.pending in
    let found = asks.are.found in
    let requests = map (request_for kind) asks.pairs in
    let same : pending.node ≡ file.tree = same_pre pending.node file.tree (pending.tree ∙ sym file.tokens) in
    let size = file.has_file.size in
    omega (
      arith,
      asks.others,
      count_by-le-length (λ r. not (is_listed urls r)) requests,
      length-map asks.pairs (request_for kind),
      ap length asks.are.are,
      length-map (once (map asked_by found)) (at_depth found),
      few_once (map asked_by found),
      length-map found asked_by,
      ap length pending.are,
      few_pending proof.digest 0 (paths pending.node),
      ap (λ (t : Node). length (paths t)) same,
      few_paths file.tree,
      length-append (header proof.hash proof.digest) (bytes file.tree),
      size,
    )

pub few_skipped : (urls : List (List ℕ)) (all : Bool) (proof : Detached) (wanted : List RequestParts) (skipped : ℕ) (b : List ℕ) → Wants urls all proof wanted skipped
    → IsFileOf b proof → skipped ≤ MAX_PROOF_FILE
few_skipped urls all proof wanted skipped b (draft ops d asks) file = few_asked urls _ proof wanted skipped b asks file
few_skipped urls all proof wanted skipped b (pending only h asks) file = few_asked urls _ proof wanted skipped b asks file
few_skipped urls all proof wanted skipped b (complete only has is none few) file = omega (arith, few)
