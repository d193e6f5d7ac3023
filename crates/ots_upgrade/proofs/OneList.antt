-- The pairs that a proof asks for: there is one list of them.
use Rattle.std.proofs.Common.{◌≡◌, ℕ, List, [], ◌∷◌, length, refl, sym, ap, ◌∙◌}
use Rattle.ots_tree.specs.Kept.{IsKept, beside}
use Rattle.ots_tree.specs.Pending.{pending_from}
use Rattle.ots_tree.specs.PendingWalk.{walked}
use Rattle.ots_tree.specs.Sound.{IsSoundPre}
use Rattle.ots_tree.specs.Wire.{Node, paths}
use Rattle.ots_tree.specs.declared.detached.Detached.{Detached}
use Rattle.ots_tree.proofs.Determined.{same_pre}
use Rattle.ots_tree.proofs.PendingPaths.{walk_found}
use Rattle.ots_pending.specs.Pairs.{ArePairs, PairAt, pairs_of}

pub some_list : (proof : Detached) (depths : List ℕ) → IsKept proof.tree depths → IsSoundPre (length proof.digest) 0 proof.tree → (pairs : List PairAt) × ArePairs proof pairs
some_list proof depths kept sound =
    let found = walked 0 (proof.digest ∷ []) (beside proof.tree depths) in
    (pairs_of found, record { found = found; pending = walk_found proof depths found kept sound refl; are = refl })

pub one_list : (proof : Detached) (a b : List PairAt) → ArePairs proof a → ArePairs proof b → a ≡ b
one_list proof a b p q =
    let node : p.pending.node ≡ q.pending.node = same_pre p.pending.node q.pending.node (p.pending.tree ∙ sym q.pending.tree) in
    let found : p.found ≡ q.found = p.pending.are ∙ ap (λ (t : Node). pending_from proof.digest 0 (paths t)) node ∙ sym q.pending.are in
    p.are ∙ ap pairs_of found ∙ sym q.are
