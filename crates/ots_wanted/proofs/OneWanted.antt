-- A proof wants one list of requests, and skips one number of pairs.
use Rattle.std.proofs.Common.{◌≡◌, ◌∙◌, ℕ, List, Bool, true, filter, map, sym, ap}
use Rattle.std.specs.Prelude.{count_by, not}
use Rattle.ots_wanted.specs.Wanted.{Asks, Wants, complete, draft, is_listed, pending, request_for}
use Rattle.ots_pending.specs.Pairs.{ArePairs, PairAt, pairs_of}
use Rattle.ots_sheet.specs.declared.request.Kind.{Kind}
use Rattle.ots_sheet.specs.Request.{RequestParts}
use Rattle.ots_tree.proofs.Determined.{same_pre}
use Rattle.ots_tree.specs.Pending.{pending_from}
use Rattle.ots_tree.specs.Wire.{Node, paths}
use Rattle.ots_tree.specs.declared.detached.Detached.{Detached}

one_pairs : (proof : Detached) (ps qs : List PairAt) → ArePairs proof ps → ArePairs proof qs → ps ≡ qs
one_pairs proof ps qs p q =
    let f = p.pending in
    let g = q.pending in
    let same : f.node ≡ g.node = same_pre f.node g.node (f.tree ∙ sym g.tree) in
    let found : p.found ≡ q.found = f.are ∙ ap (λ (t : Node). pending_from proof.digest 0 (paths t)) same ∙ sym g.are in
    p.are ∙ ap pairs_of found ∙ sym q.are

one_asked : (urls : List (List ℕ)) (kind : Kind) (proof : Detached) (v w : List RequestParts) (m n : ℕ) → Asks urls kind proof v m → Asks urls kind proof w n
    → (v ≡ w) × (m ≡ n)
one_asked urls kind proof v w m n a b =
    let same = one_pairs proof a.pairs b.pairs a.are b.are in (
      a.listed ∙ ap (λ (ps : List PairAt). filter (is_listed urls) (map (request_for kind) ps)) same ∙ sym b.listed,
      a.others ∙ ap (λ (ps : List PairAt). count_by (λ r. not (is_listed urls r)) (map (request_for kind) ps)) same ∙ sym b.others,
    )

pub one : (urls : List (List ℕ)) (all : Bool) (proof : Detached) (v w : List RequestParts) (m n : ℕ) → Wants urls all proof v m → Wants urls all proof w n
    → (v ≡ w) × (m ≡ n)
one urls all proof v w m n (draft ops d a) (draft ops' e b) = one_asked urls _ proof v w m n a b
one urls all proof v w m n (draft ops d a) (pending only h b) = absurd (only ops d)
one urls all proof v w m n (draft ops d a) (complete only h is none few) = absurd (only ops d)
one urls all proof v w m n (pending only h a) (draft ops d b) = absurd (only ops d)
one urls all proof v w m n (pending only h a) (pending only' h' b) = one_asked urls _ proof v w m n a b
one urls all proof v w m n (pending only h a) (complete only' has is none few) = let yes : all ≡ true = h has in absurd cc
one urls all proof v w m n (complete only has is none few) (draft ops d b) = absurd (only ops d)
one urls all proof v w m n (complete only has is none few) (pending only' h b) = let yes : all ≡ true = h has in absurd cc
one urls all proof v w m n (complete only has is none few) (complete only' has' is' none' few') = (none ∙ sym none', few ∙ sym few')
