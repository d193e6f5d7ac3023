-- Whether a tree is sound for a pair.
use Rattle.std.proofs.Common.{◌≡◌, ◌↔◌, ℕ, ◌<◌, Bool, List, length, Option, Some, sym, subst}
use Rattle.std.specs.Prelude.{IsTrue}
use Rattle.std.specs.List.{slice_get}
use Rattle.ots_tree.specs.declared.token.Token.{Token}
use Rattle.ots_tree.specs.Sound.{IsSoundPre}
use Rattle.ots_pending.specs.Pairs.{PairAt}
use Rattle.ots_pending.specs.Completed.{IsSoundFor}
use Rattle.ots_pending.proofs.Lists.{get_there}

pub fits : (pairs : List PairAt) (i n k : ℕ) (tree : Option (List Token)) (ts : List Token) (b : Bool) → i < length pairs → tree ≡ Some ts
    → ((p : PairAt) → slice_get pairs i ≡ Some p → n ≡ length p.pair.message) → ((p : PairAt) → slice_get pairs i ≡ Some p → k ≡ p.depth) → IsTrue b ↔ IsSoundPre n k ts
    → IsTrue b ↔ IsSoundFor pairs i tree
fits pairs i n k tree ts b low is long deep h =
    let p = get_there pairs i low in (
      (λ yes. subst (IsSoundFor pairs i) (sym is) (λ q at.
          subst (λ (z : ℕ). IsSoundPre z q.depth ts) (long q at) (subst (λ (z : ℕ). IsSoundPre n z ts) (deep q at) (h.0 yes)))),
      (λ all.
          let one : IsSoundPre (length p.0.pair.message) p.0.depth ts = subst (IsSoundFor pairs i) is all p.0 p.1 in
          h.1 (subst (λ (z : ℕ). IsSoundPre n z ts) (sym (deep p.0 p.1)) (subst (λ (z : ℕ). IsSoundPre z p.0.depth ts) (sym (long p.0 p.1)) one))),
    )
