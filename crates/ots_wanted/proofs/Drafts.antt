-- Drafts have no Bitcoin path, and each of their pairs waits to be sent, with a message of 32 bytes.
use Rattle.std.proofs.Common.{◌≡◌, ◌∙◌, ℕ, zero, suc, ◌+◌, Bool, true, false, cond, List, [], ◌∷◌, length, map, Some, Bor, refl, sym, ap, subst, arith, rules}
use Rattle.std.specs.Prelude.{Option, None, IfNone, IfSome, IsSome, not}
use Rattle.std.specs.List.{AllByRecursion, filter, slice_get}
use Rattle.ots_wanted.specs.inner.Asking.{AreFit, HasAddress}
use Rattle.ots_attest.specs.declared.attestation.Attestation.{Attestation}
use Rattle.ots_attest.specs.declared.attestation.Attestation.TheVariants.{Pending, Bitcoin}
use Rattle.ots_draft.proofs.Lists.{at_has}
use Rattle.ots_draft.specs.Draft.{IsDraft, IsPost, Waits}
use Rattle.ots_ops.specs.Value.{value}
use Rattle.ots_ops.specs.declared.op.Op.{Op}
use Rattle.ots_pending.specs.Bitcoin.{HasBitcoin}
use Rattle.ots_pending.specs.Pairs.{Pair, PairAt, ArePairs, AreAskable, asked_by, at_depth, is_same, once}
use Rattle.ots_sheet.specs.declared.request.Kind.{Kind}
use Rattle.ots_sheet.specs.declared.request.Kind.TheVariants.{Get, Post}
use Rattle.ots_tree.proofs.Closing.{all-append}
use Rattle.ots_tree.proofs.Determined.{same_pre}
use Rattle.ots_tree.specs.Pending.{asked, pending_from}
use Rattle.ots_tree.specs.Wire.{Node, Path, paths}
use Rattle.ots_tree.specs.declared.detached.Detached.{Detached}
use Rattle.ots_tree.specs.declared.pending.PendingAt.{PendingAt}

pub no_bitcoin : (proof : Detached) (ops : List Op) → IsDraft proof ops → HasBitcoin proof.tree → ⊥
no_bitcoin proof ops d h =
    let same : d.node ≡ h.node = same_pre d.node h.node (d.are ∙ sym h.are) in
    let all = subst (λ (t : Node). AllByRecursion (Waits ops) (paths t)) same d.wait in
    let waits = at_has (Waits ops) (paths h.node) h.path all h.among in
    let clash : Pending waits.uri ≡ Bitcoin h.height = sym waits.pending ∙ h.ends in
    absurd cc

pub found_draft : (proof : Detached) (found : Option (List Op)) (ops : List Op) → IfSome found (IsDraft proof) → found ≡ Some ops → IsDraft proof ops
found_draft proof found ops some is = subst (λ (f : Option (List Op)). IfSome f (IsDraft proof)) is some

-- ---- pending paths of a draft

-- the pair waits to be sent with this message
record IsPosted (message : List ℕ) (q : Pair) : Type 0 where
  address : List ℕ
  post : IsPost q.uri address
  same : q.message ≡ message

abbrev IsPostedAt : List ℕ → PendingAt → Type 0
IsPostedAt message x = IsPosted message (asked_by x)

one_posted : (digest message : List ℕ) (ops : List Op) (n : ℕ) (p : Path) → value ops digest ≡ Some message → Waits ops p
    → AllByRecursion (IsPostedAt message) (asked n (length p.ops) p.end (value p.ops digest))
one_posted digest message ops n p reached w =
    let is : value p.ops digest ≡ Some message = ap (λ (os : List Op). value os digest) w.same ∙ reached in
    subst (λ (a : Attestation). AllByRecursion (IsPostedAt message) (asked n (length p.ops) a (value p.ops digest))) (sym w.pending)
    (rw is (record { address = w.address; post = w.post; same = refl }, tt))

all_posted : (digest message : List ℕ) (ops : List Op) (n : ℕ) (ps : List Path) → value ops digest ≡ Some message → AllByRecursion (Waits ops) ps
    → AllByRecursion (IsPostedAt message) (pending_from digest n ps)
all_posted digest message ops n [] reached all = tt
all_posted digest message ops n (p ∷ ps) reached all =
    all-append (IsPostedAt message) (asked n (length p.ops) p.end (value p.ops digest)) (pending_from digest (n + 1) ps)
    (one_posted digest message ops n p reached all.0) (all_posted digest message ops (n + 1) ps reached all.1)

-- ---- their pairs

all_asked : (Q : Pair → Type 0) (xs : List PendingAt) → AllByRecursion (λ x. Q (asked_by x)) xs → AllByRecursion Q (map asked_by xs)
all_asked Q [] all = tt
all_asked Q (x ∷ xs) all = (all.0, all_asked Q xs all.1)

one_other : (Q : Pair → Type 0) (b : Bool) (q : Pair) (qs : List Pair) → Q q → AllByRecursion Q qs → AllByRecursion Q (cond b (q ∷ qs) qs)
one_other Q true q qs h all = (h, all)
one_other Q false q qs h all = all

all_others : (p : Pair) (Q : Pair → Type 0) (qs : List Pair) → AllByRecursion Q qs → AllByRecursion Q (filter (λ q. not (is_same p q)) qs)
all_others p Q [] h = tt
all_others p Q (q ∷ qs) h = one_other Q (not (is_same p q)) q (filter (λ r. not (is_same p r)) qs) h.0 (all_others p Q qs h.1)

all_once : (Q : Pair → Type 0) (ps : List Pair) → AllByRecursion Q ps → AllByRecursion Q (once ps)
all_once Q [] h = tt
all_once Q (p ∷ ps) h = (h.0, all_others p Q (once ps) (all_once Q ps h.1))

at_pair : (Q : Pair → Type 0) (found : List PendingAt) (qs : List Pair) (i : ℕ) (p : PairAt) → AllByRecursion Q qs → slice_get (map (at_depth found) qs) i ≡ Some p → Q p.pair
at_pair Q found [] i p all at = absurd cc
at_pair Q found (q ∷ qs) zero p all at = let same : at_depth found q ≡ p = cc in subst (λ (r : PairAt). Q r.pair) same all.0
at_pair Q found (q ∷ qs) (suc i) p all at = at_pair Q found qs i p all.1 at

posted_at : (proof : Detached) (ops : List Op) (pairs : List PairAt) (i : ℕ) (p : PairAt) → (d : IsDraft proof ops) → ArePairs proof pairs → slice_get pairs i ≡ Some p
    → IsPosted d.message p.pair
posted_at proof ops pairs i p d are at =
    let pending = are.pending in
    let same : d.node ≡ pending.node = same_pre d.node pending.node (d.are ∙ sym pending.tree) in
    let all = subst (λ (t : Node). AllByRecursion (Waits ops) (paths t)) same d.wait in
    let posted = all_posted proof.digest d.message ops 0 (paths pending.node) d.reached all in
    let found = subst (AllByRecursion (IsPostedAt d.message)) (sym pending.are) posted in
    at_pair (IsPosted d.message) are.found (once (map asked_by are.found)) i p
    (all_once (IsPosted d.message) (map asked_by are.found) (all_asked (IsPosted d.message) are.found found))
    (ap (λ (ps : List PairAt). slice_get ps i) (sym are.are) ∙ at)

-- ---- what can be asked for

pub draft_fits : (proof : Detached) (ops : List Op) (pairs : List PairAt) → IsDraft proof ops → ArePairs proof pairs → AreFit Post pairs
draft_fits proof ops pairs d are i p at =
    let posted = posted_at proof ops pairs i p d are at in
    let long : length p.pair.message ≡ 32 = ap length posted.same ∙ d.hash_long in
    record { address = (posted.address, posted.post); least = omega (arith, long); hash_long = λ _. long }

pub proof_fits : (pairs : List PairAt) → AreAskable pairs → AreFit Get pairs
proof_fits pairs askable i p at = record { address = tt; least = (askable i p at).least; hash_long = λ e. absurd cc }

-- ---- the address of a URI

pub named : (kind : Kind) (uri : List ℕ) (found : Option (Bor (List ℕ))) → kind ≡ Post → HasAddress kind uri
    → IfNone found ((address : List ℕ) → IsPost uri address → ⊥) → IsSome found
named kind uri None is has none = let post = subst (λ (k : Kind). HasAddress k uri) is has in absurd (none post.0 post.1)
named kind uri (Some address) is has none = search rules
