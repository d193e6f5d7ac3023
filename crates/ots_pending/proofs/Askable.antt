-- The messages of pending paths are not empty, and few operations are before them.
use Rattle.std.proofs.Common.{◌≡◌, ℕ, zero, suc, ◌+◌, ◌≤◌, Bool, true, false, cond, List, [], ◌∷◌, map, length, max, Option, Some, None, refl, sym, ap, subst, ◌∙◌, arith}
use Rattle.std.specs.Prelude.{not, option_and_then, option_map}
use Rattle.std.specs.List.{AllByRecursion, filter, slice_get}
use Rattle.ots_ops.specs.declared.hash_op.HashOp.{HashOp}
use Rattle.ots_ops.specs.declared.hash_op.HashOp.TheVariants as hash
use Rattle.ots_ops.specs.declared.op.Op.{Op}
use Rattle.ots_ops.specs.declared.op.Op.TheVariants as op
use Rattle.ots_ops.specs.Apply.{applied}
use Rattle.ots_ops.specs.HashOp.{digest_length}
use Rattle.ots_ops.specs.ResultLength.{len, made}
use Rattle.ots_ops.specs.Value.{value}
use Rattle.ots_ops.proofs.AppliedLength.{length_of_applied}
use Rattle.ots_attest.specs.declared.attestation.Attestation.{Attestation}
use Rattle.ots_attest.specs.declared.attestation.Attestation.TheVariants as attestation
use Rattle.ots_tree.specs.declared.detached.Detached.{Detached}
use Rattle.ots_tree.specs.declared.pending.PendingAt.{PendingAt}
use Rattle.ots_tree.specs.Pending.{asked, pending_from}
use Rattle.ots_tree.specs.Sound.{length_after, IsSoundPath, IsSoundPre}
use Rattle.ots_tree.specs.Wire.{Node, Path, paths}
use Rattle.ots_tree.proofs.Closing.{all-append}
use Rattle.ots_tree.proofs.Determined.{same_pre}
use Rattle.ots_pending.specs.Pairs.{Pair, PairAt, asked_by, is_same, once, deepest, at_depth, pairs_of, ArePairs, IsAskable, AreAskable}
use Rattle.ots_pending.proofs.Lists.{some_same, none_some, get_mapped}

-- ---- lengths of values

is_made : (b : Bool) (n r : ℕ) → cond b (Some n) None ≡ Some r → r ≡ n
is_made false n r e = absurd (none_some r e)
is_made true n r e = sym (some_same n r e)

made_some : (o : Op) (n : ℕ) → 1 ≤ n → 1 ≤ made o n
made_some op.Sha1 n h = omega arith
made_some op.Ripemd160 n h = omega arith
made_some op.Sha256 n h = omega arith
made_some (op.Append x) n h = omega arith
made_some (op.Prepend x) n h = omega arith
made_some op.Reverse n h = h
made_some op.Hexlify n h = omega arith

step_length : (o : Op) (ops : List Op) (m x : List ℕ) (y : Option ℕ) → len o (length m) ≡ y → option_and_then (value ops) (option_map (λ n. applied o m) y) ≡ Some x
    → (value ops (applied o m) ≡ Some x → length_after ops (length (applied o m)) ≡ Some (length x)) → option_and_then (length_after ops) y ≡ Some (length x)
step_length o ops m x None e h others = absurd (none_some x h)
step_length o ops m x (Some r) e h others =
    let long : r ≡ length (applied o m) = is_made _ (made o (length m)) r e ∙ sym (length_of_applied o m) in
    ap (length_after ops) long ∙ others h

pub value_length : (ops : List Op) (m x : List ℕ) → value ops m ≡ Some x → length_after ops (length m) ≡ Some (length x)
value_length [] m x h = ap (λ (z : List ℕ). Some (length z)) (some_same m x h)
value_length (o ∷ ops) m x h = step_length o ops m x (len o (length m)) refl h (value_length ops (applied o m) x)

step_some : (o : Op) (ops : List Op) (m x : List ℕ) (y : Option ℕ) → option_and_then (value ops) (option_map (λ n. applied o m) y) ≡ Some x
    → (value ops (applied o m) ≡ Some x → 1 ≤ length x) → 1 ≤ length x
step_some o ops m x None h others = absurd (none_some x h)
step_some o ops m x (Some r) h others = others h

value_some : (ops : List Op) (m x : List ℕ) → 1 ≤ length m → value ops m ≡ Some x → 1 ≤ length x
value_some [] m x low h = subst (λ (z : List ℕ). 1 ≤ length z) (some_same m x h) low
value_some (o ∷ ops) m x low h =
    step_some o ops m x (len o (length m)) h (value_some ops (applied o m) x (subst (λ (z : ℕ). 1 ≤ z) (sym (length_of_applied o m)) (made_some o (length m) low)))

digest_some : (h : HashOp) → 1 ≤ digest_length h
digest_some hash.Sha1 = omega arith
digest_some hash.Ripemd160 = omega arith
digest_some hash.Sha256 = omega arith

-- ---- pending paths

record IsAsked (x : PendingAt) : Type 0 where
  least : 1 ≤ length x.message
  shallow : x.depth ≤ 255

one_asked : (n d : ℕ) (a : Attestation) (v : Option (List ℕ)) → d ≤ 255 → ((m : List ℕ) → v ≡ Some m → 1 ≤ length m) → AllByRecursion IsAsked (asked n d a v)
one_asked n d (attestation.Pending uri) (Some m) low some = (record { least = some m refl; shallow = low }, tt)
one_asked n d (attestation.Pending uri) None low some = tt
one_asked n d (attestation.Bitcoin height) v low some = tt
one_asked n d (attestation.Litecoin height) v low some = tt
one_asked n d (attestation.Unknown other) v low some = tt

all_asked : (digest : List ℕ) (n : ℕ) (ps : List Path) → 1 ≤ length digest → AllByRecursion (IsSoundPath (length digest) 0) ps → AllByRecursion IsAsked (pending_from digest n ps)
all_asked digest n [] low h = tt
all_asked digest n (p ∷ ps) low h =
    all-append IsAsked (asked n (length p.ops) p.end (value p.ops digest)) (pending_from digest (n + 1) ps)
    (one_asked n (length p.ops) p.end (value p.ops digest) (let short = h.0.short in omega arith) (λ m. value_some p.ops digest m low))
    (all_asked digest (n + 1) ps low h.1)

-- ---- their pairs

one_other : (Q : Pair → Type 0) (b : Bool) (q : Pair) (qs : List Pair) → Q q → AllByRecursion Q qs → AllByRecursion Q (cond b (q ∷ qs) qs)
one_other Q true q qs h all = (h, all)
one_other Q false q qs h all = all

all_others : (p : Pair) (Q : Pair → Type 0) (qs : List Pair) → AllByRecursion Q qs → AllByRecursion Q (filter (λ q. not (is_same p q)) qs)
all_others p Q [] h = tt
all_others p Q (q ∷ qs) h = one_other Q (not (is_same p q)) q (filter (λ r. not (is_same p r)) qs) h.0 (all_others p Q qs h.1)

all_once : (Q : Pair → Type 0) (ps : List Pair) → AllByRecursion Q ps → AllByRecursion Q (once ps)
all_once Q [] h = tt
all_once Q (p ∷ ps) h = (h.0, all_others p Q (once ps) (all_once Q ps h.1))

low_or_not : (b : Bool) (d e : ℕ) → d ≤ 255 → e ≤ 255 → cond b (max d e) e ≤ 255
low_or_not true d e h k = omega arith
low_or_not false d e h k = k

deepest_low : (p : Pair) (xs : List PendingAt) → AllByRecursion IsAsked xs → deepest p xs ≤ 255
deepest_low p [] h = omega arith
deepest_low p (x ∷ xs) h = low_or_not (is_same p (asked_by x)) x.depth (deepest p xs) h.0.shallow (deepest_low p xs h.1)

some_messages : (xs : List PendingAt) → AllByRecursion IsAsked xs → AllByRecursion (λ p. 1 ≤ length p.message) (map asked_by xs)
some_messages [] h = tt
some_messages (x ∷ xs) h = (h.0.least, some_messages xs h.1)

pub all_at : {X : Type 0} (P : X → Type 0) (xs : List X) (i : ℕ) (x : X) → AllByRecursion P xs → slice_get xs i ≡ Some x → P x
all_at P [] i x h e = absurd (none_some x e)
all_at P (y ∷ xs) zero x h e = subst P (some_same y x e) h.0
all_at P (y ∷ xs) (suc i) x h e = all_at P xs i x h.1 e

askable : (xs : List PendingAt) → AllByRecursion IsAsked xs → AreAskable (pairs_of xs)
askable xs h i p e =
    let q = get_mapped (at_depth xs) (once (map asked_by xs)) i p e in
    subst IsAskable q.2 (record {
      least = all_at (λ r. 1 ≤ length r.message) (once (map asked_by xs)) i q.0 (all_once (λ r. 1 ≤ length r.message) (map asked_by xs) (some_messages xs h)) q.1;
      shallow = deepest_low q.0 xs h;
    })

pub pairs_askable : (proof : Detached) (pairs : List PairAt) → length proof.digest ≡ digest_length proof.hash → IsSoundPre (length proof.digest) 0 proof.tree → ArePairs proof pairs → AreAskable pairs
pairs_askable proof pairs long sound h =
    let low : 1 ≤ length proof.digest = subst (λ (z : ℕ). 1 ≤ z) (sym long) (digest_some proof.hash) in
    let t = h.pending.node in
    let one : sound.0 ≡ t = same_pre sound.0 t (sound.2 ∙ sym h.pending.tree) in
    let all : AllByRecursion (IsSoundPath (length proof.digest) 0) (paths t) = subst (λ (z : Node). AllByRecursion (IsSoundPath (length proof.digest) 0) (paths z)) one sound.1 in
    let found : AllByRecursion IsAsked h.found = subst (AllByRecursion IsAsked) (sym h.pending.are) (all_asked proof.digest 0 (paths t) low all) in
    subst AreAskable (sym h.are) (askable h.found found)
