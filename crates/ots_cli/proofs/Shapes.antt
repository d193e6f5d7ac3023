-- What calendars are asked for has a shape that a proof may have: a message of 1 to 4096 bytes below at most 255 operations.
use Rattle.std.proofs.Common.{◌≡◌, ℕ, ◌+◌, ◌≤◌, Bool, true, false, cond, ◌&&◌, nat_le, List, [], ◌∷◌, map, length, max, Option, Some, None, refl, sym, subst, ◌∙◌, arith}
use Rattle.std.specs.Prelude.{not, option_and_then, option_map}
use Rattle.std.specs.List.{AllByRecursion, cons_option}
use Rattle.std.proofs.lemmas.Bool.{leb-true}
use Rattle.std.proofs.lemmas.List.{length-map}
use Rattle.std.proofs.lemmas.List.Elements.{All-filter, All-from_recursion, recursion_from_All}
use Rattle.ots_address.specs.Address.{AddressParts}
use Rattle.ots_asking.specs.Conversation.{Question}
use Rattle.ots_attest.specs.declared.attestation.Attestation.{Attestation}
use Rattle.ots_attest.specs.declared.attestation.Attestation.TheVariants as attestation
use Rattle.ots_base.specs.declared.limits.TheConstants.{MAX_MESSAGE}
use Rattle.ots_detached.specs.File.{IsFileOf}
use Rattle.ots_merkle.proofs.PathLaws.{path_leads, path_short}
use Rattle.ots_merkle.specs.CalendarTree.{path, root}
use Rattle.ots_merkle.specs.Hashes.{AreHashes}
use Rattle.ots_ops.proofs.AppliedLength.{length_of_applied, length_of_hashed}
use Rattle.ots_ops.specs.Apply.{applied, apply}
use Rattle.ots_ops.specs.HashOp.{digest_length}
use Rattle.ots_ops.specs.ResultLength.{fewest, made, most}
use Rattle.ots_ops.specs.Value.{value}
use Rattle.ots_ops.specs.declared.hash_op.HashOp.{HashOp}
use Rattle.ots_ops.specs.declared.hash_op.HashOp.TheVariants as hash
use Rattle.ots_ops.specs.declared.op.Op.{Op}
use Rattle.ots_ops.specs.declared.op.Op.TheVariants as op
use Rattle.ots_pending.specs.Pairs.{ArePairs, Pair, PairAt, asked_by, at_depth, deepest, is_same, once}
use Rattle.ots_reader.specs.OneAnswer.{IsShape}
use Rattle.ots_stamp.specs.Stamped.{leaf, leaves}
use Rattle.ots_stamp.specs.Stamping.{to_stamp}
use Rattle.ots_stamp.specs.Ways.{IsDepth}
use Rattle.ots_stamp.specs.declared.target.Target.{Target}
use Rattle.ots_tree.proofs.Closing.{all-append}
use Rattle.ots_tree.proofs.Determined.{same_pre}
use Rattle.ots_tree.specs.Pending.{asked, pending_from}
use Rattle.ots_tree.specs.Sound.{IsSound, IsSoundPath}
use Rattle.ots_tree.specs.Wire.{Node, Path, paths}
use Rattle.ots_tree.specs.declared.detached.Detached.{Detached}
use Rattle.ots_tree.specs.declared.pending.PendingAt.{PendingAt}
use Rattle.ots_upgrade.specs.Upgrading.{address_of, questions, to_get}

abbrev pub AreShaped : List Question → Type 0
AreShaped = AllByRecursion (λ (q : Question). IsShape q.length q.depth)

-- as long as a message may be
abbrev IsMessage : List ℕ → Type 0
IsMessage m = IsShape (length m) 0

-- ---- operations make messages of messages

last : (a b c : Bool) → (a && b && c) ≡ true → c ≡ true
last a b true e = refl
last true true false e = absurd cc
last true false false e = absurd cc
last false b false e = absurd cc

made_some : (o : Op) (n : ℕ) → 1 ≤ n → 1 ≤ made o n
made_some op.Sha1 n h = omega arith
made_some op.Ripemd160 n h = omega arith
made_some op.Sha256 n h = omega arith
made_some (op.Append x) n h = omega arith
made_some (op.Prepend x) n h = omega arith
made_some op.Reverse n h = h
made_some op.Hexlify n h = omega arith

result_is : (fits : Bool) (n : ℕ) (made x : List ℕ) → option_map (λ n. made) (cond fits (Some n) None) ≡ Some x → (fits ≡ true) × (made ≡ x)
result_is true n made x e = (refl, cc)
result_is false n made x e = absurd cc

result_fits : (o : Op) (m x : List ℕ) → IsMessage m → apply o m ≡ Some x → IsMessage x
result_fits o m x h e =
    let n = length m in
    let is = result_is (nat_le (fewest o) n && nat_le n (most o) && nat_le (made o n) MAX_MESSAGE) (made o n) (applied o m) x e in
    let low : made o n ≤ 4096 = leb-true (made o n) 4096 (last (nat_le (fewest o) n) (nat_le n (most o)) (nat_le (made o n) MAX_MESSAGE) is.0) in
    let some = made_some o n h.least in
    let long = length_of_applied o m in
    subst IsMessage is.1 (record { least = omega (arith, some, long); greatest = omega (arith, low, long); depth = omega arith })

then_fits : (f : List ℕ → Option (List ℕ)) (x : Option (List ℕ)) (y : List ℕ) → option_and_then f x ≡ Some y
    → ((m : List ℕ) → x ≡ Some m → f m ≡ Some y → IsMessage y) → IsMessage y
then_fits f None y e each = absurd cc
then_fits f (Some m) y e each = each m refl e

value_fits : (ops : List Op) (m x : List ℕ) → IsMessage m → value ops m ≡ Some x → IsMessage x
value_fits [] m x h e = let same : m ≡ x = cc in subst IsMessage same h
value_fits (o ∷ ops) m x h e = then_fits (value ops) (apply o m) x e (λ r is. value_fits ops r x (result_fits o m r h is))

digest_fits : (h : HashOp) → IsShape (digest_length h) 0
digest_fits hash.Sha1 = record { least = omega arith; greatest = omega arith; depth = omega arith }
digest_fits hash.Ripemd160 = record { least = omega arith; greatest = omega arith; depth = omega arith }
digest_fits hash.Sha256 = record { least = omega arith; greatest = omega arith; depth = omega arith }

-- ---- the root over at most 1024 files

leaf_length : (t : Target) → length (leaf t) ≡ 32
leaf_length t = length_of_hashed hash.Sha256 _

are_hashes : (ts : List Target) → AreHashes (leaves ts)
are_hashes [] = tt
are_hashes (t ∷ ts) = (leaf_length t, are_hashes ts)

root_fits : (ts : List Target) (depth : ℕ) → length ts ≤ 1024 → IsDepth (leaves ts) depth → IsShape (length (root (leaves ts))) depth
root_fits [] depth few lowest = absurd (let none = lowest.longest.1 in omega arith)
root_fits (t ∷ ts) depth few lowest =
    let is = lowest.longest.2 in
    let short = path_short 10 (leaves (t ∷ ts)) lowest.longest.0 (omega (arith, length-map ts leaf)) in
    let first : IsMessage (leaf t) = subst (λ (n : ℕ). IsShape n 0) (sym (leaf_length t)) (digest_fits hash.Sha256) in
    let top : IsMessage (root (leaves (t ∷ ts))) = value_fits (path (leaves (t ∷ ts)) 0) (leaf t) _ first (path_leads (leaves (t ∷ ts)) 0 (are_hashes (t ∷ ts)) (omega arith)) in
    record { least = top.least; greatest = top.greatest; depth = omega (arith, short, is) }

to_each : (calendars : List AddressParts) (root : List ℕ) (depth : ℕ) → IsShape (length root) depth → AreShaped (map (to_stamp root depth) calendars)
to_each [] root depth h = tt
to_each (a ∷ calendars) root depth h = (h, to_each calendars root depth h)

pub stamp_shaped : (calendars : List AddressParts) (ts : List Target) (depth : ℕ) → length ts ≤ 1024 → IsDepth (leaves ts) depth
    → AreShaped (map (to_stamp (root (leaves ts)) depth) calendars)
stamp_shaped calendars ts depth few lowest = to_each calendars (root (leaves ts)) depth (root_fits ts depth few lowest)

-- ---- the pairs of a proof

abbrev AreFound : List PendingAt → Type 0
AreFound = AllByRecursion (λ (x : PendingAt). IsShape (length x.message) x.depth)

one_found : (n d : ℕ) (a : Attestation) (v : Option (List ℕ)) → d ≤ 255 → ((m : List ℕ) → v ≡ Some m → IsMessage m) → AreFound (asked n d a v)
one_found n d (attestation.Pending uri) (Some m) low h = let is = h m refl in (record { least = is.least; greatest = is.greatest; depth = low }, tt)
one_found n d (attestation.Pending uri) None low h = tt
one_found n d (attestation.Bitcoin height) v low h = tt
one_found n d (attestation.Litecoin height) v low h = tt
one_found n d (attestation.Unknown other) v low h = tt

all_found : (digest : List ℕ) (n : ℕ) (ps : List Path) → IsMessage digest → AllByRecursion (IsSoundPath (length digest) 0) ps → AreFound (pending_from digest n ps)
all_found digest n [] fits h = tt
all_found digest n (p ∷ ps) fits h =
    all-append _ (asked n (length p.ops) p.end (value p.ops digest)) (pending_from digest (n + 1) ps)
    (one_found n (length p.ops) p.end (value p.ops digest) (let short = h.0.short in omega arith) (λ m. value_fits p.ops digest m fits))
    (all_found digest (n + 1) ps fits h.1)

low_or_not : (b : Bool) (d e : ℕ) → d ≤ 255 → e ≤ 255 → cond b (max d e) e ≤ 255
low_or_not true d e h k = omega arith
low_or_not false d e h k = k

deepest_low : (p : Pair) (xs : List PendingAt) → AreFound xs → deepest p xs ≤ 255
deepest_low p [] h = omega arith
deepest_low p (x ∷ xs) h = low_or_not (is_same p (asked_by x)) x.depth (deepest p xs) h.0.depth (deepest_low p xs h.1)

abbrev AreAsked : List Pair → Type 0
AreAsked = AllByRecursion (λ (p : Pair). IsMessage p.message)

all_asked : (xs : List PendingAt) → AreFound xs → AreAsked (map asked_by xs)
all_asked [] h = tt
all_asked (x ∷ xs) h = (record { least = h.0.least; greatest = h.0.greatest; depth = omega arith }, all_asked xs h.1)

all_once : (ps : List Pair) → AreAsked ps → AreAsked (once ps)
all_once [] h = tt
all_once (p ∷ ps) h =
    (h.0, recursion_from_All _ _ (All-filter (λ q. not (is_same p q)) (λ q. IsMessage q.message) (once ps) (All-from_recursion _ (once ps) (all_once ps h.1))))

asked_if : (a : Option AddressParts) (p : PairAt) (qs : List Question) → IsShape (length p.pair.message) p.depth → AreShaped qs
    → AreShaped (cons_option (option_map (to_get p.pair.message p.depth) a) qs)
asked_if None p qs h all = all
asked_if (Some a) p qs h all = (h, all)

all_shaped : (calendars : List AddressParts) (xs : List PendingAt) (ps : List Pair) → AreFound xs → AreAsked ps → AreShaped (questions calendars (map (at_depth xs) ps))
all_shaped calendars xs [] found h = tt
all_shaped calendars xs (p ∷ ps) found h =
    asked_if (address_of calendars p.uri) (at_depth xs p) (questions calendars (map (at_depth xs) ps))
    (record { least = h.0.least; greatest = h.0.greatest; depth = deepest_low p xs found }) (all_shaped calendars xs ps found h.1)

pub upgrade_shaped : (calendars : List AddressParts) (bytes : List ℕ) (proof : Detached) (pairs : List PairAt) → IsFileOf bytes proof → ArePairs proof pairs
    → AreShaped (questions calendars pairs)
upgrade_shaped calendars bytes proof pairs is are =
    let t : Node = are.pending.node in
    let digest : IsMessage proof.digest = subst (λ (n : ℕ). IsShape n 0) (sym is.has_file.digest) (digest_fits proof.hash) in
    let sound : IsSound (length proof.digest) 0 t = subst (IsSound (length proof.digest) 0) (same_pre is.tree t (is.tokens ∙ sym are.pending.tree)) is.has_file.sound in
    let found : AreFound are.found = subst AreFound (sym are.pending.are) (all_found proof.digest 0 (paths t) digest sound) in
    subst (λ (z : List PairAt). AreShaped (questions calendars z)) (sym are.are)
    (all_shaped calendars are.found (once (map asked_by are.found)) found (all_once (map asked_by are.found) (all_asked are.found found)))
