-- How many bytes the trees have that a calendar answers.
use Rattle.std.proofs.Common.{◌≡◌, ℕ, zero, suc, ◌+◌, ◌-◌, ◌*◌, ◌^◌, ◌<◌, ◌≤◌, Bool, true, false, List, [], ◌∷◌, ◌++◌, length, map, take, drop, get_or, nat_lt, refl, ap, arith, length-append, length-drop}
use Rattle.std.proofs.lemmas.Bool.{ltb-true, ltb-false}
use Rattle.std.proofs.lemmas.List.{length-map}
use Rattle.std.specs.Prelude.{Option, Some, None, find}
use Rattle.std.specs.Int.{w32, to_be_bytes}
use Rattle.std.specs.List.{AllByRecursion}
use Rattle.sha2.specs.Sha256.{sha256}
use Rattle.sha2.proofs.Facts256.{length-sha256}
use Rattle.ots_base.specs.declared.limits.TheConstants.{MAX_ARGUMENT}
use Rattle.ots_anchor.specs.Path.{hashed, before, after, twice, climb, complete_path, complete_way, AreSteps}
use Rattle.ots_attest.specs.Attestation.{payload, spell as spell_attestation}
use Rattle.ots_attest.specs.Uri.{IsUri}
use Rattle.ots_attest.specs.declared.attestation.Attestation.{Attestation}
use Rattle.ots_attest.specs.declared.attestation.Attestation.TheVariants as ending
use Rattle.ots_attest.proofs.Lengths.{spelled_length}
use Rattle.ots_journal.specs.declared.entry.Entry.{Entry}
use Rattle.ots_merkle.specs.CalendarTree.{root, root_within, path_within, path}
use Rattle.ots_merkle.specs.declared.branch.Side.{Side}
use Rattle.ots_merkle.specs.declared.branch.Side.TheVariants.{Left, Right}
use Rattle.ots_merkle.proofs.PathLaws.{path_at_height, path_lower, path_left, path_right, root_lower, root_split}
use Rattle.ots_ops.specs.Operation.{spell as spell_op}
use Rattle.ots_ops.specs.declared.op.Op.{Op}
use Rattle.ots_ops.specs.declared.op.Op.TheVariants.{Sha256, Append, Prepend}
use Rattle.ots_round.specs.Hmac.{hmac_sha256}
use Rattle.ots_round.specs.Round.{leaf, leaves, mac, signed, round_commitment, round_way}
use Rattle.ots_round.specs.declared.ticket.Ticket.{Ticket}
use Rattle.ots_store.specs.declared.anchor.Anchor.{Anchor}
use Rattle.ots_store.specs.Index.{least}
use Rattle.ots_store.specs.Order.{anchors_of, commits_of, covers, records_of}
use Rattle.ots_store.specs.Records.{FitsAnchor}
use Rattle.ots_store.specs.Store.{InRecords}
use Rattle.ots_tree.specs.Made.{lone}
use Rattle.ots_tree.specs.Wire.{pre, spelled}
use Rattle.ots_tree.specs.declared.token.Token.{Token}
use Rattle.ots_varint.proofs.OneNumber.{varuint_at_most_ten, varuint_at_most_two}
use Rattle.ots_varint.proofs.Written.{varbytes_length}
use Rattle.ots_calendar.specs.declared.answer.Answer.TheVariants.{Complete}
use Rattle.ots_calendar.specs.Answer.{answer, answer_of, answer_at, way_in}
use Rattle.ots_calendar.specs.Values.{span}
use Rattle.ots_calendar.proofs.Asked.{all_fit, found_has}
use Rattle.ots_calendar.proofs.WholeWay.{taken_few}

-- ---- operations

-- how many bytes they are spelled in
abbrev size : List Op → ℕ
size [] = 0
size (o ∷ ops) = length (spell_op o) + size ops

size_more : (a b : List Op) → size (a ++ b) ≡ size a + size b
size_more [] b = omega arith
size_more (o ∷ a) b = omega (arith, size_more a b)

-- a tree of one path
lone_size : (ops : List Op) (a : Attestation) → length (spelled (pre (lone ops a))) ≡ size ops + length (spell_attestation a)
lone_size [] a = omega (arith, length-append (spell_attestation a) [])
lone_size (o ∷ ops) a = omega (arith, length-append (spell_op o) (spelled (pre (lone ops a))), lone_size ops a)

append_size : (bytes : List ℕ) → length bytes ≤ MAX_ARGUMENT → length (spell_op (Append bytes)) ≤ 3 + length bytes
append_size bytes few = omega (arith, varbytes_length bytes, varuint_at_most_two (length bytes) (omega arith))

prepend_size : (bytes : List ℕ) → length bytes ≤ MAX_ARGUMENT → length (spell_op (Prepend bytes)) ≤ 3 + length bytes
prepend_size bytes few = omega (arith, varbytes_length bytes, varuint_at_most_two (length bytes) (omega arith))

-- ---- up a tree of hashes

-- not longer than a hash
abbrev IsShort : List ℕ → Type 0
IsShort hash = length hash ≤ 32

shorts_take : (n : ℕ) (hashes : List (List ℕ)) → AllByRecursion IsShort hashes → AllByRecursion IsShort (take n hashes)
shorts_take zero hashes are = tt
shorts_take (suc n) [] are = tt
shorts_take (suc n) (x ∷ hashes) are = (are.0, shorts_take n hashes are.1)

shorts_drop : (n : ℕ) (hashes : List (List ℕ)) → AllByRecursion IsShort hashes → AllByRecursion IsShort (drop n hashes)
shorts_drop zero hashes are = are
shorts_drop (suc n) [] are = tt
shorts_drop (suc n) (x ∷ hashes) are = shorts_drop n hashes are.1

sha_shorts : {A : Type 0} (f : A → List ℕ) (xs : List A) → AllByRecursion IsShort (map (λ x. sha256 (f x)) xs)
sha_shorts f [] = tt
sha_shorts f (x ∷ xs) = (omega (arith, length-sha256 (f x)), sha_shorts f xs)

first_short : (hashes : List (List ℕ)) → AllByRecursion IsShort hashes → length (get_or hashes 0 []) ≤ 32
first_short [] are = omega arith
first_short (x ∷ hashes) are = are.0

root_by : (h : ℕ) (hashes : List (List ℕ)) (more : Bool) → nat_lt (2 ^ h) (length hashes) ≡ more → length (root_within h hashes) ≤ 32 → length (root_within (suc h) hashes) ≤ 32
root_by h hashes true e below =
    omega (arith, ap length (root_split h hashes (ltb-true (2 ^ h) (length hashes) e)), length-sha256 (root_within h (take (2 ^ h) hashes) ++ root_within h (drop (2 ^ h) hashes)))
root_by h hashes false e below = omega (arith, ap length (root_lower h hashes (ltb-false (2 ^ h) (length hashes) e)))

root_short : (h : ℕ) (hashes : List (List ℕ)) → AllByRecursion IsShort hashes → length (root_within h hashes) ≤ 32
unfolding root_within
root_short zero hashes are = first_short hashes are
root_short (suc h) hashes are = root_by h hashes (nat_lt (2 ^ h) (length hashes)) refl (root_short h hashes are)

-- at each height a hash of 32 bytes is put beside, and then it is hashed
abbrev IsClimb : ℕ → Type 0
IsClimb h = (hashes : List (List ℕ)) (i : ℕ) → AllByRecursion IsShort hashes → size (path_within h hashes i) ≤ 36 * h

climb_by : (h : ℕ) (hashes : List (List ℕ)) (i : ℕ) (more here : Bool) → nat_lt (2 ^ h) (length hashes) ≡ more → nat_lt i (2 ^ h) ≡ here
    → IsClimb h → AllByRecursion IsShort hashes → size (path_within (suc h) hashes i) ≤ 36 * suc h
climb_by h hashes i false here e f below are = omega (arith, ap size (path_lower h hashes i (ltb-false (2 ^ h) (length hashes) e)), below hashes i are)
climb_by h hashes i true true e f below are =
    let left : List (List ℕ) = take (2 ^ h) hashes in
    let other : List ℕ = root_within h (drop (2 ^ h) hashes) in
    let few = root_short h (drop (2 ^ h) hashes) (shorts_drop (2 ^ h) hashes are) in
    omega (
      arith,
      ap size (path_left h hashes i (ltb-true (2 ^ h) (length hashes) e) (ltb-true i (2 ^ h) f)),
      size_more (path_within h left i) (Append other ∷ Sha256 ∷ []),
      append_size other (omega arith),
      below left i (shorts_take (2 ^ h) hashes are),
    )
climb_by h hashes i true false e f below are =
    let right : List (List ℕ) = drop (2 ^ h) hashes in
    let other : List ℕ = root_within h (take (2 ^ h) hashes) in
    let few = root_short h (take (2 ^ h) hashes) (shorts_take (2 ^ h) hashes are) in
    omega (
      arith,
      ap size (path_right h hashes i (ltb-true (2 ^ h) (length hashes) e) (ltb-false i (2 ^ h) f)),
      size_more (path_within h right (i - 2 ^ h)) (Prepend other ∷ Sha256 ∷ []),
      prepend_size other (omega arith),
      below right (i - 2 ^ h) (shorts_drop (2 ^ h) hashes are),
    )

climb_size : (h : ℕ) → IsClimb h
unfolding path_within
climb_size zero hashes i are = omega arith
climb_size (suc h) hashes i are = climb_by h hashes i (nat_lt (2 ^ h) (length hashes)) (nat_lt i (2 ^ h)) refl refl (climb_size h) are

path_size : (h : ℕ) (hashes : List (List ℕ)) (i : ℕ) → AllByRecursion IsShort hashes → length hashes ≤ 2 ^ h → size (path hashes i) ≤ 36 * h
path_size h hashes i are fits = omega (arith, climb_size h hashes i are, ap size (path_at_height h hashes i fits))

-- ---- up a block's tree

beside_size : (step : Side × List ℕ) (steps : List (Side × List ℕ)) → length step.1 ≡ 32 → size (climb (step ∷ steps)) ≤ 37 + size (climb steps)
beside_size (Left, hash) steps long = omega (arith, prepend_size hash (omega arith))
beside_size (Right, hash) steps long = omega (arith, append_size hash (omega arith))

branch_size : (branch : List (Side × List ℕ)) → AreSteps branch → size (climb branch) ≤ 37 * length branch
branch_size [] are = omega arith
branch_size (step ∷ steps) are = omega (arith, beside_size step steps are.0, branch_size steps are.1)

before_size : (bytes : List ℕ) → length bytes ≤ MAX_ARGUMENT → size (before bytes) ≤ 3 + length bytes
before_size [] few = omega arith
before_size (b ∷ bytes) few = omega (arith, prepend_size (b ∷ bytes) few)

after_size : (bytes : List ℕ) → length bytes ≤ MAX_ARGUMENT → size (after bytes) ≤ 3 + length bytes
after_size [] few = omega arith
after_size (b ∷ bytes) few = omega (arith, append_size (b ∷ bytes) few)

complete_size : (commits : List (List ℕ)) (i : ℕ) (a : Anchor) → length commits ≤ 2 ^ 32 → FitsAnchor a → size (complete_path commits i a.prefix a.suffix a.branch) ≤ 6500
unfolding complete_path complete_way
complete_size commits i a few fits =
    let rest = twice ++ climb a.branch in
    omega (
      arith,
      fits.message,
      fits.steps,
      path_size 32 (hashed commits) i (sha_shorts (λ c. c) commits) (omega (arith, length-map commits sha256)),
      size_more (path (hashed commits) i) (before a.prefix ++ (after a.suffix ++ rest)),
      size_more (before a.prefix) (after a.suffix ++ rest),
      size_more (after a.suffix) rest,
      size_more twice (climb a.branch),
      before_size a.prefix (omega (arith, fits.message)),
      after_size a.suffix (omega (arith, fits.message)),
      branch_size a.branch fits.hashes,
    )

-- ---- a whole answer

taken_at_most : {A : Type 0} (n : ℕ) (l : List A) → length (take n l) ≤ n
taken_at_most zero l = omega arith
taken_at_most (suc n) [] = omega arith
taken_at_most (suc n) (x ∷ l) = omega (arith, taken_at_most n l)

-- the commitment is the second, 4 bytes, the root and the first 8 bytes of the keyed hash
commitment_few : (key : List ℕ) (second : ℕ) (tickets : List Ticket) → length (round_commitment key second tickets) ≤ 44
unfolding root
commitment_few key second tickets =
    let top : List ℕ = root (leaves tickets) in
    let m : List ℕ = signed second top in
    omega (
      arith,
      root_short (length (leaves tickets)) (leaves tickets) (sha_shorts (λ (t : Ticket). t.leaf ++ t.nonce) tickets),
      length-append m (mac key m),
      length-append (to_be_bytes w32 second) top,
      taken_at_most 8 (hmac_sha256 key m),
    )

pub ticket_short : (key : List ℕ) (second : ℕ) (tickets : List Ticket) (i : ℕ) (ticket : Ticket) (uri : List ℕ) → length tickets ≤ 2 ^ 16 → length ticket.nonce ≡ 16 → IsUri uri
    → length (spelled (pre (lone (round_way key second tickets i ticket) (ending.Pending uri)))) < 10000
ticket_short key second tickets i ticket uri full sixteen is =
    let c : List ℕ = round_commitment key second tickets in
    let up : List Op = path (leaves tickets) i in
    let last : List Op = Prepend (take 4 c) ∷ Append (drop 36 c) ∷ [] in
    omega (
      arith,
      is.greatest,
      lone_size (round_way key second tickets i ticket) (ending.Pending uri),
      spelled_length (ending.Pending uri) is,
      varuint_at_most_ten (length (payload (ending.Pending uri))),
      varbytes_length uri,
      varuint_at_most_ten (length uri),
      append_size ticket.nonce (omega (arith, sixteen)),
      path_size 16 (leaves tickets) i (sha_shorts (λ (t : Ticket). t.leaf ++ t.nonce) tickets) (omega (arith, length-map tickets leaf)),
      size_more up last,
      prepend_size (take 4 c) (omega (arith, taken_few 4 c, commitment_few key second tickets)),
      append_size (drop 36 c) (omega (arith, length-drop 36 c, commitment_few key second tickets)),
      commitment_few key second tickets,
      taken_few 4 c,
      length-drop 36 c,
    )

found_size : (entries : List Entry) (i : ℕ) (tree : List Token) (o : Option Anchor) → InRecords entries → length (commits_of (records_of entries)) ≤ 2 ^ 32 → find (covers i) (anchors_of (records_of entries)) ≡ o
    → answer_at (commits_of (records_of entries)) i o ≡ Complete tree → length (spelled tree) < 10000
found_size entries i tree None are few found is = absurd (cc)
found_size entries i tree (Some a) are few found is =
    let commits : List (List ℕ) = commits_of (records_of entries) in
    let way : List Op = way_in commits i a in
    let same : pre (lone way (ending.Bitcoin a.height)) ≡ tree = cc in
    let fits = found_has FitsAnchor (covers i) (anchors_of (records_of entries)) a (all_fit entries are.each) found in
    let part : List (List ℕ) = span a.first a.count commits in
    omega (
      arith,
      ap (λ (t : List Token). length (spelled t)) same,
      lone_size way (ending.Bitcoin a.height),
      spelled_length (ending.Bitcoin a.height) (omega (arith, fits.0.height)),
      varuint_at_most_ten (length (payload (ending.Bitcoin a.height))),
      varuint_at_most_ten a.height,
      complete_size part (i - a.first) a (omega (arith, taken_few a.count (drop a.first commits), length-drop a.first commits)) fits.0,
    )

stored_size : (entries : List Entry) (tree : List Token) (o : Option ℕ) → InRecords entries → length (commits_of (records_of entries)) ≤ 2 ^ 32 → answer_of (records_of entries) o ≡ Complete tree → length (spelled tree) < 10000
stored_size entries tree None are few is = absurd (cc)
stored_size entries tree (Some i) are few is = found_size entries i tree (find (covers i) (anchors_of (records_of entries))) are few refl is

pub answer_short : (entries : List Entry) (c : List ℕ) (tree : List Token) → InRecords entries → length (commits_of (records_of entries)) ≤ 2 ^ 32 → answer (records_of entries) c ≡ Complete tree → length (spelled tree) < 10000
answer_short entries c tree are few is = stored_size entries tree (least c (commits_of (records_of entries))) are few is
