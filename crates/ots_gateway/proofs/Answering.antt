-- What calendars answer a round, and how many bytes it has.
use Rattle.std.proofs.Common.{◌≡◌, ◌<◌, ◌≤◌, ℕ, zero, suc, ◌+◌, ◌-◌, ◌*◌, ◌^◌, Bool, true, false, cond, nat_lt, List, [], ◌∷◌, ◌++◌, length, take, drop, get_or, map, Option, Some, None, refl, sym, ap, subst, ◌∙◌, arith, length-append, length-drop, length-take-le}
use Rattle.std.specs.Prelude.{if◌then◌else◌, nat_le}
use Rattle.std.specs.List.{flat_map}
use Rattle.std.proofs.lemmas.Bool.{lt-ltb, leb-false}
use Rattle.std.proofs.lemmas.Grind.{flat_map-append}
use Rattle.std.proofs.lemmas.List.{take_at}
use Rattle.std.proofs.lemmas.Nat.{pow_pos}
use Rattle.sha2.proofs.Facts256.{length-sha256}
use Rattle.ots_base.specs.declared.limits.TheConstants.{MAX_REPLY_BODY}
use Rattle.ots_varint.specs.Varuint.{varbytes, varuint}
use Rattle.ots_ops.specs.Operation.{spell}
use Rattle.ots_ops.specs.declared.op.Op.{Op}
use Rattle.ots_ops.specs.declared.op.Op.TheVariants.{Append, Prepend, Sha256}
use Rattle.ots_merkle.specs.CalendarTree.{path, path_within, root, root_within}
use Rattle.ots_merkle.specs.Hashes.{AreHashes}
use Rattle.ots_tree.specs.declared.token.Token.{Token}
use Rattle.ots_tree.specs.Made.{chain, joined}
use Rattle.ots_tree.specs.Wire.{Node, last, more, pre, pre_item, spelled}
use Rattle.ots_tree.specs.Wire.{spell as spell_token}
use Rattle.ots_tree.specs.declared.token.Token.TheVariants as token
use Rattle.ots_address.specs.Address.{AddressParts}
use Rattle.ots_outside.specs.Dialer.{DialerTold}
use Rattle.ots_asking.specs.Conversation.{Converse}
use Rattle.ots_asking.specs.Outcome.{AreSound}
use Rattle.ots_stamp.specs.Stamped.{AreJoined, Gathers, GathersAny, good_trees, joined_all}
use Rattle.ots_stamp.specs.Stamping.{to_stamp}
use Rattle.ots_stamp.specs.Ways.{IsDepth, way_from}
use Rattle.ots_asking.specs.declared.outcome.Outcome.{Outcome}
use Rattle.ots_gateway.proofs.Taken.{all_fit, good_taken}
use Rattle.ots_gateway.specs.Answer.{Fit, IsAnswer, way_bytes}
use Rattle.ots_gateway.specs.Round.{Asks, Given, IsGiven, asked, below, too_few}
use Rattle.ots_gateway.specs.Taking.{size, sizes, taken, taking}
use Rattle.ots_gateway.specs.Ways.{IsLongestWay, leaves, spelled_size}
use Rattle.ots_gateway.specs.declared.answer.Answer.{Answer}
use Rattle.ots_gateway.specs.declared.waiting.Waiting.{Waiting}

-- ---- a root has 32 bytes

length_chosen : (which : Bool) (x y : List ℕ) → length x ≡ 32 → length y ≡ 32 → length (cond which x y) ≡ 32
length_chosen true x y lx ly = lx
length_chosen false x y lx ly = ly

first_hash : (hashes : List (List ℕ)) → AreHashes hashes → 0 < length hashes → length (get_or hashes 0 []) ≡ 32
first_hash [] are some = absurd (omega arith)
first_hash (hash ∷ hashes) are some = are.0

length_root : (h : ℕ) (hashes : List (List ℕ)) → AreHashes hashes → 0 < length hashes → length (root_within h hashes) ≡ 32
unfolding root_within
length_root zero hashes are some = first_hash hashes are some
length_root (suc h) hashes are some = length_chosen _ _ _ (length_root h hashes are some) (length-sha256 _)

hashes_take : (n : ℕ) (hashes : List (List ℕ)) → AreHashes hashes → AreHashes (take n hashes)
hashes_take zero hashes are = tt
hashes_take (suc n) [] are = tt
hashes_take (suc n) (x ∷ hashes) are = (are.0, hashes_take n hashes are.1)

hashes_drop : (n : ℕ) (hashes : List (List ℕ)) → AreHashes hashes → AreHashes (drop n hashes)
hashes_drop zero hashes are = are
hashes_drop (suc n) [] are = tt
hashes_drop (suc n) (x ∷ hashes) are = hashes_drop n hashes are.1

-- the leaves of the digests that wait
pub are_leaves : (waiting : List Waiting) → AreHashes (leaves waiting)
are_leaves [] = tt
are_leaves (w ∷ waiting) = (length-sha256 (w.digest ++ w.nonce), are_leaves waiting)

-- ---- how many bytes a way has

-- Operations that are so many pairs of 35 bytes.
record ArePairs (ops : List Op) : Type 0 where
  pub count : ℕ
  pub long : length ops ≡ 2 * count
  pub size : spelled_size ops ≡ 35 * count

-- an argument is spelled after its length
argument_size : (x : List ℕ) → length x < 128 → length (varbytes x) ≡ 1 + length x
unfolding varbytes varuint
argument_size x short = rw (lt-ltb (length x) 128 short) (omega arith)

size_cons : (o : Op) (ops : List Op) → spelled_size (o ∷ ops) ≡ length (spell o) + spelled_size ops
size_cons o ops = length-append (spell o) (flat_map spell ops)

size_append : (a b : List Op) → spelled_size (a ++ b) ≡ spelled_size a + spelled_size b
size_append a b = ap length (flat_map-append spell a b) ∙ length-append (flat_map spell a) (flat_map spell b)

-- one root more is put after or before, and hashed
pairs_more : (ops : List Op) (o : Op) (other : List ℕ) → length (spell o) ≡ suc (length (varbytes other)) → length other ≡ 32
    → ArePairs ops → ArePairs (ops ++ o ∷ Sha256 ∷ [])
pairs_more ops o other spells long pairs = record {
  count = pairs.count + 1;
  long = omega (arith, pairs.long, length-append ops (o ∷ Sha256 ∷ []));
  size = let one : spelled_size (Sha256 ∷ []) ≡ 1 = refl in
      omega (
        arith,
        spells,
        argument_size other (omega (arith, long)),
        long,
        one,
        pairs.size,
        size_append ops (o ∷ Sha256 ∷ []),
        size_cons o (Sha256 ∷ []),
      );
}

pairs_by : (h : ℕ) (leaves : List (List ℕ)) (i : ℕ) (fits here : Bool) → nat_le (length leaves) (2 ^ h) ≡ fits → AreHashes leaves
    → ((part : List (List ℕ)) (j : ℕ) → AreHashes part → ArePairs (path_within h part j))
    → ArePairs (if fits then path_within h leaves i
    else if here then path_within h (take (2 ^ h) leaves) i ++ Append (root_within h (drop (2 ^ h) leaves)) ∷ Sha256 ∷ []
    else path_within h (drop (2 ^ h) leaves) (i - 2 ^ h) ++ Prepend (root_within h (take (2 ^ h) leaves)) ∷ Sha256 ∷ [])
pairs_by h leaves i true here is are lower = lower leaves i are
pairs_by h leaves i false true is are lower =
    let left : List (List ℕ) = take (2 ^ h) leaves in
    let right : List (List ℕ) = drop (2 ^ h) leaves in
    let some : 0 < length right = omega (arith, leb-false (length leaves) (2 ^ h) is, length-drop (2 ^ h) leaves) in
    pairs_more (path_within h left i) (Append (root_within h right)) (root_within h right) refl
    (length_root h right (hashes_drop (2 ^ h) leaves are) some) (lower left i (hashes_take (2 ^ h) leaves are))
pairs_by h leaves i false false is are lower =
    let left : List (List ℕ) = take (2 ^ h) leaves in
    let right : List (List ℕ) = drop (2 ^ h) leaves in
    let many : 2 ^ h < length leaves = leb-false (length leaves) (2 ^ h) is in
    let some : 0 < length left = omega (arith, pow_pos h, length-take-le (2 ^ h) leaves (omega (arith, many))) in
    pairs_more (path_within h right (i - 2 ^ h)) (Prepend (root_within h left)) (root_within h left) refl
    (length_root h left (hashes_take (2 ^ h) leaves are) some) (lower right (i - 2 ^ h) (hashes_drop (2 ^ h) leaves are))

pairs_within : (h : ℕ) (leaves : List (List ℕ)) (i : ℕ) → AreHashes leaves → ArePairs (path_within h leaves i)
unfolding path_within
pairs_within zero leaves i are = record { count = 0; long = refl; size = refl }
pairs_within (suc h) leaves i are = pairs_by h leaves i (nat_le (length leaves) (2 ^ h)) (nat_lt i (2 ^ h)) refl are (pairs_within h)

pairs_of : (leaves : List (List ℕ)) (i : ℕ) → AreHashes leaves → ArePairs (path leaves i)
unfolding path
pairs_of leaves i are = pairs_within (length leaves) leaves i are

-- a nonce is put after the digest, that is hashed, and the path follows
way_size : (leaves : List (List ℕ)) (i : ℕ) (nonce : List ℕ) → length nonce ≡ 16
    → spelled_size (way_from leaves i nonce) ≡ 19 + spelled_size (path leaves i)
way_size leaves i nonce long = omega (
  arith,
  long,
  argument_size nonce (omega arith),
  size_cons (Append nonce) (Sha256 ∷ path leaves i),
  size_cons Sha256 (path leaves i),
)

bytes_of : (depth count : ℕ) → 2 * count + 2 ≡ depth → way_bytes depth ≡ 19 + 35 * count
bytes_of depth count is = omega (arith, is)

longest_way : (leaves : List (List ℕ)) (depth : ℕ) → AreHashes leaves → IsDepth leaves depth → IsLongestWay leaves (way_bytes depth)
longest_way leaves depth are deepest =
    let (far, within, long) = deepest.longest in
    let top : ArePairs (path leaves far) = pairs_of leaves far are in
    let whole : way_bytes depth ≡ 19 + 35 * top.count = bytes_of depth top.count (omega (arith, long, top.long)) in
    record {
      most = λ i nonce here fresh.
          let own : ArePairs (path leaves i) = pairs_of leaves i are in
          omega (arith, whole, long, top.long, own.long, own.size, way_size leaves i nonce fresh, deepest.most i here);
      longest = (far, within, λ nonce fresh. omega (arith, whole, top.size, way_size leaves far nonce fresh));
    }

-- the depth is one
one_depth : (leaves : List (List ℕ)) (a b : ℕ) → IsDepth leaves a → IsDepth leaves b → a ≡ b
one_depth leaves a b one other =
    let (i, within, long) = one.longest in
    let (j, here, deep) = other.longest in
    omega (arith, long, deep, one.most j here, other.most i within)

-- ---- how many bytes a tree has

size_more : (a b : List Token) → size (a ++ b) ≡ size a + size b
size_more a b = ap length (flat_map-append spell_token a b) ∙ length-append (spelled a) (spelled b)

size_next : (t : Token) (ts : List Token) → size (t ∷ ts) ≡ length (spell_token t) + size ts
size_next t ts = length-append (spell_token t) (spelled ts)

chain_size : (ops : List Op) (t : Node) → size (pre (chain ops t)) ≡ spelled_size ops + size (pre t)
chain_size [] t = omega arith
chain_size (o ∷ ops) t = omega (arith, chain_size ops t, size_cons o ops, size_next (token.Op o) (pre (chain ops t)))

joined_size : (t u : Node) → size (pre (joined t u)) ≡ size (pre t) + 1 + size (pre u)
joined_size (last i) u = omega (arith, size_next token.Fork (pre_item i ++ pre u), size_more (pre_item i) (pre u))
joined_size (more i t) u = omega (
  arith,
  joined_size t u,
  size_next token.Fork (pre_item i ++ pre t),
  size_next token.Fork (pre_item i ++ pre (joined t u)),
  size_more (pre_item i) (pre t),
  size_more (pre_item i) (pre (joined t u)),
)

all_size : (t : Node) (us : List Node) → size (pre (joined_all t us)) ≡ size (pre t) + sizes (map pre us)
all_size t [] = omega arith
all_size t (u ∷ us) = omega (arith, all_size (joined t u) us, joined_size t u)

joined_sizes : (nodes : List Node) (node : Node) → AreJoined nodes node → size (pre node) + 1 ≡ sizes (map pre nodes)
joined_sizes [] node are = absurd are
joined_sizes (t ∷ ts) node are = omega (arith, ap (λ (n : Node). size (pre n)) are, all_size t ts)

-- The tree of each digest fits a reply, where the trees do below the longest way.
pub all_fit_reply : (leaves : List (List ℕ)) (way : ℕ) (trees : List (List Token)) (nodes : List Node) (node : Node) → IsLongestWay leaves way
    → way + sizes trees ≤ MAX_REPLY_BODY + 1 → map pre nodes ≡ trees → AreJoined nodes node → Fit leaves node
all_fit_reply leaves way trees nodes node longest fits are is i nonce within fresh =
    let whole : size (pre node) + 1 ≡ sizes trees = joined_sizes nodes node is ∙ ap sizes are in
    omega (arith, fits, whole, longest.most i nonce within fresh, chain_size (way_from leaves i nonce) node)

-- ---- what calendars answer

-- what a slice of a list leaves in it
written_back : {A : Type 0} (count : ℕ) (slice items : List A) → count ≡ length items → length slice ≡ length items
    → take count (slice ++ drop (length slice) items) ≡ slice
written_back count slice items counts same = take_at slice (drop (length slice) items) count (omega (arith, counts, same))

module _ {D : Type 0} (told : D → DialerTold) (faults : D → ℕ) (calendars : List AddressParts) (old new : D) where
  -- Calendars were asked for the root over these leaves, and of the trees that they answered so many are taken.
  pub record IsAsked (leaves : List (List ℕ)) (outcomes : List Outcome) (count : ℕ) : Type 0 where
    pub answered : List Outcome
    pub depth : ℕ
    pub deepest : IsDepth leaves depth
    pub conversed : Converse told faults (map (to_stamp (root leaves) depth) calendars) old new answered
    pub sound : AreSound (length (root leaves)) depth answered
    pub are_taken : outcomes ≡ taking (way_bytes depth) answered
    pub fits : way_bytes depth ≤ MAX_REPLY_BODY
    pub counts : count ≡ length (good_trees outcomes)

  -- The slice of the outcomes is called so before and after trees are taken.
  pub is_asked : (ways leaves : List (List ℕ)) (depth way len count : ℕ) (answered before now : List Outcome) → ways ≡ leaves → IsDepth ways depth
      → way ≡ way_bytes depth → way ≤ MAX_REPLY_BODY
      → (k : ℕ) × IsDepth ways k × Converse told faults (map (to_stamp (root ways) k) calendars) old new answered
      → (k : ℕ) × IsDepth ways k × AreSound (length (root ways)) k answered
      → len ≡ length answered → before ≡ answered → length now ≡ length before → now ≡ taking way before → count ≡ length (good_trees now)
      → IsAsked leaves (take len (now ++ drop (length now) answered)) count
  is_asked ways leaves depth way len count answered before now same deepest way-is fits (a, of_a, conversed) (b, of_b, sound) whole before-is long is counts =
      let back : take len (now ++ drop (length now) answered) ≡ now = written_back len now answered whole (long ∙ ap length before-is) in
      subst (λ (ls : List (List ℕ)). IsAsked ls (take len (now ++ drop (length now) answered)) count) same (record {
        answered = answered;
        depth = depth;
        deepest = deepest;
        conversed = subst (λ (k : ℕ). Converse told faults (map (to_stamp (root ways) k) calendars) old new answered) (one_depth ways a depth of_a deepest) conversed;
        sound = subst (λ (k : ℕ). AreSound (length (root ways)) k answered) (one_depth ways b depth of_b deepest) sound;
        are_taken = back ∙ is ∙ (λ i. taking (way-is i) (before-is i));
        fits = omega (arith, way-is, fits);
        counts = counts ∙ ap (λ (xs : List Outcome). length (good_trees xs)) (sym back);
      })

  asks : (least : ℕ) (leaves : List (List ℕ)) (outcomes : List Outcome) (count : ℕ) (given : Given) → AreHashes leaves → IsAsked leaves outcomes count
      → IsGiven least leaves (good_trees outcomes) given → Asks told faults calendars least leaves old new outcomes given
  asks least leaves outcomes count given are a is =
      let (i, within, long) = a.deepest.longest in
      asked a.depth (way_bytes a.depth) a.answered (omega (arith, within)) a.deepest a.conversed a.sound (longest_way leaves a.depth are a.deepest) a.are_taken is

  -- Too few trees are taken.
  pub answers_none : (least : ℕ) (leaves : List (List ℕ)) (outcomes : List Outcome) (count : ℕ) → AreHashes leaves → IsAsked leaves outcomes count → count < least
      → (given : Given) × Asks told faults calendars least leaves old new outcomes given × IsAnswer given None
  answers_none least leaves outcomes count are a few =
      (too_few, asks least leaves outcomes count too_few are a (omega (arith, few, a.counts)), tt)

  -- The trees that are taken were gathered in one.
  pub answers_tree : (least : ℕ) (leaves : List (List ℕ)) (outcomes gathered : List Outcome) (count : ℕ) (made : Option (List Token)) (answer : Answer)
      → AreHashes leaves → IsAsked leaves outcomes count → least ≤ count → answer.ways ≡ leaves → gathered ≡ outcomes
      → made ≡ Some answer.tree → GathersAny (good_trees gathered) made
      → (given : Given) × Asks told faults calendars least leaves old new outcomes given × IsAnswer given (Some answer)
  answers_tree least leaves outcomes gathered count made answer are a enough ways-are same made-is of_all =
      let all : Gathers (good_trees outcomes) answer.tree =
      subst (λ (xs : List Outcome). Gathers (good_trees xs) answer.tree) same (subst (GathersAny (good_trees gathered)) made-is of_all) in
      let longest : IsLongestWay leaves (way_bytes a.depth) = longest_way leaves a.depth are a.deepest in
      let trees-are : good_trees outcomes ≡ taken (way_bytes a.depth) (good_trees a.answered) = ap good_trees a.are_taken ∙ good_taken (way_bytes a.depth) a.answered in
      let fits : way_bytes a.depth + sizes (good_trees outcomes) ≤ MAX_REPLY_BODY + 1 =
      subst (λ (trees : List (List Token)). way_bytes a.depth + sizes trees ≤ MAX_REPLY_BODY + 1) (sym trees-are)
      (all_fit (way_bytes a.depth) (good_trees a.answered) (omega (arith, a.fits))) in (
        below leaves all.node,
        asks least leaves outcomes count (below leaves all.node) are a (omega (arith, enough, a.counts), refl, (all.nodes, all.are, all.joined_are)),
        (ways-are, all.is, all_fit_reply leaves (way_bytes a.depth) (good_trees outcomes) all.nodes all.node longest fits all.are all.joined_are),
      )
