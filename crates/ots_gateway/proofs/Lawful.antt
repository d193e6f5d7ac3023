-- What the laws of a round rest on.
use Rattle.std.proofs.Common.{◌≡◌, ◌<◌, ◌≤◌, ℕ, ◌+◌, Bool, true, false, List, [], ◌∷◌, ◌++◌, length, map, get_or, Some, refl, sym, ap, subst, ◌∙◌, arith, inl, inr, append-nil, append_assoc, length-append}
use Rattle.std.specs.Prelude.{if◌then◌else◌, nat_le, option_and_then, slice_get}
use Rattle.std.specs.List.{AllByRecursion, flat_map}
use Rattle.std.proofs.lemmas.Bool.{cases_lt, le-leb, lt-leb}
use Rattle.std.proofs.lemmas.List.{get_or-map, length-map}
use Rattle.std.proofs.lemmas.Option.{get_or_from_slice_get, slice_get_within}
use Rattle.sha2.specs.Sha256.{sha256}
use Rattle.ots_address.specs.Address.{AddressParts}
use Rattle.ots_base.specs.Cause.{Rose}
use Rattle.ots_base.specs.declared.limits.TheConstants.{MAX_REPLY_BODY}
use Rattle.ots_http.specs.ReplyText.{reply_bytes}
use Rattle.ots_http.specs.Seen.{LinkSeen, Takes}
use Rattle.ots_http.specs.declared.replying.Reply.{Reply}
use Rattle.ots_merkle.proofs.PathLaws.{path_leads}
use Rattle.ots_merkle.specs.CalendarTree.{path, root}
use Rattle.ots_ops.specs.Apply.{apply}
use Rattle.ots_ops.specs.Value.{value}
use Rattle.ots_ops.specs.declared.op.Op.{Op}
use Rattle.ots_ops.specs.declared.op.Op.TheVariants.{Append, Sha256}
use Rattle.ots_outside.specs.Dialer.{DialerTold}
use Rattle.ots_tree.proofs.Determined.{same_pre}
use Rattle.ots_tree.proofs.MadePaths.{paths-chain, paths-joined}
use Rattle.ots_tree.specs.Made.{after, chain, joined}
use Rattle.ots_tree.specs.Sound.{IsSoundPre}
use Rattle.ots_tree.specs.Wire.{Node, Path, paths, pre}
use Rattle.ots_tree.specs.declared.token.Token.{Token}
use Rattle.ots_asking.specs.Outcome.{AreSound}
use Rattle.ots_stamp.specs.Stamped.{AreJoined, good_trees, joined_all}
use Rattle.ots_stamp.specs.Ways.{way_from}
use Rattle.ots_asking.specs.declared.outcome.Outcome.{Outcome}
use Rattle.ots_asking.specs.declared.outcome.Outcome.TheVariants.{Tree, Unreachable, Status, TooLong, BadHttp, BadReply}
use Rattle.ots_gateway.proofs.Answering.{all_fit_reply, are_leaves}
use Rattle.ots_gateway.proofs.Taken.{all_fit, good_taken}
use Rattle.ots_gateway.specs.Answer.{Fit}
use Rattle.ots_gateway.specs.Round.{Asks, Given, IsGiven, Sends, asked, below, cut, nobody, served_by, too_few, tree_from, whole}
use Rattle.ots_gateway.specs.Taking.{size, sizes, taken, taking}
use Rattle.ots_gateway.specs.Ways.{leaf, leaves}
use Rattle.ots_gateway.specs.declared.served.GateServed.{GateServed}
use Rattle.ots_gateway.specs.declared.waiting.Waiting.{Waiting}

-- ---- what is taken is sound

pub sound_taken : (n k used : ℕ) (answered : List Outcome) → AreSound n k answered → AreSound n k (taking used answered)
sound_taken n k used [] sound = tt
sound_taken n k used (Tree tree ∷ rest) sound =
    by (nat_le (used + size tree) MAX_REPLY_BODY) (sound_taken n k (used + size tree + 1) rest sound.1) (sound_taken n k used rest sound.1)
  where
    by : (b : Bool) → AreSound n k (taking (used + size tree + 1) rest) → AreSound n k (taking used rest)
        → AreSound n k (if b then Tree tree ∷ taking (used + size tree + 1) rest else TooLong ∷ taking used rest)
    by true fits over = (sound.0, fits)
    by false fits over = (tt, over)
sound_taken n k used (Unreachable ∷ rest) sound = (tt, sound_taken n k used rest sound.1)
sound_taken n k used (Status code ∷ rest) sound = (tt, sound_taken n k used rest sound.1)
sound_taken n k used (TooLong ∷ rest) sound = (tt, sound_taken n k used rest sound.1)
sound_taken n k used (BadHttp ∷ rest) sound = (tt, sound_taken n k used rest sound.1)
sound_taken n k used (BadReply fault ∷ rest) sound = (tt, sound_taken n k used rest sound.1)

pub sound_trees : (n k : ℕ) (outcomes : List Outcome) → AreSound n k outcomes → AllByRecursion (IsSoundPre n k) (good_trees outcomes)
sound_trees n k [] sound = tt
sound_trees n k (Tree tree ∷ rest) sound = (sound.0, sound_trees n k rest sound.1)
sound_trees n k (Unreachable ∷ rest) sound = sound_trees n k rest sound.1
sound_trees n k (Status code ∷ rest) sound = sound_trees n k rest sound.1
sound_trees n k (TooLong ∷ rest) sound = sound_trees n k rest sound.1
sound_trees n k (BadHttp ∷ rest) sound = sound_trees n k rest sound.1
sound_trees n k (BadReply fault ∷ rest) sound = sound_trees n k rest sound.1

-- ---- what a round gives is one

same_nodes : (xs ys : List Node) → map pre xs ≡ map pre ys → xs ≡ ys
same_nodes [] [] same = refl
same_nodes [] (y ∷ ys) same = absurd cc
same_nodes (x ∷ xs) [] same = absurd cc
same_nodes (x ∷ xs) (y ∷ ys) same =
    let head : pre x ≡ pre y = cc in
    let rest : map pre xs ≡ map pre ys = cc in
    λ i. same_pre x y head i ∷ same_nodes xs ys rest i

one_joined : (nodes : List Node) (a b : Node) → AreJoined nodes a → AreJoined nodes b → a ≡ b
one_joined [] a b one other = absurd one
one_joined (t ∷ ts) a b one other = one ∙ sym other

one_given : (least : ℕ) (ls : List (List ℕ)) (trees : List (List Token)) (a b : Given) → IsGiven least ls trees a → IsGiven least ls trees b → a ≡ b
one_given least ls trees too_few too_few one other = refl
one_given least ls trees too_few (below over node) one other = absurd (omega (arith, one, other.0))
one_given least ls trees (below over node) too_few one other = absurd (omega (arith, one.0, other))
one_given least ls trees (below over node) (below again other) (enough, over-is, (nodes, are, joined)) (_, again-is, (ones, same, all)) =
    let nodes-are : ones ≡ nodes = same_nodes ones nodes (same ∙ sym are) in
    let node-is : node ≡ other = one_joined nodes node other joined (subst (λ (ns : List Node). AreJoined ns other) nodes-are all) in
    λ i. below ((over-is ∙ sym again-is) i) (node-is i)

pub one_asked : {D : Type 0} (told : D → DialerTold) (faults : D → ℕ) (calendars others : List AddressParts) (least : ℕ) (ls : List (List ℕ)) (old new before now : D)
    (outcomes : List Outcome) (a b : Given) → Asks told faults calendars least ls old new outcomes a → Asks told faults others least ls before now outcomes b → a ≡ b
one_asked told faults calendars others least ls old new before now outcomes a b (nobody none same empty few) (nobody none' same' empty' few') = few ∙ sym few'
one_asked told faults calendars others least ls old new before now outcomes a b (nobody none same empty few) (asked depth way answered some deepest conversed sound longest taken gives) =
    absurd (omega (arith, some, ap length none))
one_asked told faults calendars others least ls old new before now outcomes a b (asked depth way answered some deepest conversed sound longest taken gives) (nobody none same empty few) =
    absurd (omega (arith, some, ap length none))
one_asked told faults calendars others least ls old new before now outcomes a b (asked depth way answered some deepest conversed sound longest taken gives)
    (asked depth' way' answered' some' deepest' conversed' sound' longest' taken' gives') = one_given least ls (good_trees outcomes) a b gives gives'

-- ---- where a way leads

hash_of : (m : List ℕ) → length m ≤ 4096 → apply Sha256 m ≡ Some (sha256 m)
hash_of m short = rw (le-leb 0 (length m) (omega arith), le-leb (length m) 4096 short) refl

appended : (a m : List ℕ) → length m + length a ≤ 4096 → apply (Append a) m ≡ Some (m ++ a)
appended a m short = rw (le-leb 0 (length m) (omega arith), le-leb (length m) 4096 (omega arith), le-leb (length m + length a) 4096 short) refl

one_more : (o : Op) (ops : List Op) (m n : List ℕ) → apply o m ≡ Some n → value (o ∷ ops) m ≡ value ops n
one_more o ops m n e = ap (option_and_then (value ops)) e

pub leads_to_root : (waiting : List Waiting) (i : ℕ) (w : Waiting) → slice_get waiting i ≡ Some w → length w.digest ≤ 64 → length w.nonce ≡ 16
    → value (way_from (leaves waiting) i w.nonce) w.digest ≡ Some (root (leaves waiting))
leads_to_root waiting i w is few sixteen =
    let less : i < length waiting = slice_get_within waiting i w is in
    let here : get_or (leaves waiting) i [] ≡ leaf w = get_or-map leaf waiting i w [] less ∙ ap leaf (get_or_from_slice_get waiting i w w is) in
    let ops : List Op = path (leaves waiting) i in
    one_more (Append w.nonce) (Sha256 ∷ ops) w.digest (w.digest ++ w.nonce) (appended w.nonce w.digest (omega arith))
    ∙ one_more Sha256 ops (w.digest ++ w.nonce) (leaf w) (hash_of (w.digest ++ w.nonce) (omega (arith, length-append w.digest w.nonce)))
    ∙ ap (value ops) (sym here) ∙ path_leads (leaves waiting) i (are_leaves waiting) (omega (arith, length-map waiting leaf))

-- ---- the paths of a reply's tree

all_paths : (t : Node) (ts : List Node) → paths (joined_all t ts) ≡ flat_map paths (t ∷ ts)
all_paths t [] = sym (append-nil (paths t))
all_paths t (u ∷ us) =
    all_paths (joined t u) us ∙ ap (λ (ps : List Path). ps ++ flat_map paths us) (paths-joined t u) ∙ append_assoc (paths t) (paths u) (flat_map paths us)

joined_paths : (nodes : List Node) (node : Node) → AreJoined nodes node → paths node ≡ flat_map paths nodes
joined_paths [] node are = absurd are
joined_paths (t ∷ ts) node are = ap paths are ∙ all_paths t ts

pub reply_paths : (nodes : List Node) (node : Node) (over : List (List ℕ)) (i : ℕ) (nonce : List ℕ) → AreJoined nodes node
    → (t : Node) × (pre t ≡ tree_from over node i nonce) × (paths t ≡ map (after (way_from over i nonce)) (flat_map paths nodes))
reply_paths nodes node over i nonce are =
    let ops : List Op = way_from over i nonce in
    (chain ops node, refl, paths-chain ops node ∙ ap (map (after ops)) (joined_paths nodes node are))

-- ---- how many bytes a reply's tree has

-- below a way that is longer no tree is taken
none_over : (used : ℕ) (trees : List (List Token)) → MAX_REPLY_BODY < used → taken used trees ≡ []
none_over used [] over = refl
none_over used (tree ∷ trees) over =
    ap (λ (b : Bool). if b then tree ∷ taken (used + size tree + 1) trees else taken used trees) (lt-leb (used + size tree) MAX_REPLY_BODY (omega (arith, over)))
    ∙ none_over used trees over

none_joined : (nodes : List Node) (node : Node) → AreJoined nodes node → map pre nodes ≡ [] → ⊥
none_joined [] node are none = are
none_joined (t ∷ ts) node are none = cc

pub asked_fit : {D : Type 0} (told : D → DialerTold) (faults : D → ℕ) (calendars : List AddressParts) (least : ℕ) (ls over : List (List ℕ)) (old new : D) (outcomes : List Outcome)
    (node : Node) (given : Given) → given ≡ below over node → Asks told faults calendars least ls old new outcomes given → Fit over node
asked_fit told faults calendars least ls over old new outcomes node given is (nobody none same empty few) = let clash = sym few ∙ is in absurd cc
asked_fit told faults calendars least ls over old new outcomes node too_few is (asked depth way answered some deepest conversed sound longest taken-is gives) = absurd cc
asked_fit told faults calendars least ls over old new outcomes node (below ov other) is (asked depth way answered some deepest conversed sound longest taken-is (enough, over-is, (nodes, are, joined))) =
    let same : ov ≡ over = cc in
    let node-is : other ≡ node = cc in
    let trees-are : map pre nodes ≡ taken way (good_trees answered) = are ∙ ap good_trees taken-is ∙ good_taken way answered in
    let fits : way + sizes (taken way (good_trees answered)) ≤ MAX_REPLY_BODY + 1 = elim (cases_lt MAX_REPLY_BODY way) [
      | inl more ↦ absurd (none_joined nodes other joined (trees-are ∙ none_over way (good_trees answered) more))
      | inr within ↦ all_fit way (good_trees answered) (omega (arith, within))
    ] in
    subst (λ (os : List (List ℕ)). Fit os node) (sym over-is ∙ same)
    (subst (Fit ls) node-is (all_fit_reply ls way (taken way (good_trees answered)) nodes other longest fits trees-are joined))

-- ---- a reply that was written whole

pub sent_whole : (r : Reply) (old new : LinkSeen) (served : GateServed) → Sends r old new served → (Rose old.faults new.faults → ⊥)
    → (served ≡ served_by r) × Takes (reply_bytes r) old new
sent_whole r old new served (whole is takes) steady = (is, takes)
sent_whole r old new served (cut n within is rose takes) steady = absurd (steady rose)
