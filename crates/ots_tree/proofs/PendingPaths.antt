-- A walk over the tokens of a proof comes to the message of each path that is pending.
use Rattle.std.proofs.Common.{◌≡◌, ℕ, zero, suc, ◌+◌, ◌-◌, ◌^◌, min, ◌<◌, ◌≤◌, Bool, true, false, cond, List, [], ◌∷◌, ◌++◌, map, length, get_or, take, drop, Option, Some, None, Result, Ok, Err, refl, sym, ap, subst, ◌∙◌, arith, append_assoc, add-one, length-append}
use Rattle.std.specs.Prelude.{IsSome, IfOk, Vec, option_and_then, option_map, option_to_list}
use Rattle.std.specs.declared.alloc.Global.{Global}
use Rattle.std.specs.List.{AllByRecursion, slice_get}
use Rattle.std.proofs.lemmas.List.{append-nil, length-map, drop_all}
use Rattle.ots_ops.specs.declared.op.Op.{Op}
use Rattle.ots_ops.specs.Apply.{applied, apply}
use Rattle.ots_ops.specs.ResultLength.{len, made}
use Rattle.ots_ops.specs.Value.{value}
use Rattle.ots_ops.proofs.AppliedLength.{length_of_applied}
use Rattle.ots_attest.specs.declared.attestation.Attestation.{Attestation}
use Rattle.ots_attest.specs.declared.attestation.Attestation.TheVariants as attestation
use Rattle.ots_tree.specs.declared.token.Token.{Token}
use Rattle.ots_tree.specs.declared.token.Token.TheVariants as token
use Rattle.ots_tree.specs.declared.token.TokenAt.{TokenAt}
use Rattle.ots_tree.specs.declared.pending.PendingAt.{PendingAt}
use Rattle.ots_tree.specs.declared.detached.Detached.{Detached}
use Rattle.ots_tree.specs.Wire.{Node, Item, last, more, attested, step, Path, paths, paths_of_item, below}
use Rattle.ots_tree.specs.Listed.{listed, listed_item}
use Rattle.ots_tree.specs.Sound.{length_after, IsSoundPath, IsSound, IsSoundPre}
use Rattle.ots_tree.specs.Kept.{beside, IsKept}
use Rattle.ots_tree.specs.Pending.{asked, pending_from, ArePending}
use Rattle.ots_tree.specs.PendingWalk.{added, ended, followed, result_at, walked}
use Rattle.ots_tree.proofs.Closing.{all-left, all-right, down, step_leads}
use Rattle.ots_tree.proofs.Determined.{same_pre}
use Rattle.ots_tree.proofs.Numbered.{kept_beside, beside_at, length-beside}

abbrev Messages : Type 0
Messages = List (List ℕ)

-- ---- the messages by their depths

first_of : (x : Option (List ℕ)) → slice_get (option_to_list x) 0 ≡ x
first_of None = refl
first_of (Some m) = refl

after_depth : (f : List ℕ → Option (List ℕ)) (ms : Messages) (d : ℕ)
    → slice_get (take (suc d) ms ++ option_to_list (option_and_then f (slice_get ms d))) (suc d) ≡ option_and_then f (slice_get ms d)
after_depth f [] d = refl
after_depth f (m ∷ ms) zero = first_of (f m)
after_depth f (m ∷ ms) (suc d) = after_depth f ms d

up_to_depth : (f : List ℕ → Option (List ℕ)) (ms : Messages) (d : ℕ)
    → take (suc d) (take (suc d) ms ++ option_to_list (option_and_then f (slice_get ms d))) ≡ take (suc d) ms
up_to_depth f [] d = refl
up_to_depth f (m ∷ ms) zero = refl
up_to_depth f (m ∷ ms) (suc d) = ap (λ (z : Messages). m ∷ z) (up_to_depth f ms d)

at_depth_taken : (ms : Messages) (d : ℕ) → slice_get (take (suc d) ms) d ≡ slice_get ms d
at_depth_taken [] d = refl
at_depth_taken (m ∷ ms) zero = refl
at_depth_taken (m ∷ ms) (suc d) = at_depth_taken ms d

taken_twice : (ms : Messages) (d : ℕ) → take (suc d) (take (suc (suc d)) ms) ≡ take (suc d) ms
taken_twice [] d = refl
taken_twice (m ∷ ms) zero = refl
taken_twice (m ∷ ms) (suc d) = ap (λ (z : Messages). m ∷ z) (taken_twice ms d)

-- up to depth d they are the same
record Same (d : ℕ) (old new : Messages) : Type 0 where
  is : take (suc d) new ≡ take (suc d) old

here_still : (d : ℕ) (old new : Messages) (m : Option (List ℕ)) → slice_get old d ≡ m → Same d old new → slice_get new d ≡ m
here_still d old new m here s = sym (at_depth_taken new d) ∙ ap (λ (z : Messages). slice_get z d) s.is ∙ at_depth_taken old d ∙ here

same_above : (d : ℕ) (old new : Messages) → Same (suc d) old new → Same d old new
same_above d old new s = record { is = sym (taken_twice new d) ∙ ap (λ (z : Messages). take (suc d) z) s.is ∙ taken_twice old d }

-- ---- the paths of a node at depth d, whose message is m

abbrev asked_below : Option (List ℕ) → ℕ → ℕ → List Path → List PendingAt
asked_below m d n [] = []
asked_below m d n (p ∷ ps) = asked n (d + length p.ops) p.end (option_and_then (value p.ops) m) ++ asked_below m d (n + 1) ps

asked-append : (m : Option (List ℕ)) (d n : ℕ) (ps qs : List Path) → asked_below m d n (ps ++ qs) ≡ asked_below m d n ps ++ asked_below m d (n + length ps) qs
asked-append m d n [] qs = let none : n ≡ n + 0 = omega arith in ap (λ (z : ℕ). asked_below m d z qs) none
asked-append m d n (p ∷ ps) qs =
    let first = asked n (d + length p.ops) p.end (option_and_then (value p.ops) m) in
    let one_more : (n + 1) + length ps ≡ n + length (p ∷ ps) = omega arith in
    ap (λ (z : List PendingAt). first ++ z) (asked-append m d (n + 1) ps qs)
    ∙ sym (append_assoc first (asked_below m d (n + 1) ps) (asked_below m d ((n + 1) + length ps) qs))
    ∙ ap (λ (z : ℕ). (first ++ asked_below m d (n + 1) ps) ++ asked_below m d z qs) one_more

first_operation : (o : Op) (ops : List Op) (m : Option (List ℕ)) → option_and_then (value (o ∷ ops)) m ≡ option_and_then (value ops) (option_and_then (apply o) m)
first_operation o ops None = refl
first_operation o ops (Some x) = refl

asked-step : (o : Op) (m : Option (List ℕ)) (d n : ℕ) (ps : List Path) → asked_below m d n (map (below o) ps) ≡ asked_below (option_and_then (apply o) m) (suc d) n ps
asked-step o m d n [] = refl
asked-step o m d n (p ∷ ps) =
    let deep : d + suc (length p.ops) ≡ suc d + length p.ops = omega arith in
    let next = option_and_then (apply o) m in
    ap (λ (z : ℕ). asked n z p.end (option_and_then (value (o ∷ p.ops)) m) ++ asked_below m d (n + 1) (map (below o) ps)) deep
    ∙ ap (λ (z : Option (List ℕ)). asked n (suc d + length p.ops) p.end z ++ asked_below m d (n + 1) (map (below o) ps)) (first_operation o p.ops m)
    ∙ ap (λ (z : List PendingAt). asked n (suc d + length p.ops) p.end (option_and_then (value p.ops) next) ++ z) (asked-step o m d (n + 1) ps)

asked-root : (digest : List ℕ) (n : ℕ) (ps : List Path) → asked_below (Some digest) 0 n ps ≡ pending_from digest n ps
asked-root digest n [] = refl
asked-root digest n (p ∷ ps) =
    let none : 0 + length p.ops ≡ length p.ops = omega arith in
    ap (λ (z : ℕ). asked n z p.end (value p.ops digest) ++ asked_below (Some digest) 0 (n + 1) ps) none
    ∙ ap (λ (z : List PendingAt). asked n (length p.ops) p.end (value p.ops digest) ++ z) (asked-root digest (n + 1) ps)

-- ---- the walk

no_operation : (m : Option (List ℕ)) → m ≡ option_and_then (value []) m
no_operation None = refl
no_operation (Some x) = refl

cap-low : (d : ℕ) → d ≤ 255 → min d (2 ^ 32 - 1) ≡ d
cap-low d low = omega arith

-- what is left of a walk after a part that has these paths
record Finds (n d : ℕ) (m : Option (List ℕ)) (messages : Messages) (part : List TokenAt) (ps : List Path) (rest : List TokenAt) : Type 0 where
  after : Messages
  same : Same d messages after
  walk : walked n messages (part ++ rest) ≡ asked_below m d n ps ++ walked (n + length ps) after rest

end_asked : (n d : ℕ) (a : Attestation) (m : Option (List ℕ)) → asked n d a m ≡ asked_below m d n (record { ops = []; end = a } ∷ [])
end_asked n d a m =
    let none : d ≡ d + 0 = omega arith in
    ap (λ (z : ℕ). asked n z a m) none
    ∙ ap (λ (z : Option (List ℕ)). asked n (d + 0) a z) (no_operation m)
    ∙ sym (append-nil (asked n (d + 0) a (option_and_then (value []) m)))

joined_finds : (m : Option (List ℕ)) (d n : ℕ) (ps qs : List Path) (left : ℕ → List PendingAt)
    → asked_below m d n ps ++ (asked_below m d (n + length ps) qs ++ left ((n + length ps) + length qs)) ≡ asked_below m d n (ps ++ qs) ++ left (n + length (ps ++ qs))
joined_finds m d n ps qs left =
    let count : (n + length ps) + length qs ≡ n + length (ps ++ qs) = omega (arith, length-append ps qs) in
    sym (append_assoc (asked_below m d n ps) (asked_below m d (n + length ps) qs) (left ((n + length ps) + length qs)))
    ∙ ap (λ (z : List PendingAt). z ++ left ((n + length ps) + length qs)) (sym (asked-append m d n ps qs))
    ∙ ap (λ (z : ℕ). asked_below m d n (ps ++ qs) ++ left z) count

mutual
  node_finds : (t : Node) (n d k : ℕ) (m : Option (List ℕ)) (messages : Messages) (rest : List TokenAt) → IsSound k d t → slice_get messages d ≡ m
      → Finds n d m messages (listed d t) (paths t) rest
  node_finds (last i) n d k m messages rest h here = item_finds i n d k m messages rest h here
  node_finds (more i t) n d k m messages rest h here =
      let p = item_finds i n d k m messages (listed d t ++ rest) (all-left (IsSoundPath k d) (paths_of_item i) (paths t) h) here in
      let q = node_finds t (n + length (paths_of_item i)) d k m p.after rest (all-right (IsSoundPath k d) (paths_of_item i) (paths t) h) (here_still d messages p.after m here p.same) in
      record {
        after = q.after;
        same = record { is = q.same.is ∙ p.same.is };
        walk =
            ap (λ (z : List TokenAt). walked n messages z) (append_assoc (listed_item d i) (listed d t) rest)
            ∙ p.walk
            ∙ ap (λ (z : List PendingAt). asked_below m d n (paths_of_item i) ++ z) q.walk
            ∙ joined_finds m d n (paths_of_item i) (paths t) (λ z. walked z q.after rest);
      }

  item_finds : (i : Item) (n d k : ℕ) (m : Option (List ℕ)) (messages : Messages) (rest : List TokenAt) → AllByRecursion (IsSoundPath k d) (paths_of_item i) → slice_get messages d ≡ m
      → Finds n d m messages (listed_item d i) (paths_of_item i) rest
  item_finds (attested a) n d k m messages rest h here =
      let low : min d (2 ^ 32 - 1) ≡ d = let short = h.0.short in cap-low d (omega arith) in
      record {
        after = messages;
        same = record { is = refl };
        walk =
            ap (λ (z : ℕ). asked n z a (slice_get messages z) ++ walked (n + 1) messages rest) low
            ∙ ap (λ (z : Option (List ℕ)). asked n d a z ++ walked (n + 1) messages rest) here
            ∙ ap (λ (z : List PendingAt). z ++ walked (n + 1) messages rest) (end_asked n d a m);
      }
  item_finds (step o t) n d k m messages rest h here =
      let l = step_leads o t k d h in
      let room = l.room in
      let low : min d (2 ^ 32 - 1) ≡ d = cap-low d (omega arith) in
      let deeper = take (suc d) messages ++ option_to_list (option_and_then (apply o) (slice_get messages d)) in
      let sound : IsSound l.result (suc d) t = subst (λ (z : ℕ). IsSound l.result z t) (add-one d) (down o k d l.result l.is (paths t) h) in
      let there : slice_get deeper (suc d) ≡ option_and_then (apply o) m = after_depth (apply o) messages d ∙ ap (option_and_then (apply o)) here in
      let p = node_finds t n (suc d) l.result (option_and_then (apply o) m) deeper rest sound there in
      record {
        after = p.after;
        same = record { is = (same_above d deeper p.after p.same).is ∙ up_to_depth (apply o) messages d };
        walk =
            ap (λ (z : ℕ). walked n (followed (token.Op o) z messages) (listed (suc d) t ++ rest)) low
            ∙ ap (λ (z : ℕ). walked n (take z messages ++ option_to_list (result_at o d messages)) (listed (suc d) t ++ rest)) (add-one d)
            ∙ p.walk
            ∙ ap (λ (z : List PendingAt). z ++ walked (n + length (paths t)) p.after rest) (sym (asked-step o m d n (paths t)))
            ∙ ap (λ (z : ℕ). asked_below m d n (map (below o) (paths t)) ++ walked (n + z) p.after rest) (sym (length-map (paths t) (below o)));
      }

-- ---- each path of a sound tree has a value

is_made : (b : Bool) (n r : ℕ) → cond b (Some n) None ≡ Some r → r ≡ n
is_made false n r e = absurd cc
is_made true n r e = cc

one_valued : (o : Op) (ops : List Op) (m : List ℕ) (x : Option ℕ) → len o (length m) ≡ x → IsSome (option_and_then (length_after ops) x)
    → ((y : List ℕ) → IsSome (length_after ops (length y)) → IsSome (value ops y)) → IsSome (option_and_then (value ops) (option_map (λ n. applied o m) x))
one_valued o ops m None e h others = absurd cc
one_valued o ops m (Some r) e h others =
    let long : r ≡ length (applied o m) = is_made _ (made o (length m)) r e ∙ sym (length_of_applied o m) in
    others (applied o m) (subst (λ (z : ℕ). IsSome (length_after ops z)) long h)

valued : (ops : List Op) (m : List ℕ) → IsSome (length_after ops (length m)) → IsSome (value ops m)
valued [] m h = refl
valued (o ∷ ops) m h = one_valued o ops m (len o (length m)) refl h (valued ops)

all_valued : (digest : List ℕ) (ps : List Path) → AllByRecursion (IsSoundPath (length digest) 0) ps → AllByRecursion (λ p. IsSome (value p.ops digest)) ps
all_valued digest [] h = tt
all_valued digest (p ∷ ps) h = (valued p.ops digest h.0.has_result, all_valued digest ps h.1)

-- ---- from the root

pub walk_found : (proof : Detached) (depths : List ℕ) (found : List PendingAt) → IsKept proof.tree depths → IsSoundPre (length proof.digest) 0 proof.tree
    → found ≡ walked 0 (proof.digest ∷ []) (beside proof.tree depths) → ArePending proof found
walk_found proof depths found kept (t, sound, is) found_is =
    let one : kept.node ≡ t = same_pre kept.node t (kept.tokens_are ∙ sym is) in
    let all : beside proof.tree depths ≡ listed 0 t ++ [] = kept_beside proof.tree depths kept ∙ ap (listed 0) one ∙ sym (append-nil (listed 0 t)) in
    let p = node_finds t 0 0 (length proof.digest) (Some proof.digest) (proof.digest ∷ []) [] sound refl in
    record {
      node = t;
      tree = is;
      valued = all_valued proof.digest (paths t) sound;
      are = found_is ∙ ap (walked 0 (proof.digest ∷ [])) all ∙ p.walk ∙ append-nil (asked_below (Some proof.digest) 0 0 (paths t)) ∙ asked-root proof.digest 0 (paths t);
    }

-- ---- at an index

pub walk_goes : (tokens : List Token) (depths : List ℕ) (i n m : ℕ) (x : Token) (messages next : Messages) (found grown all : List PendingAt)
    → length depths ≡ length tokens → i < length tokens → x ≡ get_or tokens i x
    → grown ≡ found ++ added x (get_or depths i 0) n messages → m ≡ ended x n → next ≡ followed x (get_or depths i 0) messages
    → found ++ walked n messages (drop i (beside tokens depths)) ≡ all → grown ++ walked m next (drop (i + 1) (beside tokens depths)) ≡ all
walk_goes tokens depths i n m x messages next found grown all same in_range is more_found one_ended moved walk =
    let rest = drop (i + 1) (beside tokens depths) in
    let d = get_or depths i 0 in
    ap (λ (z : List PendingAt). z ++ walked m next rest) more_found
    ∙ append_assoc found (added x d n messages) (walked m next rest)
    ∙ ap (λ (z : ℕ). found ++ (added x d n messages ++ walked z next rest)) one_ended
    ∙ ap (λ (z : Messages). found ++ (added x d n messages ++ walked (ended x n) z rest)) moved
    ∙ ap (λ (z : List TokenAt). found ++ walked n messages z) (sym (beside_at tokens depths i x same in_range is))
    ∙ walk

pub walk_ends : (tokens : List Token) (depths : List ℕ) (i n : ℕ) (messages : Messages) (found all : List PendingAt)
    → length depths ≡ length tokens → length tokens ≤ i → found ++ walked n messages (drop i (beside tokens depths)) ≡ all → found ≡ all
walk_ends tokens depths i n messages found all same over walk =
    let none : drop i (beside tokens depths) ≡ [] = drop_all i (beside tokens depths) (omega (arith, length-beside tokens depths same)) in
    sym (append-nil found) ∙ ap (λ (z : List TokenAt). found ++ walked n messages z) (sym none) ∙ walk

-- ---- what is noted of a pending attestation

pub none_added : (x : Token) (uri : List ℕ) (d n : ℕ) (messages : Messages) (found : List PendingAt)
    → x ≡ token.Attestation (attestation.Pending uri) → slice_get messages d ≡ None → found ≡ found ++ added x d n messages
none_added x uri d n messages found is none =
    let nothing : added x d n messages ≡ [] = ap (λ (z : Token). added z d n messages) is ∙ ap (asked n d (attestation.Pending uri)) none in
    sym (ap (λ (z : List PendingAt). found ++ z) nothing ∙ append-nil found)

pub one_added : (x : Token) (uri : List ℕ) (message : List ℕ) (d n : ℕ) (messages : Messages) (found grown : List PendingAt) (kept_uri kept_message : List ℕ)
    → x ≡ token.Attestation (attestation.Pending uri) → slice_get messages d ≡ Some message → kept_uri ≡ uri → kept_message ≡ message
    → grown ≡ found ++ (record { path = n; depth = d; uri = kept_uri; message = kept_message } ∷ []) → grown ≡ found ++ added x d n messages
one_added x uri message d n messages found grown kept_uri kept_message is some same_uri same_message grown_is =
    let one : added x d n messages ≡ record { path = n; depth = d; uri = uri; message = message } ∷ [] =
    ap (λ (z : Token). added z d n messages) is ∙ ap (asked n d (attestation.Pending uri)) some in
    grown_is
    ∙ ap (λ (z : List ℕ). found ++ (record { path = n; depth = d; uri = z; message = kept_message } ∷ [])) same_uri
    ∙ ap (λ (z : List ℕ). found ++ (record { path = n; depth = d; uri = uri; message = z } ∷ [])) same_message
    ∙ ap (λ (z : List PendingAt). found ++ z) (sym one)

pub few_ended : (x : Token) (n m i : ℕ) → m ≡ ended x n → n ≤ i → m ≤ i + 1
few_ended token.Fork n m i is few = omega arith
few_ended (token.Op o) n m i is few = omega arith
few_ended (token.Attestation a) n m i is few = omega arith

pub result_found : {E : Type 0} (proof : Detached) (tokens : List Token) (depths : List ℕ) (messages : Messages) (r : Result (Vec PendingAt Global) E)
    → IsKept proof.tree depths → IsSoundPre (length proof.digest) 0 proof.tree → tokens ≡ proof.tree → messages ≡ proof.digest ∷ []
    → IfOk r (λ v. v.items ≡ walked 0 messages (beside tokens depths)) → IfOk r (λ v. ArePending proof v.items)
result_found proof tokens depths messages (Ok v) kept sound same start is =
    walk_found proof depths v.items kept sound (
    is ∙ ap (λ (z : Messages). walked 0 z (beside tokens depths)) start ∙ ap (λ (z : List Token). walked 0 (proof.digest ∷ []) (beside z depths)) same)
result_found proof tokens depths messages (Err e) kept sound same start is = is
