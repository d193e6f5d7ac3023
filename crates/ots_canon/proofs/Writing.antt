-- Writing a node item by item.
use Rattle.std.proofs.Common.{◌≡◌, ℕ, suc, ◌+◌, ◌-◌, ◌<◌, ◌≤◌, List, [], ◌∷◌, ◌++◌, reverse, length, get_or, take, drop, refl, sym, ap, subst, ◌∙◌, inl, inr, arith, append_assoc}
use Rattle.std.specs.Prelude.{Contains, All}
use Rattle.std.specs.List.{AllByRecursion}
use Rattle.std.specs.List.Sorted.{IsPermutation, IsSortedBy}
use Rattle.std.specs.declared.cmp.Ordering.TheVariants.{Less}
use Rattle.std.proofs.lemmas.List.{append-nil, reverse-append, length-take, length-drop, length-map, get_or-take, get_or-drop, get_or_append_left, take-append-drop, drop-drop, drop_all}
use Rattle.std.proofs.lemmas.List.Elements.{All-nil, All-push, All-take, All-contains, Contains-get_or, Contains-append_left, Contains-append_right, Contains-push}
use Rattle.std.proofs.lemmas.List.Sorted.{All-permutation, length_permutation, sum_by-IsPermutation}
use Rattle.std.proofs.lemmas.List.Sums.{sum_by-append, sum_by_push}
use Rattle.ots_tree.specs.declared.token.Token.{Token}
use Rattle.ots_tree.specs.declared.token.Token.TheVariants as token
use Rattle.ots_tree.specs.Wire.{Node, last, more, paths, paths_of_item, pre, pre_item, IsToken}
use Rattle.ots_canon.specs.declared.merging.Frame.{Frame}
use Rattle.ots_canon.specs.Order.{step_cmp}
use Rattle.ots_canon.specs.Steps.{step_at}
use Rattle.ots_canon.specs.Places.{IsItem, HasAt, HasAmong, size, total, AreEnds, AreAfter, IsFormOf}
use Rattle.ots_canon.specs.Frames.{comes_before, left, IsFrame, owed, ComesTo, Owes, IsRunEnd, LeavesMore, LeavesNone, Leaves, Opens, OpensSome, OwesAfter, Writes}
use Rattle.ots_canon.proofs.Among.{onward, both, union, permuted, has_append}
use Rattle.ots_canon.proofs.Runs.{next_later}
use Rattle.ots_canon.specs.Chains.{shifted, IsChain}
use Rattle.ots_canon.proofs.Chains.{IsRun, chain_few}
use Rattle.ots_canon.proofs.Coming.{RunComes, Makes, AreMade, chain_comes}

-- ---- what a frame comes to

comes_last : {ts us : List Token} {run : List ℕ} (r : RunComes ts run us) → ComesTo ts run (last r.item)
comes_last r = record { canonical = r.canonical; same = r.same; first_is = r.place_is }

comes_more : {ts us : List Token} {run rest : List ℕ} (w : Node) → 0 < length run → (r : RunComes ts run us) → ComesTo ts rest w
    → step_cmp (step_at ts (get_or run 0 0)) (step_at ts (get_or rest 0 0)) ≡ Less → ComesTo ts (run ++ rest) (more r.item w)
comes_more {ts} {run = run} {rest} w some r c less = record {
  canonical = (r.canonical, ((λ i. step_cmp (sym r.place_is i) (sym c.first_is i)) ∙ less), c.canonical);
  same = λ p. onward (union (HasAt ts) run rest p) (onward (both (r.same p) (c.same p)) (has_append (paths_of_item r.item) (paths w) p));
  first_is = ap (step_at ts) (get_or_append_left run rest 0 0 some) ∙ r.place_is;
}

-- ---- the places of a run

run_length : (ks : List ℕ) (from end : ℕ) → end ≤ length ks → length (take (end - from) (drop from ks)) ≡ end - from
run_length ks from end l = omega (arith, length-take (end - from) (drop from ks), length-drop from ks)

run_read : (ks : List ℕ) (from end j d : ℕ) → j < end - from → get_or (take (end - from) (drop from ks)) j d ≡ get_or ks (from + j) d
run_read ks from end j d l = get_or-take (end - from) (drop from ks) j d l ∙ get_or-drop from ks j d

run_first : (ks : List ℕ) (from end : ℕ) → from < end → get_or (take (end - from) (drop from ks)) 0 0 ≡ get_or ks from 0
run_first ks from end l =
    let e : from + 0 ≡ from = omega arith in
    run_read ks from end 0 0 (omega arith) ∙ ap (λ (z : ℕ). get_or ks z 0) e

run_split : (ks : List ℕ) (from end : ℕ) → from ≤ end → take (end - from) (drop from ks) ++ drop end ks ≡ drop from ks
run_split ks from end l =
    let e : from + (end - from) ≡ end = omega arith in
    ap (λ (z : List ℕ). take (end - from) (drop from ks) ++ z) (ap (λ (z : ℕ). drop z ks) (sym e) ∙ sym (drop-drop (end - from) from ks))
    ∙ take-append-drop (end - from) (drop from ks)

run_alike : (ts : List Token) (ks : List ℕ) (from end : ℕ) → IsRunEnd ts ks from end
    → All (λ (k : ℕ). step_at ts k ≡ step_at ts (get_or ks from 0)) (take (end - from) (drop from ks))
run_alike ts ks from end r = λ j d l.
    let len = run_length ks from end r.within in
    let some = r.some in
    let l' : j < end - from = omega arith in
    ap (step_at ts) (run_read ks from end j d l') ∙ r.alike (from + j) d (omega arith) (omega arith)

-- ---- what is after an item is opened

reverse_push : {X : Type 0} (xs : List X) (x : X) → reverse (xs ++ x ∷ []) ≡ x ∷ reverse xs
reverse_push xs x = reverse-append xs (x ∷ [])

-- the tokens of the node after come first
record Opened (ts : List Token) (following : List ℕ) (before : List Frame) (vs : List Token) : Type 0 where
  prefix : List Token
  rest : List Token
  are : vs ≡ prefix ++ rest
  owes : Owes ts (reverse before) rest
  made : AreMade ts following prefix

left_all : (f : Frame) → f.next ≡ 0 → left f ≡ f.places.items
left_all f e = ap (λ (z : ℕ). drop z f.places.items) e

makes_permuted : (ts : List Token) (ks : List ℕ) (f : Frame) (t : Node) → f.next ≡ 0 → IsPermutation ks f.places.items → ComesTo ts (left f) t → Makes ts ks t
makes_permuted ts ks f t e m c = record {
  canonical = c.canonical;
  same = λ p. (
    (λ h. (c.same p).0 (subst (λ (z : List ℕ). HasAmong ts z p) (sym (left_all f e)) ((permuted (HasAt ts) ks f.places.items m p).0 h))),
    (λ h. (permuted (HasAt ts) ks f.places.items m p).1 (subst (λ (z : List ℕ). HasAmong ts z p) (left_all f e) ((c.same p).1 h))),
  );
}

opened : {ts : List Token} {following : List ℕ} {before after : List Frame} (vs : List Token) → OpensSome ts following before after → Owes ts (reverse after) vs → Opened ts following before vs
opened {ts} {following} {before} vs (inl o) owes =
    let g : Owes ts (o.1.frame ∷ reverse before) vs = subst (λ (z : List Frame). Owes ts z vs) (ap reverse o.1.frames_are ∙ reverse_push before o.1.frame) owes in
    record {
      prefix = pre g.0;
      rest = g.1;
      are = g.3;
      owes = g.4;
      made = inl (g.0, makes_permuted ts following o.1.frame g.0 o.1.next_is o.1.sort.permutation g.2, refl);
    }
opened {ts} vs (inr n) owes = record {
  prefix = [];
  rest = vs;
  are = refl;
  owes = subst (λ (z : List Frame). Owes ts (reverse z) vs) n.1 owes;
  made = inr (n.0, refl);
}

-- the run at which a frame begins
pub run_facts : {ts : List Token} {ks : List ℕ} {from end : ℕ} → IsRunEnd ts ks from end → All (IsItem ts) (drop from ks) → IsRun ts (take (end - from) (drop from ks))
run_facts {ts} {ks} {from} {end} r items =
    let len = run_length ks from end r.within in
    let less = r.some in
    let same = ap (step_at ts) (run_first ks from end r.some) in
    record {
      some = omega arith;
      items = All-take (IsItem ts) (end - from) (drop from ks) items;
      alike = λ j d l. run_alike ts ks from end r j d l ∙ sym same;
    }

pub line_within : {ts : List Token} {ks : List ℕ} {from end d : ℕ} → IsRunEnd ts ks from end → IsRun ts (take (end - from) (drop from ks)) → IsChain ts (take (end - from) (drop from ks)) d
    → get_or ks from 0 + d < length ts
line_within {ts} {ks} {from} {end} {d} r facts chain = subst (λ (z : ℕ). z + d < length ts) (run_first ks from end r.some) (chain 0 0 facts.some).within.0

-- ---- what is left of the frame

tokens_more : (out xs prefix pw us : List Token) → out ++ (token.Fork ∷ (((xs ++ prefix) ++ pw) ++ us)) ≡ ((out ++ token.Fork ∷ []) ++ xs) ++ (prefix ++ (pw ++ us))
tokens_more out xs prefix pw us =
    ap (λ (z : List Token). out ++ (token.Fork ∷ z)) (append_assoc (xs ++ prefix) pw us ∙ append_assoc xs prefix (pw ++ us))
    ∙ sym (append_assoc (out ++ token.Fork ∷ []) xs (prefix ++ (pw ++ us)) ∙ append_assoc out (token.Fork ∷ []) (xs ++ (prefix ++ (pw ++ us))))

tokens_last : (out xs prefix us : List Token) → out ++ ((xs ++ prefix) ++ us) ≡ (out ++ xs) ++ (prefix ++ us)
tokens_last out xs prefix us = ap (λ (z : List Token). out ++ z) (append_assoc xs prefix us) ∙ sym (append_assoc out xs (prefix ++ us))

-- tokens are written, and others are owed, which together are those of what a run comes to
record WritesRun (ts : List Token) (run : List ℕ) (now later vs ws : List Token) : Type 0 where
  line : List Token
  prefix : List Token
  later_is : later ≡ now ++ line
  vs_are : vs ≡ prefix ++ ws
  comes : RunComes ts run (line ++ prefix)

-- the tokens of a frame whose first run comes to an item
owes_more : {ts : List Token} {f : Frame} {end : ℕ} {before mid : List Frame} {out now later vs : List Token} (ws : List Token) → IsFrame ts f → IsRunEnd ts f.places.items f.next end
    → LeavesMore f.places.items end before mid out now → Owes ts (reverse mid) ws → WritesRun ts (take (end - f.next) (drop f.next f.places.items)) now later vs ws
    → OwesAfter ts (f ∷ reverse before) out later vs
owes_more {ts} {f} {end} {before} {out = out} ws frame r l owes w =
    let g : Owes ts (l.frame ∷ reverse before) ws = subst (λ (z : List Frame). Owes ts z ws) (ap reverse l.frames_are ∙ reverse_push before l.frame) owes in
    let left_is : left l.frame ≡ drop end f.places.items = (λ i. drop (l.next_is i) (l.places_are i)) in
    let rest : ComesTo ts (drop end f.places.items) g.0 = subst (λ (z : List ℕ). ComesTo ts z g.0) left_is g.2 in
    let e0 : end + 0 ≡ end = omega arith in
    let later_is : get_or (drop end f.places.items) 0 0 ≡ get_or f.places.items end 0 = get_or-drop end f.places.items 0 0 ∙ ap (λ (z : ℕ). get_or f.places.items z 0) e0 in
    let less : step_cmp (step_at ts (get_or (take (end - f.next) (drop f.next f.places.items)) 0 0)) (step_at ts (get_or (drop end f.places.items) 0 0)) ≡ Less =
    (λ i. step_cmp (step_at ts (run_first f.places.items f.next end r.some i)) (step_at ts (later_is i))) ∙ next_later ts f.places.items f.next end r frame.sorted l.more in
    let joined = comes_more g.0 (run_facts r frame.items).some w.comes rest less in
    let less_or = r.some in
    let split = run_split f.places.items f.next end (omega arith) in
    record {
      owed = pre (more w.comes.item g.0) ++ g.1;
      owes = (more w.comes.item g.0, g.1, subst (λ (z : List ℕ). ComesTo ts z (more w.comes.item g.0)) split joined, refl, g.4);
      same = ap (λ (z : List Token). out ++ (token.Fork ∷ ((z ++ pre g.0) ++ g.1))) w.comes.are ∙ tokens_more out w.line w.prefix (pre g.0) g.1
          ∙ (λ i. ((sym l.written i) ++ w.line) ++ (w.prefix ++ sym g.3 i))
          ∙ (λ i. sym w.later_is i ++ sym w.vs_are i);
    }

owes_last : {ts : List Token} {f : Frame} {end : ℕ} {before mid : List Frame} {out now later vs : List Token} (ws : List Token) → IsRunEnd ts f.places.items f.next end
    → LeavesNone f.places.items end before mid out now → Owes ts (reverse mid) ws → WritesRun ts (take (end - f.next) (drop f.next f.places.items)) now later vs ws
    → OwesAfter ts (f ∷ reverse before) out later vs
owes_last {ts} {f} {end} {before} {out = out} {vs = vs} ws r l owes w =
    let less_or = r.some in
    let all : take (end - f.next) (drop f.next f.places.items) ≡ drop f.next f.places.items =
    sym (append-nil (take (end - f.next) (drop f.next f.places.items)))
    ∙ ap (λ (z : List ℕ). take (end - f.next) (drop f.next f.places.items) ++ z) (sym (drop_all end f.places.items l.none))
    ∙ run_split f.places.items f.next end (omega arith) in
    record {
      owed = pre_item w.comes.item ++ ws;
      owes = (
        last w.comes.item,
        ws,
        subst (λ (z : List ℕ). ComesTo ts z (last w.comes.item)) all (comes_last w.comes),
        refl,
        subst (λ (z : List Frame). Owes ts (reverse z) ws) l.frames_are owes,
      );
      same = ap (λ (z : List Token). out ++ (z ++ ws)) w.comes.are ∙ tokens_last out w.line w.prefix ws ∙ (λ i. ((sym l.written i) ++ w.line) ++ sym w.vs_are i) ∙ (λ i. sym w.later_is i ++ vs);
    }

-- ---- frames

frames_left : {ts : List Token} {f : Frame} {end : ℕ} {before mid : List Frame} {out now : List Token} → IsFrame ts f → IsRunEnd ts f.places.items f.next end
    → Leaves f.places.items end before mid out now → All (IsFrame ts) before → All (IsFrame ts) mid
frames_left {ts} {f} {end} {before} h r (inl l) all =
    let less_or = r.some in
    let split = run_split f.places.items f.next end (omega arith) in
    subst (All (IsFrame ts)) (sym l.frames_are) (All-push (IsFrame ts) before l.frame all (record {
      some = (let a = l.more in let b = ap length l.places_are in let e = l.next_is in omega arith);
      items = subst (All (IsItem ts)) (λ i. drop (sym l.next_is i) (sym l.places_are i))
          (All-append_right (take (end - f.next) (drop f.next f.places.items)) (drop end f.places.items) (subst (All (IsItem ts)) (sym split) h.items));
      sorted = subst (IsSortedBy (comes_before ts)) (sym l.places_are) h.sorted;
    }))
  where
    All-append_right : (xs ys : List ℕ) → All (IsItem ts) (xs ++ ys) → All (IsItem ts) ys
    All-append_right xs ys g = λ k d len. All-contains (IsItem ts) (xs ++ ys) (get_or ys k d) g (Contains-append_right xs ys (get_or ys k d) (Contains-get_or ys k d len))
frames_left {ts} h r (inr l) all = subst (All (IsFrame ts)) (sym l.frames_are) all

frames_opened : {ts : List Token} {following : List ℕ} {before after : List Frame} → OpensSome ts following before after → All (IsItem ts) following → All (IsFrame ts) before → All (IsFrame ts) after
frames_opened {ts} {following} {before} (inl o) items all =
    let len = length_permutation following o.1.frame.places.items o.1.sort.permutation in
    let some = o.0 in
    let e = o.1.next_is in
    subst (All (IsFrame ts)) (sym o.1.frames_are) (All-push (IsFrame ts) before o.1.frame all (record {
      some = omega arith;
      items = subst (All (IsItem ts)) (sym (left_all o.1.frame o.1.next_is)) (All-permutation (IsItem ts) following o.1.frame.places.items o.1.sort.permutation items);
      sorted = o.1.sort.sorted;
    }))
frames_opened {ts} (inr n) items all = subst (All (IsFrame ts)) (sym n.1) all

-- ---- what is owed falls

owed_left : (es : List ℕ) {ks : List ℕ} {end : ℕ} {before mid : List Frame} {out now : List Token} → Leaves ks end before mid out now → owed es mid ≤ owed es before + total es (drop end ks)
owed_left es {ks} {end} {before} (inl l) =
    let pushed = ap (owed es) l.frames_are ∙ sum_by_push (λ (f : Frame). total es (left f)) before l.frame in
    let same : total es (left l.frame) ≡ total es (drop end ks) = (λ i. total es (drop (l.next_is i) (l.places_are i))) in
    omega arith
owed_left es (inr l) = let same = ap (owed es) l.frames_are in omega arith

owed_opened : (es : List ℕ) {ts : List Token} {following : List ℕ} {before after : List Frame} → OpensSome ts following before after → owed es after ≤ owed es before + total es following
owed_opened es {following = following} {before} (inl o) =
    let pushed = ap (owed es) o.1.frames_are ∙ sum_by_push (λ (f : Frame). total es (left f)) before o.1.frame in
    let same = ap (total es) (left_all o.1.frame o.1.next_is) ∙ sum_by-IsPermutation (size es) following o.1.frame.places.items o.1.sort.permutation in
    omega arith
owed_opened es (inr n) = let same = ap (owed es) n.1 in omega arith

-- ---- one item is written

-- the run at which a frame begins, the steps that follow alike, and what stands after
pub record Advances (ts : List Token) (es : List ℕ) (f : Frame) (end d : ℕ) (following : List ℕ) : Type 0 where
  pub is_end : IsRunEnd ts f.places.items f.next end
  pub chain : IsChain ts (take (end - f.next) (drop f.next f.places.items)) d
  pub are_after : AreAfter ts es (shifted d (take (end - f.next) (drop f.next f.places.items))) following

pub writes : {ts : List Token} {es : List ℕ} {f : Frame} {end d : ℕ} {following : List ℕ} {before mid after : List Frame} {out now later : List Token}
    → AllByRecursion IsToken ts → AreEnds ts es → IsFrame ts f → Advances ts es f end d following → Leaves f.places.items end before mid out now
    → later ≡ now ++ take (suc d) (drop (get_or f.places.items f.next 0) ts) → OpensSome ts following mid after → Writes ts es f before after out later
writes {ts} {es} {f} {end} {d} {following} {before} {mid} {after} {out} {now} {later} limits ends frame a l e o = record {
  frames = λ all. frames_opened o a.are_after.covers.items (frames_left frame a.is_end l all);
  owes = owes;
  fewer = fewer;
}
  where
    owes : (vs : List Token) → Owes ts (reverse after) vs → OwesAfter ts (f ∷ reverse before) out later vs
    owes vs given =
        let g = opened vs o given in
        let run = take (end - f.next) (drop f.next f.places.items) in
        let w : WritesRun ts run now later vs g.rest = record {
          line = take (suc d) (drop (get_or f.places.items f.next 0) ts);
          prefix = g.prefix;
          later_is = e;
          vs_are = g.are;
          comes = subst (λ (z : ℕ). RunComes ts run (take (suc d) (drop z ts) ++ g.prefix)) (run_first f.places.items f.next end a.is_end.some)
              (chain_comes d run limits ends (run_facts a.is_end frame.items) a.chain a.are_after g.made);
        } in
        elim l [
          | inl m ↦ owes_more g.rest frame a.is_end m g.owes w
          | inr n ↦ owes_last g.rest a.is_end n g.owes w
        ]

    fewer : owed es after < owed es before + total es (left f)
    fewer =
        let one = owed_left es l in
        let two = owed_opened es o in
        let facts = run_facts a.is_end frame.items in
        let some = facts.some in
        let few = a.are_after.few in
        let steps = chain_few d (take (end - f.next) (drop f.next f.places.items)) ends facts a.chain in
        let len = length-map (take (end - f.next) (drop f.next f.places.items)) (λ (k : ℕ). k + d) in
        let less_or = a.is_end.some in
        let split = sym (sum_by-append (size es) (take (end - f.next) (drop f.next f.places.items)) (drop end f.places.items)) ∙ ap (total es) (run_split f.places.items f.next end (omega arith)) in
        omega arith

-- ---- the loop

-- what is written, and then what the frames owe, are the tokens of the canonical tree
pub record IsWriting (ts : List Token) (ks : List ℕ) (frames : List Frame) (out : List Token) : Type 0 where
  pub frames_are : All (IsFrame ts) frames
  pub owes : (vs : List Token) → Owes ts (reverse frames) vs → IsFormOf ts ks (out ++ vs)

pub writing_begin : {ts : List Token} {ks : List ℕ} {before frames : List Frame} {out : List Token} → before ≡ [] → out ≡ [] → Opens ts ks before frames → All (IsItem ts) ks → 0 < length ks → IsWriting ts ks frames out
writing_begin {ts} eb eo o items some = record {
  frames_are = frames_opened (inl (some, o)) items (subst (All (IsFrame ts)) (sym eb) (All-nil (IsFrame ts)));
  owes = λ vs given.
      let g = opened vs (inl (some, o)) given in
      let none : g.rest ≡ [] = subst (λ (z : List Frame). Owes ts (reverse z) g.rest) eb g.owes in
      elim g.made [
        | inl m ↦ record {
          node = m.0;
          canonical = m.1.canonical;
          same = m.1.same;
          are = sym (append-nil (pre m.0)) ∙ (λ i. sym m.2 i ++ sym none i) ∙ sym g.are ∙ (λ i. sym eo i ++ vs);
        }
        | inr n ↦ absurd (let e = ap length n.0 in omega arith)
      ];
}

pub frame_popped : {ts : List Token} {ks : List ℕ} {frames : List Frame} {out : List Token} (before : List Frame) (f : Frame) → frames ≡ before ++ f ∷ [] → IsWriting ts ks frames out → IsFrame ts f
frame_popped {ts} {frames = frames} before f e h = All-contains (IsFrame ts) frames f h.frames_are (subst (λ (z : List Frame). Contains z f) (sym e) (Contains-push before f))

frames_popped : (ts : List Token) (frames before : List Frame) (f : Frame) → frames ≡ before ++ f ∷ [] → All (IsFrame ts) frames → All (IsFrame ts) before
frames_popped ts frames before f e h = λ k d len. All-contains (IsFrame ts) frames (get_or before k d) h
    (subst (λ (z : List Frame). Contains z (get_or before k d)) (sym e) (Contains-append_left before (f ∷ []) (get_or before k d) (Contains-get_or before k d len)))

pub writing_next : {ts : List Token} {es ks : List ℕ} {frames before after : List Frame} {f : Frame} {out now : List Token} → frames ≡ before ++ f ∷ []
    → Writes ts es f before after out now → IsWriting ts ks frames out → IsWriting ts ks after now
writing_next {ts} {ks = ks} {frames} {before} {f = f} e w h = record {
  frames_are = w.frames (frames_popped ts frames before f e h.frames_are);
  owes = λ vs given.
      let a = w.owes vs given in
      subst (IsFormOf ts ks) a.same (h.owes a.owed (subst (λ (z : List Frame). Owes ts z a.owed) (sym (ap reverse e ∙ reverse_push before f)) a.owes));
}

pub writing_falls : {ts : List Token} {es : List ℕ} {frames before after : List Frame} {f : Frame} {out now : List Token} → frames ≡ before ++ f ∷ []
    → Writes ts es f before after out now → owed es after < owed es frames
writing_falls {es = es} {before = before} {f = f} e w =
    let pushed = ap (owed es) e ∙ sum_by_push (λ (f : Frame). total es (left f)) before f in
    let few = w.fewer in
    omega arith

pub writing_end : {ts : List Token} {ks : List ℕ} {frames : List Frame} {out : List Token} → frames ≡ [] → IsWriting ts ks frames out → IsFormOf ts ks out
writing_end {ts} {ks} {out = out} e h = subst (IsFormOf ts ks) (append-nil out) (h.owes [] (subst (λ (z : List Frame). Owes ts (reverse z) []) (sym e) refl))

pub none_left : (frames : List Frame) → length frames ≡ 0 → frames ≡ []
none_left [] e = refl
none_left (f ∷ fs) e = absurd (omega arith)
