-- The path that pruning keeps.
use Rattle.std.proofs.Common.{◌≡◌, ◌↔◌, ◌⊎◌, ℕ, ◌+◌, ◌<◌, List, [], ◌∷◌, ◌++◌, length, get_or, take, Bool, true, false, not, Option, Some, None, refl, sym, ap, subst, ◌∙◌, inl, inr, arith, append_assoc}
use Rattle.std.specs.Prelude.{Contains, All, slice_get, cond, ◌&&◌, if◌then◌else◌}
use Rattle.std.specs.List.{filter}
use Rattle.std.specs.Ordering.{is_lt, is_eq, ordering_then, ordering_reverse}
use Rattle.std.specs.declared.cmp.Ordering.{Ordering}
use Rattle.std.specs.declared.cmp.Ordering.TheVariants.{Less, Equal, Greater}
use Rattle.std.proofs.lemmas.Bool.{and_parts, cases_lt}
use Rattle.std.proofs.lemmas.Cmp.{tied_itself}
use Rattle.std.proofs.lemmas.List.{take_more, append-nil}
use Rattle.std.proofs.lemmas.List.Elements.{All-contains, All-filter, All-contains_itself, filter_passes, Contains-append_left, Contains-append_right, Contains-append_cases, Contains-push, Contains-push_cases}
use Rattle.std.proofs.lemmas.List.Filters.{sum_by-filter_both}
use Rattle.ots_ops.specs.declared.op.Op.{Op}
use Rattle.ots_attest.specs.declared.attestation.Attestation.{Attestation}
use Rattle.ots_attest.specs.declared.attestation.Attestation.TheVariants.{Bitcoin}
use Rattle.ots_tree.specs.declared.token.Token.{Token}
use Rattle.ots_tree.specs.declared.token.Token.TheVariants as token
use Rattle.ots_tree.specs.Wire.{Node, Item, last, attested, step, Path, below, paths, pre, IsPre}
use Rattle.ots_canon.specs.Order.{op_step, end_step, step_cmp, path_cmp, Has}
use Rattle.ots_canon.specs.Canonical.{IsCanonOf}
use Rattle.ots_canon.specs.Prune.{IsPruneOf}
use Rattle.ots_canon.specs.Steps.{step_at}
use Rattle.ots_canon.specs.Places.{IsNodeAt, IsItem, HasAt, HasAmong, Covers, AreAfter, Gathers, size, total}
use Rattle.ots_canon.specs.Leading.{IsLeastHeight, is_marked, AreLeads, first_of, IsFirst, IsFirstMarked, is_of_run, line, IsFirstPath, IsLineOfFirst}
use Rattle.ots_canon.proofs.Orders.{is_less, equal_of, step_total, same_step, same_op}
use Rattle.ots_canon.proofs.Growing.{single, single-paths, single-canonical, path_of}
use Rattle.ots_canon.proofs.Nodes.{step_is, this_token, end_node, has_here}
use Rattle.ots_canon.proofs.Among.{contains_none, contains_one, contains_some, onward, at_one, has_below, is_below}
use Rattle.ots_canon.proofs.Gathering.{covers_none, items_more}
use Rattle.ots_canon.proofs.Leading.{path_token, token_path, leads_end, marked}

-- ---- the first of the marked places

-- what comes before the first of two places comes before the second
before_both : (x y z : List ℕ) → is_lt (step_cmp y z) ≡ true → is_lt (step_cmp x z) ≡ false → is_lt (step_cmp x y) ≡ false
before_both x y z l n = by (is_lt (step_cmp x y)) refl
  where
    by : (b : Bool) → is_lt (step_cmp x y) ≡ b → b ≡ false
    by true e = absurd (let less = ap is_lt (step_total.trans x y z (is_less _ e) (is_less _ l)) in cc)
    by false e = refl

not_itself : (x : List ℕ) → is_lt (step_cmp x x) ≡ false
not_itself x = ap is_lt (tied_itself step_total x)

first_push : (ts : List Token) (ls : List Bool) (ks : List ℕ) (k : ℕ) (found : Option ℕ) → is_marked ls k ≡ true → IsFirstMarked ts ls ks found
    → IsFirst ts ls (ks ++ k ∷ []) (first_of ts found k)
first_push ts ls ks k None m f = record {
  listed = Contains-push ks k;
  marked = m;
  least = λ j c n. elim (Contains-push_cases ks k j c) [
    | inl a ↦ absurd (f j a n)
    | inr e ↦ subst (λ (z : ℕ). is_lt (step_cmp (step_at ts z) (step_at ts k)) ≡ false) e (not_itself (step_at ts k))
  ];
}
first_push ts ls ks k (Some first) m f = by (is_lt (step_cmp (step_at ts k) (step_at ts first))) refl
  where
    by : (b : Bool) → is_lt (step_cmp (step_at ts k) (step_at ts first)) ≡ b → IsFirst ts ls (ks ++ k ∷ []) (if b then k else first)
    by true e = record {
      listed = Contains-push ks k;
      marked = m;
      least = λ j c n. elim (Contains-push_cases ks k j c) [
        | inl a ↦ before_both (step_at ts j) (step_at ts k) (step_at ts first) e (f.least j a n)
        | inr g ↦ subst (λ (z : ℕ). is_lt (step_cmp (step_at ts z) (step_at ts k)) ≡ false) g (not_itself (step_at ts k))
      ];
    }
    by false e = record {
      listed = Contains-append_left ks (k ∷ []) first f.listed;
      marked = f.marked;
      least = λ j c n. elim (Contains-push_cases ks k j c) [
        | inl a ↦ f.least j a n
        | inr g ↦ subst (λ (z : ℕ). is_lt (step_cmp (step_at ts z) (step_at ts first)) ≡ false) g e
      ];
    }

first_skip : (ts : List Token) (ls : List Bool) (ks : List ℕ) (k : ℕ) (found : Option ℕ) → is_marked ls k ≡ false → IsFirstMarked ts ls ks found → IsFirstMarked ts ls (ks ++ k ∷ []) found
first_skip ts ls ks k found m = by found
  where
    before : (j : ℕ) → Contains (ks ++ k ∷ []) j → is_marked ls j ≡ true → Contains ks j
    before j c n = elim (Contains-push_cases ks k j c) [ inl a ↦ a | inr e ↦ absurd (let same = ap (is_marked ls) e in cc) ]

    by : (found : Option ℕ) → IsFirstMarked ts ls ks found → IsFirstMarked ts ls (ks ++ k ∷ []) found
    by None f = λ j c n. f j (before j c n) n
    by (Some first) f = record { listed = Contains-append_left ks (k ∷ []) first f.listed; marked = f.marked; least = λ j c n. f.least j (before j c n) n }

pub first_marked : (ts : List Token) (ls : List Bool) (ks : List ℕ) (n : ℕ) (found : Option ℕ) → n < length ks → is_marked ls (get_or ks n 0) ≡ true → IsFirstMarked ts ls (take n ks) found
    → IsFirstMarked ts ls (take (n + 1) ks) (Some (first_of ts found (get_or ks n 0)))
first_marked ts ls ks n found l m f =
    subst (λ (z : List ℕ). IsFirst ts ls z (first_of ts found (get_or ks n 0))) (sym (take_more ks n 0 l)) (first_push ts ls (take n ks) (get_or ks n 0) found m f)

pub first_unmarked : (ts : List Token) (ls : List Bool) (ks : List ℕ) (n : ℕ) (found : Option ℕ) → n < length ks → is_marked ls (get_or ks n 0) ≡ false → IsFirstMarked ts ls (take n ks) found
    → IsFirstMarked ts ls (take (n + 1) ks) found
first_unmarked ts ls ks n found l m f =
    subst (λ (z : List ℕ). IsFirstMarked ts ls z found) (sym (take_more ks n 0 l)) (first_skip ts ls (take n ks) (get_or ks n 0) found m f)

-- ---- one step of the walk

-- from the items of a group to those after the first that leads to the height
pub record Turn (ts : List Token) (es : List ℕ) (ls : List Bool) (height : ℕ) (ks : List ℕ) (first : ℕ) (after : List ℕ) : Type 0 where
  pub items : All (IsItem ts) ks
  pub marks : AreLeads ts height ls
  pub is_first : IsFirst ts ls ks first
  pub are_after : AreAfter ts es (filter (is_of_run ts ls first) ks) after

filter_keeps : (p : ℕ → Bool) (xs : List ℕ) (x : ℕ) → Contains xs x → p x ≡ true → Contains (filter p xs) x
filter_keeps p [] x c e = absurd (contains_none x c)
filter_keeps p (y ∷ ys) x c e = by (p y) refl (λ a. filter_keeps p ys x a e)
  where
    by : (b : Bool) → p y ≡ b → ((a : Contains ys x) → Contains (filter p ys) x) → Contains (cond b (y ∷ filter p ys) (filter p ys)) x
    by true f onward = elim (Contains-append_cases (y ∷ []) ys x c) [
      | inl a ↦ Contains-append_left (y ∷ []) (filter p ys) x a
      | inr a ↦ Contains-append_right (y ∷ []) (filter p ys) x (onward a)
    ]
    by false f onward = elim (Contains-append_cases (y ∷ []) ys x c) [
      | inl a ↦ absurd (let same = ap p (contains_one y x a) in cc)
      | inr a ↦ onward a
    ]

-- which places are in the run
record InRun (ts : List Token) (ks : List ℕ) (first k : ℕ) : Type 0 where
  listed : Contains ks k
  alike : step_at ts first ≡ step_at ts k

of_run : (ts : List Token) (ls : List Bool) (ks : List ℕ) (first k : ℕ) → Contains (filter (is_of_run ts ls first) ks) k → InRun ts ks first k
of_run ts ls ks first k c =
    let both = and_parts (is_marked ls k) (is_eq (step_cmp (step_at ts first) (step_at ts k))) (All-contains (λ (x : ℕ). is_of_run ts ls first x ≡ true) (filter (is_of_run ts ls first) ks) k (filter_passes (is_of_run ts ls first) ks) c) in
    record {
      listed = All-contains (Contains ks) (filter (is_of_run ts ls first) ks) k (All-filter (is_of_run ts ls first) (Contains ks) ks (All-contains_itself ks)) c;
      alike = same_step (step_at ts first) (step_at ts k) (equal_of _ both.1);
    }

in_run : (ts : List Token) (ls : List Bool) (ks : List ℕ) (first k : ℕ) → Contains ks k → is_marked ls k ≡ true → step_at ts first ≡ step_at ts k → Contains (filter (is_of_run ts ls first) ks) k
in_run ts ls ks first k c m e = filter_keeps (is_of_run ts ls first) ks k c
    ((λ i. m i && is_eq (step_cmp (step_at ts first) (sym e i))) ∙ ap is_eq (tied_itself step_total (step_at ts first)))

-- how a path begins, at the item that has it
record BeginsEnd (ts : List Token) (k : ℕ) (p : Path) : Type 0 where
  end : Attestation
  is_at : IsNodeAt ts k (last (attested end))
  is : path_of [] end ≡ p

record BeginsOp (ts : List Token) (k : ℕ) (p : Path) : Type 0 where
  op : Op
  node : Node
  is_at : IsNodeAt ts k (last (step op node))
  inner : Path
  has : Has (paths node) inner
  is : below op inner ≡ p

begins : {ts : List Token} {k : ℕ} {p : Path} → IsItem ts k → HasAt ts k p → BeginsEnd ts k p ⊎ BeginsOp ts k p
begins {ts} {k} {p} i h = by i.item i.is_at
  where
    by : (i : Item) → IsNodeAt ts k (last i) → BeginsEnd ts k p ⊎ BeginsOp ts k p
    by (attested a) at = elim ((has_here ts k (last (attested a)) at p).0 h) [
      | inl e ↦ inl (record { end = a; is_at = at; is = e })
      | inr n ↦ absurd n
    ]
    by (step o t) at =
        let b = is_below o (paths t) p ((has_here ts k (last (step o t)) at p).0 h) in
        inr (record { op = o; node = t; is_at = at; inner = b.inner; has = b.has; is = b.is })

-- ---- the first item that leads to the height is an attestation

ends_there : {ts : List Token} {ls : List Bool} {height : ℕ} {ks : List ℕ} {first : ℕ} (a : Attestation) → All (IsItem ts) ks → AreLeads ts height ls → IsFirst ts ls ks first
    → IsNodeAt ts first (last (attested a)) → IsFirstPath ts height ks (path_of [] a)
ends_there {ts} {ls} {height} {ks} {first} a items marks f at = record {
  one = record { place = first; listed = f.listed; has = (has_here ts first (last (attested a)) at (path_of [] a)).1 (inl refl) };
  ends = ends;
  least = λ q h e. elim (begins (All-contains (IsItem ts) ks h.place items h.listed) h.has) [
    | inl b ↦ inl (sym b.is ∙ ap (path_of []) (ap (λ (z : Path). z.end) b.is ∙ e ∙ sym ends))
    | inr b ↦ inr (ap (path_cmp (path_of [] a)) (sym b.is))
  ];
}
  where
    ends : a ≡ Bitcoin height
    ends = (leads_end at).0 ((marked marks (All-contains (IsItem ts) ks first items f.listed)).0 f.marked)

-- ---- it is an operation

-- what lies after the run
after_run : {ts : List Token} {es : List ℕ} {ls : List Bool} {height : ℕ} {ks : List ℕ} {first : ℕ} {after : List ℕ} {k : ℕ} {o : Op} {v : Node} {r : Path}
    → Turn ts es ls height ks first after → Contains ks k → IsNodeAt ts k (last (step o v)) → step_at ts first ≡ op_step o → Has (paths v) r → r.end ≡ Bitcoin height → HasAmong ts after r
after_run {ts} {es} {ls} {height} {ks} {first} {after} {k} {o} {v} {r} t c at e h ends =
    let has : HasAt ts k (below o r) = (has_here ts k (last (step o v)) at (below o r)).1 (has_below o (paths v) r h) in
    let mark = (marked t.marks (All-contains (IsItem ts) ks k t.items c)).1 (record { path = below o r; has = has; ends = ends }) in
    (t.are_after.covers.same r).1 (record { place = k; listed = in_run ts ls ks first k c mark (e ∙ sym (step_is ts k (step o v) at)); has = record { op = o; node = v; is_at = at; has = h } })

then_after : (o : Ordering) (p : Ordering) → o ≡ Equal → ordering_then o p ≡ p
then_after o p e = ap (λ (z : Ordering). ordering_then z p) e

goes_on : {ts : List Token} {es : List ℕ} {ls : List Bool} {height : ℕ} {ks : List ℕ} {first : ℕ} {after : List ℕ} (us : List Token) (o : Op) (v : Node)
    → Turn ts es ls height ks first after → IsNodeAt ts first (last (step o v)) → IsLineOfFirst ts height after us → IsLineOfFirst ts height ks (token.Op o ∷ us)
goes_on {ts} {es} {ls} {height} {ks} {first} {after} us o v t at (inl g) = inl (
  below o g.0,
  record {
    one =
        let b = (t.are_after.covers.same g.0).0 g.1.one in
        let r = of_run ts ls ks first b.place b.listed in
        let same : b.has.op ≡ o = same_op b.has.op o (sym (step_is ts b.place (step b.has.op b.has.node) b.has.is_at) ∙ sym r.alike ∙ step_is ts first (step o v) at) in
        let here : IsNodeAt ts b.place (last (step o b.has.node)) = subst (λ (z : Op). IsNodeAt ts b.place (last (step z b.has.node))) same b.has.is_at in
        record { place = b.place; listed = r.listed; has = (has_here ts b.place (last (step o b.has.node)) here (below o g.0)).1 (has_below o (paths b.has.node) g.0 b.has.has) };
    ends = g.1.ends;
    least = least;
  },
  ap (λ (z : List Token). token.Op o ∷ z) g.2,
)
  where
    step_first : step_at ts first ≡ op_step o
    step_first = step_is ts first (step o v) at

    -- a path that ends in the height does not begin before the first does
    not_before : (q : Path) (k : ℕ) (s : List ℕ) → Contains ks k → HasAt ts k q → q.end ≡ Bitcoin height → step_at ts k ≡ s → is_lt (step_cmp s (op_step o)) ≡ false
    not_before q k s c h e f =
        let mark = (marked t.marks (All-contains (IsItem ts) ks k t.items c)).1 (record { path = q; has = h; ends = e }) in
        (λ i. is_lt (step_cmp (sym f i) (sym step_first i))) ∙ t.is_first.least k c mark

    by_op : (r : Path) (u : Op) {k : ℕ} {w : Node} → Contains ks k → IsNodeAt ts k (last (step u w)) → Has (paths w) r → r.end ≡ Bitcoin height → is_lt (step_cmp (op_step u) (op_step o)) ≡ false
        → (c : Ordering) → step_cmp (op_step o) (op_step u) ≡ c → (below u r ≡ below o g.0) ⊎ (path_cmp (below o g.0) (below u r) ≡ Less)
    by_op r u c h has e f Less x = inr (ap (λ (z : Ordering). ordering_then z (path_cmp g.0 r)) x)
    by_op r u {k} {w} c h has e f Equal x =
        let same : o ≡ u = same_op o u (same_step (op_step o) (op_step u) x) in
        elim (g.1.least r (after_run t c h (step_first ∙ ap op_step same) has e) e) [
          | inl eq ↦ inl (λ i. below (sym same i) (eq i))
          | inr less ↦ inr (then_after (step_cmp (op_step o) (op_step u)) (path_cmp g.0 r) x ∙ less)
        ]
    by_op r u c h has e f Greater x = absurd (let less = ap is_lt (step_total.antisymm (op_step u) (op_step o) ∙ ap ordering_reverse x) in cc)

    least : (q : Path) → HasAmong ts ks q → q.end ≡ Bitcoin height → (q ≡ below o g.0) ⊎ (path_cmp (below o g.0) q ≡ Less)
    least q h e = elim (begins (All-contains (IsItem ts) ks h.place t.items h.listed) h.has) [
      | inl b ↦ absurd (let n = not_before q h.place (end_step b.end) h.listed h.has e (step_is ts h.place (attested b.end) b.is_at) in cc)
      | inr b ↦ subst (λ (z : Path). (z ≡ below o g.0) ⊎ (path_cmp (below o g.0) z ≡ Less)) b.is
          (by_op b.inner b.op h.listed b.is_at b.has (ap (λ (z : Path). z.end) b.is ∙ e)
          (not_before q h.place (op_step b.op) h.listed h.has e (step_is ts h.place (step b.op b.node) b.is_at)) (step_cmp (op_step o) (op_step b.op)) refl)
    ]
goes_on {ts} {es} {ls} {height} {ks} {first} {after} us o v t at (inr n) =
    let l = (marked t.marks (All-contains (IsItem ts) ks first t.items t.is_first.listed)).0 t.is_first.marked in
    let b = is_below o (paths v) l.path ((has_here ts first (last (step o v)) at l.path).0 l.has) in
    let e : b.inner.end ≡ Bitcoin height = ap (λ (z : Path). z.end) b.is ∙ l.ends in
    absurd (n.0 b.inner (after_run t t.is_first.listed at (step_is ts first (step o v) at) b.has e) e)

turned : {ts : List Token} {es : List ℕ} {ls : List Bool} {height : ℕ} {ks : List ℕ} {first : ℕ} {after : List ℕ} (us : List Token) (x : Token)
    → slice_get ts first ≡ Some x → ((a : Attestation) → x ≡ token.Attestation a → ⊥) → Turn ts es ls height ks first after → IsLineOfFirst ts height after us → IsLineOfFirst ts height ks (x ∷ us)
turned {ts} {es} {ls} {height} {ks} {first} {after} us x is not_end t given = by i.item i.is_at
  where
    i : IsItem ts first
    i = All-contains (IsItem ts) ks first t.items t.is_first.listed

    by : (i : Item) → IsNodeAt ts first (last i) → IsLineOfFirst ts height ks (x ∷ us)
    by (attested a) at = absurd (not_end a (this_token at is))
    by (step o v) at = subst (λ (z : Token). IsLineOfFirst ts height ks (z ∷ us)) (sym (this_token at is)) (goes_on us o v t at given)

-- ---- the walk

-- what is written, and then the line of the group's first path, are the line of the tree's
pub record IsWalking (ts : List Token) (height : ℕ) (ks : List ℕ) (written : List Token) : Type 0 where
  pub items : All (IsItem ts) ks
  pub owes : (us : List Token) → IsLineOfFirst ts height ks us → IsLineOfFirst ts height (0 ∷ []) (written ++ us)

line_same : (ts : List Token) (height : ℕ) (ks ls : List ℕ) (vs : List Token) → ((p : Path) → HasAmong ts ks p ↔ HasAmong ts ls p) → IsLineOfFirst ts height ks vs → IsLineOfFirst ts height ls vs
line_same ts height ks ls vs same (inl g) = inl (g.0, record { one = (same g.0).0 g.1.one; ends = g.1.ends; least = λ q h e. g.1.least q ((same q).1 h) e }, g.2)
line_same ts height ks ls vs same (inr g) = inr ((λ p h e. g.0 p ((same p).1 h) e), g.1)

pub walk_begin : {ts : List Token} {es before now : List ℕ} {written : List Token} (height : ℕ) → before ≡ [] → written ≡ [] → Gathers ts es 0 before now → IsWalking ts height now written
walk_begin {ts} {es} {before} {now} {written} height e f g =
    let all = items_more (0 ∷ []) 0 (omega arith) g (subst (Covers ts (HasAt ts) []) (sym e) (covers_none ts (HasAt ts))) in
    record { items = all.items; owes = λ us given. subst (λ (z : List Token). IsLineOfFirst ts height (0 ∷ []) (z ++ us)) (sym f) (line_same ts height now (0 ∷ []) us all.same given) }

pub walk_next : {ts : List Token} {es : List ℕ} {ls : List Bool} {height : ℕ} {ks : List ℕ} {first : ℕ} {after : List ℕ} {x : Token} {written now : List Token}
    → slice_get ts first ≡ Some x → ((a : Attestation) → x ≡ token.Attestation a → ⊥) → now ≡ written ++ x ∷ [] → Turn ts es ls height ks first after → IsWalking ts height ks written
    → IsWalking ts height after now
walk_next {ts} {height = height} {x = x} {written = written} is not_end e t h = record {
  items = t.are_after.covers.items;
  owes = λ us given. subst (IsLineOfFirst ts height (0 ∷ [])) (sym (append_assoc written (x ∷ []) us) ∙ ap (λ (z : List Token). z ++ us) (sym e)) (h.owes (x ∷ us) (turned us x is not_end t given));
}

-- at an attestation the walk is done
pub walk_done : {ts : List Token} {ls : List Bool} {height : ℕ} {ks : List ℕ} {first : ℕ} {x : Token} {a : Attestation} {written : List Token} (now : List Token)
    → slice_get ts first ≡ Some x → x ≡ token.Attestation a → now ≡ written ++ x ∷ [] → AreLeads ts height ls → IsFirst ts ls ks first → IsWalking ts height ks written
    → IsLineOfFirst ts height (0 ∷ []) now
walk_done {ts} {ls} {height} {ks} {first} {x} {a} {written} now is e pushed marks f h =
    let i = All-contains (IsItem ts) ks first h.items f.listed in
    let at = subst (IsNodeAt ts first) (end_node (last i.item) a (sym e ∙ this_token i.is_at is)) i.is_at in
    subst (IsLineOfFirst ts height (0 ∷ [])) (ap (λ (z : Token). written ++ z ∷ []) (sym e) ∙ sym pushed)
    (h.owes (token.Attestation a ∷ []) (inl (path_of [] a, ends_there a h.items marks f at, refl)))

pub walk_falls : {ts : List Token} {es : List ℕ} {ls : List Bool} {height : ℕ} {ks : List ℕ} {first : ℕ} {after : List ℕ} → Turn ts es ls height ks first after → total es after < total es ks
walk_falls {ts} {es} {ls} {height} {ks} {first} {after} t =
    let some = contains_some (filter (is_of_run ts ls first) ks) first (in_run ts ls ks first first t.is_first.listed t.is_first.marked refl) in
    let both = sum_by-filter_both (is_of_run ts ls first) (λ (x : ℕ). not (is_of_run ts ls first x)) (λ _. refl) (size es) ks in
    let few = t.are_after.few in
    omega arith

pub walk_end : (ts : List Token) (ls : List Bool) (height : ℕ) (ks : List ℕ) (written : List Token) → IsFirstMarked ts ls ks None → AreLeads ts height ls → IsWalking ts height ks written
    → IsLineOfFirst ts height (0 ∷ []) written
walk_end ts ls height ks written f marks h =
    subst (IsLineOfFirst ts height (0 ∷ [])) (append-nil written) (h.owes [] (inr (none, refl)))
  where
    none : (p : Path) → HasAmong ts ks p → p.end ≡ Bitcoin height → ⊥
    none p a e = f a.place a.listed ((marked marks (All-contains (IsItem ts) ks a.place h.items a.listed)).1 (record { path = p; has = a.has; ends = e }))

-- ---- what is kept

single_line : (os : List Op) (a : Attestation) → pre (last (single os a)) ≡ line (path_of os a)
single_line [] a = refl
single_line (o ∷ os) a = ap (λ (z : List Token). token.Op o ∷ z) (single_line os a)

root_has : (ts : List Token) (t : Node) (p : Path) → pre t ≡ ts → HasAmong ts (0 ∷ []) p ↔ Has (paths t) p
root_has ts t p e = onward (at_one (HasAt ts) 0 p) (has_here ts 0 t (record { rest = []; are = sym e ∙ sym (append-nil (pre t)) }) p)

-- there is a path of the least height
kept : (ts us : List Token) (height : ℕ) → IsPre ts → IsLeastHeight ts (Some height) → IsLineOfFirst ts height (0 ∷ []) us → (p : Path) × IsFirstPath ts height (0 ∷ []) p × (us ≡ line p)
kept ts us height p l (inl g) = g
kept ts us height p l (inr n) =
    let e = token_path p.0 (Bitcoin height) (subst (λ (z : List Token). Contains z (token.Attestation (Bitcoin height))) (sym p.1) l.0) in
    absurd (n.0 e.path ((root_has ts p.0 e.path p.1).1 e.has) e.ends)

pub kept_pre : (ts us : List Token) (height : ℕ) → IsPre ts → IsLeastHeight ts (Some height) → IsLineOfFirst ts height (0 ∷ []) us → IsPre us
kept_pre ts us height p l g = let k = kept ts us height p l g in (last (single k.0.ops k.0.end), single_line k.0.ops k.0.end ∙ sym k.2)

other_height : (ts : List Token) (t : Node) (q : Path) (height : ℕ) → pre t ≡ ts → Has (paths t) q → q.end ≡ Bitcoin height → Contains ts (token.Attestation (Bitcoin height))
other_height ts t q height e h f =
    subst (λ (z : List Token). Contains z (token.Attestation (Bitcoin height))) e (subst (λ (z : Attestation). Contains (pre t) (token.Attestation z)) f (path_token t q h))

pub prune_kept : (ts us pruned : List Token) (height : ℕ) → IsPre ts → IsLeastHeight ts (Some height) → IsLineOfFirst ts height (0 ∷ []) us → pruned ≡ us → IsPruneOf ts pruned
prune_kept ts us pruned height p l g same =
    let k = kept ts us height p l g in
    record {
      node = p.0;
      are = p.1;
      form = inl (
        k.0,
        record {
          height = height;
          ends = k.1.ends;
          one = (root_has ts p.0 k.0 p.1).0 k.1.one;
          least = λ q other has e. elim (cases_lt height other) [
            | inl a ↦ inl a
            | inr b ↦
                let low = l.1 other (other_height ts p.0 q other p.1 has e) in
                let equal : height ≡ other = omega arith in
                inr (equal, k.1.least q ((root_has ts p.0 q p.1).1 has) (e ∙ ap (λ (z : ℕ). Bitcoin z) (sym equal)))
          ];
        },
        record {
          node = last (single k.0.ops k.0.end);
          is_tree = record { canonical = single-canonical k.0.ops k.0.end; same = single-paths k.0.ops k.0.end };
          are = single_line k.0.ops k.0.end ∙ sym k.2 ∙ sym same;
        },
      );
    }

pub prune_none : (ts form : List Token) → IsLeastHeight ts None → IsCanonOf ts form → IsPruneOf ts form
prune_none ts form l c = record {
  node = c.node;
  are = c.are;
  form = inr ((λ p height has e. l height (other_height ts c.node p height c.are has e)), c.form);
}

pub run_items : (ts : List Token) (ls : List Bool) (first : ℕ) (ks run : List ℕ) → run ≡ filter (is_of_run ts ls first) ks → All (IsItem ts) ks → All (IsItem ts) run
run_items ts ls first ks run e h = subst (All (IsItem ts)) (sym e) (All-filter (is_of_run ts ls first) (IsItem ts) ks h)
