-- Which nodes lead to a Bitcoin height.
use Rattle.std.proofs.Common.{◌≡◌, ◌↔◌, ◌⊎◌, ℕ, ◌+◌, ◌<◌, ◌≤◌, List, [], ◌∷◌, ◌++◌, length, get_or, set, take, Bool, true, false, Option, Some, None, refl, sym, ap, subst, ◌∙◌, inl, inr, arith, get_or-set_other, get_or-set_same, length-set}
use Rattle.std.specs.Prelude.{Contains, if◌then◌else◌, nat_lt, slice_get, All}
use Rattle.std.proofs.lemmas.Bool.{cases_order, ltb-true, ltb-false}
use Rattle.std.proofs.lemmas.List.{take_more}
use Rattle.std.proofs.lemmas.Option.{slice_get-get_or}
use Rattle.std.proofs.lemmas.List.Elements.{Contains-append_left, Contains-append_right, Contains-append_cases, Contains-push, Contains-push_cases}
use Rattle.ots_ops.specs.declared.op.Op.{Op}
use Rattle.ots_attest.specs.declared.attestation.Attestation.{Attestation}
use Rattle.ots_attest.specs.declared.attestation.Attestation.TheVariants.{Pending, Bitcoin, Litecoin, Unknown}
use Rattle.ots_tree.specs.declared.token.Token.{Token}
use Rattle.ots_tree.specs.declared.token.Token.TheVariants as token
use Rattle.ots_tree.specs.Wire.{Node, Item, last, more, attested, step, Path, below, paths, paths_of_item, pre, pre_item}
use Rattle.ots_canon.specs.Order.{Has}
use Rattle.ots_canon.specs.Tags.{is_fork, is_op}
use Rattle.ots_canon.specs.Places.{IsNodeAt, HasNode, IsItem}
use Rattle.ots_canon.specs.Leading.{token_height, height_of, bitcoin, lower, IsLeastHeight, Leads, is_marked, AreLeads, AreLeadsFrom}
use Rattle.ots_canon.proofs.Rising.{has_left, has_right, has_either}
use Rattle.ots_canon.proofs.Growing.{path_of}
use Rattle.ots_canon.proofs.Nodes.{item_has, node_in, has_here, token_is, item_node, end_item}
use Rattle.ots_canon.proofs.Ends.{AtFork, AtOp}
use Rattle.ots_canon.proofs.Among.{contains_one, has_below, is_below}
use Rattle.ots_canon.proofs.Gathering.{fork_paths}

-- ---- the paths of a node end in the attestations among its tokens

mutual
  pub path_token : (t : Node) (p : Path) → Has (paths t) p → Contains (pre t) (token.Attestation p.end)
  path_token (last i) p h = item_token i p h
  path_token (more i t) p h = Contains-append_right (token.Fork ∷ []) (pre_item i ++ pre t) (token.Attestation p.end) (elim (has_either (paths_of_item i) (paths t) p h) [
    | inl a ↦ Contains-append_left (pre_item i) (pre t) (token.Attestation p.end) (item_token i p a)
    | inr b ↦ Contains-append_right (pre_item i) (pre t) (token.Attestation p.end) (path_token t p b)
  ])

  item_token : (i : Item) (p : Path) → Has (paths_of_item i) p → Contains (pre_item i) (token.Attestation p.end)
  item_token (attested a) p (inl e) = subst (λ (z : Path). Contains (token.Attestation a ∷ []) (token.Attestation z.end)) e (Contains-push [] (token.Attestation a))
  item_token (attested a) p (inr h) = absurd h
  item_token (step o t) p h =
      let b = is_below o (paths t) p h in
      Contains-append_right (token.Op o ∷ []) (pre t) (token.Attestation p.end) (subst (λ (z : Path). Contains (pre t) (token.Attestation z.end)) b.is (path_token t b.inner b.has))

-- a path that ends in an attestation
pub record EndsIn (ps : List Path) (a : Attestation) : Type 0 where
  pub path : Path
  pub has : Has ps path
  pub ends : path.end ≡ a

same_attestation : {a b : Attestation} → token.Attestation a ≡ token.Attestation b → a ≡ b
same_attestation e = cc

no_fork : {a : Attestation} → token.Fork ≡ token.Attestation a → ⊥
no_fork e = cc

no_op : {o : Op} {a : Attestation} → token.Op o ≡ token.Attestation a → ⊥
no_op e = cc

mutual
  pub token_path : (t : Node) (a : Attestation) → Contains (pre t) (token.Attestation a) → EndsIn (paths t) a
  token_path (last i) a h = token_item i a h
  token_path (more i t) a h = elim (Contains-append_cases (token.Fork ∷ []) (pre_item i ++ pre t) (token.Attestation a) h) [
    | inl f ↦ absurd (no_fork (contains_one token.Fork (token.Attestation a) f))
    | inr g ↦ elim (Contains-append_cases (pre_item i) (pre t) (token.Attestation a) g) [
      | inl b ↦ let e = token_item i a b in record { path = e.path; has = has_left (paths_of_item i) (paths t) e.path e.has; ends = e.ends }
      | inr b ↦ let e = token_path t a b in record { path = e.path; has = has_right (paths_of_item i) (paths t) e.path e.has; ends = e.ends }
    ]
  ]

  token_item : (i : Item) (a : Attestation) → Contains (pre_item i) (token.Attestation a) → EndsIn (paths_of_item i) a
  token_item (attested b) a h = record { path = path_of [] b; has = inl refl; ends = same_attestation (contains_one (token.Attestation b) (token.Attestation a) h) }
  token_item (step o t) a h = elim (Contains-append_cases (token.Op o ∷ []) (pre t) (token.Attestation a) h) [
    | inl f ↦ absurd (no_op (contains_one (token.Op o) (token.Attestation a) f))
    | inr g ↦ let e = token_path t a g in record { path = below o e.path; has = has_below o (paths t) e.path e.has; ends = e.ends }
  ]

-- ---- the least height

no_height : {h : ℕ} → None ≡ Some h → ⊥
no_height e = cc

bitcoin_of : (a : Attestation) (h : ℕ) → height_of a ≡ Some h → a ≡ Bitcoin h
bitcoin_of (Pending uri) h e = absurd (no_height e)
bitcoin_of (Bitcoin g) h e = cc
bitcoin_of (Litecoin g) h e = absurd (no_height e)
bitcoin_of (Unknown other) h e = absurd (no_height e)

token_of : (x : Token) (h : ℕ) → token_height x ≡ Some h → x ≡ bitcoin h
token_of token.Fork h e = absurd (no_height e)
token_of (token.Op o) h e = absurd (no_height e)
token_of (token.Attestation a) h e = ap (λ (z : Attestation). token.Attestation z) (bitcoin_of a h e)

one_height : {g h : ℕ} → bitcoin g ≡ bitcoin h → g ≡ h
one_height e = cc

-- where the last token has no height
least_skip : (ts : List Token) (x : Token) (found : Option ℕ) → token_height x ≡ None → IsLeastHeight ts found → IsLeastHeight (ts ++ x ∷ []) found
least_skip ts x found none = by found
  where
    before : (h : ℕ) → Contains (ts ++ x ∷ []) (bitcoin h) → Contains ts (bitcoin h)
    before h c = elim (Contains-push_cases ts x (bitcoin h) c) [ inl a ↦ a | inr e ↦ absurd (no_height (sym none ∙ ap token_height e)) ]

    by : (found : Option ℕ) → IsLeastHeight ts found → IsLeastHeight (ts ++ x ∷ []) found
    by None f = λ h c. f h (before h c)
    by (Some low) f = (Contains-append_left ts (x ∷ []) (bitcoin low) f.0, λ h c. f.1 h (before h c))

-- where it has one
least_one : (ts : List Token) (g : ℕ) (found : Option ℕ) → IsLeastHeight ts found → IsLeastHeight (ts ++ bitcoin g ∷ []) (lower found (Some g))
least_one ts g None f = (
  Contains-push ts (bitcoin g),
  λ h c. elim (Contains-push_cases ts (bitcoin g) (bitcoin h) c) [
    | inl a ↦ absurd (f h a)
    | inr e ↦ let same = one_height e in omega arith
  ],
)
least_one ts g (Some low) f = by (nat_lt g low) refl
  where
    below_both : (n : ℕ) → n ≤ g → n ≤ low → (h : ℕ) → Contains (ts ++ bitcoin g ∷ []) (bitcoin h) → n ≤ h
    below_both n l m h c = elim (Contains-push_cases ts (bitcoin g) (bitcoin h) c) [
      | inl a ↦ let k = f.1 h a in omega arith
      | inr e ↦ let same = one_height e in omega arith
    ]

    by : (b : Bool) → nat_lt g low ≡ b → IsLeastHeight (ts ++ bitcoin g ∷ []) (if b then Some g else Some low)
    by true e = let l = ltb-true g low e in (Contains-push ts (bitcoin g), below_both g (omega arith) (omega arith))
    by false e = let l = ltb-false g low e in (Contains-append_left ts (bitcoin g ∷ []) (bitcoin low) f.0, below_both low (omega arith) (omega arith))

least_push : (ts : List Token) (x : Token) (found h : Option ℕ) → token_height x ≡ h → IsLeastHeight ts found → IsLeastHeight (ts ++ x ∷ []) (lower found h)
least_push ts x None None e f = least_skip ts x None e f
least_push ts x (Some low) None e f = least_skip ts x (Some low) e f
least_push ts x found (Some g) e f = subst (λ (z : Token). IsLeastHeight (ts ++ z ∷ []) (lower found (Some g))) (sym (token_of x g e)) (least_one ts g found f)

pub least_more : (ts : List Token) (n : ℕ) (found height : Option ℕ) → n < length ts → ((x : Token) → slice_get ts n ≡ Some x → height ≡ token_height x) → IsLeastHeight (take n ts) found
    → IsLeastHeight (take (n + 1) ts) (lower found height)
least_more ts n found height l is f =
    let x = get_or ts n token.Fork in
    subst (λ (z : List Token). IsLeastHeight z (lower found height)) (sym (take_more ts n token.Fork l))
    (least_push (take n ts) x found height (sym (is x (slice_get-get_or ts n token.Fork l))) f)

-- ---- the nodes that lead to it

pub leads_fork : {ts : List Token} {es : List ℕ} {k height : ℕ} → AtFork ts es k → Leads ts height k ↔ (Leads ts height (k + 1) ⊎ Leads ts height (get_or es (k + 1) 0))
leads_fork {ts} {es} {k} {height} f = (
  (λ h. elim ((fork_paths f h.path).0 h.has) [
    | inl a ↦ inl (record { path = h.path; has = a; ends = h.ends })
    | inr b ↦ inr (record { path = h.path; has = b; ends = h.ends })
  ]),
  (λ h. elim h [
    | inl a ↦ record { path = a.path; has = (fork_paths f a.path).1 (inl a.has); ends = a.ends }
    | inr b ↦ record { path = b.path; has = (fork_paths f b.path).1 (inr b.has); ends = b.ends }
  ]),
)

pub leads_op : {ts : List Token} {es : List ℕ} {k height : ℕ} → AtOp ts es k → Leads ts height k ↔ Leads ts height (k + 1)
leads_op {ts} {es} {k} {height} f = (
  (λ h.
      let b = is_below f.op (paths f.node) h.path ((has_here ts k (last (step f.op f.node)) f.is_at h.path).0 h.has) in
      record { path = b.inner; has = (has_here ts (k + 1) f.node f.after b.inner).1 b.has; ends = ap (λ (z : Path). z.end) b.is ∙ h.ends }),
  (λ h. record {
    path = below f.op h.path;
    has = (has_here ts k (last (step f.op f.node)) f.is_at (below f.op h.path)).1 (has_below f.op (paths f.node) h.path ((has_here ts (k + 1) f.node f.after h.path).0 h.has));
    ends = h.ends;
  }),
)

pub leads_end : {ts : List Token} {k height : ℕ} {a : Attestation} → IsNodeAt ts k (last (attested a)) → Leads ts height k ↔ (a ≡ Bitcoin height)
leads_end {ts} {k} {height} {a} at = (
  (λ h. elim ((has_here ts k (last (attested a)) at h.path).0 h.has) [ inl e ↦ ap (λ (z : Path). z.end) e ∙ h.ends | inr n ↦ absurd n ]),
  (λ e. record { path = path_of [] a; has = (has_here ts k (last (attested a)) at (path_of [] a)).1 (inl refl); ends = e }),
)

-- ---- the loop

pub leads_none : {ts : List Token} {height n : ℕ} {ls : List Bool} → n ≡ length ts → length ls ≡ n → AreLeadsFrom ts height n ls
leads_none e l = record { length_is = l ∙ e; leads = λ k le lt. absurd (omega arith) }

pub leads_earlier : {ts : List Token} {height n : ℕ} {ls : List Bool} {v : Bool} → n < length ts → AreLeadsFrom ts height (n + 1) ls → (v ≡ true) ↔ Leads ts height n
    → AreLeadsFrom ts height n (set ls n v)
leads_earlier {ts} {height} {n} {ls} {v} l h is = record {
  length_is = length-set ls n v ∙ h.length_is;
  leads = λ k le lt. elim (cases_order k n) [
    | inl e ↦ subst (λ (z : ℕ). (get_or (set ls n v) z false ≡ true) ↔ Leads ts height z) (sym e) here
    | inr other ↦ elim other [
      | inl a ↦ absurd (omega arith)
      | inr b ↦ subst (λ (z : Bool). (z ≡ true) ↔ Leads ts height k) (sym (get_or-set_other ls n k v false (omega arith))) (h.leads k (omega arith) lt)
    ]
  ];
}
  where
    here : (get_or (set ls n v) n false ≡ true) ↔ Leads ts height n
    here = subst (λ (z : Bool). (z ≡ true) ↔ Leads ts height n) (sym (get_or-set_same ls n v false (let s = h.length_is in omega arith))) is

pub marked : {ts : List Token} {height k : ℕ} {ls : List Bool} → AreLeads ts height ls → IsItem ts k → (is_marked ls k ≡ true) ↔ Leads ts height k
marked {ts} {height} {k} {ls} h i = h.leads k (omega arith) (node_in (item_has i))

-- at an attestation
pub leads_here : {ts : List Token} {k height : ℕ} {A : Type 0} → HasNode ts k → is_fork (slice_get ts k) ≡ false → is_op (slice_get ts k) ≡ false
    → ((x : Token) → slice_get ts k ≡ Some x → A ↔ (token_height x ≡ Some height)) → A ↔ Leads ts height k
leads_here {ts} {k} {height} h no_fork no_op is =
    let at = end_item (item_node h no_fork) no_op in
    let tells = is (token.Attestation at.0) (token_is ts k (last (attested at.0)) at.1) in
    let here = leads_end at.1 in
    ((λ a. here.1 (bitcoin_of at.0 height (tells.0 a))), (λ l. tells.1 (ap height_of (here.0 l))))

pub within_marks : {ts : List Token} {height : ℕ} {ls : List Bool} (ks : List ℕ) → All (IsItem ts) ks → AreLeads ts height ls → All (λ (k : ℕ). k < length ls) ks
within_marks {ts} {height} {ls} ks items marks = λ k d l. let i = node_in (item_has (items k d l)) in let e = marks.length_is in omega arith
