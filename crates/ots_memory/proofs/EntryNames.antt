-- Lemmas on the names that entries hold.
use Rattle.std.proofs.Common.{◌≡◌, ◌≢◌, ◌<◌, ◌≤◌, ◌+◌, ℕ, zero, suc, Bool, true, false, cond, List, [], ◌∷◌, ◌++◌, length, drop, get_or, set, Option, None, Some, refl, sym, ap, ◌∙◌, arith, add-one, ◌⊎◌, inl, inr, length-append, unwrap_or, nat_eq}
use Rattle.std.proofs.Common.{map as map_list}
use Rattle.std.proofs.Math.ListN.{drop_of_length-le}
use Rattle.std.proofs.lemmas.Bool.{false≢true}
use Rattle.std.proofs.lemmas.List.{map-append}
use Rattle.std.specs.Prelude.{string_bytes}
use Rattle.std.specs.Cmp.{eq_by_cmp_equiv}
use Rattle.std.specs.Cmp.Lexicographic.{slice_cmp, nat_list_cmp_total, texts_ties, same_text, pointwise}
use Rattle.std.specs.FinMap as map
use Rattle.std.specs.Ordering.{nat_cmp, eq_by_cmp}
use Rattle.ots_memory.specs.Entries.{entry_pair, names_of, name_at, bytes_at, IsDistinct}
use Rattle.ots_outside.specs.Shelf.{with_more}
use Rattle.ots_memory.specs.declared.entries.Entry.{Entry}

abbrev pub is_name : List ℕ → List ℕ → Bool
is_name = eq_by_cmp (slice_cmp nat_cmp)

pub is_name-self : (name : List ℕ) → is_name name name ≡ true
is_name-self name = (eq_by_cmp_equiv nat_list_cmp_total).refl name

abbrev pub found_in : List ℕ → List Entry → Option (List ℕ)
found_in q es = map.find (slice_cmp nat_cmp) q (map_list entry_pair es)

pub get-names_of : (es : List Entry) (q : List ℕ) → map.get (names_of es) q ≡ found_in q es
get-names_of es q = map.get-from_entries nat_list_cmp_total (map_list entry_pair es) q

-- ---- an entry by its place

pub name_at-is : (es : List Entry) (i : ℕ) (e : Entry) → i < length es → e ≡ get_or es i e → name_at es i ≡ string_bytes e.name
name_at-is [] i e in_range is = absurd (omega arith)
name_at-is (y ∷ es) zero e in_range is = ap (λ (e : Entry). string_bytes e.name) (sym is)
name_at-is (y ∷ es) (suc i) e in_range is = name_at-is es i e (omega arith) is

pub bytes_at-is : (es : List Entry) (i : ℕ) (e : Entry) → i < length es → e ≡ get_or es i e → bytes_at es i ≡ e.bytes.items
bytes_at-is [] i e in_range is = absurd (omega arith)
bytes_at-is (y ∷ es) zero e in_range is = ap (λ (e : Entry). e.bytes.items) (sym is)
bytes_at-is (y ∷ es) (suc i) e in_range is = bytes_at-is es i e (omega arith) is

-- ---- a name that is sought from the start

found_from : (q : List ℕ) (es : List Entry) (i : ℕ) → i < length es
    → found_in q (drop i es) ≡ cond (is_name q (name_at es i)) (Some (bytes_at es i)) (found_in q (drop (suc i) es))
found_from q [] i in_range = absurd (omega arith)
found_from q (y ∷ es) zero in_range = refl
found_from q (y ∷ es) (suc i) in_range = found_from q es i (omega arith)

pub found_here : (q : List ℕ) (es : List Entry) (i : ℕ) (e : Entry) → i < length es → e ≡ get_or es i e
    → true ≡ pointwise nat_eq (string_bytes e.name) q → found_in q (drop i es) ≡ found_in q es
    → (i < length es) × (name_at es i ≡ q) × (map.get (names_of es) q ≡ Some (bytes_at es i))
found_here q es i e in_range is equal so_far =
    let same : name_at es i ≡ q = name_at-is es i e in_range is ∙ same_text _ q equal in
    (in_range, same, get-names_of es q ∙ sym so_far ∙ found_from q es i in_range ∙ ap (λ b. cond b (Some (bytes_at es i)) (found_in q (drop (suc i) es))) (ap (is_name q) same ∙ is_name-self q))

pub passed_here : (q : List ℕ) (es : List Entry) (i : ℕ) (e : Entry) → i < length es → e ≡ get_or es i e
    → false ≡ pointwise nat_eq (string_bytes e.name) q → found_in q (drop i es) ≡ found_in q es
    → found_in q (drop (i + 1) es) ≡ found_in q es
passed_here q es i e in_range is other so_far =
    let not_it : is_name q (name_at es i) ≡ false =
    ap (is_name q) (name_at-is es i e in_range is) ∙ (eq_by_cmp_equiv nat_list_cmp_total).symm q (string_bytes e.name) ∙ sym (texts_ties (string_bytes e.name) q) ∙ sym other in
    rw add-one (sym (ap (λ b. cond b (Some (bytes_at es i)) (found_in q (drop (suc i) es))) not_it) ∙ sym (found_from q es i in_range) ∙ so_far)

pub passed_all : (q : List ℕ) (es : List Entry) (i : ℕ) → length es ≤ i → found_in q (drop i es) ≡ found_in q es → map.get (names_of es) q ≡ None
passed_all q es i past so_far = get-names_of es q ∙ sym so_far ∙ ap (found_in q) (drop_of_length-le es past)

same_name : (q name : List ℕ) → is_name q name ≡ true → q ≡ name
same_name q name e = same_text q name (sym (texts_ties q name ∙ e))

pub found_own : (es : List Entry) (i : ℕ) → i < length es → ((j : ℕ) → j < i → name_at es j ≢ name_at es i) → found_in (name_at es i) es ≡ Some (bytes_at es i)
found_own [] i in_range first = absurd (omega arith)
found_own (y ∷ es) zero in_range first = ap (λ b. cond b (Some y.bytes.items) (found_in (string_bytes y.name) es)) (is_name-self (string_bytes y.name))
found_own (y ∷ es) (suc i) in_range first =
    cases _ refl (found_own es i (omega arith) (λ j below. first (suc j) (omega arith))) where
      cases : (b : Bool) → is_name (name_at es i) (string_bytes y.name) ≡ b → found_in (name_at es i) es ≡ Some (bytes_at es i) → found_in (name_at es i) (y ∷ es) ≡ Some (bytes_at es i)
      cases true e later = absurd (first 0 (omega arith) (sym (same_name (name_at es i) (string_bytes y.name) e)))
      cases false e later = ap (λ b. cond b (Some y.bytes.items) (found_in (name_at es i) es)) e ∙ later

some_no : (bytes : List ℕ) → ◌≡◌ {A = Option (List ℕ)} (Some bytes) None → ⊥
some_no bytes never = cc

none_here : (q : List ℕ) (y : Entry) (es : List Entry) → found_in q (y ∷ es) ≡ None → (is_name q (string_bytes y.name) ≡ false) × (found_in q es ≡ None)
none_here q y es none = cases _ refl where
  cases : (b : Bool) → is_name q (string_bytes y.name) ≡ b → (is_name q (string_bytes y.name) ≡ false) × (found_in q es ≡ None)
  cases true e = absurd (some_no y.bytes.items (sym (ap (λ b. cond b (Some y.bytes.items) (found_in q es)) e) ∙ none))
  cases false e = (e, sym (ap (λ b. cond b (Some y.bytes.items) (found_in q es)) e) ∙ none)

pub found_none : (q : List ℕ) (es : List Entry) (i : ℕ) → found_in q es ≡ None → i < length es → name_at es i ≢ q
found_none q [] i none in_range = absurd (omega arith)
found_none q (y ∷ es) zero none in_range = λ same. false≢true (sym (none_here q y es none).0 ∙ ap (is_name q) same ∙ is_name-self q)
found_none q (y ∷ es) (suc i) none in_range = found_none q es i (none_here q y es none).1 (omega arith)

-- ---- more bytes for one entry

cond_twice : {A : Type 0} (b : Bool) (x y z : A) → cond b x (cond b y z) ≡ cond b x z
cond_twice true x y z = refl
cond_twice false x y z = refl

cond_swap : {A : Type 0} (a b : Bool) (x y z : A) → (a ≡ true → b ≡ true → ⊥) → cond a x (cond b y z) ≡ cond b y (cond a x z)
cond_swap true true x y z not_both = absurd (not_both refl refl)
cond_swap true false x y z not_both = refl
cond_swap false b x y z not_both = refl

found-set : (q : List ℕ) (es : List Entry) (i : ℕ) (e : Entry) → i < length es → string_bytes e.name ≡ name_at es i
    → ((j : ℕ) → j < i → name_at es j ≢ name_at es i)
    → found_in q (set es i e) ≡ cond (is_name q (name_at es i)) (Some e.bytes.items) (found_in q es)
found-set q [] i e in_range named first = absurd (omega arith)
found-set q (y ∷ es) zero e in_range named first =
    rw named (sym (cond_twice (is_name q (string_bytes y.name)) (Some e.bytes.items) (Some y.bytes.items) (found_in q es)))
found-set q (y ∷ es) (suc i) e in_range named first =
    rw (found-set q es i e (omega arith) named (λ j below. first (suc j) (omega arith)))
    (cond_swap (is_name q (string_bytes y.name)) (is_name q (name_at es i)) (Some y.bytes.items) (Some e.bytes.items) (found_in q es)
    (λ a b. first 0 (omega arith) (sym (same_name q (string_bytes y.name) a) ∙ same_name q (name_at es i) b)))

pub distinct_first : (es : List Entry) (i : ℕ) → i < length es → IsDistinct es → (j : ℕ) → j < i → name_at es j ≢ name_at es i
distinct_first es i in_range distinct j below same =
    let e : j ≡ i = distinct j i (omega arith) in_range same in
    absurd (omega arith)

pub names_of-set : (es : List Entry) (i : ℕ) (e : Entry) (more : List ℕ) → i < length es → IsDistinct es
    → string_bytes e.name ≡ name_at es i → e.bytes.items ≡ bytes_at es i ++ more
    → names_of (set es i e) ≡ with_more (name_at es i) more (names_of es)
names_of-set es i e more in_range distinct named grew =
    let first = distinct_first es i in_range distinct in
    let own : map.get (names_of es) (name_at es i) ≡ Some (bytes_at es i) = get-names_of es _ ∙ found_own es i in_range first in
    let bytes : e.bytes.items ≡ unwrap_or (map.get (names_of es) (name_at es i)) [] ++ more = grew ∙ ap (λ o. unwrap_or o [] ++ more) (sym own) in
    map.same_map nat_list_cmp_total (map.slice_cmp-IsAntisymmetric map.nat_cmp-IsAntisymmetric) _ _
    (λ q. get-names_of (set es i e) q ∙ found-set q es i e in_range named first
    ∙ ap (λ x. cond (is_name q (name_at es i)) (Some x) (found_in q es)) bytes
    ∙ ap (λ x. cond (is_name q (name_at es i)) (Some (unwrap_or (map.get (names_of es) (name_at es i)) [] ++ more)) x) (sym (get-names_of es q))
    ∙ sym (map.get-insert nat_list_cmp_total (names_of es) (name_at es i) _ q))

-- ---- a new entry

pub names_of-push : (es : List Entry) (e : Entry) (name bytes : List ℕ) → string_bytes e.name ≡ name → e.bytes.items ≡ bytes → found_in name es ≡ None
    → names_of (es ++ e ∷ []) ≡ map.insert (names_of es) name bytes
names_of-push es e name bytes named holds none =
    let pair : entry_pair e ≡ (name, bytes) = λ i. (named i, holds i) in
    ap (map.from_entries {R = slice_cmp nat_cmp}) (map-append entry_pair es (e ∷ []) ∙ ap (λ p. map_list entry_pair es ++ p ∷ []) pair)
    ∙ map.from_entries_push nat_list_cmp_total (map.slice_cmp-IsAntisymmetric map.nat_cmp-IsAntisymmetric) (map_list entry_pair es) name bytes none

pub name_at-push : (es : List Entry) (e : Entry) (i : ℕ) → i < length es → name_at (es ++ e ∷ []) i ≡ name_at es i
name_at-push [] e i in_range = absurd (omega arith)
name_at-push (y ∷ es) e zero in_range = refl
name_at-push (y ∷ es) e (suc i) in_range = name_at-push es e i (omega arith)

pub name_at-push_last : (es : List Entry) (e : Entry) → name_at (es ++ e ∷ []) (length es) ≡ string_bytes e.name
name_at-push_last [] e = refl
name_at-push_last (y ∷ es) e = name_at-push_last es e

pub bytes_at-push : (es : List Entry) (e : Entry) (i : ℕ) → i < length es → bytes_at (es ++ e ∷ []) i ≡ bytes_at es i
bytes_at-push [] e i in_range = absurd (omega arith)
bytes_at-push (y ∷ es) e zero in_range = refl
bytes_at-push (y ∷ es) e (suc i) in_range = bytes_at-push es e i (omega arith)

below_or_last : (i n : ℕ) → i < n + 1 → (i < n) ⊎ (i ≡ n)
below_or_last zero zero fits = inr refl
below_or_last zero (suc n) fits = inl (omega arith)
below_or_last (suc i) zero fits = absurd (omega arith)
below_or_last (suc i) (suc n) fits = elim (below_or_last i n (omega arith)) [ inl below ↦ inl (omega arith) | inr last ↦ inr (ap suc last) ]

pub distinct-push : (es : List Entry) (e : Entry) (name : List ℕ) → IsDistinct es → string_bytes e.name ≡ name → found_in name es ≡ None → IsDistinct (es ++ e ∷ [])
distinct-push es e name distinct named none i j i_fits j_fits same =
    let long : length (es ++ e ∷ []) ≡ length es + 1 = length-append es (e ∷ []) in
    cases (below_or_last i (length es) (omega arith)) (below_or_last j (length es) (omega arith)) where
      last_name : (k : ℕ) → k ≡ length es → name_at (es ++ e ∷ []) k ≡ name
      last_name k is = ap (name_at (es ++ e ∷ [])) is ∙ name_at-push_last es e ∙ named

      cases : (i < length es) ⊎ (i ≡ length es) → (j < length es) ⊎ (j ≡ length es) → i ≡ j
      cases (inl a) (inl b) = distinct i j a b (sym (name_at-push es e i a) ∙ same ∙ name_at-push es e j b)
      cases (inl a) (inr b) = absurd (found_none name es i none a (sym (name_at-push es e i a) ∙ same ∙ last_name j b))
      cases (inr a) (inl b) = absurd (found_none name es j none b (sym (name_at-push es e j b) ∙ sym same ∙ last_name i a))
      cases (inr a) (inr b) = a ∙ sym b
