-- The lines of records, one after another.
use Rattle.std.proofs.Common.{◌≡◌, ◌≤◌, ℕ, ◌+◌, Bool, true, false, eqb-true, zero, suc, List, [], ◌∷◌, ◌++◌, length, take, drop, Some, subst, refl, sym, ap, ◌∙◌, append_assoc, append-nil, length-append, arith}
use Rattle.std.specs.Prelude.{slice_get, ◌==◌}
use Rattle.std.proofs.lemmas.List.{take_more, map-append}
use Rattle.std.proofs.lemmas.Option.{slice_get_within, get_or_from_slice_get}
use Rattle.ots_journal.specs.declared.entry.Entry.{Entry}
use Rattle.ots_store.specs.Order.{commit_in, commits_of, records_of}
use Rattle.std.specs.List.{AllByRecursion}
use Rattle.ots_store.specs.Records.{Record, AnchorRecord, IsRecord, HasForm, anchor_at, anchor_payload, anchor_rest, entry_of, number, record_of}
use Rattle.ots_store.proofs.Ordered.{commits_append}
use Rattle.ots_calendar_text.specs.Lines.{anchor_line}
use Rattle.ots_calendar_maintenance.specs.List.{lines_from, list_text, record_line}

-- one record more
one_more_line : (n : ℕ) (records : List Record) (r : Record) → lines_from n (records ++ r ∷ []) ≡ lines_from n records ++ record_line (n + length (commits_of records)) r
one_more_line n [] r = append-nil (record_line n r) ∙ ap (λ (z : ℕ). record_line z r) (omega arith)
one_more_line n (x ∷ records) r =
    let counted : (n + length (commit_in x)) + length (commits_of records) ≡ n + length (commits_of (x ∷ records)) = omega (arith, length-append (commit_in x) (commits_of records)) in
    ap (λ (z : List ℕ). record_line n x ++ z) (one_more_line (n + length (commit_in x)) records r)
    ∙ (sym (append_assoc (record_line n x) (lines_from (n + length (commit_in x)) records) (record_line ((n + length (commit_in x)) + length (commits_of records)) r))
    ∙ ap (λ (z : ℕ). (record_line n x ++ lines_from (n + length (commit_in x)) records) ++ record_line z r) counted)

next_entry : (entries : List Entry) (i : ℕ) (e : Entry) → slice_get entries i ≡ Some e → records_of (take (i + 1) entries) ≡ records_of (take i entries) ++ record_of e ∷ []
next_entry entries i e is =
    ap records_of (take_more entries i e (slice_get_within entries i e is) ∙ ap (λ (z : Entry). take i entries ++ z ∷ []) (get_or_from_slice_get entries i e e is))
    ∙ map-append record_of (take i entries) (e ∷ [])

pub no_lines : [] ≡ list_text []
unfolding list_text
no_lines = refl

pub next_line : (entries : List Entry) (i : ℕ) (e : Entry) → slice_get entries i ≡ Some e
    → list_text (records_of (take i entries)) ++ record_line (length (commits_of (records_of (take i entries)))) (record_of e) ≡ list_text (records_of (take (i + 1) entries))
unfolding list_text
next_line entries i e is =
    ap (λ (z : ℕ). lines_from 0 (records_of (take i entries)) ++ record_line z (record_of e)) (omega arith)
    ∙ (sym (one_more_line 0 (records_of (take i entries)) (record_of e)) ∙ ap (lines_from 0) (sym (next_entry entries i e is)))

pub next_commits : (entries : List Entry) (i : ℕ) (e : Entry) → slice_get entries i ≡ Some e
    → length (commits_of (records_of (take (i + 1) entries))) ≡ length (commits_of (records_of (take i entries))) + length (commit_in (record_of e))
next_commits entries i e is =
    ap (λ (z : List Record). length (commits_of z)) (next_entry entries i e is)
    ∙ (ap length (commits_append (records_of (take i entries)) (record_of e ∷ []))
    ∙ (length-append (commits_of (records_of (take i entries))) (commits_of (record_of e ∷ []))
    ∙ ap (λ (z : List (List ℕ)). length (commits_of (records_of (take i entries))) + length z) (append-nil (commit_in (record_of e)))))

-- an entry of the first kind is a commitment, and no other
pub is_commit : (e : Entry) → e.kind ≡ 1 → length (commit_in (record_of e)) ≡ 1
is_commit e is = rw is refl

pub no_commit : (e : Entry) → ¬ (e.kind ≡ 1) → length (commit_in (record_of e)) ≡ 0
no_commit e other = by (e.kind == 1) refl (e.kind == 2) refl
  where
    by : (first : Bool) → (e.kind == 1) ≡ first → (second : Bool) → (e.kind == 2) ≡ second → length (commit_in (record_of e)) ≡ 0
    by true f second g = absurd (other (eqb-true e.kind 1 f))
    by false f true g = rw (f, g) refl
    by false f false g = rw (f, g) refl

-- each of the entries spells a record
pub each_at : (entries : List Entry) (i : ℕ) (e : Entry) → AllByRecursion IsRecord entries → slice_get entries i ≡ Some e → IsRecord e
each_at [] i e each is = absurd (cc)
each_at (x ∷ entries) zero e each is = let same : x ≡ e = cc in subst IsRecord same each.0
each_at (x ∷ entries) (suc i) e each is = each_at entries i e each.1 is

-- an entry of neither of the first two kinds is an anchor
pub is_anchor : (e : Entry) → ¬ (e.kind ≡ 1) → ¬ (e.kind ≡ 2) → record_of e ≡ AnchorRecord (anchor_at e.payload)
is_anchor e first second = by (e.kind == 1) refl (e.kind == 2) refl
  where
    by : (one : Bool) → (e.kind == 1) ≡ one → (two : Bool) → (e.kind == 2) ≡ two → record_of e ≡ AnchorRecord (anchor_at e.payload)
    by true f two g = absurd (first (eqb-true e.kind 1 f))
    by false f true g = absurd (second (eqb-true e.kind 2 g))
    by false f false g = rw (f, g) refl

pub anchor_long : (e : Entry) → ¬ (e.kind ≡ 1) → ¬ (e.kind ≡ 2) → IsRecord e → 56 ≤ length e.payload
anchor_long e first second is =
    let anchor = anchor_at e.payload in
    let same = is_anchor e first second in
    let form : HasForm (AnchorRecord anchor) = subst HasForm same is.form in
    let spelled : e.payload ≡ anchor_payload anchor = ap (λ (z : Entry). z.payload) (is.spelled ∙ ap entry_of same) in
    let size : length (anchor_payload anchor) ≡ 24 + (length anchor.root + length (anchor_rest anchor)) = omega (arith, length-append anchor.root (anchor_rest anchor)) in
    let root = form.root in
    omega (arith, ap length spelled)

pub anchor_put : (e : Entry) → ¬ (e.kind ≡ 1) → ¬ (e.kind ≡ 2) → (commits first count height : ℕ) (root : List ℕ) → first ≡ number e.payload → count ≡ number (drop 8 e.payload)
    → height ≡ number (drop 16 e.payload) → root ≡ take 32 (drop 24 e.payload) → anchor_line first count height root ≡ record_line commits (record_of e)
anchor_put e one two commits first count height root p q r s =
    (λ i. anchor_line (p i) (q i) (r i) (s i)) ∙ ap (record_line commits) (sym (is_anchor e one two))
