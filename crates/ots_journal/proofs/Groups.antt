-- Groups of entries and their bytes.
use Rattle.std.proofs.Common.{◌≡◌, ◌<◌, ◌≤◌, ℕ, ◌+◌, List, [], ◌∷◌, ◌++◌, length, take, drop, take-append-drop, get_or, sym, ◌∙◌, ap, arith, append_assoc, length-append}
use Rattle.std.proofs.lemmas.List.{append-nil, take_more}
use Rattle.std.proofs.lemmas.List.Concat.{flat_map-append}
use Rattle.std.proofs.lemmas.List.Elements.{All-from_recursion}
use Rattle.std.specs.List.{flat_map, AllByRecursion}
use Rattle.std.specs.Int.{w16, w32, to_be_bytes}
use Rattle.ots_journal.specs.declared.entry.Entry.{Entry}
use Rattle.ots_journal.specs.Image.{magic, open_gate, entry_bytes, entries_bytes, payload_bytes, group_body, group_bytes, FitsEntry, FitsGroup, entries_of, prefix}

pub length-entry : (e : Entry) → length (entry_bytes e) ≡ 5 + length e.payload
length-entry e = omega (arith, length-append (to_be_bytes w32 (length e.payload)) e.payload)

-- one entry more
pub entries_more : (es : List Entry) (i : ℕ) (d : Entry) → i < length es → entries_bytes (take (i + 1) es) ≡ entries_bytes (take i es) ++ entry_bytes (get_or es i d)
entries_more es i d lt =
    ap entries_bytes (take_more es i d lt) ∙ flat_map-append entry_bytes (take i es) (get_or es i d ∷ []) ∙ ap (λ (l : List ℕ). entries_bytes (take i es) ++ l) (append-nil (entry_bytes (get_or es i d)))

pub length-entries_more : (es : List Entry) (i : ℕ) (d : Entry) → i < length es → length (entries_bytes (take (i + 1) es)) ≡ length (entries_bytes (take i es)) + (5 + length (get_or es i d).payload)
length-entries_more es i d lt =
    ap length (entries_more es i d lt) ∙ omega (arith, length-append (entries_bytes (take i es)) (entry_bytes (get_or es i d)), length-entry (get_or es i d))

pub fits_at : (es : List Entry) (i : ℕ) (d : Entry) → FitsGroup es → i < length es → FitsEntry (get_or es i d)
fits_at es i d fits lt = All-from_recursion FitsEntry es fits.payloads i d lt

pub length-group_body : (es : List Entry) → length (group_body es) ≡ 6 + length (entries_bytes es)
length-group_body es = omega (arith, length-append (to_be_bytes w16 (length es)) (to_be_bytes w32 (length (entries_bytes es)) ++ entries_bytes es), length-append (to_be_bytes w32 (length (entries_bytes es))) (entries_bytes es))

-- ---- one group more

pub prefix_push : (groups : List (List Entry)) (group : List Entry) (xs : List ℕ) → prefix (groups ++ group ∷ []) ++ xs ≡ prefix groups ++ (open_gate ∷ (group_body group ++ xs))
prefix_push groups group xs =
    let before = flat_map group_bytes groups in
    let more = group_bytes group in
    ap (λ (l : List ℕ). (magic ++ l) ++ xs) (flat_map-append group_bytes groups (group ∷ []))
    ∙ ap (λ (l : List ℕ). (magic ++ (before ++ l)) ++ xs) (append-nil more)
    ∙ ap (λ (l : List ℕ). l ++ xs) (sym (append_assoc magic before more))
    ∙ append_assoc (magic ++ before) more xs

pub length-prefix_push : (groups : List (List Entry)) (group : List Entry) → length (prefix (groups ++ group ∷ [])) ≡ length (prefix groups) + 7 + length (entries_bytes group)
length-prefix_push groups group =
    let whole = ap length (prefix_push groups group []) in
    omega (arith, whole, length-append (prefix (groups ++ group ∷ [])) [], length-append (prefix groups) (open_gate ∷ (group_body group ++ [])), length-append (group_body group) [], length-group_body group)

pub entries_push : (groups : List (List Entry)) (group : List Entry) → entries_of (groups ++ group ∷ []) ≡ entries_of groups ++ group
entries_push groups group = flat_map-append (λ (g : List Entry). g) groups (group ∷ []) ∙ ap (λ (l : List Entry). entries_of groups ++ l) (append-nil group)

pub fit_push : (groups : List (List Entry)) (group : List Entry) → AllByRecursion FitsGroup groups → FitsGroup group → AllByRecursion FitsGroup (groups ++ group ∷ [])
fit_push [] group fit fits = (fits, tt)
fit_push (x ∷ groups) group fit fits = (fit.0, fit_push groups group fit.1 fits)

-- the bytes of the first entries, and of one more, within those of all
pub entries_so_far : (es : List Entry) (i : ℕ) (d : Entry) → i < length es → length (entries_bytes (take i es)) + (5 + length (get_or es i d).payload) ≤ length (entries_bytes es)
entries_so_far es i d lt =
    omega (arith, length-entries_more es i d lt, ap (λ (l : List Entry). length (entries_bytes l)) (sym (take-append-drop (i + 1) es)), ap length (flat_map-append entry_bytes (take (i + 1) es) (drop (i + 1) es)), length-append (entries_bytes (take (i + 1) es)) (entries_bytes (drop (i + 1) es)))

payloads_push : (es : List Entry) (e : Entry) → payload_bytes (es ++ e ∷ []) ≡ payload_bytes es + length e.payload
payloads_push [] e = omega arith
payloads_push (x ∷ es) e = omega (arith, payloads_push es e)

pub payloads_more : (es : List Entry) (i : ℕ) (d : Entry) → i < length es → payload_bytes (take (i + 1) es) ≡ payload_bytes (take i es) + length (get_or es i d).payload
payloads_more es i d lt = ap payload_bytes (take_more es i d lt) ∙ payloads_push (take i es) (get_or es i d)
