-- The first bad entry.
use Rattle.std.proofs.Common.{◌≡◌, ◌<◌, ℕ, zero, suc, List, [], ◌∷◌, ◌++◌, length, take, refl, sym, ◌∙◌, subst, arith, append_assoc}
use Rattle.std.proofs.lemmas.List.{append-nil, take-take}
use Rattle.std.specs.Prelude.{slice_get, Some}
use Rattle.ots_journal.specs.declared.entry.Entry.{Entry}
use Rattle.ots_store.specs.Records.{Record, record_of, IsRecord}
use Rattle.ots_store.specs.Order.{Follows, records_of, AreRecords, FirstBad}

-- what is there at an index of entries that are all records
record At (before : List Record) (entries : List Entry) (i : ℕ) : Type 0 where
  entry : Entry
  found : slice_get entries i ≡ Some entry
  is : IsRecord entry
  follows : Follows (before ++ records_of (take i entries)) (record_of entry)

at : (before : List Record) (entries : List Entry) (i : ℕ) → i < length entries → AreRecords before entries → At before entries i
at before [] i there are = absurd (omega arith)
at before (e ∷ entries) zero there are = record {
  entry = e;
  found = refl;
  is = are.each.0;
  follows = subst (λ (l : List Record). Follows l (record_of e)) (sym (append-nil before)) are.order.0;
}
at before (e ∷ entries) (suc i) there are =
    let found = at (before ++ record_of e ∷ []) entries i (omega arith) (record { each = are.each.1; order = are.order.1 }) in
    record {
      entry = found.entry;
      found = found.found;
      is = found.is;
      follows = subst (λ (l : List Record). Follows l (record_of found.entry)) (append_assoc before (record_of e ∷ []) (records_of (take i entries))) found.follows;
    }

pub not_bad : (before : List Record) (entries : List Entry) (i : ℕ) → AreRecords before entries → FirstBad before entries i → ⊥
not_bad before entries i are bad =
    let found = at before entries i bad.there are in
    bad.bad found.entry found.found found.is found.follows

-- an earlier entry among the first ones
get_taken : (entries : List Entry) (i j : ℕ) → i < j → slice_get (take j entries) i ≡ slice_get entries i
get_taken [] i zero lt = refl
get_taken [] i (suc j) lt = refl
get_taken (e ∷ entries) i zero lt = absurd (omega arith)
get_taken (e ∷ entries) zero (suc j) lt = refl
get_taken (e ∷ entries) (suc i) (suc j) lt = get_taken entries i j (omega arith)

length_taken : (entries : List Entry) (i j : ℕ) → i < j → i < length entries → i < length (take j entries)
length_taken [] i j lt there = absurd (omega arith)
length_taken (e ∷ entries) i zero lt there = absurd (omega arith)
length_taken (e ∷ entries) zero (suc j) lt there = omega arith
length_taken (e ∷ entries) (suc i) (suc j) lt there = omega (arith, length_taken entries i j (omega arith) (omega arith))

earlier : (before : List Record) (entries : List Entry) (i j : ℕ) → i < j → FirstBad before entries i → FirstBad before entries j → ⊥
earlier before entries i j lt one two =
    let found = at before (take j entries) i (length_taken entries i j lt one.there) two.good in
    one.bad found.entry (sym (get_taken entries i j lt) ∙ found.found) found.is
    (subst (λ (l : List Entry). Follows (before ++ records_of l) (record_of found.entry)) (take-take i j entries (omega arith)) found.follows)

pub one_bad : (before : List Record) (entries : List Entry) (first second : ℕ) → FirstBad before entries first → FirstBad before entries second → first ≡ second
one_bad before entries first second one two =
    let before_it : first < second → ⊥ = λ lt. earlier before entries first second lt one two in
    let after_it : second < first → ⊥ = λ lt. earlier before entries second first lt two one in
    omega (arith, before_it, after_it)
