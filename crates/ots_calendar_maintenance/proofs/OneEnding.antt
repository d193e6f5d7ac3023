-- A tip is given, and a journal of version 1 is carried over, in one way.
use Rattle.std.proofs.Common.{◌≡◌, ◌<◌, ◌≤◌, ℕ, ◌*◌, zero, suc, List, [], ◌∷◌, ◌++◌, length, take, refl, sym, ap, subst, ◌∙◌, arith}
use Rattle.std.proofs.lemmas.List.{append_cancel_left}
use Rattle.std.specs.Prelude.{slice_get}
use Rattle.ots_anchor.specs.Path.{hashed}
use Rattle.ots_merkle.specs.CalendarTree.{root}
use Rattle.ots_journal.specs.declared.entry.Entry.{Entry}
use Rattle.ots_journal.specs.Journal.{size_with}
use Rattle.ots_journal.specs.declared.limits.TheConstants.{MAX_GROUP}
use Rattle.ots_store.specs.declared.tip.Tip.{Tip}
use Rattle.ots_store.specs.Order.{FirstBad, commits_of, records_of}
use Rattle.ots_store.specs.Records.{Record}
use Rattle.ots_store.specs.Store.{InRecords}
use Rattle.ots_store.proofs.Bad.{not_bad, one_bad}
use Rattle.ots_calendar.specs.Tips.{AllCovered, IsNextTip}
use Rattle.ots_calendar.specs.Values.{span}
use Rattle.ots_calendar_text.specs.Lines.{tip_line, migrated_line}
use Rattle.ots_calendar_text.specs.declared.status.DaemonStatus.TheVariants.{BadRecord, Full, NothingNew, NotPrefix}
use Rattle.ots_calendar_endings.specs.RunEnd.{RunEnd, declined, done}
use Rattle.ots_calendar_maintenance.specs.Migrate.{FirstOther, FitGroups, MigrateAnswers, bad_record, carried, full, not_prefix, size_at}
use Rattle.ots_calendar_maintenance.specs.Tip.{IsStored, TipAnswers, tip_entries}
use Rattle.ots_calendar_maintenance.specs.Tip as tip

-- ---- a tip

-- The next tip is the only one, and there is none where all commitments are covered.
one_next : (records : List Record) (t u : Tip) → IsNextTip records t → IsNextTip records u → t ≡ u
one_next records t u f g =
    let first : t.first ≡ u.first = f.follows.begins ∙ sym g.follows.begins in
    let count : t.count ≡ u.count = omega (arith, f.follows.ends, g.follows.ends, first) in
    let over : root (hashed (span t.first t.count (commits_of records))) ≡ root (hashed (span u.first u.count (commits_of records))) =
    λ i. root (hashed (span (first i) (count i) (commits_of records))) in
    let roots : t.root ≡ u.root = f.is_true ∙ over ∙ sym g.is_true in
    (λ i. record { first = first i; count = count i; root = roots i })

none_next : (records : List Record) (t : Tip) → AllCovered records → IsNextTip records t → ⊥
none_next records t all f = absurd (omega (arith, all, f.follows.begins, f.follows.some, f.follows.ends))

-- What is answered of the next tip.
module _ (limit gate : ℕ) (entries : List Entry) (t : Tip) (next : IsNextTip (records_of entries) t) where
  same : (u : Tip) → IsNextTip (records_of entries) u → u ≡ t
  same u f = one_next (records_of entries) u t f next

  where_stored : (e : RunEnd) → IsStored entries t → TipAnswers limit gate entries e → e ≡ done entries (tip_line t.first t.count t.root)
  where_stored e there (tip.nothing_new all f) = absurd (none_next (records_of entries) t all next)
  where_stored e there (tip.stored u n s f) = f ∙ ap (λ (z : Tip). done entries (tip_line z.first z.count z.root)) (same u n)
  where_stored e there (tip.added u n s fits f) = absurd (s (subst (IsStored entries) (sym (same u n)) there))
  where_stored e there (tip.full u n s long f) = absurd (s (subst (IsStored entries) (sym (same u n)) there))

  where_added : (e : RunEnd) → ¬ IsStored entries t → size_with gate (tip_entries t) ≤ limit → TipAnswers limit gate entries e
      → e ≡ done (entries ++ tip_entries t) (tip_line t.first t.count t.root)
  where_added e fresh fits (tip.nothing_new all f) = absurd (none_next (records_of entries) t all next)
  where_added e fresh fits (tip.stored u n s f) = absurd (fresh (subst (IsStored entries) (same u n) s))
  where_added e fresh fits (tip.added u n s fits' f) = f ∙ ap (λ (z : Tip). done (entries ++ tip_entries z) (tip_line z.first z.count z.root)) (same u n)
  where_added e fresh fits (tip.full u n s long f) = absurd (omega (arith, fits, long, ap (λ (z : Tip). size_with gate (tip_entries z)) (same u n)))

  where_full : (e : RunEnd) → ¬ IsStored entries t → limit < size_with gate (tip_entries t) → TipAnswers limit gate entries e
      → e ≡ declined entries (Full (size_with gate (tip_entries t)) limit)
  where_full e fresh long (tip.nothing_new all f) = absurd (none_next (records_of entries) t all next)
  where_full e fresh long (tip.stored u n s f) = absurd (fresh (subst (IsStored entries) (same u n) s))
  where_full e fresh long (tip.added u n s fits f) = absurd (omega (arith, fits, long, ap (λ (z : Tip). size_with gate (tip_entries z)) (same u n)))
  where_full e fresh long (tip.full u n s long' f) = f ∙ ap (λ (z : Tip). declined entries (Full (size_with gate (tip_entries z)) limit)) (same u n)

where_covered : (limit gate : ℕ) (entries : List Entry) (e : RunEnd) → AllCovered (records_of entries) → TipAnswers limit gate entries e → e ≡ declined entries NothingNew
where_covered limit gate entries e all (tip.nothing_new all' f) = f
where_covered limit gate entries e all (tip.stored u n s f) = absurd (none_next (records_of entries) u all n)
where_covered limit gate entries e all (tip.added u n s fits f) = absurd (none_next (records_of entries) u all n)
where_covered limit gate entries e all (tip.full u n s long f) = absurd (none_next (records_of entries) u all n)

pub one_tip : (limit gate : ℕ) (entries : List Entry) (d e : RunEnd) → TipAnswers limit gate entries d → TipAnswers limit gate entries e → d ≡ e
one_tip limit gate entries d e (tip.nothing_new all f) h = f ∙ sym (where_covered limit gate entries e all h)
one_tip limit gate entries d e (tip.stored t n s f) h = f ∙ sym (where_stored limit gate entries t n e s h)
one_tip limit gate entries d e (tip.added t n s fits f) h = f ∙ sym (where_added limit gate entries t n e s fits h)
one_tip limit gate entries d e (tip.full t n s long f) h = f ∙ sym (where_full limit gate entries t n e s long h)

-- ---- a journal of version 1

-- The least index at which the lists differ is the only one, and there is none where the one begins with the other.
taken : (entries : List Entry) (i j : ℕ) → i < j → slice_get (take j entries) i ≡ slice_get entries i
taken [] i zero less = refl
taken [] i (suc j) less = refl
taken (e ∷ entries) i zero less = absurd (omega arith)
taken (e ∷ entries) zero (suc j) less = refl
taken (e ∷ entries) (suc i) (suc j) less = taken entries i j (omega arith)

after : (entries rest : List Entry) (i : ℕ) → i < length entries → slice_get entries i ≡ slice_get (entries ++ rest) i
after [] rest i less = absurd (omega arith)
after (e ∷ entries) rest zero less = refl
after (e ∷ entries) rest (suc i) less = after entries rest i (omega arith)

other_before : (entries old : List Entry) (i j : ℕ) → i < j → FirstOther entries old i → FirstOther entries old j → ⊥
other_before entries old i j less f g =
    f.other (sym (taken entries i j less) ∙ ap (λ (l : List Entry). slice_get l i) g.same ∙ taken old i j less)

one_other : (entries old : List Entry) (i j : ℕ) → FirstOther entries old i → FirstOther entries old j → i ≡ j
one_other entries old i j f g =
    let before_it : i < j → ⊥ = λ less. other_before entries old i j less f g in
    let after_it : j < i → ⊥ = λ less. other_before entries old j i less g f in
    omega (arith, before_it, after_it)

none_other : (entries old rest : List Entry) (i : ℕ) → old ≡ entries ++ rest → FirstOther entries old i → ⊥
none_other entries old rest i whole f = f.other (after entries rest i f.there ∙ ap (λ (l : List Entry). slice_get l i) (sym whole))

one_rest : (entries old rest more : List Entry) → old ≡ entries ++ rest → old ≡ entries ++ more → rest ≡ more
one_rest entries old rest more f g = append_cancel_left entries rest more (sym f ∙ g)

-- The first group that does not fit is the only one, and there is none where all fit.
earlier_fits : (limit gate : ℕ) (rest : List Entry) (k j : ℕ) → MAX_GROUP * k < length rest → FitGroups limit gate rest j → limit < size_at gate rest k → k < j → ⊥
earlier_fits limit gate rest k j there fit long less = let fits : size_at gate rest k ≤ limit = fit k less there in absurd (omega (arith, fits, long))

group_within : (rest : List Entry) (k : ℕ) → MAX_GROUP * k < length rest → k < length rest
group_within rest k there = omega arith

-- What is answered where the journal's entries begin the old ones, and these spell records in order.
module _ (limit gate : ℕ) (old entries rest : List Entry) (whole : old ≡ entries ++ rest) (are : InRecords old) where
  same_rest : (more : List Entry) → old ≡ entries ++ more → more ≡ rest
  same_rest more g = one_rest entries old more rest g whole

  where_carried : (e : RunEnd) → FitGroups limit gate rest (length rest) → MigrateAnswers limit old gate entries e → e ≡ done old (migrated_line (length old))
  where_carried e fit (not_prefix i other f) = absurd (none_other entries old rest i whole other)
  where_carried e fit (bad_record more g i bad f) = absurd (not_bad [] old i are bad)
  where_carried e fit (carried more g are' fit' f) = f
  where_carried e fit (full more g are' k there fit' long f) =
      let r : more ≡ rest = same_rest more g in
      let inside : MAX_GROUP * k < length rest = subst (λ (l : List Entry). MAX_GROUP * k < length l) r there in
      absurd (earlier_fits limit gate rest k (length rest) inside fit (subst (λ (l : List Entry). limit < size_at gate l k) r long) (group_within rest k inside))

  abbrev stops_at : ℕ → RunEnd
  stops_at k = declined (entries ++ take (MAX_GROUP * k) rest) (Full (size_at gate rest k) limit)

  where_stopped : (e : RunEnd) (k : ℕ) → MAX_GROUP * k < length rest → FitGroups limit gate rest k → limit < size_at gate rest k
      → MigrateAnswers limit old gate entries e → e ≡ stops_at k
  where_stopped e k there fit long (not_prefix i other f) = absurd (none_other entries old rest i whole other)
  where_stopped e k there fit long (bad_record more g i bad f) = absurd (not_bad [] old i are bad)
  where_stopped e k there fit long (carried more g are' fit' f) =
      let all : FitGroups limit gate rest (length rest) = subst (λ (l : List Entry). FitGroups limit gate l (length l)) (same_rest more g) fit' in
      absurd (earlier_fits limit gate rest k (length rest) there all long (group_within rest k there))
  where_stopped e k there fit long (full more g are' j there' fit' long' f) =
      let r : more ≡ rest = same_rest more g in
      let inside : MAX_GROUP * j < length rest = subst (λ (l : List Entry). MAX_GROUP * j < length l) r there' in
      let fit_too : FitGroups limit gate rest j = subst (λ (l : List Entry). FitGroups limit gate l j) r fit' in
      let long_too : limit < size_at gate rest j = subst (λ (l : List Entry). limit < size_at gate l j) r long' in
      let before_it : k < j → ⊥ = λ less. earlier_fits limit gate rest k j there fit_too long less in
      let after_it : j < k → ⊥ = λ less. earlier_fits limit gate rest j k inside fit long_too less in
      let one : j ≡ k = omega (arith, before_it, after_it) in
      f ∙ (λ i. declined (entries ++ take (MAX_GROUP * one i) (r i)) (Full (size_at gate (r i) (one i)) limit))

where_other : (limit gate : ℕ) (old entries : List Entry) (i : ℕ) (e : RunEnd) → FirstOther entries old i → MigrateAnswers limit old gate entries e → e ≡ declined entries (NotPrefix i)
where_other limit gate old entries i e other (not_prefix j other' f) =
    f ∙ ap (λ (n : ℕ). declined entries (NotPrefix n)) (one_other entries old j i other' other)
where_other limit gate old entries i e other (bad_record rest g j bad f) = absurd (none_other entries old rest i g other)
where_other limit gate old entries i e other (carried rest g are fit f) = absurd (none_other entries old rest i g other)
where_other limit gate old entries i e other (full rest g are k there fit long f) = absurd (none_other entries old rest i g other)

where_bad : (limit gate : ℕ) (old entries rest : List Entry) (i : ℕ) (e : RunEnd) → old ≡ entries ++ rest → FirstBad [] old i → MigrateAnswers limit old gate entries e
    → e ≡ declined entries (BadRecord i)
where_bad limit gate old entries rest i e whole bad (not_prefix j other f) = absurd (none_other entries old rest j whole other)
where_bad limit gate old entries rest i e whole bad (bad_record more g j bad' f) =
    f ∙ ap (λ (n : ℕ). declined entries (BadRecord n)) (one_bad [] old j i bad' bad)
where_bad limit gate old entries rest i e whole bad (carried more g are fit f) = absurd (not_bad [] old i are bad)
where_bad limit gate old entries rest i e whole bad (full more g are k there fit long f) = absurd (not_bad [] old i are bad)

pub one_migration : (limit gate : ℕ) (old entries : List Entry) (d e : RunEnd) → MigrateAnswers limit old gate entries d → MigrateAnswers limit old gate entries e → d ≡ e
one_migration limit gate old entries d e (not_prefix i other f) h = f ∙ sym (where_other limit gate old entries i e other h)
one_migration limit gate old entries d e (bad_record rest whole i bad f) h = f ∙ sym (where_bad limit gate old entries rest i e whole bad h)
one_migration limit gate old entries d e (carried rest whole are fit f) h = f ∙ sym (where_carried limit gate old entries rest whole are e fit h)
one_migration limit gate old entries d e (full rest whole are k there fit long f) h =
    f ∙ sym (where_stopped limit gate old entries rest whole are e k there fit long h)
