-- The entries of a map as a list.
use Rattle.std.proofs.Common.{◌≡◌, ℕ, Bool, true, false, cond, List, [], ◌∷◌, map, Option, None, Some, refl, sym, ap, ◌∙◌}
use Rattle.std.specs.BTreeMap.{IsOrdered, get}
use Rattle.std.specs.Cmp.{IsTotalOrder}
use Rattle.std.specs.Cmp.Lexicographic.{nat_list_cmp_total, slice_cmp}
use Rattle.std.specs.List.{AllByRecursion, list_any}
use Rattle.std.specs.List.Sorted.{IsStrictlySortedBy}
use Rattle.std.specs.Map.{keys_of, lookup}
use Rattle.std.specs.Ordering.{is_eq, nat_cmp}
use Rattle.std.specs.declared.cmp.Ordering.TheVariants.{Less}
use Rattle.std.specs.Prelude.{◌||◌, bytes_eq, is_some}
use Rattle.std.proofs.lemmas.Cmp.{on_total}
use Rattle.std.proofs.lemmas.List.Elements.{recursion_from_All}
use Rattle.std.proofs.lemmas.Map.Text.{is_eq-slice_cmp}
use Rattle.std.proofs.lemmas.Map.Views.{All-found}
use Rattle.std.proofs.lemmas.Slice.Eq.{bytes_eq-Decides}
use Rattle.ots_archive_counts.proofs.Tallies.{counts_there}
use Rattle.ots_archive_counts.specs.Counts.{AreCounts, Counted, Seen, addresses, counts_of}
use Rattle.ots_archive_counts.specs.inner.Tally.{IsTally, Map, TalliesAnswers, entry}
use Rattle.ots_archive_text.specs.declared.lines.ReplyCounts.{ReplyCounts}
use Rattle.ots_sheet.specs.Reply.{Answer}
use Rattle.std.specs.Borrow.{Bor}

abbrev Entry : Type 0
Entry = Bor (List ℕ) × ReplyCounts

key_cmp_total : IsTotalOrder (λ (x y : Bor (List ℕ)). slice_cmp nat_cmp x.now y.now)
key_cmp_total = on_total (λ (x : Bor (List ℕ)). x.now) nat_list_cmp_total

-- ---- in order

below_all : (k : Bor (List ℕ)) (es : List Entry) → AllByRecursion (λ (y : Bor (List ℕ)). slice_cmp nat_cmp k.now y.now ≡ Less) (keys_of es)
    → AllByRecursion (λ (y : List ℕ). slice_cmp nat_cmp k.now y ≡ Less) (addresses (map entry es))
below_all k [] all = tt
below_all k (e ∷ es) all = (all.0, below_all k es all.1)

rising : (es : List Entry) → IsStrictlySortedBy (λ (x y : Bor (List ℕ)). slice_cmp nat_cmp x.now y.now) (keys_of es) → IsStrictlySortedBy (slice_cmp nat_cmp) (addresses (map entry es))
unfolding IsStrictlySortedBy
rising [] is = tt
rising (e ∷ es) is = (below_all e.0 es is.0, rising es is.1)

-- ---- each address once

both_ways : (b c : Bool) → (b ≡ true → c ≡ true) → (c ≡ true → b ≡ true) → b ≡ c
both_ways true true f g = refl
both_ways false false f g = refl
both_ways true false f g = let e = f refl in absurd cc
both_ways false true f g = let e = g refl in absurd cc

turned : (xs ys : List ℕ) → bytes_eq xs ys ≡ bytes_eq ys xs
turned xs ys =
    both_ways (bytes_eq xs ys) (bytes_eq ys xs) (λ h. (bytes_eq-Decides ys xs).1 (sym ((bytes_eq-Decides xs ys).0 h))) (λ h. (bytes_eq-Decides xs ys).1 (sym ((bytes_eq-Decides ys xs).0 h)))

some_first : (b : Bool) (v : ReplyCounts) (o : Option ReplyCounts) → is_some (cond b (Some v) o) ≡ (b || is_some o)
some_first true v o = refl
some_first false v o = refl

some_there : (url : List ℕ) (es : List Entry) → list_any (λ (c : Counted). bytes_eq c.address url) (map entry es) ≡ is_some (lookup (λ (k : Bor (List ℕ)). is_eq (slice_cmp nat_cmp url k.now)) es)
some_there url [] = refl
some_there url (e ∷ es) =
    let same : bytes_eq e.0.now url ≡ is_eq (slice_cmp nat_cmp url e.0.now) = turned e.0.now url ∙ sym (is_eq-slice_cmp url e.0.now) in
    (λ i. same i || some_there url es i) ∙ sym (some_first (is_eq (slice_cmp nat_cmp url e.0.now)) e.1 (lookup (λ (k : Bor (List ℕ)). is_eq (slice_cmp nat_cmp url k.now)) es))

some_kept : (b : Bool) (v : ReplyCounts) → is_some (cond b (Some v) None) ≡ b
some_kept true v = refl
some_kept false v = refl

-- ---- its counts

each_entry : (m : Map) (seen : List Seen) → IsTally seen m → (es : List Entry) → AllByRecursion (λ (e : Entry). get (λ (x y : Bor (List ℕ)). slice_cmp nat_cmp x.now y.now) m e.0 ≡ Some e.1) es
    → AllByRecursion (λ (c : Counted). c.counts ≡ counts_of c.address seen) (map entry es)
each_entry m seen tally [] all = tt
each_entry m seen tally (e ∷ es) all = (counts_there m seen e.0.now e.1 tally (sym all.0), each_entry m seen tally es all.1)

pub counts_listed : (answers : List Answer) (m : Map) (list : List Counted) → IsOrdered (λ (x y : Bor (List ℕ)). slice_cmp nat_cmp x.now y.now) m → TalliesAnswers answers m → list ≡ map entry m.entries
    → AreCounts answers list
counts_listed answers m list ordered is same = rw same (record {
  seen = is.seen;
  are_seen = is.are;
  rising = rising m.entries ordered;
  members = λ url. some_there url m.entries ∙ ap is_some (is.tally.at url) ∙ some_kept (list_any (λ (s : Seen). bytes_eq s.url url) is.seen) (counts_of url is.seen);
  each = each_entry m is.seen is.tally m.entries (recursion_from_All _ m.entries (All-found key_cmp_total m ordered));
})
