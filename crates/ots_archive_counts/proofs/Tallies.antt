-- Counts under URLs.
use Rattle.std.proofs.Common.{◌≡◌, ◌<◌, ◌≤◌, ◌+◌, ◌^◌, ℕ, zero, suc, Bool, true, false, cond, List, [], ◌∷◌, ◌++◌, length, take, get_or, None, Some, refl, sym, ap, subst, ◌∙◌, arith}
use Rattle.std.specs.BTreeMap.{Updates}
use Rattle.std.specs.Cmp.Lexicographic.{slice_cmp}
use Rattle.std.specs.List.{AllByRecursion, count_by, list_any, slice_get}
use Rattle.std.specs.Map.{lookup}
use Rattle.std.specs.Ordering.{is_eq, nat_cmp}
use Rattle.std.specs.Prelude.{◌&&◌, ◌||◌, bytes_eq, Err, IfOk, Ok, Result}
use Rattle.std.proofs.lemmas.List.Folds.{list_any-append}
use Rattle.std.proofs.lemmas.List.{length-take}
use Rattle.std.proofs.lemmas.Option.{get_or_from_slice_get}
use Rattle.std.proofs.lemmas.List.Sums.{count_by-le-length, sum_by-append}
use Rattle.std.proofs.lemmas.Map.Text.{btree_map_updates_str}
use Rattle.std.proofs.lemmas.Slice.Eq.{bytes_eq-Decides}
use Rattle.ots_archive_counts.specs.Counts.{AreSeen, IsCameOf, IsSeen, Seen, came_to, counts_of, is_same}
use Rattle.ots_archive_counts.specs.declared.came.Came.{Came}
use Rattle.ots_archive_counts.specs.declared.came.Came.TheVariants.{Timestamp, Refused, BadBody}
use Rattle.ots_archive_counts.specs.inner.Tally.{HasRoom, IsSmall, IsTally, Map, TalliesAnswers, at_url, kept_at, one_more}
use Rattle.ots_archive_text.specs.declared.lines.ReplyCounts.{ReplyCounts}
use Rattle.ots_sheet.specs.Reply.{Answer, IsAnswer, ReplyParts, request_of}
use Rattle.ots_sheet.specs.Request.{HasLength, RequestParts}
use Rattle.ots_sheet.specs.Sheet.{AreAnswers}
use Rattle.ots_sheet.specs.declared.request.Kind.{Kind}
use Rattle.ots_sheet.specs.declared.request.Kind.TheVariants.{Get, Post}
use Rattle.std.specs.Borrow.{Bor}

-- ---- one more

abbrev one_if : Bool → ℕ
one_if b = cond b 1 0

count_more : {X : Type 0} (p : X → Bool) (xs : List X) (x : X) → count_by p (xs ++ x ∷ []) ≡ count_by p xs + one_if (p x)
count_more p xs x = let e = sum_by-append (λ y. one_if (p y)) xs (x ∷ []) in omega (arith, e)

count_first : {X : Type 0} (p : X → Bool) (x : X) (xs : List X) → count_by p (x ∷ xs) ≡ one_if (p x) + count_by p xs
count_first p x xs = let e = sum_by-append (λ y. one_if (p y)) (x ∷ []) xs in omega (arith, e)

module _ (url : List ℕ) (seen : List Seen) (s : Seen) where
  count_there : (came : Came) (b : Bool) → bytes_eq s.url url ≡ b → came_to url came (seen ++ s ∷ []) ≡ came_to url came seen + one_if (b && is_same came s.came)
  count_there came b is =
      count_more (λ (x : Seen). bytes_eq x.url url && is_same came x.came) seen s ∙ ap (λ (z : Bool). came_to url came seen + one_if (z && is_same came s.came)) is

  more_there : (b : Bool) → bytes_eq s.url url ≡ b → b ≡ true → (c : Came) → c ≡ s.came → counts_of url (seen ++ s ∷ []) ≡ one_more (counts_of url seen) c
  more_there false is there c came = absurd cc
  more_there true is there Timestamp came =
      let ok : came_to url Timestamp (seen ++ s ∷ []) ≡ came_to url Timestamp seen + 1 = count_there Timestamp true is ∙ ap (λ (z : Came). came_to url Timestamp seen + one_if (is_same Timestamp z)) (sym came) in
      let no : came_to url Refused (seen ++ s ∷ []) ≡ came_to url Refused seen + 0 = count_there Refused true is ∙ ap (λ (z : Came). came_to url Refused seen + one_if (is_same Refused z)) (sym came) in
      let bad : came_to url BadBody (seen ++ s ∷ []) ≡ came_to url BadBody seen + 0 = count_there BadBody true is ∙ ap (λ (z : Came). came_to url BadBody seen + one_if (is_same BadBody z)) (sym came) in
      let no' : came_to url Refused (seen ++ s ∷ []) ≡ came_to url Refused seen = omega (arith, no) in
      let bad' : came_to url BadBody (seen ++ s ∷ []) ≡ came_to url BadBody seen = omega (arith, bad) in
      λ i. record { ok = ok i; no = no' i; bad = bad' i }
  more_there true is there Refused came =
      let ok : came_to url Timestamp (seen ++ s ∷ []) ≡ came_to url Timestamp seen + 0 = count_there Timestamp true is ∙ ap (λ (z : Came). came_to url Timestamp seen + one_if (is_same Timestamp z)) (sym came) in
      let no : came_to url Refused (seen ++ s ∷ []) ≡ came_to url Refused seen + 1 = count_there Refused true is ∙ ap (λ (z : Came). came_to url Refused seen + one_if (is_same Refused z)) (sym came) in
      let bad : came_to url BadBody (seen ++ s ∷ []) ≡ came_to url BadBody seen + 0 = count_there BadBody true is ∙ ap (λ (z : Came). came_to url BadBody seen + one_if (is_same BadBody z)) (sym came) in
      let ok' : came_to url Timestamp (seen ++ s ∷ []) ≡ came_to url Timestamp seen = omega (arith, ok) in
      let bad' : came_to url BadBody (seen ++ s ∷ []) ≡ came_to url BadBody seen = omega (arith, bad) in
      λ i. record { ok = ok' i; no = no i; bad = bad' i }
  more_there true is there BadBody came =
      let ok : came_to url Timestamp (seen ++ s ∷ []) ≡ came_to url Timestamp seen + 0 = count_there Timestamp true is ∙ ap (λ (z : Came). came_to url Timestamp seen + one_if (is_same Timestamp z)) (sym came) in
      let no : came_to url Refused (seen ++ s ∷ []) ≡ came_to url Refused seen + 0 = count_there Refused true is ∙ ap (λ (z : Came). came_to url Refused seen + one_if (is_same Refused z)) (sym came) in
      let bad : came_to url BadBody (seen ++ s ∷ []) ≡ came_to url BadBody seen + 1 = count_there BadBody true is ∙ ap (λ (z : Came). came_to url BadBody seen + one_if (is_same BadBody z)) (sym came) in
      let ok' : came_to url Timestamp (seen ++ s ∷ []) ≡ came_to url Timestamp seen = omega (arith, ok) in
      let no' : came_to url Refused (seen ++ s ∷ []) ≡ came_to url Refused seen = omega (arith, no) in
      λ i. record { ok = ok' i; no = no' i; bad = bad i }

  same_there : bytes_eq s.url url ≡ false → counts_of url (seen ++ s ∷ []) ≡ counts_of url seen
  same_there is =
      let ok = count_there Timestamp false is in
      let no = count_there Refused false is in
      let bad = count_there BadBody false is in
      let ok' : came_to url Timestamp (seen ++ s ∷ []) ≡ came_to url Timestamp seen = omega (arith, ok) in
      let no' : came_to url Refused (seen ++ s ∷ []) ≡ came_to url Refused seen = omega (arith, no) in
      let bad' : came_to url BadBody (seen ++ s ∷ []) ≡ came_to url BadBody seen = omega (arith, bad) in
      λ i. record { ok = ok' i; no = no' i; bad = bad' i }

  or_itself : (b c : Bool) → c ≡ true → (b || (c || false)) ≡ true
  or_itself true c is = refl
  or_itself false true is = refl
  or_itself false false is = absurd cc

  or_nothing : (b c : Bool) → c ≡ false → (b || (c || false)) ≡ b
  or_nothing true c is = refl
  or_nothing false true is = absurd cc
  or_nothing false false is = refl

  pub kept_more : (b : Bool) → bytes_eq s.url url ≡ b → kept_at url (seen ++ s ∷ []) ≡ cond b (Some (one_more (counts_of url seen) s.came)) (kept_at url seen)
  kept_more true is =
      let any : list_any (λ (x : Seen). bytes_eq x.url url) (seen ++ s ∷ []) ≡ true =
      list_any-append (λ (x : Seen). bytes_eq x.url url) seen (s ∷ []) ∙ or_itself (list_any (λ (x : Seen). bytes_eq x.url url) seen) (bytes_eq s.url url) is in
      (λ i. cond (any i) (Some (more_there true is refl s.came refl i)) None)
  kept_more false is =
      let any : list_any (λ (x : Seen). bytes_eq x.url url) (seen ++ s ∷ []) ≡ list_any (λ (x : Seen). bytes_eq x.url url) seen =
      list_any-append (λ (x : Seen). bytes_eq x.url url) seen (s ∷ []) ∙ or_nothing (list_any (λ (x : Seen). bytes_eq x.url url) seen) (bytes_eq s.url url) is in
      (λ i. cond (any i) (Some (same_there is i)) None)

-- ---- what is kept

some_kept : (b : Bool) (c d : ReplyCounts) → Some c ≡ cond b (Some d) None → c ≡ d
some_kept true c d is = cc
some_kept false c d is = absurd cc

pub counts_there : (m : Map) (seen : List Seen) (url : List ℕ) (c : ReplyCounts) → IsTally seen m → Some c ≡ at_url m url → c ≡ counts_of url seen
counts_there m seen url c tally is = some_kept (list_any (λ (x : Seen). bytes_eq x.url url) seen) c (counts_of url seen) (is ∙ tally.at url)

not_first : (b c : Bool) → (b || c) ≡ false → (b ≡ false) × (c ≡ false)
not_first true c none = absurd cc
not_first false c none = (refl, none)

none_count : (came : Came) (url : List ℕ) (seen : List Seen) → list_any (λ (x : Seen). bytes_eq x.url url) seen ≡ false → came_to url came seen ≡ 0
none_count came url [] none = refl
none_count came url (s ∷ seen) none =
    let apart = not_first (bytes_eq s.url url) (list_any (λ (x : Seen). bytes_eq x.url url) seen) none in
    let first = count_first (λ (x : Seen). bytes_eq x.url url && is_same came x.came) s seen in
    let nothing : one_if (bytes_eq s.url url && is_same came s.came) ≡ 0 = ap (λ (z : Bool). one_if (z && is_same came s.came)) apart.0 in
    let rest = none_count came url seen apart.1 in
    omega (arith, first, nothing, rest)

not_kept : (b : Bool) (d : ReplyCounts) → None ≡ cond b (Some d) None → b ≡ false
not_kept true d is = absurd cc
not_kept false d is = refl

pub none_there : (m : Map) (seen : List Seen) (url : List ℕ) → IsTally seen m → None ≡ at_url m url → (let c : ReplyCounts = record { ok = 0; no = 0; bad = 0 } in c) ≡ counts_of url seen
none_there m seen url tally is =
    let none = not_kept (list_any (λ (x : Seen). bytes_eq x.url url) seen) (counts_of url seen) (is ∙ tally.at url) in
    λ i. record { ok = sym (none_count Timestamp url seen none) i; no = sym (none_count Refused url seen none) i; bad = sym (none_count BadBody url seen none) i }

-- ---- a map with one more

pub tally_more : (m n : Map) (k : Bor (List ℕ)) (v : ReplyCounts) (came : Came) (seen : List Seen) → Updates (λ x y. slice_cmp nat_cmp x.now y.now) m n k (Some v) → v ≡ one_more (counts_of k.now seen) came
    → IsTally seen m → IsTally (seen ++ record { url = k.now; came = came } ∷ []) n
tally_more m n k v came seen updates is tally = record { at = λ url. by_test url (bytes_eq k.now url) refl }
  where
    by_test : (url : List ℕ) (b : Bool) → bytes_eq k.now url ≡ b → at_url n url ≡ kept_at url (seen ++ record { url = k.now; came = came } ∷ [])
    by_test url true same =
        let e : k.now ≡ url = (bytes_eq-Decides k.now url).0 same in
        btree_map_updates_str k.now m n (Some v) updates url
        ∙ ap (λ (z : Bool). cond z (Some v) (at_url m url)) same
        ∙ ap (λ (c : ReplyCounts). Some c) (is ∙ ap (λ (u : List ℕ). one_more (counts_of u seen) came) e)
        ∙ sym (kept_more url seen (record { url = k.now; came = came }) true same)
    by_test url false apart =
        btree_map_updates_str k.now m n (Some v) updates url
        ∙ ap (λ (z : Bool). cond z (Some v) (at_url m url)) apart
        ∙ tally.at url
        ∙ sym (kept_more url seen (record { url = k.now; came = came }) false apart)

pub none_seen : (m : Map) → m.entries ≡ [] → IsTally [] m
none_seen m none = record { at = λ url. ap (λ (es : List (Bor (List ℕ) × ReplyCounts)). lookup (λ k. is_eq (slice_cmp nat_cmp url k.now)) es) none }

pub small : (m : Map) (room : HasRoom m) (url : List ℕ) (c : ReplyCounts) → c ≡ counts_of url room.seen → IsSmall c
small m room url c is =
    let few = room.few in
    record {
      ok = (let e = ap (λ (z : ReplyCounts). z.ok) is in let le = count_by-le-length (λ (x : Seen). bytes_eq x.url url && is_same Timestamp x.came) room.seen in omega (arith, few, e, le));
      no = (let e = ap (λ (z : ReplyCounts). z.no) is in let le = count_by-le-length (λ (x : Seen). bytes_eq x.url url && is_same Refused x.came) room.seen in omega (arith, few, e, le));
      bad = (let e = ap (λ (z : ReplyCounts). z.bad) is in let le = count_by-le-length (λ (x : Seen). bytes_eq x.url url && is_same BadBody x.came) room.seen in omega (arith, few, e, le));
    }

-- ---- answers

pub seen_more : (answers : List Answer) (i : ℕ) (seen : List Seen) (s : Seen) → i < length answers → AreSeen (take i answers) seen
    → ((a : Answer) → slice_get answers i ≡ Some a → IsSeen a s) → AreSeen (take (i + 1) answers) (seen ++ s ∷ [])
seen_more [] i seen s less are next = absurd (omega arith)
seen_more (a ∷ answers) zero [] s less are next = (next a refl, tt)
seen_more (a ∷ answers) zero (t ∷ seen) s less are next = absurd are
seen_more (a ∷ answers) (suc i) [] s less are next = absurd are
seen_more (a ∷ answers) (suc i) (t ∷ seen) s less are next =
    let e : suc (i + 1) ≡ suc i + 1 = omega arith in
    subst (λ (n : ℕ). AreSeen (take n (a ∷ answers)) ((t ∷ seen) ++ s ∷ [])) e (are.0, seen_more answers i seen s (omega arith) are.1 next)

pub one_each : (answers : List Answer) (seen : List Seen) → AreSeen answers seen → length seen ≡ length answers
one_each [] [] are = refl
one_each [] (s ∷ seen) are = absurd are
one_each (a ∷ answers) [] are = absurd are
one_each (a ∷ answers) (s ∷ seen) are = ap suc (one_each answers seen are.1)

pub room : (answers : List Answer) (i : ℕ) (m : Map) → TalliesAnswers (take i answers) m → i < length answers → length answers < 2 ^ 64 → HasRoom m
room answers i m is less small_list =
    let count = one_each (take i answers) is.seen is.are in
    record { seen = is.seen; tally = is.tally; few = omega (arith, less, small_list, count, length-take i answers) }

pub answers_more : (answers : List Answer) (i : ℕ) (m n : Map) (url : List ℕ) (came : Came) → i < length answers → TalliesAnswers (take i answers) m
    → ((a : Answer) → slice_get answers i ≡ Some a → url ≡ a.request.url) → ((a : Answer) → slice_get answers i ≡ Some a → IsCameOf (length a.request.message) a.reply came)
    → ((seen : List Seen) → IsTally seen m → IsTally (seen ++ record { url = url; came = came } ∷ []) n) → TalliesAnswers (take (i + 1) answers) n
answers_more answers i m n url came less is urls cames adds = record {
  seen = is.seen ++ record { url = url; came = came } ∷ [];
  are = seen_more answers i is.seen (record { url = url; came = came }) less is.are (λ a at. record { url = urls a at; came = cames a at });
  tally = adds is.seen is.tally;
}

-- ---- the answer at a place

pub record IsThere (answers : List Answer) (i : ℕ) : Type 0 where
  pub answer : Answer
  pub there : slice_get answers i ≡ Some answer
  pub good : IsAnswer answer

pub answer_there : (answers : List Answer) (i : ℕ) → AllByRecursion IsAnswer answers → i < length answers → IsThere answers i
answer_there [] i all less = absurd (omega arith)
answer_there (a ∷ answers) zero all less = record { answer = a; there = refl; good = all.0 }
answer_there (a ∷ answers) (suc i) all less = let rest = answer_there answers i all.1 (omega arith) in record { answer = rest.answer; there = rest.there; good = rest.good }

pub bounds : (kind : Kind) (n : ℕ) → HasLength kind n → (1 ≤ n) × (n ≤ 4096)
bounds Get n is = is
bounds Post n is = (omega (arith, is), omega (arith, is))

pub request_there : (answers : List Answer) (i : ℕ) (r : RequestParts) → ((d : Answer) → r ≡ (get_or answers i d).request) → (a : Answer) → slice_get answers i ≡ Some a → r ≡ a.request
request_there answers i r is a at = is a ∙ ap request_of (get_or_from_slice_get answers i a a at)

pub message_bounds : (answers : List Answer) (i : ℕ) (r : RequestParts) → AreAnswers answers → i < length answers → ((d : Answer) → r ≡ (get_or answers i d).request)
    → (1 ≤ length r.message) × (length r.message ≤ 4096)
message_bounds answers i r good less is =
    let one = answer_there answers i good.each less in
    let same = request_there answers i r is one.answer one.there in
    bounds r.kind (length r.message) (subst (λ (z : RequestParts). HasLength z.kind (length z.message)) (sym same) one.good.0.long)

pub came_there : {E : Type 0} (answers : List Answer) (i n : ℕ) (r : RequestParts) (reply : ReplyParts) (result : Result Came E) → n ≡ length r.message → ((d : Answer) → r ≡ (get_or answers i d).request)
    → ((d : Answer) → reply ≡ (get_or answers i d).reply) → IfOk result (IsCameOf n reply)
    → IfOk result (λ came. (a : Answer) → slice_get answers i ≡ Some a → IsCameOf (length a.request.message) a.reply came)
came_there answers i n r reply (Err e) long requests replies is = tt
came_there answers i n r reply (Ok came) long requests replies is = λ a at.
    let same = request_there answers i r requests a at in
    let same_reply : reply ≡ a.reply = replies a ∙ ap (λ (z : Answer). z.reply) (get_or_from_slice_get answers i a a at) in
    subst (λ (z : ReplyParts). IsCameOf (length a.request.message) z came) same_reply (subst (λ (k : ℕ). IsCameOf k reply came) (long ∙ ap (λ (z : RequestParts). length z.message) same) is)
