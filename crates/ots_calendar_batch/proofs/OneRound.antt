-- A batch has one ending, where the clock's second and the nonces are told.
use Rattle.std.proofs.Common.{Option, ◌≡◌, ◌<◌, ◌≤◌, ℕ, suc, List, [], ◌∷◌, ◌++◌, length, take, Some, refl, sym, ap, subst, ◌∙◌, arith, length-append}
use Rattle.std.specs.List.{AllByRecursion}
use Rattle.std.proofs.lemmas.List.{append_cancel_left, append_cancel_right}
use Rattle.std.proofs.Math.Seq.{take-append_seam}
use Rattle.ots_journal.specs.declared.entry.Entry.{Entry}
use Rattle.ots_journal.specs.Journal.{size_with}
use Rattle.ots_round.specs.declared.ticket.Ticket.{Ticket}
use Rattle.ots_round.specs.Round.{commitment, leaf, leaves, round_commitment}
use Rattle.ots_merkle.specs.CalendarTree.{root}
use Rattle.ots_tickets.specs.Tickets.{settles, settles_from}
use Rattle.ots_calendar_text.specs.declared.status.DaemonStatus.TheVariants.{Full}
use Rattle.ots_calendar_batch.specs.Batch.{AreTickets, BatchAnswers, bad_second, not_drawn, added, full, Happens, Drawing, RoundAnswers, joined, next_index, round_entries, trees_text}
use Rattle.ots_calendar_endings.specs.RunEnd.{RunEnd, declined, done}
use Rattle.ots_calendar_batch.specs.Batch.{DrawsTold, HappensIn}

-- ---- what happens outside

abbrev has_size : List ℕ → Type 0
has_size nonce = length nonce ≡ 16

-- of two texts that are the same, prefixes of one length are the same
same_prefix : (x y r s : List ℕ) → length x ≡ length y → x ++ r ≡ y ++ s → x ≡ y
same_prefix x y r s long e =
    sym (take-append_seam x r) ∙ ap (take (length x)) e ∙ ap (λ (n : ℕ). take n (y ++ s)) long ∙ take-append_seam y s

same_nonces : (ns ms : List (List ℕ)) → AllByRecursion has_size ns → AllByRecursion has_size ms → joined ns ≡ joined ms → ns ≡ ms
same_nonces [] [] each other e = refl
same_nonces [] (m ∷ ms) each other e = absurd (let size = other.0 in omega (arith, ap length e, length-append m (joined ms)))
same_nonces (n ∷ ns) [] each other e = absurd (let size = each.0 in omega (arith, ap length e, length-append n (joined ns)))
same_nonces (n ∷ ns) (m ∷ ms) each other e =
    let first : n ≡ m = same_prefix n m (joined ns) (joined ms) (each.0 ∙ sym other.0) e in
    let rest : joined ns ≡ joined ms = append_cancel_left m (joined ns) (joined ms) (subst (λ (z : List ℕ). z ++ joined ns ≡ m ++ joined ms) first e) in
    ap (λ (z : List ℕ). z ∷ ns) first ∙ ap (λ (z : List (List ℕ)). m ∷ z) (same_nonces ns ms each.1 other.1 rest)

pub one_outside : (second : ℕ) (left now : List ℕ) (o p : Drawing) → Happens (Some second) (Some left) (Some now) o → Happens (Some second) (Some left) (Some now) p → o ≡ p
one_outside second left now o p f g =
    let nonces : o.nonces ≡ p.nonces = same_nonces o.nonces p.nonces f.each g.each (append_cancel_right (joined o.nonces) (joined p.nonces) now (sym f.drawn ∙ g.drawn)) in
    let time : o.second ≡ p.second = f.second ∙ sym g.second in
    ap (λ (z : ℕ). record { second = z; nonces = o.nonces }) time ∙ ap (λ (z : List (List ℕ)). record { second = p.second; nonces = z }) nonces

-- ---- the tickets, whose numbers are of no matter

as_many : (digests nonces : List (List ℕ)) (tickets : List Ticket) → AreTickets digests nonces tickets → length nonces ≡ length digests
as_many [] [] [] are = refl
as_many [] [] (t ∷ ts) are = absurd are
as_many [] (n ∷ ns) ts are = absurd are
as_many (d ∷ ds) [] ts are = absurd are
as_many (d ∷ ds) (n ∷ ns) [] are = absurd are
as_many (d ∷ ds) (n ∷ ns) (t ∷ ts) are = ap suc (as_many ds ns ts are.2)

same_leaves : (digests nonces : List (List ℕ)) (ts us : List Ticket) → AreTickets digests nonces ts → AreTickets digests nonces us → leaves ts ≡ leaves us
same_leaves [] [] [] [] f g = refl
same_leaves [] [] [] (u ∷ us) f g = absurd g
same_leaves [] [] (t ∷ ts) us f g = absurd f
same_leaves [] (n ∷ ns) ts us f g = absurd f
same_leaves (d ∷ ds) [] ts us f g = absurd f
same_leaves (d ∷ ds) (n ∷ ns) [] us f g = absurd f
same_leaves (d ∷ ds) (n ∷ ns) (t ∷ ts) [] f g = absurd g
same_leaves (d ∷ ds) (n ∷ ns) (t ∷ ts) (u ∷ us) f g =
    let one : leaf t ≡ leaf u = rw (f.0, f.1, g.0, g.1) refl in
    ap (λ (z : List ℕ). z ∷ leaves ts) one ∙ ap (λ (z : List (List ℕ)). leaf u ∷ z) (same_leaves ds ns ts us f.2 g.2)

same_round : (key : List ℕ) (second : ℕ) (digests nonces : List (List ℕ)) (ts us : List Ticket) → AreTickets digests nonces ts → AreTickets digests nonces us
    → round_commitment key second ts ≡ round_commitment key second us
same_round key second digests nonces ts us f g = ap (λ (z : List (List ℕ)). commitment key second (root z)) (same_leaves digests nonces ts us f g)

same_lines : (uri : List ℕ) (index : ℕ) (c : List ℕ) (ls digests nonces : List (List ℕ)) (i : ℕ) (ts us : List Ticket) → AreTickets digests nonces ts → AreTickets digests nonces us
    → trees_text uri (settles_from index c ls i ts) ≡ trees_text uri (settles_from index c ls i us)
unfolding trees_text
same_lines uri index c ls [] [] i [] [] f g = refl
same_lines uri index c ls [] [] i [] (u ∷ us) f g = absurd g
same_lines uri index c ls [] [] i (t ∷ ts) us f g = absurd f
same_lines uri index c ls [] (n ∷ ns) i ts us f g = absurd f
same_lines uri index c ls (d ∷ ds) [] i ts us f g = absurd f
same_lines uri index c ls (d ∷ ds) (n ∷ ns) i [] us f g = absurd f
same_lines uri index c ls (d ∷ ds) (n ∷ ns) i (t ∷ ts) [] f g = absurd g
same_lines uri index c ls (d ∷ ds) (n ∷ ns) i (t ∷ ts) (u ∷ us) f g =
    let nonce : t.nonce ≡ u.nonce = f.1 ∙ sym g.1 in
    rw (nonce, same_lines uri index c ls ds ns (suc i) ts us f.2 g.2) refl

same_text : (uri key : List ℕ) (second index : ℕ) (digests nonces : List (List ℕ)) (ts us : List Ticket) → AreTickets digests nonces ts → AreTickets digests nonces us
    → trees_text uri (settles key second index ts) ≡ trees_text uri (settles key second index us)
same_text uri key second index digests nonces ts us f g =
    ap (λ (z : List ℕ). trees_text uri (settles_from index z (leaves ts) 0 ts)) (same_round key second digests nonces ts us f g)
    ∙ ap (λ (z : List (List ℕ)). trees_text uri (settles_from index (round_commitment key second us) z 0 ts)) (same_leaves digests nonces ts us f g)
    ∙ same_lines uri index (round_commitment key second us) (leaves us) digests nonces 0 ts us f g

same_entries : (key : List ℕ) (second : ℕ) (digests nonces : List (List ℕ)) (ts us : List Ticket) → AreTickets digests nonces ts → AreTickets digests nonces us
    → round_entries key second ts ≡ round_entries key second us
same_entries key second digests nonces ts us f g = rw (same_round key second digests nonces ts us f g) refl

-- ---- the ending

module _ (failed : Type 0) (limit : ℕ) (key uri : List ℕ) (digests : List (List ℕ)) (o : Drawing) (gate : ℕ) (entries : List Entry) where
  all_drawn : length o.nonces < length digests → (ts : List Ticket) → AreTickets digests o.nonces ts → ⊥
  all_drawn few ts are = absurd (omega (arith, as_many digests o.nonces ts are))

  same_round_entries : (ts us : List Ticket) → AreTickets digests o.nonces ts → AreTickets digests o.nonces us → round_entries key o.second ts ≡ round_entries key o.second us
  same_round_entries = same_entries key o.second digests o.nonces

  over : (ts us : List Ticket) → AreTickets digests o.nonces ts → AreTickets digests o.nonces us → size_with gate (round_entries key o.second ts) ≤ limit
      → limit < size_with gate (round_entries key o.second us) → ⊥
  over ts us f g fits more = absurd (omega (arith, ap (size_with gate) (same_round_entries ts us f g)))

  one_round : (d e : RunEnd) → BatchAnswers failed limit key uri digests o gate entries d → BatchAnswers failed limit key uri digests o gate entries e → d ≡ e
  one_round d e (bad_second late none f) (bad_second late' none' g) = f ∙ sym g
  one_round d e (bad_second late none f) (not_drawn in_time few h g) = absurd (omega arith)
  one_round d e (bad_second late none f) (added in_time us are fits g) = absurd (omega arith)
  one_round d e (bad_second late none f) (full in_time us are more g) = absurd (omega arith)
  one_round d e (not_drawn in_time few h f) (bad_second late none g) = absurd (omega arith)
  one_round d e (not_drawn in_time few h f) (not_drawn in_time' few' h' g) = f ∙ sym g
  one_round d e (not_drawn in_time few h f) (added in_time' us are fits g) = absurd (all_drawn few us are)
  one_round d e (not_drawn in_time few h f) (full in_time' us are more g) = absurd (all_drawn few us are)
  one_round d e (added in_time ts are fits f) (bad_second late none g) = absurd (omega arith)
  one_round d e (added in_time ts are fits f) (not_drawn in_time' few h g) = absurd (all_drawn few ts are)
  one_round d e (added in_time ts are fits f) (added in_time' us too fits' g) =
      f
      ∙ ap (λ (z : List Entry). done (entries ++ z) (trees_text uri (settles key o.second (next_index entries) ts))) (same_round_entries ts us are too)
      ∙ ap (done (entries ++ round_entries key o.second us)) (same_text uri key o.second (next_index entries) digests o.nonces ts us are too)
      ∙ sym g
  one_round d e (added in_time ts are fits f) (full in_time' us too more g) = absurd (over ts us are too fits more)
  one_round d e (full in_time ts are more f) (bad_second late none g) = absurd (omega arith)
  one_round d e (full in_time ts are more f) (not_drawn in_time' few h g) = absurd (all_drawn few ts are)
  one_round d e (full in_time ts are more f) (added in_time' us too fits g) = absurd (over us ts too are fits more)
  one_round d e (full in_time ts are more f) (full in_time' us too more' g) =
      f ∙ ap (λ (z : List Entry). declined entries (Full (size_with gate z) limit)) (same_round_entries ts us are too) ∙ sym g

pub one_batch : (second : ℕ) (left now : List ℕ) (failed : Type 0) (limit : ℕ) (key uri : List ℕ) (digests : List (List ℕ)) (gate : ℕ) (entries : List Entry) (d e : RunEnd)
    → RoundAnswers (Happens (Some second) (Some left) (Some now)) failed limit key uri digests gate entries d
    → RoundAnswers (Happens (Some second) (Some left) (Some now)) failed limit key uri digests gate entries e → d ≡ e
one_batch second left now failed limit key uri digests gate entries d e (o, f, a) (p, g, b) =
    one_round failed limit key uri digests o gate entries d e a
    (subst (λ (z : Drawing). BatchAnswers failed limit key uri digests z gate entries e) (sym (one_outside second left now o p f g)) b)

-- the same, where the clock's second and the nonces that are left are told
pub one_batch_told : (told : DrawsTold) (second : ℕ) (left now : List ℕ) → told.second ≡ Some second → told.left ≡ Some left → told.left_now ≡ Some now → (failed : Type 0) (limit : ℕ) (key uri : List ℕ) (digests : List (List ℕ)) (gate : ℕ)
    (entries : List Entry) (d e : RunEnd) → RoundAnswers (HappensIn told) failed limit key uri digests gate entries d → RoundAnswers (HappensIn told) failed limit key uri digests gate entries e → d ≡ e
one_batch_told told second left now is was will failed limit key uri digests gate entries d e f g =
    one_batch second left now failed limit key uri digests gate entries d e (given d f) (given e g)
  where
    given : (x : RunEnd) → RoundAnswers (HappensIn told) failed limit key uri digests gate entries x → RoundAnswers (Happens (Some second) (Some left) (Some now)) failed limit key uri digests gate entries x
    given x h =
        subst (λ (z : Option (List ℕ)). RoundAnswers (Happens (Some second) (Some left) z) failed limit key uri digests gate entries x) will
        (subst (λ (z : Option (List ℕ)). RoundAnswers (Happens (Some second) z told.left_now) failed limit key uri digests gate entries x) was
        (subst (λ (z : Option ℕ). RoundAnswers (Happens z told.left told.left_now) failed limit key uri digests gate entries x) is h))
