-- The trees of a round, from the last ticket on.
use Rattle.std.proofs.Common.{◌≡◌, ◌≢◌, ℕ, suc, List, [], ◌∷◌, ◌++◌, length, map, reverse, inl, inr, refl, sym, ap, subst, ◌∙◌, arith, append_assoc, length-append}
use Rattle.std.specs.List.{AllByRecursion, flat_map}
use Rattle.std.proofs.lemmas.List.{map-append, reverse-append}
use Rattle.ots_merkle.specs.CalendarTree.{path}
use Rattle.ots_round.specs.declared.ticket.Receipt.{Receipt}
use Rattle.ots_round.specs.declared.ticket.Ticket.{Ticket}
use Rattle.ots_tickets.specs.Calls.{Takes, TakesSettled, tree_of}
use Rattle.ots_tickets.specs.Tickets.{IsSettled, NoneIs, TicketsTold, settles, settles_from}
use Rattle.ots_tickets.specs.declared.settled.Settled.{Settled}
use Rattle.ots_tickets.specs.declared.tickets.Taken.{Taken}
use Rattle.ots_tickets.specs.declared.tickets.Taken.TheVariants as taken
use Rattle.ots_tree.specs.declared.token.Token.{Token}
use Rattle.ots_tree.specs.Wire.{spelled}
use Rattle.ots_calendar_text.specs.Lines.{tree_line}
use Rattle.ots_calendar_batch.specs.Batch.{settled_line, trees_text}
use Rattle.ots_calendar_batch.specs.Round.{AreDistinct, AreSettled, HasLast, IsLast, ticket_of}
use Rattle.ots_calendar_batch.specs.Trees.{trees_lines}

-- ---- the last one

abbrev Others : Ticket → List Settled → Type 0
Others ticket settled = AllByRecursion (λ (other : Settled). other.ticket.number ≢ ticket.number) settled

-- the one that is taken is the last
last_taken : (xs before after : List Settled) (last one : Settled) (t : Ticket) → Others t xs → one.ticket ≡ t → xs ++ last ∷ [] ≡ before ++ one ∷ after
    → (one ≡ last) × (before ++ after ≡ xs)
last_taken [] [] after last one t others is same = let first : last ≡ one = cc in let none : [] ≡ after = cc in (sym first, sym none)
last_taken [] (b ∷ before) after last one t others is same = absurd (omega (arith, ap length same, length-append before (one ∷ after)))
last_taken (x ∷ xs) [] after last one t others is same = absurd (others.0 (let first : x ≡ one = cc in ap (λ (z : Settled). z.ticket.number) first ∙ ap (λ (z : Ticket). z.number) is))
last_taken (x ∷ xs) (b ∷ before) after last one t others is same =
    let first : x ≡ b = cc in
    let rest : xs ++ last ∷ [] ≡ before ++ one ∷ after = cc in
    let l = last_taken xs before after last one t others.1 is rest in
    (l.0, (λ i. (sym first) i ∷ l.1 i))

none_last : (ticket : Ticket) (before : List Settled) (last : Settled) → last.ticket ≡ ticket → NoneIs (IsSettled ticket) (before ++ last ∷ []) → ⊥
none_last ticket [] last is none = none.0 is
none_last ticket (b ∷ before) last is none = none_last ticket before last is none.1

pub not_none : (ticket : Ticket) (settled : List Settled) → HasLast ticket settled → NoneIs (IsSettled ticket) settled → ⊥
not_none ticket settled h none = none_last ticket h.before h.last h.is_last.is (subst (NoneIs (IsSettled ticket)) h.is_last.whole none)

module _ (ticket : Ticket) (uri : List ℕ) (old new : TicketsTold) (h : HasLast ticket old.settled) where
  -- it is neither waiting nor unknown
  pub is_settled : (answer : Taken) → Takes ticket uri old new answer → TakesSettled ticket uri old new answer
  is_settled answer (inl t) = t
  is_settled answer (inr (inl w)) = absurd (not_none ticket old.settled h w.0)
  is_settled answer (inr (inr u)) = absurd (not_none ticket old.settled h u.0)

  pub taken_last : (tree : List Token) (receipt : Receipt) → Takes ticket uri old new (taken.Settled tree receipt) → (before : List Settled) (last : Settled) → IsLast ticket before last old.settled
      → (tree ≡ tree_of last uri) × (new.settled ≡ before)
  taken_last tree receipt takes before last l =
      let t = is_settled (taken.Settled tree receipt) takes in
      let at = last_taken before t.takes.before t.takes.after last t.one ticket l.others t.takes.is (sym l.whole ∙ t.takes.whole) in
      let given : tree ≡ tree_of t.one uri = settled_tree tree (tree_of t.one uri) receipt t.one.receipt t.answer in
      (given ∙ ap (λ (z : Settled). tree_of z uri) at.0, t.takes.rest ∙ at.1)
    where
      settled_tree : (a b : List Token) (r s : Receipt) → taken.Settled a r ≡ taken.Settled b s → a ≡ b
      settled_tree a b r s same = cc

-- ---- all of them

others_last : (tickets : List Ticket) (t : Ticket) → AreDistinct (tickets ++ t ∷ []) → AllByRecursion (λ (x : Ticket). x.number ≢ t.number) tickets
others_last [] t distinct = tt
others_last (x ∷ tickets) t distinct = (λ same. last_all tickets distinct.0 (sym same), others_last tickets t distinct.1)
  where
    last_all : (tickets : List Ticket) → AllByRecursion (λ (other : Ticket). other.number ≢ x.number) (tickets ++ t ∷ []) → t.number ≢ x.number
    last_all [] all = all.0
    last_all (y ∷ tickets) all = last_all tickets all.1

distinct_prefix : (tickets : List Ticket) (t : Ticket) → AreDistinct (tickets ++ t ∷ []) → AreDistinct tickets
distinct_prefix [] t distinct = tt
distinct_prefix (x ∷ tickets) t distinct = (prefix tickets distinct.0, distinct_prefix tickets t distinct.1)
  where
    prefix : (tickets : List Ticket) → AllByRecursion (λ (other : Ticket). other.number ≢ x.number) (tickets ++ t ∷ []) → AllByRecursion (λ (other : Ticket). other.number ≢ x.number) tickets
    prefix [] all = tt
    prefix (y ∷ tickets) all = (all.0, prefix tickets all.1)

-- those settled, where the last ticket is known
record SettledLast (tickets : List Ticket) (t : Ticket) (settled : List Settled) : Type 0 where
  before : List Settled
  last : Settled
  whole : settled ≡ before ++ last ∷ []
  are : map ticket_of before ≡ tickets
  is : last.ticket ≡ t

ends_with : (settled : List Settled) (tickets : List Ticket) (t : Ticket) → map ticket_of settled ≡ tickets ++ t ∷ [] → SettledLast tickets t settled
ends_with [] [] t same = absurd cc
ends_with [] (x ∷ tickets) t same = absurd cc
ends_with (s ∷ []) [] t same = record { before = []; last = s; whole = refl; are = refl; is = cc }
ends_with (s ∷ r ∷ settled) [] t same = absurd (omega (arith, ap length same))
ends_with (s ∷ settled) (x ∷ tickets) t same =
    let first : s.ticket ≡ x = cc in
    let rest : map ticket_of settled ≡ tickets ++ t ∷ [] = cc in
    let e = ends_with settled tickets t rest in
    record { before = s ∷ e.before; last = e.last; whole = ap (λ (z : List Settled). s ∷ z) e.whole; are = (λ i. first i ∷ e.are i); is = e.is }

others_of : (before : List Settled) (tickets : List Ticket) (t : Ticket) → map ticket_of before ≡ tickets → AllByRecursion (λ (x : Ticket). x.number ≢ t.number) tickets → Others t before
others_of [] tickets t are all = tt
others_of (s ∷ before) [] t are all = absurd cc
others_of (s ∷ before) (x ∷ tickets) t are all =
    let first : s.ticket ≡ x = cc in
    let rest : map ticket_of before ≡ tickets = cc in
    (λ same. all.0 (sym (ap (λ (z : Ticket). z.number) first) ∙ same), others_of before tickets t rest all.1)

module _ (tickets : List Ticket) (t : Ticket) (settled : List Settled) (a : AreSettled (tickets ++ t ∷ []) settled) where
  pub has_last : HasLast t settled
  has_last =
      let e = ends_with settled tickets t a.are in
      record { before = e.before; last = e.last; is_last = record { whole = e.whole; is = e.is; others = others_of e.before tickets t e.are (others_last tickets t a.distinct) } }

  -- those before it are left
  pub left_settled : (h : HasLast t settled) (new : List Settled) → new ≡ h.before → AreSettled tickets new
  left_settled h new is = record {
    are = ap (map ticket_of) is ∙ prefix h.before tickets (sym (map-append ticket_of h.before (h.last ∷ [])) ∙ (sym (ap (map ticket_of) h.is_last.whole) ∙ a.are));
    distinct = distinct_prefix tickets t a.distinct;
  }
    where
      prefix : (before : List Settled) (tickets : List Ticket) → map ticket_of before ++ h.last.ticket ∷ [] ≡ tickets ++ t ∷ [] → map ticket_of before ≡ tickets
      prefix [] [] same = refl
      prefix [] (x ∷ tickets) same = absurd (omega (arith, ap length same, length-append tickets (t ∷ [])))
      prefix (s ∷ before) [] same = absurd (omega (arith, ap length same, length-append (map ticket_of before) (h.last.ticket ∷ [])))
      prefix (s ∷ before) (x ∷ tickets) same =
          let first : s.ticket ≡ x = cc in
          let rest : map ticket_of before ++ h.last.ticket ∷ [] ≡ tickets ++ t ∷ [] = cc in
          let more = prefix before tickets rest in
          (λ i. first i ∷ more i)

-- one tree more
pub tree_more : (uri : List ℕ) (all settled new : List Settled) (last : Settled) (trees more : List (List Token)) (tree : List Token)
    → map (λ (s : Settled). tree_of s uri) all ≡ map (λ (s : Settled). tree_of s uri) settled ++ reverse trees
    → settled ≡ new ++ last ∷ [] → tree ≡ tree_of last uri → more ≡ trees ++ tree ∷ []
    → map (λ (s : Settled). tree_of s uri) all ≡ map (λ (s : Settled). tree_of s uri) new ++ reverse more
tree_more uri all settled new last trees more tree so_far whole is added =
    let f : Settled → List Token = λ (s : Settled). tree_of s uri in
    let split : map f settled ≡ map f new ++ tree ∷ [] = ap (map f) whole ∙ (map-append f new (last ∷ []) ∙ ap (λ (z : List Token). map f new ++ z ∷ []) (sym is)) in
    so_far ∙ (ap (λ (z : List (List Token)). z ++ reverse trees) split ∙ (append_assoc (map f new) (tree ∷ []) (reverse trees)
    ∙ ap (λ (z : List (List Token)). map f new ++ z) (sym (ap reverse added ∙ reverse-append trees (tree ∷ [])))))

-- ---- their lines

-- the tickets of a round that is closed
pub settled_tickets : (index : ℕ) (c : List ℕ) (leaves : List (List ℕ)) (i : ℕ) (tickets : List Ticket) → map ticket_of (settles_from index c leaves i tickets) ≡ tickets
settled_tickets index c leaves i [] = refl
settled_tickets index c leaves i (t ∷ tickets) = ap (λ (z : List Ticket). t ∷ z) (settled_tickets index c leaves (suc i) tickets)

lines_from : (uri : List ℕ) (index : ℕ) (c : List ℕ) (leaves : List (List ℕ)) (i : ℕ) (tickets : List Ticket)
    → flat_map (λ (tree : List Token). tree_line index (spelled tree)) (map (λ (s : Settled). tree_of s uri) (settles_from index c leaves i tickets))
    ≡ flat_map (settled_line uri) (settles_from index c leaves i tickets)
lines_from uri index c leaves i [] = refl
lines_from uri index c leaves i (t ∷ tickets) =
    ap (λ (z : List ℕ). settled_line uri (record { ticket = t; receipt = record { index = index; commitment = c }; path = path leaves i }) ++ z) (lines_from uri index c leaves (suc i) tickets)

pub trees_lines_are : (uri key : List ℕ) (second index : ℕ) (tickets : List Ticket) (trees : List (List Token)) → trees ≡ map (λ (s : Settled). tree_of s uri) (settles key second index tickets)
    → trees_lines index trees ≡ trees_text uri (settles key second index tickets)
unfolding trees_lines trees_text
trees_lines_are uri key second index tickets trees is = ap (flat_map (λ (tree : List Token). tree_line index (spelled tree))) is ∙ lines_from uri index _ _ 0 tickets
