-- The tickets of a round, one after another.
use Rattle.std.proofs.Common.{◌≡◌, ◌≢◌, ◌<◌, ◌≤◌, ℕ, ◌+◌, List, [], ◌∷◌, ◌++◌, length, take, get_or, inl, inr, refl, sym, ap, subst, ◌∙◌, arith, append-nil, length-append, length-take, Option}
use Rattle.std.specs.Prelude.{Result, Ok, Err, IsErrAnd, Vec}
use Rattle.std.specs.List.{AllByRecursion}
use Rattle.std.specs.declared.alloc.Global.{Global}
use Rattle.std.proofs.lemmas.List.{take_all, take_more}
use Rattle.std.proofs.lemmas.List.Concat.{flat_map-append}
use Rattle.ots_outside.specs.Streams.{Gives, Gives-nothing, Gives-trans}
use Rattle.ots_round.specs.declared.ticket.Ticket.{Ticket}
use Rattle.ots_tickets.specs.Tickets.{TicketsTold}
use Rattle.ots_calendar_batch.specs.declared.round.BatchError.{BatchError}
use Rattle.ots_calendar_batch.specs.declared.round.BatchError.TheVariants.{OutOfMemory}
use Rattle.ots_calendar_batch.specs.Batch.{AreTickets, joined}
use Rattle.ots_calendar_batch.specs.Round.{AreDistinct, IsPut, PutTo, PutsAll, PutsOne}

abbrev Long : List ℕ → Type 0
Long nonce = length nonce ≡ 16

all_more : {A : Type 0} (P : A → Type 0) (xs : List A) (x : A) → AllByRecursion P xs → P x → AllByRecursion P (xs ++ x ∷ [])
all_more P [] x all one = (one, tt)
all_more P (y ∷ xs) x all one = (all.0, all_more P xs x all.1 one)

tickets_more : (digests nonces : List (List ℕ)) (tickets : List Ticket) (digest nonce : List ℕ) (ticket : Ticket) → AreTickets digests nonces tickets
    → ticket.leaf ≡ digest → ticket.nonce ≡ nonce → AreTickets (digests ++ digest ∷ []) (nonces ++ nonce ∷ []) (tickets ++ ticket ∷ [])
tickets_more [] [] [] digest nonce ticket are leaf is = (leaf, is, tt)
tickets_more [] [] (t ∷ tickets) digest nonce ticket are leaf is = absurd are
tickets_more [] (n ∷ nonces) tickets digest nonce ticket are leaf is = absurd are
tickets_more (d ∷ digests) [] tickets digest nonce ticket are leaf is = absurd are
tickets_more (d ∷ digests) (n ∷ nonces) [] digest nonce ticket are leaf is = absurd are
tickets_more (d ∷ digests) (n ∷ nonces) (t ∷ tickets) digest nonce ticket are leaf is =
    (are.0, are.1, tickets_more digests nonces tickets digest nonce ticket are.2 leaf is)

-- as many of each
pub many_nonces : (digests nonces : List (List ℕ)) (tickets : List Ticket) → AreTickets digests nonces tickets → length nonces ≡ length digests
many_nonces [] [] [] are = refl
many_nonces [] [] (t ∷ tickets) are = absurd are
many_nonces [] (n ∷ nonces) tickets are = absurd are
many_nonces (d ∷ digests) [] tickets are = absurd are
many_nonces (d ∷ digests) (n ∷ nonces) [] are = absurd are
many_nonces (d ∷ digests) (n ∷ nonces) (t ∷ tickets) are = let rest = many_nonces digests nonces tickets are.2 in omega (arith, rest)

pub many_tickets : (digests nonces : List (List ℕ)) (tickets : List Ticket) → AreTickets digests nonces tickets → length tickets ≡ length digests
many_tickets [] [] [] are = refl
many_tickets [] [] (t ∷ tickets) are = absurd are
many_tickets [] (n ∷ nonces) tickets are = absurd are
many_tickets (d ∷ digests) [] tickets are = absurd are
many_tickets (d ∷ digests) (n ∷ nonces) [] are = absurd are
many_tickets (d ∷ digests) (n ∷ nonces) (t ∷ tickets) are = let rest = many_tickets digests nonces tickets are.2 in omega (arith, rest)

distinct_more : (tickets : List Ticket) (ticket : Ticket) → AreDistinct tickets → AllByRecursion (λ (t : Ticket). t.number ≢ ticket.number) tickets → AreDistinct (tickets ++ ticket ∷ [])
distinct_more [] ticket distinct new = (tt, tt)
distinct_more (t ∷ tickets) ticket distinct new =
    (all_more (λ (other : Ticket). other.number ≢ t.number) tickets ticket distinct.0 (λ same. new.0 (sym same)), distinct_more tickets ticket distinct.1 new.1)

joined_more : (nonces : List (List ℕ)) (nonce : List ℕ) → joined nonces ++ nonce ≡ joined (nonces ++ nonce ∷ [])
joined_more nonces nonce =
    ap (λ (z : List ℕ). joined nonces ++ z) (sym (append-nil nonce)) ∙ sym (flat_map-append (λ (n : List ℕ). n) nonces (nonce ∷ []))

gives_more : (left mid now : Option (List ℕ)) (nonces : List (List ℕ)) (nonce : List ℕ) → Gives left mid (joined nonces) → Gives mid now nonce → Gives left now (joined (nonces ++ nonce ∷ []))
gives_more left mid now nonces nonce first then = subst (Gives left now) (joined_more nonces nonce) (Gives-trans left mid now (joined nonces) nonce first then)

-- before the first
pub none_put : (left : Option (List ℕ)) (waiting : List Ticket) → waiting ≡ [] → PutTo left left [] [] waiting
none_put left waiting none = record { nonces = []; each = tt; drawn = Gives-nothing left; are = tt; waits = none; distinct = tt }

module _ (left mid now : Option (List ℕ)) (digests : List (List ℕ)) (i : ℕ) (tickets : List Ticket) (old new : TicketsTold) (digest : List ℕ)
    (p : PutTo left mid (take i digests) tickets old.waiting) (less : i < length digests) (is : digest ≡ get_or digests i digest) where
  -- one more
  pub one_put : (ticket : Ticket) → IsPut mid now digest old new ticket → PutTo left now (take (i + 1) digests) (tickets ++ ticket ∷ []) new.waiting
  one_put ticket put = record {
    nonces = p.nonces ++ ticket.nonce ∷ [];
    each = all_more Long p.nonces ticket.nonce p.each put.long;
    drawn = gives_more left mid now p.nonces ticket.nonce p.drawn put.drawn;
    are = subst (λ (z : List (List ℕ)). AreTickets z (p.nonces ++ ticket.nonce ∷ []) (tickets ++ ticket ∷ [])) (sym (take_more digests i digest less ∙ ap (λ (z : List ℕ). take i digests ++ z ∷ []) (sym is)))
        (tickets_more (take i digests) p.nonces tickets digest ticket.nonce ticket p.are put.leaf refl);
    waits = put.waits ∙ ap (λ (z : List Ticket). z ++ ticket ∷ []) p.waits;
    distinct = distinct_more tickets ticket p.distinct (subst (AllByRecursion (λ (t : Ticket). t.number ≢ ticket.number)) p.waits put.is_new.waiting);
  }

  drawn_few : length p.nonces < length digests
  drawn_few = let many = many_nonces (take i digests) p.nonces tickets p.are in omega (arith, many, less, length-take i digests)

  -- none more, as the nonces failed or memory ran out
  pub put_failed : (early failed : Type 0) (waiting : List Ticket) (e : BatchError) → (early → failed) → PutsOne mid now early digest old new (Err e) → PutsAll left now failed digests waiting (Err e)
  put_failed early failed waiting e later (inl (fault, rose, same)) = subst (λ (z : BatchError). PutsAll left now failed digests waiting (Err z)) (sym fault) (record {
    nonces = p.nonces;
    each = p.each;
    drawn = subst (λ (z : Option (List ℕ)). Gives left z (joined p.nonces)) (sym same) p.drawn;
    most = let few = drawn_few in omega (arith, few);
    outcome = (drawn_few, later rose);
  })
  put_failed early failed waiting e later (inr (short, d)) = subst (λ (z : BatchError). PutsAll left now failed digests waiting (Err z)) (sym short) (record {
    nonces = p.nonces ++ d.nonce ∷ [];
    each = all_more Long p.nonces d.nonce p.each d.long;
    drawn = gives_more left mid now p.nonces d.nonce p.drawn d.drawn;
    most = let few = drawn_few in omega (arith, few, length-append p.nonces (d.nonce ∷ []));
    outcome = tt;
  })

-- memory ran out for the list of tickets
pub put_short : (left now : Option (List ℕ)) (failed : Type 0) (digests : List (List ℕ)) (i : ℕ) (tickets waiting after : List Ticket) → PutTo left now (take i digests) tickets waiting
    → PutsAll left now failed digests after (Err OutOfMemory)
put_short left now failed digests i tickets waiting after p = record {
  nonces = p.nonces;
  each = p.each;
  drawn = p.drawn;
  most = let many = many_nonces (take i digests) p.nonces tickets p.are in omega (arith, many, length-take i digests);
  outcome = tt;
}

-- all are put
pub all_put : (left now : Option (List ℕ)) (failed : Type 0) (digests : List (List ℕ)) (i : ℕ) (tickets : Vec Ticket Global) (waiting : List Ticket) → length digests ≤ i
    → PutTo left now (take i digests) tickets.items waiting → PutsAll left now failed digests waiting (Ok tickets)
all_put left now failed digests i tickets waiting all p =
    let are : AreTickets digests p.nonces tickets.items = subst (λ (z : List (List ℕ)). AreTickets z p.nonces tickets.items) (take_all i digests all) p.are in
    record {
      nonces = p.nonces;
      each = p.each;
      drawn = p.drawn;
      most = let many = many_nonces digests p.nonces tickets.items are in omega (arith, many);
      outcome = (are, p.waits, p.distinct);
    }

-- an error that `?` made of one
pub puts_as : {left now : Option (List ℕ)} {failed : Type 0} {digests : List (List ℕ)} {waiting : List Ticket} (r : Result (Vec Ticket Global) BatchError) (e : BatchError) → IsErrAnd r (λ x. x ≡ e)
    → PutsAll left now failed digests waiting (Err e) → PutsAll left now failed digests waiting r
puts_as (Ok x) e is h = absurd is
puts_as {left = left} {now = now} {failed = failed} {digests = digests} {waiting = waiting} (Err x) e is h = subst (λ (z : BatchError). PutsAll left now failed digests waiting (Err z)) (sym is) h
