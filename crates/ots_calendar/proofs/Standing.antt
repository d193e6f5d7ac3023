-- The commitments of receipts stand at their indexes, also when records are added and when tickets are taken.
use Rattle.std.proofs.Common.{◌≡◌, inl, inr, ℕ, zero, suc, ◌+◌, List, [], ◌∷◌, ◌++◌, ◌≤◌, length, map, refl, sym, ap, subst, ◌∙◌, arith, length-append}
use Rattle.std.specs.List.{AllByRecursion}
use Rattle.std.specs.Prelude.{Option, Some, MatchOption, slice_get, Result, Ok, Err, IfOk, OnOk, OnErr, Bool, true, false}
use Rattle.ots_journal.specs.Journal.{JournalTold, Refreshed, Unrefreshed}
use Rattle.ots_round.specs.declared.ticket.Ticket.{Ticket}
use Rattle.ots_round.specs.Round.{leaves, round_commitment}
use Rattle.ots_store.specs.Order.{commits_of, records_of}
use Rattle.ots_store.specs.Records.{Record, CommitRecord, entry_of}
use Rattle.ots_store.specs.Store.{Added, Adds}
use Rattle.ots_tickets.specs.declared.rounds.Ready.{Ready}
use Rattle.ots_tickets.specs.declared.settled.Settled.{Settled}
use Rattle.ots_tickets.specs.declared.tickets.Taken.{Taken}
use Rattle.ots_tickets.specs.Calls.{IfSettled, LeadsTo, Takes, Withdraws}
use Rattle.ots_tickets.specs.Ready.{at_index, IsReady}
use Rattle.ots_tickets.specs.Tickets.{IsSettled, TicketsTold, TakesOne, settles_from}
use Rattle.ots_tickets.proofs.Places.{all_joined, settles_index}
use Rattle.ots_kept_trees.specs.Kept.{AreKept}
use Rattle.ots_kept_trees.specs.declared.trees.Trees.{Trees}
use Rattle.ots_kept_trees.proofs.Leaves.{kept_more}
use Rattle.ots_calendar.specs.Book.{AllStand, StandsAt, Gives, Grows}
use Rattle.ots_calendar.proofs.Growing.{refreshed, unrefreshed}
use Rattle.ots_calendar.proofs.Keeping.{commits_more}

-- ---- more records

slice_left : {A : Type 0} (xs ys : List A) (i : ℕ) (x : A) → slice_get xs i ≡ Some x → slice_get (xs ++ ys) i ≡ Some x
slice_left [] ys i x is = absurd (cc)
slice_left (y ∷ xs) ys zero x is = is
slice_left (y ∷ xs) ys (suc i) x is = slice_left xs ys i x is

slice_last : {A : Type 0} (xs : List A) (x : A) → slice_get (xs ++ x ∷ []) (length xs) ≡ Some x
slice_last [] x = refl
slice_last (y ∷ xs) x = slice_last xs x

stand_more : (xs ys : List (List ℕ)) (settled : List Settled) → AllStand xs settled → AllStand (xs ++ ys) settled
stand_more xs ys [] all = tt
stand_more xs ys (s ∷ settled) all = (slice_left xs ys s.receipt.index s.receipt.commitment all.0, stand_more xs ys settled all.1)

pub stand_grows : {D : Type 0} (old new : JournalTold D) (settled : List Settled) → Grows old new → AllStand (commits_of (records_of old.entries)) settled → AllStand (commits_of (records_of new.entries)) settled
stand_grows old new settled g all =
    subst (λ (l : List (List ℕ)). AllStand l settled) (sym (ap (λ (l : List _). commits_of (records_of l)) g.entries ∙ commits_more old.entries g.more))
    (stand_more (commits_of (records_of old.entries)) (commits_of (records_of g.more)) settled all)

-- so are the kept trees over their commitments
pub kept_grows : {D : Type 0} (old new : JournalTold D) (t : Trees) → Grows old new → AreKept (commits_of (records_of old.entries)) t → AreKept (commits_of (records_of new.entries)) t
kept_grows old new t g are =
    subst (λ (l : List (List ℕ)). AreKept l t) (sym (ap (λ (l : List _). commits_of (records_of l)) g.entries ∙ commits_more old.entries g.more))
    (kept_more (commits_of (records_of old.entries)) (commits_of (records_of g.more)) t are)

pub refresh_grows : {D A E : Type 0} (bytes : D → Option (List ℕ)) (old new : JournalTold D) (result : Result A E) → OnOk result (Refreshed bytes old new) → OnErr result (Unrefreshed bytes old new) → Grows old new
refresh_grows bytes old new (Ok x) ok err = refreshed bytes old new ok
refresh_grows bytes old new (Err e) ok err = unrefreshed bytes old new err

-- ---- a commitment that is added stands last

added_last : {D : Type 0} (clock : D → ℕ) (since : D → ℕ → List ℕ → Type 0) (mid new : JournalTold D) (c : List ℕ) (index : ℕ) → Added clock since mid new (entry_of (CommitRecord c) ∷ []) (Ok index)
    → index + 1 ≡ length (commits_of (records_of new.entries)) → slice_get (commits_of (records_of new.entries)) index ≡ Some c
added_last clock since mid new c index added last =
    let before : List (List ℕ) = commits_of (records_of mid.entries) in
    let all : commits_of (records_of new.entries) ≡ before ++ c ∷ [] = ap (λ (l : List _). commits_of (records_of l)) added.outcome.entries ∙ commits_more mid.entries (entry_of (CommitRecord c) ∷ []) in
    let at : index ≡ length before = omega (arith, last, ap length all, length-append before (c ∷ [])) in
    (λ i. slice_get (all i) (at i)) ∙ slice_last before c

pub stands_added : {D : Type 0} (bytes : D → Option (List ℕ)) (clock : D → ℕ) (since : D → ℕ → List ℕ → Type 0) (old new : JournalTold D) (c : List ℕ) (index : ℕ)
    → Adds bytes clock since old new (entry_of (CommitRecord c) ∷ []) (Ok index) → index + 1 ≡ length (commits_of (records_of new.entries)) → slice_get (commits_of (records_of new.entries)) index ≡ Some c
stands_added bytes clock since old new c index (inl after) last = added_last clock since after.mid new c index after.added last
stands_added bytes clock since old new c index (inr (inl nothing)) last = absurd (let no = nothing.fault in cc)
stands_added bytes clock since old new c index (inr (inr untouched)) last = absurd (let no = untouched.no_memory in cc)

all_settle : (commits : List (List ℕ)) (index : ℕ) (c : List ℕ) (leaves : List (List ℕ)) (s : ℕ) (tickets : List Ticket) → slice_get commits index ≡ Some c → AllStand commits (settles_from index c leaves s tickets)
all_settle commits index c leaves s [] at = tt
all_settle commits index c leaves s (t ∷ tickets) at = (at, all_settle commits index c leaves (suc s) tickets at)

-- a round that is settled where its commitment stands
pub settle_stands : (commits : List (List ℕ)) (key : List ℕ) (second : ℕ) (waiting : List Ticket) (spare : ℕ) (o : Option Ready) (made : Ready) (index : ℕ) (old new : List Settled)
    → MatchOption o (waiting ≡ []) (λ r. IsReady key second waiting r.commitment r.settled.items × (length r.settled.items ≤ spare)) → o ≡ Some made
    → slice_get commits index ≡ Some made.commitment → AllStand commits old → new ≡ old ++ map (at_index index) made.settled.items → AllStand commits new
settle_stands commits key second waiting spare o made index old new found is at all joined =
    let ready : IsReady key second waiting made.commitment made.settled.items =
    (subst (λ (x : Option Ready). MatchOption x (waiting ≡ []) (λ r. IsReady key second waiting r.commitment r.settled.items × (length r.settled.items ≤ spare))) is found).0 in
    let c : List ℕ = round_commitment key second waiting in
    let here : slice_get commits index ≡ Some c = at ∙ ap (λ (x : List ℕ). Some x) ready.commitment_is in
    let items : map (at_index index) made.settled.items ≡ settles_from index c (leaves waiting) 0 waiting = ap (map (at_index index)) ready.settled_are ∙ settles_index index c (leaves waiting) 0 waiting in
    subst (AllStand commits) (sym (joined ∙ ap (λ (l : List Settled). old ++ l) items))
    (all_joined (λ (s : Settled). StandsAt commits s.receipt) old (settles_from index c (leaves waiting) 0 waiting) all (all_settle commits index c (leaves waiting) 0 waiting here))

-- ---- a ticket that is taken away

all_left : {A : Type 0} (P : A → Type 0) (xs : List A) (y : A) (ys : List A) → AllByRecursion P (xs ++ y ∷ ys) → AllByRecursion P (xs ++ ys)
all_left P [] y ys all = all.1
all_left P (x ∷ xs) y ys all = (all.0, all_left P xs y ys all.1)

pub all_one : {A : Type 0} (P : A → Type 0) (xs : List A) (y : A) (ys : List A) → AllByRecursion P (xs ++ y ∷ ys) → P y
all_one P [] y ys all = all.0
all_one P (x ∷ xs) y ys all = all_one P xs y ys all.1

module _ (commits : List (List ℕ)) (old new : List Settled) (P : Settled → Type 0) (one : Settled) (t : TakesOne P one old new) (all : AllStand commits old) where
  left : AllStand commits new
  left = subst (AllStand commits) (sym t.rest) (all_left (λ (s : Settled). StandsAt commits s.receipt) t.before one t.after (subst (AllStand commits) t.whole all))

  taken_one : StandsAt commits one.receipt
  taken_one = all_one (λ (s : Settled). StandsAt commits s.receipt) t.before one t.after (subst (AllStand commits) t.whole all)

module _ (commits : List (List ℕ)) (ticket : Ticket) (uri : List ℕ) (old new : TicketsTold) (all : AllStand commits old.settled) where
  same_all : new ≡ old → AllStand commits new.settled
  same_all same = subst (λ (t : TicketsTold). AllStand commits t.settled) (sym same) all

  take_all : (answer : Taken) → Takes ticket uri old new answer → AllStand commits new.settled
  take_all answer (inl t) = left commits old.settled new.settled (IsSettled ticket) t.one t.takes all
  take_all answer (inr (inl t)) = same_all t.2
  take_all answer (inr (inr t)) = same_all t.2

  pub take_stands : {E : Type 0} (result : Result Taken E) → IfOk result (Takes ticket uri old new) → OnErr result (new ≡ old) → AllStand commits new.settled
  take_stands (Ok answer) ok err = take_all answer ok
  take_stands (Err e) ok err = same_all err

  pub withdraw_stands : (answer : Bool) → Withdraws ticket old new answer → AllStand commits new.settled
  withdraw_stands true (inl t) = left commits old.settled new.settled (IsSettled ticket) t.one t.takes all
  withdraw_stands true (inr t) = subst (AllStand commits) (sym t.settled) all
  withdraw_stands false t = same_all t.2

-- ---- what is given for it

module _ (records : List Record) (ticket : Ticket) (uri : List ℕ) (old new : TicketsTold) (all : AllStand (commits_of records) old.settled) where
  given : (answer : Taken) → Takes ticket uri old new answer → IfSettled answer (LeadsTo ticket uri) → IfSettled answer (Gives records ticket uri)
  given answer (inl t) leads =
      subst (λ (a : Taken). IfSettled a (Gives records ticket uri)) (sym t.answer) (record {
        stands = taken_one (commits_of records) old.settled new.settled (IsSettled ticket) t.one t.takes all;
        leads = subst (λ (a : Taken). IfSettled a (LeadsTo ticket uri)) t.answer leads;
      })
  given answer (inr (inl t)) leads = subst (λ (a : Taken). IfSettled a (Gives records ticket uri)) (sym t.3) tt
  given answer (inr (inr t)) leads = subst (λ (a : Taken). IfSettled a (Gives records ticket uri)) (sym t.3) tt

  pub all_given : {E : Type 0} (result : Result Taken E) → IfOk result (Takes ticket uri old new) → IfOk result (λ a. IfSettled a (LeadsTo ticket uri)) → IfOk result (λ a. IfSettled a (Gives records ticket uri))
  all_given (Ok answer) takes leads = given answer takes leads
  all_given (Err e) takes leads = tt
