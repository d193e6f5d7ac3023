-- What a round comes to.
use Rattle.std.proofs.Common.{◌≡◌, ◌<◌, ◌≤◌, ◌^◌, inl, inr, ℕ, ◌+◌, List, [], ◌∷◌, ◌++◌, length, true, false, Option, None, Some, refl, sym, ap, subst, ◌∙◌, arith, length-append}
use Rattle.std.specs.Prelude.{◌⊎◌, Result, Ok, Err, IsErrAnd}
use Rattle.std.proofs.lemmas.List.{map-append}
use Rattle.ots_disk.specs.Disk.{LeavesOnly}
use Rattle.ots_disk.specs.Moments.{started, weaker}
use Rattle.ots_journal.specs.declared.entry.Entry.{Entry}
use Rattle.ots_journal.specs.declared.errors.AppendError.{AppendError}
use Rattle.ots_journal.specs.declared.errors.AppendError.TheVariants as append
use Rattle.ots_journal.specs.Image.{Stands}
use Rattle.ots_journal.specs.Journal.{JournalTold, size_with}
use Rattle.ots_round.specs.declared.ticket.Ticket.{Ticket}
use Rattle.ots_round.specs.Round.{round_commitment}
use Rattle.ots_store.specs.Order.{commits_of, records_of}
use Rattle.ots_store.specs.Records.{CommitRecord, Record, record_of}
use Rattle.ots_store.specs.Store.{Added, Adds, StoreTold, MakesRoom, with_room}
use Rattle.ots_tickets.specs.Tickets.{settles}
use Rattle.ots_tickets.specs.declared.settled.Settled.{Settled}
use Rattle.ots_calendar.specs.Book.{BookTold}
use Rattle.ots_calendar.specs.Rounds.{Closes, RoundLeaves, round_answer}
use Rattle.ots_calendar_text.specs.declared.status.DaemonStatus.{DaemonStatus}
use Rattle.ots_calendar_text.specs.declared.status.DaemonStatus.TheVariants.{Full}
use Rattle.ots_calendar_batch.specs.declared.round.BatchError.{BatchError}
use Rattle.ots_calendar_batch.specs.declared.round.BatchError.TheVariants.{BadSecond, NonceFault, NotStored, OutOfMemory}
use Rattle.ots_calendar_batch.specs.declared.trees.Trees.{Trees}
use Rattle.ots_calendar_batch.specs.Batch.{AddsRound, AreTickets, bad_second, not_drawn, added, full, Drawing, RoundAnswers, next_index, round_entries, trees_text}
use Rattle.ots_calendar_endings.specs.RunEnd.{Comes, as_defined, disk_failed, no_memory, Ends, declined, done, nowhere}
use Rattle.ots_calendar_endings.specs.Moments.{StandsWith}
use Rattle.ots_calendar_endings.specs.Printed.{PrintsLast}
use Rattle.ots_calendar_batch.specs.Round.{ClosesTo, RoundEnds, RoundRefused, RoundStored, round_ending}
use Rattle.ots_calendar_batch.specs.Trees.{trees_lines}
use Rattle.ots_store.proofs.Ordered.{commits_append}

-- ---- closing

module _ {D : Type 0} (bytes : D → Option (List ℕ)) (clock : D → ℕ) (images : D → List ℕ → Type 0) (images_since : D → ℕ → List ℕ → Type 0) where
  -- a sure journal needs no refresh
  adds_sure : {A : Type 0} (old new : JournalTold D) (group : List Entry) (r : Result A AppendError) → old.is_sure ≡ true → Adds bytes clock images_since old new group r
      → ((spare_entries : ℕ) × (spare_bytes : ℕ) × Added {A = A} clock images_since (with_room old spare_entries spare_bytes) new group r) ⊎ (MakesRoom old new × (r ≡ Err append.OutOfMemory))
  adds_sure {A} old new group r sure (inl a) = inl (a.spare_entries, a.spare_bytes, subst (λ (z : JournalTold D). Added {A = A} clock images_since z new group r) (a.refreshed.already sure) a.added)
  adds_sure old new group r sure (inr (inl n)) = absurd (let unsure = n.unrefreshed.was_unsure in let clash : true ≡ false = sym sure ∙ unsure in cc)
  adds_sure old new group r sure (inr (inr n)) = inr (n.room, n.no_memory)

  -- where it is stored, room in memory is no matter
  in_room : {A : Type 0} (old new : JournalTold D) (group : List Entry) (spare_entries spare_bytes : ℕ) (x : A) → Added {A = A} clock images_since (with_room old spare_entries spare_bytes) new group (Ok x) → Added {A = A} clock images_since old new group (Ok x)
  in_room old new group spare_entries spare_bytes x a =
      let put = a.outcome in
      record {
        outcome = record { first_index = put.first_index; entries = put.entries; none_in_flight = put.none_in_flight; sure = put.sure; gate = put.gate; limit = put.limit };
        full = a.full;
        at_any_moment = a.at_any_moment;
      }

  adds_stored : {A : Type 0} (old new : JournalTold D) (group : List Entry) (x : A) → old.is_sure ≡ true → Adds {A = A} bytes clock images_since old new group (Ok x) → Added {A = A} clock images_since old new group (Ok x)
  adds_stored {A} old new group x sure adds = elim (adds_sure {A = A} old new group (Ok x) sure adds) [
    | inl a ↦ in_room {A = A} old new group a.0 a.1 x a.2
    | inr short ↦ absurd (let e = short.1 in cc)
  ]

  same_room : (old new : JournalTold D) → new ≡ old → MakesRoom old new
  same_room old new same = subst (λ (j : JournalTold D). MakesRoom old j) (sym same) (record { same = refl; more_entries = omega arith; more_bytes = omega arith })

  module _ (disk : Type 0) (key : List ℕ) (second : ℕ) (old new : BookTold D) (sure : old.store.journal.is_sure ≡ true) where
    abbrev group : List Entry
    group = round_entries key second old.tickets.waiting

    next_is : (index : ℕ) → new.store.journal.entries ≡ old.store.journal.entries ++ group → new.store.records ≡ records_of new.store.journal.entries
        → index + 1 ≡ length (commits_of new.store.records) → index ≡ next_index old.store.journal.entries
    next_is index entries records at =
        let c : Record = CommitRecord (round_commitment key second old.tickets.waiting) in
        let es = old.store.journal.entries in
        let all : commits_of new.store.records ≡ commits_of (records_of es) ++ commits_of (c ∷ []) =
        ap commits_of (records ∙ (ap records_of entries ∙ map-append record_of es group)) ∙ commits_append (records_of es) (c ∷ []) in
        omega (arith, at, ap length all, length-append (commits_of (records_of es)) (commits_of (c ∷ [])))

    pub close_stored : (index : ℕ) → old.tickets.settled ≡ [] → Closes bytes clock images_since key second old new (Ok (Some index))
        → ((c : List ℕ) → images new.store.journal.disk c → Stands c new.store.journal.entries) → index + 1 ≡ length (commits_of new.store.records)
        → new.store.records ≡ records_of new.store.journal.entries → ClosesTo clock images images_since disk key second old new (Ok index)
    close_stored index none (inl c) kept at records = by c.added refl c.answer
      where
        by : (r : Result ℕ AppendError) → c.added ≡ r → Ok (Some index) ≡ round_answer r → RoundStored clock images images_since key second old new index
        by (Ok i) is answer =
            let same : i ≡ index = cc in
            let ok : c.added ≡ Ok index = is ∙ ap (λ (z : ℕ). Ok z) same in
            let a : Added {A = ℕ} clock images_since old.store.journal new.store.journal group (Ok index) =
            adds_stored old.store.journal new.store.journal group index sure (subst (Adds bytes clock images_since old.store.journal new.store.journal group) ok c.adds) in
            let l : (new.tickets.waiting ≡ []) × (new.tickets.settled ≡ old.tickets.settled ++ settles key second index old.tickets.waiting) =
            subst (RoundLeaves key second old.tickets new.tickets) ok c.leaves in
            record {
              added = a;
              kept = kept;
              settled = l.1 ∙ ap (λ (z : List Settled). z ++ settles key second index old.tickets.waiting) none;
              at = next_is index a.outcome.entries records at;
            }
        by (Err why) is answer = absurd cc
    close_stored index none (inr (inl n)) kept at records = absurd (let answer = n.answer in cc)
    close_stored index none (inr (inr n)) kept at records = absurd (let answer = n.answer in cc)

    pub close_refused : (why : AppendError) → Closes bytes clock images_since key second old new (Err why) → (why ≡ append.DiskFault → disk)
        → ClosesTo clock images images_since disk key second old new (Err (NotStored why))
    close_refused why (inl c) rose = (by c.added refl c.answer, rose)
      where
        by : (r : Result ℕ AppendError) → c.added ≡ r → Err why ≡ round_answer r → RoundRefused clock images_since key second old new why
        by (Ok i) is answer = absurd cc
        by (Err e) is answer =
            let same : e ≡ why = cc in
            elim (adds_sure {A = ℕ} old.store.journal new.store.journal group (Err why) sure
            (subst (Adds bytes clock images_since old.store.journal new.store.journal group) (is ∙ ap (λ (z : AppendError). Err z) same) c.adds)) [
              | inl a ↦ inl a
              | inr short ↦ inr (let answer = short.1 in let is : why ≡ append.OutOfMemory = cc in is, short.0)
            ]
    close_refused why (inr (inl n)) rose = absurd (let answer = n.answer in cc)
    close_refused why (inr (inr n)) rose = (inr (let answer = n.answer in let is : why ≡ append.OutOfMemory = cc in is, same_room old.store.journal new.store.journal (ap (λ (s : StoreTold D). s.journal) n.store)), rose)

    pub close_some : 0 < length old.tickets.waiting → Closes bytes clock images_since key second old new (Ok None) → ⊥
    close_some some (inl c) = by c.added c.answer
      where
        by : (r : Result ℕ AppendError) → Ok None ≡ round_answer r → ⊥
        by (Ok i) answer = absurd cc
        by (Err e) answer = absurd cc
    close_some some (inr (inl n)) = absurd (omega (arith, some, ap length n.nothing))
    close_some some (inr (inr n)) = absurd (let answer = n.answer in cc)

-- ---- the whole

module _ {D : Type 0} (clock : D → ℕ) (images : D → List ℕ → Type 0) (images_since : D → ℕ → List ℕ → Type 0) (only_now : (d : D) (c : List ℕ) → images_since d (clock d) c → images d c)
    (happens : Drawing → Type 0) (failed disk : Type 0) (key uri : List ℕ) (digests : List (List ℕ)) (old : JournalTold D) (each : (c : List ℕ) → images old.disk c → Stands c old.entries) where
  abbrev Shown : JournalTold D → Result Trees BatchError → Type 0
  Shown new r = RoundEnds clock images images_since happens failed disk key uri digests old new r

  still : LeavesOnly clock images_since old.disk old.disk (StandsWith (AddsRound happens key digests old.entries) old.entries)
  still = started clock images_since old.disk _ (λ c left. inl (each c (only_now old.disk c left)))

  pub late_second : (o : Drawing) → happens o → o.nonces ≡ [] → 2 ^ 32 ≤ o.second → Shown old (Err (BadSecond o.second))
  late_second o h none late = record { comes = as_defined (o, h, bad_second late none refl); stand = each; moments = still }

  pub undrawn : (o : Drawing) → happens o → o.second < 2 ^ 32 → length o.nonces < length digests → failed → Shown old (Err NonceFault)
  undrawn o h in_time few rose = record { comes = as_defined (o, h, not_drawn in_time few rose refl); stand = each; moments = still }

  pub short_before : Shown old (Err OutOfMemory)
  short_before = record { comes = no_memory refl; stand = tt; moments = still }

  module _ (o : Drawing) (h : happens o) (in_time : o.second < 2 ^ 32) (tickets : List Ticket) (are : AreTickets digests o.nonces tickets) (new : JournalTold D) where
    abbrev group_of : List Entry
    group_of = round_entries key o.second tickets

    moments_of : (r : Result ℕ AppendError) → Added clock images_since old new group_of r → LeavesOnly clock images_since old.disk new.disk (StandsWith (AddsRound happens key digests old.entries) old.entries)
    moments_of r a = weaker clock images_since old.disk new.disk _ _ a.at_any_moment (λ c stands. elim stands [
      | inl s ↦ inl s
      | inr s ↦ inr (group_of, record { o = o; happened = h; tickets = tickets; are = are; is = refl }, s)
    ])

    pub unstored : (why : AppendError) → Added {A = ℕ} clock images_since old new group_of (Err why) → (why ≡ append.DiskFault → disk) → Shown new (Err (NotStored why))
    unstored append.DiskFault a rose = record { comes = disk_failed (rose refl) refl; stand = tt; moments = moments_of (Err append.DiskFault) a }
    unstored (append.Full need limit) a rose = record {
      comes = as_defined (
        o,
        h,
        full in_time tickets are a.outcome.3
            (let need_is = a.outcome.1 in let limit_is = a.outcome.2 in λ i. declined ((a.outcome.0 i).entries) (Full (need_is i) (limit_is i))),
      );
      stand = subst (λ (j : JournalTold D). (c : List ℕ) → images j.disk c → Stands c j.entries) (sym a.outcome.0) each;
      moments = moments_of (Err (append.Full need limit)) a;
    }
    unstored append.OutOfMemory a rose = record { comes = no_memory refl; stand = tt; moments = moments_of (Err append.OutOfMemory) a }

    pub short_after : (index : ℕ) → Added {A = ℕ} clock images_since old new group_of (Ok index) → Shown new (Err OutOfMemory)
    short_after index a = record { comes = no_memory refl; stand = tt; moments = moments_of (Ok index) a }

    pub stored : (index : ℕ) (trees : Trees) → Added {A = ℕ} clock images_since old new group_of (Ok index) → ((c : List ℕ) → images new.disk c → Stands c new.entries)
        → trees_lines trees.index trees.trees.items ≡ trees_text uri (settles key o.second (next_index old.entries) tickets) → Shown new (Ok trees)
    stored index trees a kept lines = record {
      comes = as_defined (
        o,
        h,
        added in_time tickets are
            (let no : old.limit < size_with old.gate group_of → ⊥ = λ over. elim (a.full over) [ inl e ↦ absurd cc | inr e ↦ absurd cc ] in omega (arith, no))
            (let entries = a.outcome.entries in λ i. done (entries i) (lines i)),
      );
      stand = kept;
      moments = moments_of (Ok index) a;
    }

-- memory ran out as the commitment was to be stored
pub short_within : {D : Type 0} (clock : D → ℕ) (images : D → List ℕ → Type 0) (images_since : D → ℕ → List ℕ → Type 0) (only_now : (d : D) (c : List ℕ) → images_since d (clock d) c → images d c)
    (happens : Drawing → Type 0) (failed disk : Type 0) (key uri : List ℕ) (digests : List (List ℕ)) (old new : JournalTold D) (each : (c : List ℕ) → images old.disk c → Stands c old.entries)
    (e : BatchError) → e ≡ NotStored append.OutOfMemory → MakesRoom old new → RoundEnds clock images images_since happens failed disk key uri digests old new (Err e)
short_within clock images images_since only_now happens failed disk key uri digests old new each e is room =
    subst (λ (z : BatchError). RoundEnds clock images images_since happens failed disk key uri digests old new (Err z)) (sym is) (record {
      comes = no_memory refl;
      stand = tt;
      moments = subst (λ (j : JournalTold _). LeavesOnly clock images_since old.disk j.disk (StandsWith (AddsRound happens key digests old.entries) old.entries)) (sym room.same)
          (started clock images_since old.disk _ (λ c left. inl (each c (only_now old.disk c left))));
    })

-- room in memory is no matter
pub ends_in_room : {D : Type 0} {clock : D → ℕ} {images : D → List ℕ → Type 0} {images_since : D → ℕ → List ℕ → Type 0} {happens : Drawing → Type 0} {failed disk : Type 0} {key uri : List ℕ} {digests : List (List ℕ)}
    (old new : JournalTold D) (spare_entries spare_bytes : ℕ) (r : Result Trees BatchError) → RoundEnds clock images images_since happens failed disk key uri digests (with_room old spare_entries spare_bytes) new r
    → RoundEnds clock images images_since happens failed disk key uri digests old new r
ends_in_room old new spare_entries spare_bytes r h = record { comes = h.comes; stand = h.stand; moments = h.moments }

-- an error that `?` made of one
pub ends_as : {D : Type 0} {clock : D → ℕ} {images : D → List ℕ → Type 0} {images_since : D → ℕ → List ℕ → Type 0} {happens : Drawing → Type 0} {failed disk : Type 0} {key uri : List ℕ} {digests : List (List ℕ)} {old new : JournalTold D}
    (r : Result Trees BatchError) (e : BatchError) → IsErrAnd r (λ x. x ≡ e) → RoundEnds clock images images_since happens failed disk key uri digests old new (Err e)
    → RoundEnds clock images images_since happens failed disk key uri digests old new r
ends_as (Ok x) e is h = absurd is
ends_as {clock = clock} {images = images} {images_since = images_since} {happens = happens} {failed = failed} {disk = disk} {key = key} {uri = uri} {digests = digests} {old = old} {new = new} (Err x) e is h =
    subst (λ (z : BatchError). RoundEnds clock images images_since happens failed disk key uri digests old new (Err z)) (sym is) h

-- the answer is printed
pub round_printed : {D : Type 0} {clock : D → ℕ} {images : D → List ℕ → Type 0} {images_since : D → ℕ → List ℕ → Type 0} {happens : Drawing → Type 0} {failed disk : Type 0} {key uri : List ℕ} {digests : List (List ℕ)}
    {old new : JournalTold D} {a : Result Trees BatchError} {printing : Type 0} {taken now : Option (List ℕ)} {r : DaemonStatus} → RoundEnds clock images images_since happens failed disk key uri digests old new a
    → PrintsLast printing (round_ending new.entries a).status (round_ending new.entries a).text taken now r
    → Ends (Comes (RoundAnswers happens failed old.limit key uri digests old.gate old.entries) nowhere disk) (images new.disk) printing taken now r
round_printed {new = new} {a = a} h printed = record { ending = round_ending new.entries a; comes = h.comes; stand = h.stand; printed = printed }

-- to the journal that a step left
pub ends_over : {D : Type 0} {clock : D → ℕ} {images : D → List ℕ → Type 0} {images_since : D → ℕ → List ℕ → Type 0} {happens : Drawing → Type 0} {failed disk : Type 0} {key uri : List ℕ} {digests : List (List ℕ)} {old : JournalTold D}
    (mid new : StoreTold D) (r : Result Trees BatchError) → new ≡ mid → RoundEnds clock images images_since happens failed disk key uri digests old mid.journal r
    → RoundEnds clock images images_since happens failed disk key uri digests old new.journal r
ends_over {clock = clock} {images = images} {images_since = images_since} {happens = happens} {failed = failed} {disk = disk} {key = key} {uri = uri} {digests = digests} {old = old} mid new r same h =
    subst (λ (s : StoreTold _). RoundEnds clock images images_since happens failed disk key uri digests old s.journal r) (sym same) h

-- by another count of the disk's faults
pub closes_rose : {D : Type 0} (clock : D → ℕ) (images : D → List ℕ → Type 0) (images_since : D → ℕ → List ℕ → Type 0) (d f : Type 0) (key : List ℕ) (second : ℕ) (old new : BookTold D) (r : Result ℕ BatchError)
    → (d → f) → ClosesTo clock images images_since d key second old new r → ClosesTo clock images images_since f key second old new r
closes_rose clock images images_since d f key second old new (Ok index) rose c = c
closes_rose clock images images_since d f key second old new (Err (BadSecond s)) rose c = c
closes_rose clock images images_since d f key second old new (Err NonceFault) rose c = c
closes_rose clock images images_since d f key second old new (Err (NotStored why)) rose c = (c.0, λ is. rose (c.1 is))
closes_rose clock images images_since d f key second old new (Err OutOfMemory) rose c = c
