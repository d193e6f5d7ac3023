-- A round, from the clock's second to its trees.
use Rattle.std.proofs.Common.{◌≡◌, ◌<◌, ◌≤◌, inl, inr, ℕ, List, [], length, map, Option, refl, sym, ap, subst, ◌∙◌, arith}
use Rattle.std.specs.Prelude.{Result, Ok, Err, Vec}
use Rattle.std.specs.declared.alloc.Global.{Global}
use Rattle.ots_journal.specs.declared.errors.AppendError.{AppendError}
use Rattle.ots_journal.specs.Image.{Stands}
use Rattle.ots_journal.specs.Journal.{JournalTold}
use Rattle.ots_outside.specs.Streams.{Gives, Gives-nothing}
use Rattle.ots_round.specs.declared.ticket.Ticket.{Ticket}
use Rattle.ots_store.specs.Store.{with_room}
use Rattle.ots_tickets.specs.Calls.{tree_of}
use Rattle.ots_tickets.specs.Tickets.{settles}
use Rattle.ots_tickets.specs.declared.settled.Settled.{Settled}
use Rattle.ots_calendar.specs.Book.{BookTold}
use Rattle.ots_calendar_batch.specs.declared.round.BatchError.{BatchError}
use Rattle.ots_calendar_batch.specs.declared.round.BatchError.TheVariants.{BadSecond, NonceFault, NotStored, OutOfMemory}
use Rattle.ots_calendar_batch.specs.declared.trees.Trees.{Trees}
use Rattle.ots_calendar_batch.specs.Batch.{AreTickets, DrawsFor, Happens, Drawing, trees_text}
use Rattle.ots_calendar_batch.specs.Round.{AreSettled, ClosesTo, PutsAll, PutsOutcome, RoundEnds, SecondOf, TakesAll}
use Rattle.ots_calendar_batch.specs.Trees.{trees_lines}
use Rattle.ots_calendar_batch.proofs.Putting.{many_tickets}
use Rattle.ots_calendar_batch.proofs.Rounding.{ends_in_room, late_second, short_after, short_before, short_within, stored, undrawn, unstored}
use Rattle.ots_calendar_batch.proofs.Taking.{settled_tickets, trees_lines_are}

module _ {D : Type 0} (clock : D → ℕ) (images : D → List ℕ → Type 0) (images_since : D → ℕ → List ℕ → Type 0) (only_now : (d : D) (c : List ℕ) → images_since d (clock d) c → images d c)
    (coming : Option ℕ) (left now : Option (List ℕ)) (failed disk : Type 0) (key uri : List ℕ) (digests : List (List ℕ)) (old : JournalTold D) (each : (c : List ℕ) → images old.disk c → Stands c old.entries) where
  abbrev Shown : JournalTold D → Result Trees BatchError → Type 0
  Shown new r = RoundEnds clock images images_since (Happens coming left now) failed disk key uri digests old new r

  -- the second is too great
  pub second_ends : (e : BatchError) → now ≡ left → SecondOf coming (Err e) → Shown old (Err e)
  second_ends e same (second, is, late, told) = subst (λ (z : BatchError). Shown old (Err z)) (sym is)
      (late_second clock images images_since only_now (Happens coming left now) failed disk key uri digests old each (record { second = second; nonces = [] })
      (record { second = told; each = tt; drawn = subst (λ (z : Option (List ℕ)). Gives left z []) (sym same) (Gives-nothing left) }) refl late)

  module _ (second : ℕ) (s : SecondOf coming (Ok second)) (waiting : List Ticket) (r : Result (Vec Ticket Global) BatchError) (p : PutsAll left now failed digests waiting r) where
    abbrev outside : Drawing
    outside = record { second = second; nonces = p.nonces }

    happened : Happens coming left now outside
    happened = record { second = s.1; each = p.each; drawn = p.drawn }

    pub draws : DrawsFor (Happens coming left now) digests
    draws = record { o = outside; happened = happened; in_time = s.0; most = p.most }

    -- not all digests were put
    pub puts_end : (e : BatchError) → r ≡ Err e → Shown old (Err e)
    puts_end e is = by e (subst (PutsOutcome failed digests p.nonces waiting) is p.outcome)
      where
        by : (e : BatchError) → PutsOutcome failed digests p.nonces waiting (Err e) → Shown old (Err e)
        by (BadSecond second) o = absurd o
        by NonceFault o = undrawn clock images images_since only_now (Happens coming left now) failed disk key uri digests old each outside happened s.0 o.0 o.1
        by (NotStored why) o = absurd o
        by OutOfMemory o = short_before clock images images_since only_now (Happens coming left now) failed disk key uri digests old each

    module _ (tickets : Vec Ticket Global) (is : r ≡ Ok tickets) where
      put : PutsOutcome failed digests p.nonces waiting (Ok tickets)
      put = subst (PutsOutcome failed digests p.nonces waiting) is p.outcome

      are : AreTickets digests p.nonces waiting
      are = subst (AreTickets digests p.nonces) (sym put.1) put.0

      pub some_wait : 1 ≤ length digests → 0 < length waiting
      some_wait some = let many = many_tickets digests p.nonces waiting are in omega (arith, many, some)

      module _ (mid closed : BookTold D) (waits : mid.tickets.waiting ≡ waiting) (journal : mid.store.journal ≡ old) where
        are_mid : AreTickets digests p.nonces mid.tickets.waiting
        are_mid = subst (AreTickets digests p.nonces) (sym waits) are

        each_mid : (c : List ℕ) → images mid.store.journal.disk c → Stands c mid.store.journal.entries
        each_mid = subst (λ (j : JournalTold D). (c : List ℕ) → images j.disk c → Stands c j.entries) (sym journal) each

        over : (r : Result Trees BatchError) → RoundEnds clock images images_since (Happens coming left now) failed disk key uri digests mid.store.journal closed.store.journal r → Shown closed.store.journal r
        over r h = subst (λ (j : JournalTold D). RoundEnds clock images images_since (Happens coming left now) failed disk key uri digests j closed.store.journal r) journal h

        -- it is not stored
        pub close_ends : (e : BatchError) → ClosesTo clock images images_since disk key second mid closed (Err e) → Shown closed.store.journal (Err e)
        close_ends (BadSecond s) c = absurd c
        close_ends NonceFault c = absurd c
        close_ends (NotStored why) (inl (entries, bytes, a), rose) = over (Err (NotStored why)) (ends_in_room mid.store.journal closed.store.journal entries bytes (Err (NotStored why))
            (unstored clock images images_since only_now (Happens coming left now) failed disk key uri digests (with_room mid.store.journal entries bytes) each_mid outside happened s.0 mid.tickets.waiting are_mid closed.store.journal why a rose))
        close_ends (NotStored why) (inr (short, room), rose) = over (Err (NotStored why))
            (short_within clock images images_since only_now (Happens coming left now) failed disk key uri digests mid.store.journal closed.store.journal each_mid (NotStored why)
            (ap (λ (z : AppendError). NotStored z) short) room)
        close_ends OutOfMemory c = absurd c

        module _ (index : ℕ) (c : ClosesTo clock images images_since disk key second mid closed (Ok index)) where
          -- memory runs out for the trees
          pub trees_end : (e : BatchError) → e ≡ OutOfMemory → Shown closed.store.journal (Err e)
          trees_end e is = subst (λ (z : BatchError). Shown closed.store.journal (Err z)) (sym is) (over (Err OutOfMemory)
              (short_after clock images images_since only_now (Happens coming left now) failed disk key uri digests mid.store.journal each_mid outside happened s.0 mid.tickets.waiting are_mid closed.store.journal index c.added))

          -- whose tickets are settled
          pub are_settled : AreSettled tickets.items closed.tickets.settled
          are_settled = record {
            are = ap (map (λ (z : Settled). z.ticket)) c.settled ∙ (settled_tickets index _ _ 0 mid.tickets.waiting ∙ (waits ∙ put.1));
            distinct = put.2;
          }

          pub trees_given : (trees : Trees) → trees.index ≡ index → TakesAll uri closed.tickets.settled (Ok trees.trees) → Shown closed.store.journal (Ok trees)
          trees_given trees at taken = over (Ok trees)
              (stored clock images images_since only_now (Happens coming left now) failed disk key uri digests mid.store.journal each_mid outside happened s.0 mid.tickets.waiting are_mid closed.store.journal index trees c.added c.kept
              (ap (λ (z : ℕ). trees_lines z trees.trees.items) at
              ∙ (trees_lines_are uri key second index mid.tickets.waiting trees.trees.items (taken ∙ ap (map (λ (z : Settled). tree_of z uri)) c.settled)
              ∙ ap (λ (z : ℕ). trees_text uri (settles key second z mid.tickets.waiting)) c.at)))

pub puts_of : (left now : Option (List ℕ)) (failed : Type 0) (xs ys : List (List ℕ)) (waiting : List Ticket) (r : Result (Vec Ticket Global) BatchError) → xs ≡ ys → PutsAll left now failed xs waiting r → PutsAll left now failed ys waiting r
puts_of left now failed xs ys waiting r same p = subst (λ (z : List (List ℕ)). PutsAll left now failed z waiting r) same p
