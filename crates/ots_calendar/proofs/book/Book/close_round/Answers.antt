use Rattle.std.proofs.Common.{◌≡◌, ◌+◌, ◌∷◌, ◌++◌, [], map, sym, ap, subst, ◌∙◌, List, ℕ, length}
use Rattle.std.proofs.lemmas.Result.{err_from_is_err_and}
use Rattle.std.specs.Prelude.{Result, Ok, Err}
use Rattle.ots_journal.specs.declared.errors.AppendError.{AppendError}
use Rattle.ots_store.specs.Order.{commits_of, records_of}
use Rattle.ots_store.specs.Records.{Record, CommitRecord, entry_of}
use Rattle.ots_store.specs.Store.{Adds}
use Rattle.ots_tickets.specs.declared.settled.Settled.{Settled}
use Rattle.ots_tickets.specs.Ready.{at_index}
use Rattle.ots_tickets.specs.Tickets.{TicketsTold}
use Rattle.ots_calendar.specs.Book.{BookTold}
use Rattle.ots_calendar.proofs.Closing.{closes_not, closes_all}
use Rattle.ots_calendar.proofs.Standing.{settle_stands, stands_added}
use Rattle.ots_calendar.proofs.book.Book.close_round.Goals as goal

pub invariant_of-self-in-Ok-Some-2 : goal.invariant_of-self-in-Ok-Some-2
invariant_of-self-in-Ok-Some-2 g c =
    let d = g.D.Disk in
    let told = c.self-in-Ok-Some.view_is in
    let index = c.in_ok-index-in-Ok-Some.index in
    let made = c.in-Ok-Some.made in
    let new = c.self-in-Ok-Some.inside.store.journal in
    let old = c.self.inside.store.journal in
    let adds : Adds d.bytes d.clock d.images_since old new (entry_of (CommitRecord made.commitment) ∷ []) (Ok index) =
    subst (λ (r : Result ℕ AppendError). Adds d.bytes d.clock d.images_since old new (entry_of (CommitRecord made.commitment) ∷ []) r) c.in_ok-index-in-Ok-Some.was
    (subst (λ (b : BookTold g.row.D.Denot). Adds d.bytes d.clock d.images_since old b.store.journal (entry_of (CommitRecord made.commitment) ∷ []) c.add_commit.result) (sym told) c.add_commit.ensures.adds) in
    let last : index + 1 ≡ length (commits_of (records_of new.entries)) =
    c.in_ok-index-in-Ok-Some.ensures.index ∙ ap (λ (r : List Record). length (commits_of r)) c.add_commit.ensures.records
    ∙ ap (λ (b : BookTold g.row.D.Denot). length (commits_of (records_of b.store.journal.entries))) (sym told) in
    record {
      records = c.self-in-Ok-Some.invariant.records;
      kept = c.self-in-Ok-Some.invariant.kept;
      settled = settle_stands (commits_of (records_of new.entries)) c.args.key.now c.args.second _ _ c.in-Ok-Some.field-0 made index c.self-in-Ok-Some.inside.tickets.settled c.settle.new.self.settled
          c.in-Ok-Some.ensures.ready c.in-Ok-Some.field-0-is (stands_added d.bytes d.clock d.images_since old new made.commitment index adds last) c.self-in-Ok-Some.invariant.settled c.settle.ensures.settled;
    }

pub returns-in_err-index-in-Ok-Some-clause-closes : goal.returns-in_err-index-in-Ok-Some-clause-closes
returns-in_err-index-in-Ok-Some-clause-closes g c =
    let p = err_from_is_err_and c.from_residual.result c.from_residual.ensures.1 in
    rw (← c.start.ensures.same, ← c.self.view_is) (closes_not g.D.Disk.bytes g.D.Disk.clock g.D.Disk.images_since c.args.key.now c.args.second _ c.add_commit.new.self c.in-Ok-Some.made c.in-Ok-Some.field-0 _
    c.in-Ok-Some.ensures.ready c.in-Ok-Some.field-0-is c.add_commit.result c.in_err-index-in-Ok-Some.field-0.0 c.from_residual.result c.add_commit.ensures.adds c.in_err-index-in-Ok-Some.was
    (ap (λ (t : TicketsTold). t.waiting) c.add_commit.ensures.tickets ∙ c.in-Ok-Some.ensures.waiting) (ap (λ (t : TicketsTold). t.settled) c.add_commit.ensures.tickets ∙ c.in-Ok-Some.ensures.settled)
    (p.1 ∙ ap Err p.2))

pub returns-in_ok-index-in-Ok-Some-clause-closes : goal.returns-in_ok-index-in-Ok-Some-clause-closes
returns-in_ok-index-in-Ok-Some-clause-closes g c =
    let d = g.D.Disk in
    let told = c.self-in-Ok-Some.view_is in
    let tickets : c.self-in-Ok-Some.inside.tickets ≡ c.ready.new.self = ap (λ (b : BookTold g.row.D.Denot). b.tickets) told ∙ c.add_commit.ensures.tickets in
    rw (← c.start.ensures.same, ← c.self.view_is) (closes_all d.bytes d.clock d.images_since c.args.key.now c.args.second _ _ c.in-Ok-Some.made c.in-Ok-Some.field-0 _
    c.in-Ok-Some.ensures.ready c.in-Ok-Some.field-0-is c.add_commit.result c.in_ok-index-in-Ok-Some.index
    (subst (λ (b : BookTold g.row.D.Denot). Adds d.bytes d.clock d.images_since c.self.inside.store.journal b.store.journal (entry_of (CommitRecord c.in-Ok-Some.made.commitment) ∷ []) c.add_commit.result) (sym told) c.add_commit.ensures.adds)
    c.in_ok-index-in-Ok-Some.was c.settle.ensures.waiting
    (c.settle.ensures.settled ∙ ap (λ (t : TicketsTold). t.settled ++ map (at_index c.in_ok-index-in-Ok-Some.index) c.in-Ok-Some.made.settled.items) tickets
    ∙ ap (λ (l : List Settled). l ++ map (at_index c.in_ok-index-in-Ok-Some.index) c.in-Ok-Some.made.settled.items) c.in-Ok-Some.ensures.settled))
