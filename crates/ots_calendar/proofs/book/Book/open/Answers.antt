use Rattle.std.proofs.Common.{rules, ◌≡◌, ◌∙◌, List, true, false, subst, sym}
use Rattle.ots_journal.specs.Journal.{JournalTold}
use Rattle.ots_store.specs.Order.{commits_of, records_of}
use Rattle.ots_store.specs.Records.{Record}
use Rattle.ots_kept_trees.specs.Kept.{AreKept}
use Rattle.ots_calendar.specs.Book.{Keeps}
use Rattle.ots_calendar.specs.Values.{AreTrue}
use Rattle.ots_calendar.proofs.Looking.{found_untrue}
use Rattle.ots_calendar.proofs.book.Book.open.Goals as goal

-- nothing is in flight
begun : {D : Type 0} (j : JournalTold D) → AreTrue (records_of j.entries) → j.is_sure ≡ true → Keeps j
begun j are sure = record { are_true = are; flying = λ un. absurd (let h : true ≡ false = sym sure ∙ un in cc) }

pub first_untrue-requires : goal.first_untrue-requires
first_untrue-requires g c = record { kept = c.new-kept.ensures (commits_of c.args.store.records) }

pub invariant_of-book : goal.invariant_of-book
invariant_of-book g c =
    let all : AreTrue c.args.store.records = rw c.in-Ok-None.field-0-is at c.in-Ok-None.ensures.found in
    record {
      records = begun c.args.store.journal (subst AreTrue c.stands.ensures.records all) c.requires;
      kept = subst (λ (l : List Record). AreKept (commits_of l) c.first_untrue.new.trees) c.stands.ensures.records c.first_untrue.ensures.kept;
      settled = search rules;
    }

pub returns-in-Ok-Some-clause-accepts : goal.returns-in-Ok-Some-clause-accepts
returns-in-Ok-Some-clause-accepts g c all = absurd (found_untrue c.args.store.records c.in-Ok-Some.field-0 c.in-Ok-Some.i all c.in-Ok-Some.ensures.found c.in-Ok-Some.field-0-is)
