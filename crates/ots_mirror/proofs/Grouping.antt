-- A group added to a journal, or not.
use Rattle.std.proofs.Common.{◌≡◌, ◌<◌, ◌≤◌, inl, inr, ℕ, ◌+◌, true, List, [], ◌∷◌, length, refl, sym, arith, append-nil}
use Rattle.std.specs.Prelude.{Ok, Err, IsErrOf, MatchResult}
use Rattle.ots_disk.specs.Moments.{started}
use Rattle.ots_journal.specs.declared.entry.Entry.{Entry}
use Rattle.ots_journal.specs.declared.errors.AppendError.{AppendError}
use Rattle.ots_journal.specs.declared.errors.AppendError.TheVariants as append
use Rattle.ots_journal.specs.Image.{Stands}
use Rattle.ots_journal.specs.Journal.{JournalTold, size_with}
use Rattle.ots_store.specs.Store.{Added}
use Rattle.ots_http.specs.declared.reply.ReplyError.{ReplyError}
use Rattle.ots_http.specs.declared.reply.ReplyError.TheVariants.{BadHttp, LinkFault, OutOfMemory, TooLong}
use Rattle.ots_store.specs.Records.{Record}
use Rattle.ots_mirror.specs.Round.{TakesGroup, TakesReply, without_reply}
use Rattle.ots_mirror.specs.Group.{Adds, AddsGroup, FitsLimit, Stops, append_status, disk_failed, full, gate_with, no_memory}

module _ {D : Type 0} (clock : D → ℕ) (images : D → List ℕ → Type 0) (images_since : D → ℕ → List ℕ → Type 0) where
  -- no entry is taken
  pub adds_none : ((d : D) (c : List ℕ) → images_since d (clock d) c → images d c) → (j : JournalTold D) → j.is_sure ≡ true → ((c : List ℕ) → images j.disk c → Stands c j.entries)
      → Adds clock images images_since j j []
  adds_none only_now j sure stands = record {
    entries = sym (append-nil j.entries);
    gate = refl;
    within = tt;
    limit = refl;
    sure = sure;
    kept = stands;
    moments = started clock images_since j.disk _ (λ c left. inl (stands c (only_now j.disk c left)));
  }

  pub nothing_read : ((d : D) (c : List ℕ) → images_since d (clock d) c → images d c) → (j : JournalTold D) → j.is_sure ≡ true → ((c : List ℕ) → images j.disk c → Stands c j.entries)
      → (disk : Type 0) (records : List Record) (why : ReplyError) → MatchResult (without_reply why) (λ outcome. AddsGroup clock images images_since (TakesReply records (Err why) outcome) j j)
      (Stops clock images_since disk (TakesGroup (TakesReply records (Err why))) j j)
  nothing_read only_now j sure stands disk records TooLong = ([], (refl, refl), adds_none only_now j sure stands)
  nothing_read only_now j sure stands disk records BadHttp = ([], (refl, refl), adds_none only_now j sure stands)
  nothing_read only_now j sure stands disk records LinkFault = ([], (refl, refl), adds_none only_now j sure stands)
  nothing_read only_now j sure stands disk records OutOfMemory = no_memory tt refl refl

  module _ (old new : JournalTold D) where
    gate_is : (gate after : ℕ) (group : List Entry) → 1 ≤ length group → after + 1 ≡ size_with gate group → after ≡ gate_with gate group
    gate_is gate after [] some is = absurd (omega (arith, some))
    gate_is gate after (e ∷ group) some is = omega (arith, is)

    fits_limit : (limit gate : ℕ) (group : List Entry) → (limit < size_with gate group → ⊥) → FitsLimit limit gate group
    fits_limit limit gate [] not_over = tt
    fits_limit limit gate (e ∷ group) not_over = omega (arith, not_over)

    -- a page was added
    pub page_added : (group : List Entry) → 1 ≤ length group → Added {A = Unit {0}} clock images_since old new group (Ok tt) → ((c : List ℕ) → images new.disk c → Stands c new.entries)
        → Adds clock images images_since old new group
    page_added group some a kept = record {
      entries = a.outcome.entries;
      gate = gate_is old.gate new.gate group some a.outcome.gate;
      within = fits_limit old.limit old.gate group (λ over. elim (a.full over) [ inl e ↦ absurd cc | inr e ↦ absurd cc ]);
      limit = a.outcome.limit;
      sure = a.outcome.sure;
      kept = kept;
      moments = a.at_any_moment;
    }

    -- or not
    pub page_refused : (disk : Type 0) (takes : List Entry → Type 0) (group : List Entry) → takes group → (e : AppendError) → Added {A = Unit {0}} clock images_since old new group (Err e) → (IsErrOf {T = Unit {0}} (Err e) append.DiskFault → disk)
        → Stops clock images_since disk takes old new (append_status e)
    page_refused disk takes group takes_it append.DiskFault a rose = disk_failed group takes_it (rose refl) refl a.at_any_moment
    page_refused disk takes group takes_it (append.Full need limit) a rose =
        full group takes_it a.outcome.3 (let need_is = a.outcome.1 in let limit_is = a.outcome.2 in λ i. append_status (append.Full (need_is i) (limit_is i))) a.outcome.0
    page_refused disk takes group takes_it append.OutOfMemory a rose = no_memory tt refl a.outcome
