-- What the loop over proofs keeps.
use Rattle.std.proofs.Common.{◌≡◌, ◌<◌, ◌≤◌, ◌+◌, ℕ, zero, suc, List, [], ◌∷◌, ◌++◌, Some, length, get_or, take, refl, sym, ap, subst, ◌∙◌, arith}
use Rattle.std.specs.Prelude.{Ok, Err}
use Rattle.std.specs.List.{fold, slice_get}
use Rattle.std.proofs.lemmas.List.{take_all}
use Rattle.ots_archive_steps.proofs.Turns.{each_ends, each_next}
use Rattle.ots_archive_steps.specs.Entries.{Entry}
use Rattle.ots_archive_steps.specs.Worst.{worse, worst}
use Rattle.ots_archive_take.specs.Taking.{Job, TakesAll, TakesOne}
use Rattle.ots_archive_text.specs.declared.status.ArchiveStatus.{ArchiveStatus}
use Rattle.ots_archive_text.specs.declared.status.ArchiveStatus.TheVariants.{Done}
use Rattle.ots_archive_world.specs.Told.{Told}

-- The first proofs are taken, and the worst of their statuses is known.
pub record Taken (j : Job) (entries : List Entry) (i : ℕ) (old new : Told) (status : ArchiveStatus) : Type 0 where
  pub statuses : List ArchiveStatus
  pub each : TakesAll j (take i entries) old new (Ok statuses)
  pub known : status ≡ worst statuses

fold_more : (from next : ArchiveStatus) (statuses : List ArchiveStatus) → fold worse from (statuses ++ next ∷ []) ≡ worse (fold worse from statuses) next
fold_more from next [] = refl
fold_more from next (s ∷ statuses) = fold_more (worse from s) next statuses

item : (entries : List Entry) (i : ℕ) (e : Entry) → slice_get entries i ≡ Some e → e ≡ get_or entries i e
item [] i e at = cc
item (x ∷ entries) zero e at = cc
item (x ∷ entries) (suc i) e at = item entries i e at

within : (entries : List Entry) (i : ℕ) (e : Entry) → slice_get entries i ≡ Some e → i < length entries
within [] i e at = cc
within (x ∷ entries) zero e at = omega arith
within (x ∷ entries) (suc i) e at = let rest = within entries i e at in omega (arith, rest)

module _ (j : Job) (entries : List Entry) (i : ℕ) (e : Entry) (at : slice_get entries i ≡ Some e) (old mid new : Told) (status : ArchiveStatus) (before : Taken j entries i old mid status) where
  pub takes_next : (s : ArchiveStatus) → TakesOne j e mid new (Ok s) → Taken j entries (i + 1) old new (worse status s)
  takes_next s next = record {
    statuses = before.statuses ++ s ∷ [];
    each = each_next (TakesOne j) entries i e (within entries i e at) old mid new before.statuses before.each s (subst (λ (z : Entry). TakesOne j z mid new (Ok s)) (item entries i e at) next);
    known = ap (λ (z : ArchiveStatus). worse z s) before.known ∙ sym (fold_more Done s before.statuses);
  }

  pub takes_ends : (s : ArchiveStatus) → TakesOne j e mid new (Err s) → TakesAll j entries old new (Err s)
  takes_ends s ended = each_ends (TakesOne j) entries i e (within entries i e at) old mid new before.statuses before.each s (subst (λ (z : Entry). TakesOne j z mid new (Err s)) (item entries i e at) ended)

pub all_taken : (j : Job) (entries : List Entry) (i : ℕ) (old new : Told) (status : ArchiveStatus) → length entries ≤ i → Taken j entries i old new status
    → (statuses : List ArchiveStatus) × TakesAll j entries old new (Ok statuses) × (status ≡ worst statuses)
all_taken j entries i old new status whole t = (t.statuses, subst (λ (z : List Entry). TakesAll j z old new (Ok t.statuses)) (take_all i entries whole) t.each, t.known)
