-- A file stays within its limit: what a crash may leave of it at each moment of a call.
use Rattle.std.specs.Prelude.{◌≡◌, ℕ, List}
use Rattle.std.proofs.Common.{subst}
use Rattle.ots_disk.specs.Disk.{LeavesOnly}
use Rattle.ots_disk.specs.Moments.{started, joined}
use Rattle.ots_journal.specs.Journal.{JournalTold, IsAtMost}

-- At every moment from the earlier journal to the later one, no image has more bytes than the limit.
abbrev pub StaysWithin : {D : Type 0} → (D → ℕ) → (D → ℕ → List ℕ → Type 0) → JournalTold D → JournalTold D → Type 0
StaysWithin clock images_since old new = LeavesOnly clock images_since old.disk new.disk (IsAtMost old.limit)

module _ {D : Type 0} (clock : D → ℕ) (images_since : D → ℕ → List ℕ → Type 0) where
  -- before the first call
  pub started_within : (images : D → List ℕ → Type 0) (j : JournalTold D)
      → ((d : D) (c : List ℕ) → images_since d (clock d) c → images d c)
      → ((c : List ℕ) → images j.disk c → IsAtMost j.limit c) → StaysWithin clock images_since j j
  started_within images j only_now within = started clock images_since j.disk _
      (λ c left. within c (only_now j.disk c left))

  -- one call after another, the first of which leaves the limit
  pub joined_within : (old mid new : JournalTold D) → StaysWithin clock images_since old mid → mid.limit ≡ old.limit
      → StaysWithin clock images_since mid new
      → StaysWithin clock images_since old new
  joined_within old mid new first same second =
      joined clock images_since old.disk mid.disk new.disk _ _ _ first second (λ c most. most)
      (λ c most. subst (λ limit. IsAtMost limit c) same most)
