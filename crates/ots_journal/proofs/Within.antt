-- The limit of the file, at every moment of a call.
use Rattle.std.proofs.Common.{◌≡◌, ℕ, ◌+◌, ◌≤◌, List, [], ◌∷◌, ◌++◌, length, ap, arith, length-append}
use Rattle.ots_disk.specs.Disk.{Torn, After, LeavesOnly}
use Rattle.ots_journal.specs.declared.entry.Entry.{Entry}
use Rattle.ots_journal.specs.Image.{group_body}
use Rattle.ots_journal.specs.Journal.{IsAtMost, size_with}
use Rattle.ots_journal.proofs.Groups.{length-group_body}

-- a write that ends within the limit
pub torn_within : (images : List ℕ → Type 0) (limit place n : ℕ) → ((c : List ℕ) → images c → IsAtMost limit c) → place + n ≤ limit
    → (c : List ℕ) → After (Torn place n) images c → IsAtMost limit c
torn_within images limit place n within le c after = omega (arith, within after.0 after.1, after.2.no_longer, le)

-- ---- the two writes of an append

module _ (images : List ℕ → Type 0) (limit gate : ℕ) (group : List Entry) (piece : List ℕ) (is : piece ≡ group_body group ++ 0 ∷ [])
    (fits : size_with gate group ≤ limit) (within : (c : List ℕ) → images c → IsAtMost limit c) where
  pub body_within : (c : List ℕ) → After (Torn (gate + 1) (length piece)) images c → IsAtMost limit c
  body_within = torn_within images limit (gate + 1) (length piece) within
      (omega (arith, fits, ap length is, length-append (group_body group) (0 ∷ []), length-group_body group))

  pub gate_within : (staged : List ℕ → Type 0) → ((c : List ℕ) → staged c → After (Torn (gate + 1) (length piece)) images c)
      → (c : List ℕ) → After (Torn gate 1) staged c → IsAtMost limit c
  gate_within staged first = torn_within staged limit gate 1 (λ c image. body_within c (first c image)) (omega (arith, fits))

-- what holds at every moment of a call holds after it
pub left_now : {D : Type 0} (clock : D → ℕ) (images : D → List ℕ → Type 0) (images_since : D → ℕ → List ℕ → Type 0) (old new : D) (P : List ℕ → Type 0)
    → ((d : D) (t : ℕ) (c : List ℕ) → t ≤ clock d → images d c → images_since d t c) → LeavesOnly clock images_since old new P
    → (c : List ℕ) → images new c → P c
left_now clock images images_since old new P counts run c image = run.each c (counts new (clock old) c run.later image)
