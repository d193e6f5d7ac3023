-- Where one image is left before a journal is opened.
use Rattle.std.proofs.Common.{◌≡◌, ◌≤◌, inl, inr, ℕ, List, length, Option, sym, subst, arith}
use Rattle.ots_journal.specs.declared.entry.Entry.{Entry}
use Rattle.ots_journal.specs.Image.{Stands}
use Rattle.ots_journal.specs.Opening.{OpenedFrom}
use Rattle.ots_journal.proofs.Unique.{stands_once}
use Rattle.ots_opening.specs.Images.{IsOnlyImage}
use Rattle.ots_opening.specs.Opening.{AreEntries}

stands_short : (b c : List ℕ) (entries : List Entry) → length b ≤ 9 → length c ≤ 9 → Stands b entries → Stands c entries
stands_short b c entries short shorter (inl (le, none)) = inl (shorter, none)
stands_short b c entries short shorter (inr long) = absurd (let l = long.long in omega arith)

module _ (told : Option (List ℕ)) (images : List ℕ → Type 0) (entries : List Entry) (one : IsOnlyImage told images entries) where
  -- an image at some moment of opening
  pub opened_stands : (c : List ℕ) → OpenedFrom images c → Stands c entries
  opened_stands c (inl image) = subst (λ (z : List ℕ). Stands z entries) (sym (one.only c image)) one.stand
  opened_stands c (inr (short, (d, image, also))) = stands_short one.bytes c entries (subst (λ (z : List ℕ). length z ≤ 9) (one.only d image) also) short one.stand

  -- what is read
  pub found_once : (found : List Entry) → AreEntries told found → found ≡ entries
  found_once found are = stands_once one.bytes found entries (subst (λ (z : Option (List ℕ)). AreEntries z found) one.is_told are) one.stand
