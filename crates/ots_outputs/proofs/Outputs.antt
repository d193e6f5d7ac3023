-- A name is created, written and closed.
use Rattle.std.proofs.Common.{◌≡◌, ℕ, List, take, Option, Some, None, true≢false, refl, subst, ◌∙◌, inr}
use Rattle.std.specs.Prelude.{◌⊎◌, IsNone}
use Rattle.std.specs.FinMap as map
use Rattle.ots_outside.specs.Streams.{Takes, TakesPrefix}
use Rattle.ots_outside.specs.Shelf.{Names, ShelfTold, Creates, SameButSlot, closed}
use Rattle.ots_base.specs.Told.{IfTold}
use Rattle.ots_outside.specs.Written.{SameButSlotBytes, slot_bytes, with_name}
use Rattle.ots_outside.proofs.Names.{writes_name}
use Rattle.ots_inputs.specs.Under.{IsUnder}

is_none : (o : Option (List ℕ)) → IsNone o → o ≡ None
is_none None h = refl
is_none (Some x) h = absurd (true≢false h)

-- a name that is not there
pub not_there : (told : Option Names) (name : List ℕ) → IfTold told (λ names. IsNone (map.get names name)) → IsUnder told name None
not_there None name none = tt
not_there (Some names) name none = is_none (map.get names name) none

-- what the writes to the slot left, in the words of the loan
module _ (slot s1 s2 : ℕ) (created lent written : ShelfTold) (one : s1 ≡ slot) (two : s2 ≡ s1) (same_shelf : lent ≡ created) where
  same_bytes : SameButSlotBytes s1 lent written → SameButSlotBytes slot created written
  same_bytes same = subst (λ (z : ℕ). SameButSlotBytes z created written) one (subst (λ (z : ShelfTold). SameButSlotBytes s1 z written) same_shelf same)

  appended : (bytes : List ℕ) → Takes (slot_bytes lent s1) (slot_bytes written s2) bytes → Takes (slot_bytes created slot) (slot_bytes written slot) bytes
  appended bytes wrote =
      subst (λ (z : ShelfTold). Takes (slot_bytes z slot) (slot_bytes written slot) bytes) same_shelf
      (subst (λ (z : ℕ). Takes (slot_bytes lent z) (slot_bytes written slot) bytes) one
      (subst (λ (z : ℕ). Takes (slot_bytes lent s1) (slot_bytes written z) bytes) (two ∙ one) wrote))

  pub whole : (name bytes : List ℕ) (old new : ShelfTold) → Creates name slot old created → SameButSlotBytes s1 lent written
      → Takes (slot_bytes lent s1) (slot_bytes written s2) bytes → SameButSlot slot written new → new.slots slot ≡ closed → new.names ≡ with_name name bytes old.names
  whole name bytes old new creates same wrote closes now =
      (writes_name name bytes slot old created written new creates (same_bytes same) (appended bytes wrote) closes now).names

  pub prefix : (name bytes : List ℕ) (old new : ShelfTold) → Creates name slot old created → SameButSlotBytes s1 lent written
      → TakesPrefix (slot_bytes lent s1) (slot_bytes written s2) bytes → SameButSlot slot written new → new.slots slot ≡ closed
      → (new.names ≡ old.names) ⊎ ((n : ℕ) × (new.names ≡ with_name name (take n bytes) old.names))
  prefix name bytes old new creates same (n, few, wrote) closes now = inr (n, whole name (take n bytes) old new creates same wrote closes now)
