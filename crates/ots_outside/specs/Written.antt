-- What a shelf tells of a name that is written.
use Rattle.std.specs.Prelude.{◌≡◌, ◌≢◌, ◌≤◌, ℕ, List, [], length, take, Option, is_some, IsSome, unwrap_or, refl}
use Rattle.std.specs.Option.{option_map}
use Rattle.std.specs.FinMap as map
use Rattle.std.proofs.Common.{◌∙◌, ap, sym, subst}
use Rattle.ots_outside.specs.Shelf.{Names, ShelfTold, name_of, told_bytes}

-- The bytes under a name, none where it isn't there, where names are told.
abbrev pub bytes_under : List ℕ → Option Names → Option (List ℕ)
bytes_under name told = option_map (λ names. unwrap_or (map.get names name) []) told

-- The bytes under the name that a slot was created under, where names are told.
abbrev pub slot_bytes : ShelfTold → ℕ → Option (List ℕ)
slot_bytes told slot = bytes_under (name_of (told.slots slot)) told.names

-- ---- all but one name

-- All that is told stays, but for the bytes of this name.
pub record SameButName (name : List ℕ) (old new : ShelfTold) : Type 0 where
  -- names are told as before, or as before are not
  pub told : is_some new.names ≡ is_some old.names
  pub names : (other : List ℕ) → other ≢ name → told_bytes new other ≡ told_bytes old other
  -- this name is still there, if it was
  pub there : IsSome (told_bytes old name) → IsSome (told_bytes new name)
  pub opened : new.opened ≡ old.opened
  pub short : new.short ≡ old.short
  pub slots : (k : ℕ) → new.slots k ≡ old.slots k

-- All that is told stays, but for the bytes of the name that this slot was created under.
abbrev pub SameButSlotBytes : ℕ → ShelfTold → ShelfTold → Type 0
SameButSlotBytes slot old new = SameButName (name_of (old.slots slot)) old new

pub SameButSlotBytes-refl : (slot : ℕ) (t : ShelfTold) → SameButSlotBytes slot t t
SameButSlotBytes-refl slot t = record {
  told = refl;
  names = λ other differs. refl;
  there = λ is. is;
  opened = refl;
  short = refl;
  slots = λ k. refl;
}

pub SameButSlotBytes-trans : (first second : ℕ) (t u v : ShelfTold) → second ≡ first
    → SameButSlotBytes first t u → SameButSlotBytes second u v → SameButSlotBytes first t v
SameButSlotBytes-trans first second t u v one p q =
    let same : name_of (u.slots second) ≡ name_of (t.slots first) = ap name_of (ap u.slots one ∙ p.slots first) in
    record {
      told = q.told ∙ p.told;
      names = λ other differs. q.names other (λ e. differs (e ∙ same)) ∙ p.names other differs;
      there = λ is. subst (λ name. IsSome (told_bytes v name)) same
          (q.there (subst (λ name. IsSome (told_bytes u name)) (sym same) (p.there is)));
      opened = q.opened ∙ p.opened;
      short = q.short ∙ p.short;
      slots = λ k. q.slots k ∙ p.slots k;
    }

-- ---- a name and its whole text

-- The names, with these bytes under this one.
abbrev pub with_name : List ℕ → List ℕ → Option Names → Option Names
with_name name bytes told = option_map (λ names. map.insert names name bytes) told

-- A name was created, these bytes were written to it, and its slot was closed. All else that is told of names and
-- slots stays.
pub record WritesName (name bytes : List ℕ) (old new : ShelfTold) : Type 0 where
  pub names : new.names ≡ with_name name bytes old.names
  pub opened : new.opened ≡ old.opened
  pub slots : (k : ℕ) → new.slots k ≡ old.slots k

-- The same of a prefix of the bytes, as after a fault.
abbrev pub WritesNamePrefix : List ℕ → List ℕ → ShelfTold → ShelfTold → Type 0
WritesNamePrefix name bytes old new = (n : ℕ) × (n ≤ length bytes) × WritesName name (take n bytes) old new
