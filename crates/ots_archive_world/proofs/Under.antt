-- What was read of a name is what is under it.
use Rattle.std.proofs.Common.{◌≡◌, ℕ, List, Option, Some, None, refl, subst, sym}
use Rattle.std.specs.Prelude.{Result, Ok, Err, IsSome}
use Rattle.std.specs.FinMap as map
use Rattle.std.specs.Option.{option_and_then}
use Rattle.ots_base.specs.Told.{IfTold}
use Rattle.ots_outside.specs.Shelf.{Names}
use Rattle.ots_inputs.specs.Input.{InputAnswer, IsRefusal}
use Rattle.ots_inputs.specs.Under.{IsUnder}
use Rattle.ots_inputs.specs.declared.error.InputError.TheVariants.{NoFile}
use Rattle.ots_archive_world.specs.Reading.{MeansSource, refused_source}
use Rattle.ots_archive_world.specs.declared.reader.ReadingError.{ReadingError}
use Rattle.ots_archive_world.specs.declared.reader.ReadingError.TheVariants as reading

found_is : (found left : Option (List ℕ)) (bytes : List ℕ) → IsSome found → left ≡ found → IfTold left (λ all. all ≡ bytes) → found ≡ Some bytes
found_is None left bytes some is told = absurd cc
found_is (Some all) None bytes some is told = absurd cc
found_is (Some all) (Some held) bytes some is told = cc

pub under : (told : Option Names) (name : List ℕ) (left : Option (List ℕ)) (bytes : List ℕ) → IfTold told (λ names. IsSome (map.get names name))
    → left ≡ option_and_then (λ names. map.get names name) told → IfTold left (λ all. all ≡ bytes) → IsUnder told name (Some bytes)
under None name left bytes some is means = tt
under (Some names) name left bytes some is means = found_is (map.get names name) left bytes some is means

module _ {A R : Type 0} {Gives : List ℕ → A → Type 0} {Refuses : List ℕ → R → Type 0} (told : Option Names) (name : List ℕ) (left : Option (List ℕ))
    (some : IfTold told (λ names. IsSome (map.get names name))) (is : left ≡ option_and_then (λ names. map.get names name) told) where
  pub given : (x : A) → MeansSource Gives Refuses left (Ok x) → InputAnswer told name Gives Refuses (Ok x)
  given x m = (m.bytes, under told name left m.bytes some is m.told, m.means)

  pub refused : (e : ReadingError R) → MeansSource {A = A} Gives Refuses left (Err e) → IsRefusal told name Refuses (refused_source e)
  refused reading.ReadFault m = tt
  refused (reading.Refused r) m = (m.bytes, under told name left m.bytes some is m.told, m.means)
  refused reading.OutOfMemory m = tt

-- what is read was opened
pub there : {R : Type 0} (e : ReadingError R) → refused_source e ≡ NoFile → ⊥
there reading.ReadFault is = cc
there (reading.Refused r) is = cc
there reading.OutOfMemory is = cc
