-- What was read of a name is what is under it.
use Rattle.std.proofs.Common.{◌≡◌, ◌≤◌, ℕ, List, [], ◌∷◌, ◌++◌, length, Option, Some, None, refl, sym, ap, subst, ◌∙◌, arith, append-nil, length-append}
use Rattle.std.specs.Prelude.{Result, Ok, Err, IsSome, IsErrAnd}
use Rattle.std.specs.FinMap as map
use Rattle.std.specs.Option.{option_and_then}
use Rattle.std.specs.Io.KnownBytes.{IsAtEnd}
use Rattle.ots_base.specs.Told.{IfTold}
use Rattle.ots_outside.specs.Shelf.{Names}
use Rattle.ots_outside.specs.Streams.{Gives}
use Rattle.ots_inputs.specs.declared.error.InputError.{InputError}
use Rattle.ots_inputs.specs.declared.error.InputError.TheVariants.{NoFile, ReadFault, Refused, OutOfMemory}
use Rattle.ots_inputs.specs.Input.{InputAnswer, IsRefusal, OpensRefused}
use Rattle.ots_inputs.specs.Opened.{Opens}
use Rattle.ots_inputs.specs.Under.{IsUnder}

-- The bytes that came begin what is under the name, and are all of it where the end was reached.
pub record IsPrefix (told : Option Names) (name came : List ℕ) (whole : Type 0) : Type 0 where
  pub bytes : List ℕ
  pub under : IsUnder told name (Some bytes)
  pub longer : length came ≤ length bytes
  pub all : whole → bytes ≡ came

prefix_told : (found left after : Option (List ℕ)) (came : List ℕ) → IsSome found → left ≡ found → Gives left after came
    → (bytes : List ℕ) × (found ≡ Some bytes) × (length came ≤ length bytes) × (IsAtEnd after → bytes ≡ came)
prefix_told None left after came some is gave = absurd cc
prefix_told (Some bytes) None after came some is gave = absurd cc
prefix_told (Some bytes) (Some held) None came some is gave = absurd gave
prefix_told (Some bytes) (Some held) (Some rest) came some is gave =
    let same : held ≡ bytes = cc in
    let split : bytes ≡ came ++ rest = sym same ∙ gave in
    (bytes, refl, omega (arith, ap length split, length-append came rest), λ end. split ∙ ap (λ (z : List ℕ). came ++ z) end ∙ append-nil came)

pub prefix : (told : Option Names) (name : List ℕ) (left after : Option (List ℕ)) (came : List ℕ)
    → IfTold told (λ names. IsSome (map.get names name)) → left ≡ option_and_then (λ names. map.get names name) told → Gives left after came
    → IsPrefix told name came (IsAtEnd after)
prefix None name left after came some is gave = record { bytes = came; under = tt; longer = omega arith; all = λ end. refl }
prefix (Some names) name left after came some is gave =
    let f = prefix_told (map.get names name) left after came some is gave in
    record { bytes = f.0; under = f.1; longer = f.2; all = f.3 }

-- an error that `?` made of a refusal
pub error_is : {A R : Type 0} (told : Option Names) (name : List ℕ) (Gives : List ℕ → A → Type 0) (Refuses : List ℕ → R → Type 0) (r : Result A (InputError R)) (e : InputError R)
    → IsErrAnd r (λ x. x ≡ e) → IsRefusal told name Refuses e → InputAnswer told name Gives Refuses r
error_is told name Gives Refuses (Ok x) e is why = absurd is
error_is told name Gives Refuses (Err x) e is why = subst (IsRefusal told name Refuses) (sym is) why

-- A name was opened, so that it is there.
pub opened_refused : (A : Type 0) {R : Type 0} (name : List ℕ) (old new : Option (List (List ℕ))) (e : InputError R) → (e ≡ NoFile → ⊥) → Opens (name ∷ []) old new → OpensRefused {A = A} name old new (Err e)
opened_refused A name old new NoFile there opened = absurd (there refl)
opened_refused A name old new ReadFault there opened = tt
opened_refused A name old new (Refused r) there opened = opened
opened_refused A name old new OutOfMemory there opened = tt

pub error_opened : {A R : Type 0} (name : List ℕ) (old new : Option (List (List ℕ))) (r : Result A (InputError R)) (e : InputError R)
    → IsErrAnd r (λ x. x ≡ e) → (e ≡ NoFile → ⊥) → Opens (name ∷ []) old new → OpensRefused name old new r
error_opened name old new (Ok x) e is there opened = absurd is
error_opened {A} {R} name old new (Err x) e is there opened =
    subst (λ (z : InputError R). OpensRefused {A = A} name old new (Err z)) (sym is) (opened_refused A name old new e there opened)
