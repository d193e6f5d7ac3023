-- A file that was read whole.
use Rattle.std.proofs.Common.{◌≡◌, ◌≤◌, ℕ, List, length, Option, refl, sym, subst, ◌∙◌, arith}
use Rattle.std.specs.Prelude.{Ok, Err, IsSome, Vec}
use Rattle.std.specs.FinMap as map
use Rattle.std.specs.Option.{option_and_then}
use Rattle.std.specs.declared.alloc.Global.{Global}
use Rattle.ots_base.specs.Told.{IfTold}
use Rattle.ots_outside.specs.Input.{ReadsAll}
use Rattle.ots_outside.specs.Shelf.{Names}
use Rattle.ots_outside.specs.declared.reading.ReadAllError.{ReadAllError}
use Rattle.ots_outside.specs.declared.reading.ReadAllError.TheVariants as reading
use Rattle.ots_inputs.specs.File.{GivesBytes, RefusesBytes, refused_read}
use Rattle.ots_inputs.specs.Input.{InputAnswer, IsRefusal}
use Rattle.ots_inputs.specs.declared.error.InputError.TheVariants.{NoFile}
use Rattle.ots_inputs.proofs.Came.{prefix}

module _ (told : Option Names) (name : List ℕ) (limit : ℕ) (left after : Option (List ℕ))
    (some : IfTold told (λ names. IsSome (map.get names name))) (is : left ≡ option_and_then (λ names. map.get names name) told) where
  pub bytes_read : (bytes : Vec ℕ Global) → ReadsAll limit left after (Ok bytes) → InputAnswer told name (GivesBytes limit) (RefusesBytes limit) (Ok bytes)
  bytes_read bytes read =
      let f = prefix told name left after read.came some is read.gave in
      let whole : f.bytes ≡ bytes.items = f.all read.ok.1 ∙ sym read.ok.0 in
      (f.bytes, f.under, (whole, subst (λ (z : List ℕ). length z ≤ limit) (sym (f.all read.ok.1)) read.ok.2))

  pub bytes_refused : (e : ReadAllError) → ReadsAll limit left after (Err e) → IsRefusal told name (RefusesBytes limit) (refused_read e)
  bytes_refused reading.ReadFault read = tt
  bytes_refused reading.OutOfMemory read = tt
  bytes_refused reading.TooBig read =
      let f = prefix told name left after read.came some is read.gave in
      let long = read.too_big.0 refl in
      let longer = f.longer in
      (f.bytes, f.under, omega arith)

-- what is read was opened
pub read_there : (e : ReadAllError) → refused_read e ≡ NoFile → ⊥
read_there reading.ReadFault is = cc
read_there reading.TooBig is = cc
read_there reading.OutOfMemory is = cc
