-- What was read of a name is what is under it.
use Rattle.std.proofs.Common.{◌≡◌, ◌≤◌, ℕ, List, length, Option, Some, None, refl, sym, ap, subst, ◌∙◌, inl, inr, arith}
use Rattle.std.specs.Prelude.{Result, Ok, Err, IsSome, Vec}
use Rattle.ots_address.specs.AddressList.{IfBadAddress}
use Rattle.ots_address.specs.declared.list.AddressError.{AddressError}
use Rattle.ots_address.specs.declared.list.AddressError.TheVariants as address
use Rattle.std.specs.FinMap as map
use Rattle.std.specs.Option.{option_and_then}
use Rattle.std.specs.declared.alloc.Global.{Global}
use Rattle.ots_base.specs.declared.limits.TheConstants.{MAX_PROOF_FILE, MAX_TARGET_FILE}
use Rattle.ots_base.specs.Told.{IfTold}
use Rattle.ots_outside.specs.Shelf.{Names}
use Rattle.ots_chain.specs.Pins.{ReadsPins}
use Rattle.ots_chain.specs.declared.pins.Pin.{Pin}
use Rattle.ots_chain.specs.declared.pins.PinsError.{PinsError}
use Rattle.ots_chain.specs.declared.pins.PinsError.TheVariants as pins
use Rattle.ots_ops.specs.declared.hash_op.HashOp.{HashOp}
use Rattle.ots_detached.specs.File.{IsFileOf}
use Rattle.ots_detached.specs.FileFault.{HasFault}
use Rattle.ots_detached.specs.FileRead.{IsFileError}
use Rattle.ots_detached.specs.SourceHash.{HashesSource}
use Rattle.ots_detached.specs.declared.reading.FileError.{FileError}
use Rattle.ots_detached.specs.declared.reading.FileError.TheVariants as file
use Rattle.ots_reader.specs.declared.fault.Fault.{Fault}
use Rattle.ots_tree.specs.declared.detached.Detached.{Detached}
use Rattle.ots_detached.specs.declared.hashing.HashError.{HashError}
use Rattle.ots_detached.specs.declared.hashing.HashError.TheVariants as hashing
use Rattle.ots_headers.specs.HeaderTable.{Table}
use Rattle.ots_headers.specs.TableRead.{ReadsTable}
use Rattle.ots_headers.specs.declared.headers.HeadersError.{HeadersError}
use Rattle.ots_headers.specs.declared.headers.HeadersError.TheVariants as headers
use Rattle.ots_verifier.specs.declared.checked.Checked.{Checked}
use Rattle.ots_verifier.specs.declared.source.SourceError.{SourceError}
use Rattle.ots_verifier.specs.declared.source.SourceError.TheVariants as source
use Rattle.ots_verifier.specs.Source.{ChecksSource, IsChecked}
use Rattle.ots_inputs.specs.File.{MeansInput}
use Rattle.ots_inputs.specs.Input.{InputAnswer, IsRefusal}
use Rattle.ots_inputs.specs.Under.{IsUnder}
use Rattle.ots_inputs.specs.declared.error.InputError.{InputError}
use Rattle.ots_inputs.specs.declared.error.InputError.TheVariants.{NoFile, Refused}
use Rattle.ots_inputs.specs.declared.file.TooBig.{TooBig}
use Rattle.ots_client_text.specs.declared.status.Status.TheVariants.{BadProof}
use Rattle.ots_inputs.proofs.Came.{prefix}
use Rattle.ots_client_inputs.specs.Headers.{RefusesTable, cut, too_many, refused_headers}
use Rattle.ots_client_inputs.specs.List.{MayRefuseList, bad, refused_list}
use Rattle.ots_client_inputs.specs.Pins.{ArePinsOf, RefusesPins, refused_pins}
use Rattle.ots_client_inputs.specs.Proof.{RefusesProof, too_big, bad_proof, refused_source}
use Rattle.ots_client_inputs.specs.Target.{RefusesTarget, refused_target}

module _ (told : Option Names) (name : List ℕ) (left after : Option (List ℕ))
    (some : IfTold told (λ names. IsSome (map.get names name))) (is : left ≡ option_and_then (λ names. map.get names name) told) where
  -- a proof that is verified as it is read
  pub checked_refused : (bitcoin : Table) (litecoin : Option Table) (e : SourceError) → ChecksSource bitcoin litecoin left after (Err e) → IsRefusal told name RefusesProof (refused_source e)
  checked_refused bitcoin litecoin source.ReadFault read = tt
  checked_refused bitcoin litecoin source.TooBig read =
      let f = prefix told name left after read.came some is read.gave in
      let long = read.tells in
      let longer = f.longer in
      (f.bytes, f.under, too_big (omega arith) refl)
  checked_refused bitcoin litecoin (source.BadProof fault) read =
      let f = prefix told name left after read.came some is read.gave in
      let all = f.all read.tells.0 in
      (f.bytes, f.under, rw all (bad_proof fault read.tells.1 read.tells.2 refl))

  pub checked_read : (bitcoin : Table) (litecoin : Option Table) (c : Checked) → ChecksSource bitcoin litecoin left after (Ok c) → InputAnswer told name (IsChecked bitcoin litecoin) RefusesProof (Ok c)
  checked_read bitcoin litecoin c read =
      let f = prefix told name left after read.came some is read.gave in
      (f.bytes, f.under, rw (f.all read.tells.0) read.tells.1)

  -- headers
  pub headers_refused : (first : ℕ) (e : HeadersError) → ReadsTable first left after (Err e) → IsRefusal told name RefusesTable (refused_headers e)
  headers_refused first headers.ReadFault read = tt
  headers_refused first headers.OutOfMemory read = tt
  headers_refused first (headers.BadHeaders n) read =
      let f = prefix told name left after read.came some is read.gave in
      let longer = f.longer in
      let number = read.tells.0 in
      elim read.tells.1 [
        | inl whole ↦ (f.bytes, f.under, rw (f.all whole.0) (rw number (cut (rw (← number) whole.1) refl)))
        | inr past ↦ (f.bytes, f.under, rw past (too_many (omega arith) refl))
      ]

  -- a target
  pub target_refused : (hash : HashOp) (e : HashError) → HashesSource hash MAX_TARGET_FILE left after (Err e) → IsRefusal told name RefusesTarget (refused_target e)
  target_refused hash hashing.ReadFault read = tt
  target_refused hash (hashing.FileTooLong n) read =
      let f = prefix told name left after read.came some is read.gave in
      let long = read.tells.1 in
      let longer = f.longer in
      (f.bytes, f.under, (omega arith, refl))

-- what is read was opened
pub source_there : (e : SourceError) → refused_source e ≡ NoFile → ⊥
source_there source.ReadFault is = cc
source_there source.TooBig is = cc
source_there (source.BadProof fault) is = cc

pub headers_there : (e : HeadersError) → refused_headers e ≡ NoFile → ⊥
headers_there headers.ReadFault is = cc
headers_there (headers.BadHeaders n) is = cc
headers_there headers.OutOfMemory is = cc

pub pins_there : (e : PinsError) → refused_pins e ≡ NoFile → ⊥
pins_there pins.ReadFault is = cc
pins_there (pins.BadPins number) is = cc
pins_there pins.OutOfMemory is = cc

pub target_there : (e : HashError) → refused_target e ≡ NoFile → ⊥
target_there hashing.ReadFault is = cc
target_there (hashing.FileTooLong n) is = cc

-- the bytes that were read are those under the name
found_told : (found left : Option (List ℕ)) (bytes : List ℕ) → IsSome found → left ≡ found → IfTold left (λ b. b ≡ bytes) → found ≡ Some bytes
found_told None left bytes some is told = absurd cc
found_told (Some b) None bytes some is told = absurd cc
found_told (Some b) (Some held) bytes some is told = sym is ∙ ap (λ (z : List ℕ). Some z) told

under_name : (told : Option Names) (name : List ℕ) (left : Option (List ℕ)) (bytes : List ℕ) → IfTold told (λ names. IsSome (map.get names name))
    → left ≡ option_and_then (λ names. map.get names name) told → IfTold left (λ b. b ≡ bytes) → IsUnder told name (Some bytes)
under_name None name left bytes some is came = tt
under_name (Some names) name left bytes some is came = found_told (map.get names name) left bytes some is came

-- pins
module _ (told : Option Names) (name : List ℕ) (left : Option (List ℕ))
    (some : IfTold told (λ names. IsSome (map.get names name))) (is : left ≡ option_and_then (λ names. map.get names name) told) where
  pub pins_given : (pins : Vec Pin Global) → ReadsPins left (Ok pins) → InputAnswer told name ArePinsOf RefusesPins (Ok pins)
  pins_given pins read = (read.bytes, under_name told name left read.bytes some is read.told, read.gives)

  pub pins_refused : (e : PinsError) → ReadsPins left (Err e) → IsRefusal told name RefusesPins (refused_pins e)
  pins_refused pins.ReadFault read = tt
  pins_refused pins.OutOfMemory read = tt
  pins_refused (pins.BadPins number) read = (read.bytes, under_name told name left read.bytes some is read.told, (number, read.gives, refl))

-- a list of addresses
pub list_refused : (list : List ℕ) (e : AddressError) → IfBadAddress list e → MayRefuseList list (refused_list e)
list_refused list (address.BadAddress place https) h = bad place https h refl
list_refused list address.OutOfMemory h = tt

-- the bytes of a proof
pub fault_refused : (read : Result (Vec ℕ Global) (InputError TooBig)) (bytes : Vec ℕ Global) (items : List ℕ) (e : FileError) (f : Fault) → read ≡ Ok bytes → items ≡ bytes.items
    → e ≡ file.BadProof f → IsFileError items e → MeansInput {A = Detached} IsFileOf RefusesProof MAX_PROOF_FILE read (Err (Refused (BadProof f)))
fault_refused read bytes items e f is same why refuses =
    let fault : (length items ≤ MAX_PROOF_FILE) × HasFault items f = subst (IsFileError items) why refuses in
    subst (λ (z : Result (Vec ℕ Global) (InputError TooBig)). MeansInput {A = Detached} IsFileOf RefusesProof MAX_PROOF_FILE z (Err (Refused (BadProof f)))) (sym is)
    (subst (λ (z : List ℕ). RefusesProof z (BadProof f)) same (bad_proof f fault.0 fault.1 refl))
