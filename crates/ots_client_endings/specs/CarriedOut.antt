-- What carrying out acts, one after the other, does to the names that a shelf tells and to what a sink has taken.
use Rattle.std.specs.Prelude.{◌≡◌, ◌≢◌, ◌<◌, ◌≤◌, ◌⊎◌, ◌++◌, length, ℕ, List, [], ◌∷◌, take, Option, None}
use Rattle.std.specs.Prelude.{is_some, IsErrOf, Result, Ok, Err, if◌then◌else◌}
use Rattle.std.specs.FinMap as map
use Rattle.ots_base.specs.Cause.{Rose}
use Rattle.ots_outside.specs.Shelf.{Names, OnlyWriting, ShelfFaults, ShelfTold}
use Rattle.ots_outside.specs.Streams.{Takes, TakesPrefix}
use Rattle.ots_outside.specs.Written.{with_name}
use Rattle.ots_outputs.specs.Printed.{PrintsLastOr}
use Rattle.ots_client_text.specs.declared.status.Status.{Status}
use Rattle.ots_client_text.specs.declared.status.Status.TheVariants.{Exists, OutOfMemory, TooBig, WriteFault}
use Rattle.ots_client_endings.specs.Ending.{Act, Ending, IsStampAt, prints, makes, makes_stamp}
use Rattle.ots_client_text.specs.Refusal.{refusal_text}
use Rattle.ots_base.specs.declared.limits.TheConstants.{MAX_PROOF_FILE}
use Rattle.ots_detached.specs.File.{IsFileOf, file_of}
use Rattle.ots_tree.specs.declared.detached.Detached.{Detached}
use Rattle.ots_inputs.specs.Under.{IsThere, IsUnder}

-- A text is the last thing that is printed, and a sink that fails is a write fault.
abbrev pub PrintsLast : Type 0 → Status → List ℕ → Option (List ℕ) → Option (List ℕ) → Status → Type 0
PrintsLast = PrintsLastOr WriteFault

-- A file is to be made under a name, and then it goes on.
abbrev pub MakesThen : Type 0 → Type 0 → List ℕ → List ℕ → (Option Names → Type 0) → Option Names → Option Names
    → Option (List ℕ) → Option (List ℕ) → Status → Type 0
MakesThen writing printing name bytes goes_on old new taken now r =
    -- the file is made under a name that was not there
    (IsUnder old name None × goes_on (with_name name bytes old))
    -- the name is there, which is told
    ⊎ (IsThere old name × (new ≡ old) × PrintsLast printing Exists (refusal_text name Exists) taken now r)
    -- the shelf fails, which is told: the file was not created, or holds a prefix of its bytes
    ⊎ (writing × IsUnder old name None × ((new ≡ old) ⊎ ((n : ℕ) × (new ≡ with_name name (take n bytes) old)))
    × PrintsLast printing WriteFault (refusal_text name WriteFault) taken now r)
    -- memory runs out, and nothing is told
    ⊎ ((new ≡ old) × (now ≡ taken) × (r ≡ OutOfMemory))

-- The acts are carried out in order, up to the first that can't be, over the names `old` and a sink that has taken
-- `taken`.
-- `writing` and `printing` say that the shelf counted a fault of creating or writing, and the sink one.
abbrev pub CarriesOut : Type 0 → Type 0 → Status → List Act → Option Names → Option Names → Option (List ℕ)
    → Option (List ℕ) → Status → Type 0
-- all are carried out
CarriesOut writing printing status [] old new taken now r = (new ≡ old) × (now ≡ taken) × (r ≡ status)
-- a text is printed and it goes on; or the sink fails
CarriesOut writing printing status (prints text ∷ acts) old new taken now r =
    ((mid : Option (List ℕ)) × Takes taken mid text × CarriesOut writing printing status acts old new mid now r)
    ⊎ ((new ≡ old) × printing × TakesPrefix taken now text × (r ≡ WriteFault))
CarriesOut writing printing status (makes name bytes ∷ acts) old new taken now r =
    MakesThen writing printing name bytes (λ mid. CarriesOut writing printing status acts mid new taken now r) old new
    taken now r
-- a proof is that of the file, and is made; or it is too long for a proof file; or memory runs out
CarriesOut writing printing status (makes_stamp targets trees i name ∷ acts) old new taken now r =
    ((p : Detached) × IsStampAt targets trees i p × IsFileOf (file_of p) p
    × MakesThen writing printing name (file_of p) (λ mid. CarriesOut writing printing status acts mid new taken now r)
    old new taken now r)
    ⊎ ((p : Detached) × IsStampAt targets trees i p × (MAX_PROOF_FILE < length (file_of p)) × (new ≡ old)
    × PrintsLast printing TooBig (refusal_text name TooBig) taken now r)
    ⊎ ((new ≡ old) × (now ≡ taken) × (r ≡ OutOfMemory))

-- How a run ends: one of the endings that it may come to is carried out; or memory runs out before, and nothing is
-- done.
pub data Ends (comes : Ending → Type 0) (writing printing : Type 0) (old new : Option Names)
    (taken now : Option (List ℕ)) (r : Status) : Type 0 where
  carried_out : (e : Ending) → comes e → CarriesOut writing printing e.status e.acts old new taken now r
      → Ends comes writing printing old new taken now r
  no_memory : r ≡ OutOfMemory → new ≡ old → now ≡ taken → Ends comes writing printing old new taken now r

-- The status of a run that ends so where nothing fails: a file that is to be made under a name that is there is
-- refused. It is for commands that ask nobody, which make no proof of a stamped file.
abbrev pub status_over : Names → Status → List Act → Status
status_over names status [] = status
status_over names status (prints text ∷ acts) = status_over names status acts
status_over names status (makes_stamp targets trees i name ∷ acts) = status_over names status acts
status_over names status (makes name bytes ∷ acts) =
    if is_some (map.get names name) then Exists else status_over (map.insert names name bytes) status acts

-- ---- several acts, for the code

-- These acts are all carried out.
abbrev pub Does : List Act → Option Names → Option Names → Option (List ℕ) → Option (List ℕ) → Type 0
Does [] old new taken now = (new ≡ old) × (now ≡ taken)
Does (prints text ∷ acts) old new taken now = (mid : Option (List ℕ)) × Takes taken mid text × Does acts old new mid now
Does (makes name bytes ∷ acts) old new taken now = IsUnder old name None
    × Does acts (with_name name bytes old) new taken now
Does (makes_stamp targets trees i name ∷ acts) old new taken now =
    (p : Detached) × IsStampAt targets trees i p × IsFileOf (file_of p) p × IsUnder old name None
    × Does acts (with_name name (file_of p) old) new taken now

-- These acts are all carried out, or the run ends at one of them, whatever was to come after.
abbrev pub DoesOrEnds : Type 0 → Type 0 → List Act → Option Names → Option Names → Option (List ℕ) → Option (List ℕ)
    → Result (Unit {0}) Status → Type 0
DoesOrEnds writing printing acts old new taken now (Ok done) = Does acts old new taken now
DoesOrEnds writing printing acts old new taken now (Err r) =
    (status : Status) (more : List Act) → CarriesOut writing printing status (acts ++ more) old new taken now r

-- The same, and all that is told of the shelf but its names stays.
pub record CarriesOn (acts : List Act) (old new : ShelfTold) (before now : ShelfFaults) (printing : Type 0)
    (taken taken_now : Option (List ℕ))
    (r : Result (Unit {0}) Status) : Type 0 where
  pub out : DoesOrEnds (Rose before.writing now.writing) printing acts old.names new.names taken taken_now r
  pub opened : new.opened ≡ old.opened
  pub slots : (k : ℕ) → new.slots k ≡ old.slots k
  pub short : ¬ IsErrOf r OutOfMemory → new.short ≡ old.short
  pub counts : OnlyWriting before now
  pub later : before.writing ≤ now.writing

-- ---- what is carried out of a shelf and a sink

-- Acts were carried out, with which a run ends that has this status where all of them are. All that is told of the
-- shelf but its names stays.
pub record Carries (status : Status) (acts : List Act) (old new : ShelfTold) (before now : ShelfFaults)
    (printing : Type 0) (taken taken_now : Option (List ℕ))
    (r : Status) : Type 0 where
  pub out : CarriesOut (Rose before.writing now.writing) printing status acts old.names new.names taken taken_now r
  pub opened : new.opened ≡ old.opened
  pub slots : (k : ℕ) → new.slots k ≡ old.slots k
  pub short : r ≢ OutOfMemory → new.short ≡ old.short
  pub counts : OnlyWriting before now
  pub later : before.writing ≤ now.writing

-- A file was made under a name, which ends a run with the status `done`; or it is told why not.
abbrev pub Makes : Status → List ℕ → List ℕ → ShelfTold → ShelfTold → ShelfFaults → ShelfFaults → Type 0
    → Option (List ℕ) → Option (List ℕ) → Status → Type 0
Makes done name bytes = Carries done (makes name bytes ∷ [])

-- A text is printed, and then another, with which a run ends that has this status.
abbrev pub PrintsBoth : Type 0 → Status → List ℕ → List ℕ → Option (List ℕ) → Option (List ℕ) → Status → Type 0
PrintsBoth printing status first last taken now r =
    ((mid : Option (List ℕ)) × Takes taken mid first × PrintsLast printing status last mid now r)
    ⊎ (printing × TakesPrefix taken now first × (r ≡ WriteFault))
