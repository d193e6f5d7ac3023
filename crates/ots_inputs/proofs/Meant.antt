-- What is made of a file's bytes is what is read of its name.
use Rattle.std.proofs.Common.{◌≡◌, ◌<◌, ℕ, List, length, Option, refl, sym, subst, inl, inr}
use Rattle.std.specs.Prelude.{Result, Ok, Err, Vec}
use Rattle.std.specs.declared.alloc.Global.{Global}
use Rattle.ots_outside.specs.Shelf.{ShelfFaults, ShelfTold}
use Rattle.ots_inputs.specs.declared.error.InputError.{InputError}
use Rattle.ots_inputs.specs.declared.error.InputError.TheVariants.{NoFile, ReadFault, Refused, OutOfMemory}
use Rattle.ots_inputs.specs.declared.file.TooBig.{TooBig}
use Rattle.ots_inputs.specs.File.{GivesBytes, MeansInput, RefusesBytes}
use Rattle.ots_inputs.specs.Input.{InputAnswer, OpensRefused, ReadsInput, map_refusal}
use Rattle.ots_inputs.specs.Opened.{IsOpenedOrNot}
use Rattle.ots_inputs.proofs.Opened.{keeps_where}

abbrev Bytes : Type 0
Bytes = Result (Vec ℕ Global) (InputError TooBig)

-- it was opened or not, and what is a fault of the second was one of the first
opened_or : (name : List ℕ) (old new : Option (List (List ℕ))) (before now : ShelfFaults) (s t : Type 0) → (t → s) → IsOpenedOrNot name old new before now s → IsOpenedOrNot name old new before now t
opened_or name old new before now s t f (inl none) = inl (none.0, λ is. none.1 (f is))
opened_or name old new before now s t f (inr one) = inr (one.0, λ is. one.1 (f is))

module _ {A R : Type 0} {Gives : List ℕ → A → Type 0} {Refuses : List ℕ → R → Type 0} {limit : ℕ} {name : List ℕ} {old new : ShelfTold} {before now : ShelfFaults} where
  -- its bytes give something
  pub means_given : (read : Bytes) (x : A) → ReadsInput (GivesBytes limit) (RefusesBytes limit) name old new before now read → MeansInput Gives Refuses limit read (Ok x) → ReadsInput {A = A} Gives Refuses name old new before now (Ok x)
  means_given (Ok bytes) x h means = record {
    answer = (h.answer.0, h.answer.1, subst (λ (z : List ℕ). Gives z x) (sym h.answer.2.0) means);
    opened = h.opened;
    refused = tt;
    kept = keeps_where (λ enough ran. cc) h.kept;
  }
  means_given (Err e) x h means = absurd means

  -- or it is said why not
  said : (e : InputError TooBig) (f g : InputError R) → ReadsInput (GivesBytes limit) (RefusesBytes limit) name old new before now (Err e) → g ≡ f → InputAnswer {A = A} old.names name Gives Refuses (Err f)
      → OpensRefused {A = A} name old.opened new.opened (Err f)
      → (f ≡ ReadFault → e ≡ ReadFault) → (e ≡ OutOfMemory → f ≡ OutOfMemory) → ReadsInput {A = A} Gives Refuses name old new before now (Err g)
  said e f g h is answer at fault ran = subst (λ (z : InputError R). ReadsInput {A = A} Gives Refuses name old new before now (Err z)) (sym is) (record {
    answer = answer;
    opened = opened_or name old.opened new.opened before now (e ≡ ReadFault) (f ≡ ReadFault) fault h.opened;
    refused = at;
    kept = keeps_where (λ enough short. enough (let short_is : e ≡ OutOfMemory = cc in let also : f ≡ OutOfMemory = ran short_is in cc)) h.kept;
  })

  after : (bytes : Vec ℕ Global) (e : InputError R) → ReadsInput (GivesBytes limit) (RefusesBytes limit) name old new before now (Ok bytes) → InputAnswer {A = A} old.names name Gives Refuses (Err e)
      → OpensRefused {A = A} name old.opened new.opened (Err e) → (e ≡ ReadFault → ⊥) → ReadsInput {A = A} Gives Refuses name old new before now (Err e)
  after bytes e h answer at no_fault = record {
    answer = answer;
    opened = inr (h.opened, λ is. absurd (no_fault is));
    refused = at;
    kept = keeps_where (λ enough ran. cc) h.kept;
  }

  pub means_refused : (read : Bytes) (e : InputError R) → ReadsInput (GivesBytes limit) (RefusesBytes limit) name old new before now read → MeansInput {A = A} Gives Refuses limit read (Err e) → ReadsInput {A = A} Gives Refuses name old new before now (Err e)
  means_refused (Ok bytes) NoFile h means = absurd means
  means_refused (Ok bytes) ReadFault h means = absurd means
  means_refused (Ok bytes) (Refused r) h means =
      after bytes (Refused r) h (h.answer.0, h.answer.1, subst (λ (z : List ℕ). Refuses z r) (sym h.answer.2.0) means) h.opened (λ is. cc)
  means_refused (Ok bytes) OutOfMemory h means = after bytes OutOfMemory h tt tt (λ is. cc)
  means_refused (Err NoFile) e h means = said NoFile NoFile e h means h.answer h.refused (λ is. absurd cc) (λ is. absurd cc)
  means_refused (Err ReadFault) e h means = said ReadFault ReadFault e h means tt tt (λ is. refl) (λ is. absurd cc)
  means_refused (Err (Refused big)) NoFile h means = absurd means
  means_refused (Err (Refused big)) ReadFault h means = absurd means
  means_refused (Err (Refused big)) (Refused r) h means =
      said (Refused big) (Refused r) (Refused r) h refl (h.answer.0, h.answer.1, means h.answer.0 h.answer.2) h.refused (λ is. absurd cc) (λ is. absurd cc)
  means_refused (Err (Refused big)) OutOfMemory h means = absurd means
  means_refused (Err OutOfMemory) e h means = said OutOfMemory OutOfMemory e h means tt tt (λ is. absurd cc) (λ is. refl)

-- Why there are no bytes is handed on, and that there are too many of them is this refusal.
pub handed_on : {A R : Type 0} (Gives : List ℕ → A → Type 0) (Refuses : List ℕ → R → Type 0) {limit : ℕ} (read : Bytes) (e : InputError TooBig) (f : InputError R) (r : R)
    → read ≡ Err e → f ≡ map_refusal (λ _. r) e → ((bytes : List ℕ) → limit < length bytes → Refuses bytes r) → MeansInput {A = A} Gives Refuses limit read (Err f)
handed_on {A} {R} Gives Refuses {limit} read e f r is same refuses =
    subst (λ (z : Bytes). MeansInput {A = A} Gives Refuses limit z (Err f)) (sym is)
    (subst (λ (z : InputError R). MeansInput {A = A} Gives Refuses limit (Err e) (Err z)) (sym same) (by e))
  where
    by : (e : InputError TooBig) → MeansInput {A = A} Gives Refuses limit (Err e) (Err (map_refusal (λ _. r) e))
    by NoFile = refl
    by ReadFault = refl
    by (Refused big) = refuses
    by OutOfMemory = refl

module _ {A R Q : Type 0} {Gives : List ℕ → A → Type 0} {Refuses : List ℕ → R → Type 0} {Declines : List ℕ → Q → Type 0} {name : List ℕ} {old new : ShelfTold} {before now : ShelfFaults} where
  seen : (e : InputError R) (f : InputError Q) → InputAnswer {A = A} old.names name Gives Declines (Err f) → OpensRefused {A = A} name old.opened new.opened (Err f) → (f ≡ ReadFault → e ≡ ReadFault) → (e ≡ OutOfMemory → f ≡ OutOfMemory)
      → ReadsInput {A = A} Gives Refuses name old new before now (Err e) → ReadsInput {A = A} Gives Declines name old new before now (Err f)
  seen e f answer at fault ran h = record {
    answer = answer;
    opened = opened_or name old.opened new.opened before now (e ≡ ReadFault) (f ≡ ReadFault) fault h.opened;
    refused = at;
    kept = keeps_where (λ enough short. enough (let short_is : e ≡ OutOfMemory = cc in let also : f ≡ OutOfMemory = ran short_is in cc)) h.kept;
  }

  -- A refusal is seen as another.
  pub refused_into : (f : R → Q) (e : InputError R) → ((bytes : List ℕ) (r : R) → Refuses bytes r → Declines bytes (f r))
      → ReadsInput {A = A} Gives Refuses name old new before now (Err e) → ReadsInput {A = A} Gives Declines name old new before now (Err (map_refusal f e))
  refused_into f NoFile declines h = seen NoFile NoFile h.answer h.refused (λ is. absurd cc) (λ is. absurd cc) h
  refused_into f ReadFault declines h = seen ReadFault ReadFault tt tt (λ is. refl) (λ is. absurd cc) h
  refused_into f (Refused r) declines h = seen (Refused r) (Refused (f r)) (h.answer.0, h.answer.1, declines h.answer.0 r h.answer.2) h.refused (λ is. absurd cc) (λ is. absurd cc) h
  refused_into f OutOfMemory declines h = seen OutOfMemory OutOfMemory tt tt (λ is. absurd cc) (λ is. refl) h
