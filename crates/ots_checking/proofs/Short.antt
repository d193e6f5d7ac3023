-- Where `verify` runs out of memory: what it ends with is printed, which takes none.
use Rattle.std.proofs.Common.{◌≡◌, ℕ, List, [], ◌∷◌, Option, Some, None, inl, inr, refl, sym, subst, ◌∙◌}
use Rattle.std.specs.Prelude.{◌≢◌}
use Rattle.ots_base.specs.Cause.{Rose}
use Rattle.ots_checking.specs.Verified.{TellsVerdict, Verifies, VerifiesProof, VerifiesTarget, WithPerhapsTable}
use Rattle.ots_client_endings.specs.CarriedOut.{CarriesOut}
use Rattle.ots_client_endings.specs.Ending.{Ending, printing, prints, refused}
use Rattle.ots_client_endings.specs.Reading.{RefusesInput, no_file, refuses, is_given, is_refused, StopsFor}
use Rattle.ots_client_endings.specs.Runs.{Finishes, Moment, TellsStop}
use Rattle.ots_client_inputs.specs.Headers.{RefusesTable, cut, too_many}
use Rattle.ots_client_inputs.specs.Proof.{RefusesProof, too_big, bad_proof}
use Rattle.ots_client_inputs.specs.Target.{RefusesTarget}
use Rattle.ots_client_text.specs.Lines.{verdict_text}
use Rattle.ots_client_text.specs.Status.{verdict_status}
use Rattle.ots_client_text.specs.declared.status.Status.{Status}
use Rattle.ots_client_text.specs.declared.status.Status.TheVariants as status
use Rattle.ots_client_words.specs.Words.{HeaderFile, Verification}
use Rattle.ots_headers.specs.HeaderTable.{Table}
use Rattle.ots_inputs.specs.declared.error.InputError.{InputError}
use Rattle.ots_inputs.specs.declared.error.InputError.TheVariants.{NoFile, ReadFault, Refused, OutOfMemory}
use Rattle.ots_outside.specs.Shelf.{Names}
use Rattle.ots_tree.specs.declared.detached.Detached.{Detached}
use Rattle.ots_verdicts.specs.declared.verdicts.Verdict.{Verdict}
use Rattle.ots_verdicts.specs.declared.verdicts.Verdict.TheVariants.{Yes, NoDigest, NoPath}

-- a text is printed, and the status is not that of want of memory
pub record OnlyTells (e : Ending) : Type 0 where
  pub final : Status
  pub text : List ℕ
  pub is : e ≡ printing final text
  pub enough : final ≢ status.OutOfMemory

tells_refused : (name : List ℕ) (s : Status) (e : Ending) → s ≢ status.OutOfMemory → e ≡ refused name s → OnlyTells e
tells_refused name s e enough is = record { final = s; text = _; is = is; enough = enough }

status_differs : (s t : Status) → t ≢ status.OutOfMemory → s ≡ t → s ≢ status.OutOfMemory
status_differs s t other is = λ e. other (sym is ∙ e)

refused_input : (told : Option Names) (name : List ℕ) (Refuses : List ℕ → Status → Type 0) (e : Ending) → ((bytes : List ℕ) (s : Status) → Refuses bytes s → s ≢ status.OutOfMemory)
    → RefusesInput told name Refuses e → OnlyTells e
refused_input told name Refuses e other (no_file under is) = tells_refused name status.NoFile e (λ z. cc) is
refused_input told name Refuses e other (refuses s under is) = tells_refused name s e (other under.0 s under.2) is

table_status : (bytes : List ℕ) (s : Status) → RefusesTable bytes s → s ≢ status.OutOfMemory
table_status bytes s (cut wrong is) = status_differs s _ (λ z. cc) is
table_status bytes s (too_many long is) = status_differs s _ (λ z. cc) is

proof_status : (bytes : List ℕ) (s : Status) → RefusesProof bytes s → s ≢ status.OutOfMemory
proof_status bytes s (too_big long is) = status_differs s _ (λ z. cc) is
proof_status bytes s (bad_proof f size fault is) = status_differs s _ (λ z. cc) is

target_status : (bytes : List ℕ) (s : Status) → RefusesTarget bytes s → s ≢ status.OutOfMemory
target_status bytes s h = status_differs s _ (λ z. cc) h.1

pub of_verdict : (v : Verdict) → verdict_status v ≢ status.OutOfMemory
of_verdict (Yes c height time) = λ z. cc
of_verdict NoDigest = λ z. cc
of_verdict NoPath = λ z. cc

pub tells_verdict : (v : Verdict) (e : Ending) → TellsVerdict v e → OnlyTells e
tells_verdict v e is = record { final = verdict_status v; text = verdict_text v; is = is; enough = of_verdict v }

with_target : (told : Option Names) (v : Verification) (bitcoin : Table) (litecoin : Option Table) (proof : Detached) (e : Ending) → VerifiesTarget told v.target bitcoin litecoin proof e → OnlyTells e
with_target told v bitcoin litecoin proof e (is_given digest has h) = tells_verdict h.0 e h.2
with_target told v bitcoin litecoin proof e (is_refused h) = refused_input told v.target RefusesTarget e target_status h

with_proof : (told : Option Names) (v : Verification) (bitcoin : Table) (litecoin : Option Table) (e : Ending) → VerifiesProof told v bitcoin litecoin e → OnlyTells e
with_proof told v bitcoin litecoin e (is_given proof has h) = with_target told v bitcoin litecoin proof e h
with_proof told v bitcoin litecoin e (is_refused h) = refused_input told v.proof RefusesProof e proof_status h

with_perhaps : (told : Option Names) (file : Option HeaderFile) (goes_on : Option Table → Ending → Type 0) (e : Ending) → ((litecoin : Option Table) → goes_on litecoin e → OnlyTells e)
    → WithPerhapsTable told file goes_on e → OnlyTells e
with_perhaps told None goes_on e then h = then None h
with_perhaps told (Some file) goes_on e then (is_given table has h) = then (Some table) h
with_perhaps told (Some file) goes_on e then (is_refused h) = refused_input told file.name RefusesTable e table_status h

pub only_tells : (told : Option Names) (v : Verification) (e : Ending) → Verifies told v e → OnlyTells e
only_tells told v e (is_given bitcoin has h) = with_perhaps told v.litecoin (VerifiesProof told v bitcoin) e (λ litecoin. with_proof told v bitcoin litecoin e) h
only_tells told v e (is_refused h) = refused_input told v.bitcoin.name RefusesTable e table_status h

-- Such an ending was carried out.
pub told_enough : (P : Ending → Type 0) (old new : Moment) (r : Status) → ((e : Ending) → P e → OnlyTells e) → Finishes P old new r → r ≢ status.OutOfMemory
told_enough P old new r only h = let t = only h.ending h.is in
    printed (Rose old.faults.writing new.faults.writing) (Rose old.lost new.lost) t.final t.text t.enough (subst (λ (z : Ending). CarriesOut _ _ z.status z.acts old.shelf.names new.shelf.names old.taken new.taken r) t.is h.out)
  where
    printed : (W L : Type 0) (s : Status) (text : List ℕ) → s ≢ status.OutOfMemory
        → CarriesOut W L s (prints text ∷ []) old.shelf.names new.shelf.names old.taken new.taken r → r ≢ status.OutOfMemory
    printed W L s text enough (inl (mid, takes, (same, kept, is))) = status_differs r s enough is
    printed W L s text enough (inr (same, failed, takes, is)) = status_differs r status.WriteFault (λ z. cc) is

-- Memory ran out where a stop was told, and so that is why it stopped.
pub stop_short : (answers : Ending → Type 0) (stops_at : List ℕ → Type 0) (name : List ℕ) (why : InputError Status) (old new : Moment) (r : Status)
    → ((e : Ending) → answers e → OnlyTells e) → StopsFor answers stops_at name why → TellsStop name why old new r → r ≡ status.OutOfMemory → why ≡ OutOfMemory
stop_short answers stops_at name NoFile old new r only stops h ran =
    absurd (told_enough (λ e. e ≡ refused name status.NoFile) old new r (λ e is. tells_refused name status.NoFile e (λ z. cc) is) h ran)
stop_short answers stops_at name ReadFault old new r only stops h ran =
    absurd (told_enough (λ e. e ≡ refused name status.ReadFault) old new r (λ e is. tells_refused name status.ReadFault e (λ z. cc) is) h ran)
stop_short answers stops_at name (Refused s) old new r only stops h ran =
    absurd (told_enough (λ e. e ≡ refused name s) old new r (λ e is. only e (subst answers (sym is) stops)) h ran)
stop_short answers stops_at name OutOfMemory old new r only stops h ran = refl
