-- Which input is read of a name.
use Rattle.std.proofs.Common.{◌≡◌, ℕ, List, [], ◌∷◌, Option, None, refl}
use Rattle.ots_client_inputs.specs.Headers.{RefusesTable}
use Rattle.ots_client_inputs.specs.Inputs.{Input, IsAbsent, IsAccepted, IsRefused, headers_under, name_in, pins_under, proof_under, target_under}
use Rattle.ots_client_inputs.specs.Pins.{ArePinsOf, RefusesPins}
use Rattle.ots_client_inputs.specs.Proof.{RefusesProof}
use Rattle.ots_client_inputs.specs.Target.{IsHashOf, RefusesTarget}
use Rattle.ots_client_text.specs.declared.status.Status.{Status}
use Rattle.ots_client_words.specs.Words.{HeaderFile}
use Rattle.ots_detached.specs.File.{IsFileOf}
use Rattle.ots_headers.specs.HeaderTable.{Table}
use Rattle.ots_headers.specs.TableRead.{IsTableOf}
use Rattle.ots_inputs.specs.Under.{HasUnder, IsUnder}
use Rattle.ots_ops.specs.declared.hash_op.HashOp.{HashOp}
use Rattle.ots_outside.specs.Shelf.{Names}
use Rattle.ots_verifier.specs.Source.{IsChecked}

-- Bytes of this name give something or are refused, as those of this input are accepted or refused.
pub record IsInputOf {A : Type 0} (i : Input) (name : List ℕ) (Gives : List ℕ → A → Type 0) (Refuses : List ℕ → Status → Type 0) : Type 0 where
  pub named : name_in i ≡ name ∷ []
  pub accepted : (told : Option Names) (x : A) → HasUnder told name (λ bytes. Gives bytes x) → IsAccepted told i
  pub absent : (told : Option Names) → IsUnder told name None → IsAbsent told i
  pub refused : (told : Option Names) (s : Status) → HasUnder told name (λ bytes. Refuses bytes s) → IsRefused told i

pub a_proof : (name : List ℕ) → IsInputOf (proof_under name) name IsFileOf RefusesProof
a_proof name = record {
  named = refl;
  accepted = λ told x h. (h.0, h.1, (x, h.2));
  absent = λ told h. h;
  refused = λ told s h. (h.0, h.1, (s, h.2));
}

-- a proof that is verified as it is read
pub a_checked : (bitcoin : Table) (litecoin : Option Table) (name : List ℕ) → IsInputOf (proof_under name) name (IsChecked bitcoin litecoin) RefusesProof
a_checked bitcoin litecoin name = record {
  named = refl;
  accepted = λ told x h. (h.0, h.1, (h.2.0, h.2.1));
  absent = λ told h. h;
  refused = λ told s h. (h.0, h.1, (s, h.2));
}

pub a_table : (file : HeaderFile) → IsInputOf (headers_under file) file.name (IsTableOf file.first) RefusesTable
a_table file = record {
  named = refl;
  accepted = λ told x h. (h.0, h.1, (x, h.2));
  absent = λ told h. h;
  refused = λ told s h. (h.0, h.1, (s, h.2));
}

pub some_pins : (name : List ℕ) → IsInputOf (pins_under name) name ArePinsOf RefusesPins
some_pins name = record {
  named = refl;
  accepted = λ told x h. (h.0, h.1, (x.items, h.2));
  absent = λ told h. h;
  refused = λ told s h. (h.0, h.1, (s, h.2));
}

pub a_target : (name : List ℕ) (hash : HashOp) → IsInputOf (target_under name) name (IsHashOf hash) RefusesTarget
a_target name hash = record {
  named = refl;
  accepted = λ told x h. (h.0, h.1, h.2.0);
  absent = λ told h. h;
  refused = λ told s h. (h.0, h.1, (s, h.2));
}
