-- What `upgrade` does. Source: the client of the reference library (opentimestamps-client, otsclient/cmds.py,
-- upgrade_command and upgrade_timestamp).
use Rattle.std.specs.Prelude.{◌≡◌, ◌<◌, ◌↔◌, ℕ, Bool, IsTrue, List, [], ◌∷◌, length, Option}
use Rattle.std.specs.List.{flat_map}
use Rattle.ots_address.specs.Address.{AddressParts}
use Rattle.ots_base.specs.declared.limits.TheConstants.{MAX_PROOF_FILE}
use Rattle.ots_client_endings.specs.Ending.{Ending, makes, prints}
use Rattle.ots_client_endings.specs.Outside.{Outside}
use Rattle.ots_client_endings.specs.Reading.{WithList, WithProof}
use Rattle.ots_client_inputs.specs.Inputs.{Input, calendars_of, proof_under}
use Rattle.ots_client_text.specs.Lines.{complete_text}
use Rattle.ots_client_text.specs.Refusal.{refusal_text}
use Rattle.ots_client_text.specs.Status.{complete_status}
use Rattle.ots_client_text.specs.declared.status.Status.TheVariants.{TooBig}
use Rattle.ots_client_words.specs.Words.{Upgrading}
use Rattle.ots_detached.specs.File.{IsFileOf, file_of}
use Rattle.ots_lines.specs.Lines.{uri_line}
use Rattle.ots_outside.specs.Shelf.{Names}
use Rattle.ots_pending.specs.Bitcoin.{HasBitcoin}
use Rattle.ots_pending.specs.Completed.{IsCompleted}
use Rattle.ots_pending.specs.Pairs.{ArePairs, PairAt}
use Rattle.ots_tree.specs.declared.detached.Detached.{Detached}
use Rattle.ots_upgrade.specs.Upgrading.{AreAskedPairs, outcomes, questions, trees_of}
use Rattle.ots_upgrade.specs.declared.asking.AskedAt.{AskedAt}

-- what is read, in order
abbrev pub inputs_upgraded : Upgrading → List Input
inputs_upgraded u = calendars_of u.calendars ∷ proof_under u.proof ∷ []

-- the line of a pair: its URI, and what came of asking for it
abbrev pub asked_line : AskedAt → List ℕ
asked_line a = uri_line a.uri a.outcome

-- a line for each pair that a proof asks for
abbrev pub asked_text : List AskedAt → List ℕ
asked_text asked = flat_map asked_line asked

-- What was asked is printed. Then the proof is written, unless it is too long for a file, and it is told whether some
-- path of it ends in Bitcoin.
pub data WritesAsked (asked : List AskedAt) (to : List ℕ) (proof : Detached) (e : Ending) : Type 0 where
  asked_too_long : MAX_PROOF_FILE < length (file_of proof)
      → e ≡ record { status = TooBig; acts = prints (asked_text asked) ∷ prints (refusal_text to TooBig) ∷ [] }
      → WritesAsked asked to proof e
  asked_made : (complete : Bool) → IsTrue complete ↔ HasBitcoin proof.tree → IsFileOf (file_of proof) proof
      → e ≡ record {
        status = complete_status complete;
        acts = prints (asked_text asked) ∷ makes to (file_of proof)
            ∷ prints (complete_text complete) ∷ [];
      }
      → WritesAsked asked to proof e

-- The second proof is what calendars made of the first: for each pair of its pending paths one was asked where an
-- address has the URI as its text, and what they answered completes it.
pub record IsUpgradeOf (o : Outside) (calendars : List AddressParts) (p : Detached) (asked : List AskedAt)
    (r : Detached) : Type 0 where
  pub pairs : List PairAt
  pub are : ArePairs p pairs
  pub are_asked : AreAskedPairs calendars pairs asked
  pub questions_are : o.questions ≡ questions calendars pairs
  pub outcomes_are : o.outcomes ≡ outcomes asked
  pub hash : r.hash ≡ p.hash
  pub digest : r.digest ≡ p.digest
  pub tree : IsCompleted p pairs (trees_of asked) r.tree

-- Calendars are asked to complete a proof, and that is written.
abbrev pub Completes : Outside → List AddressParts → Detached → List ℕ → Ending → Type 0
Completes o calendars p to e = (asked : List AskedAt) × (r : Detached) × IsUpgradeOf o calendars p asked r
    × WritesAsked asked to r e

-- The list of calendars is read, and then the proof.
abbrev pub UpgradesFile : Outside → Option Names → Upgrading → Ending → Type 0
UpgradesFile o told u e = WithList u.calendars
    (λ calendars. WithProof told u.proof (λ p. Completes o calendars p u.to)) e

-- The same, where this happened outside.
abbrev pub Upgrades : (Outside → Type 0) → Option Names → Upgrading → Ending → Type 0
Upgrades happens told u e = (o : Outside) × happens o × UpgradesFile o told u e
