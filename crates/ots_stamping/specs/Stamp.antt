-- What `stamp` does: files are hashed, each with a nonce of its own, calendars are asked to timestamp the root over all
-- of them, and each file's proof is made. Source: the client of the reference library (opentimestamps-client,
-- otsclient/cmds.py, stamp_command and create_timestamp).
use Rattle.std.specs.Prelude.{◌≡◌, ◌<◌, ◌≤◌, ℕ, List, [], ◌∷◌, length, map, suc, zip}
use Rattle.std.specs.Prelude.{Option, Some, None}
use Rattle.std.specs.List.{flat_map}
use Rattle.ots_address.specs.Address.{AddressParts}
use Rattle.ots_asking.specs.declared.outcome.Outcome.{Outcome}
use Rattle.ots_client_endings.specs.Ending.{Act, Ending, makes_stamp, prints, refused}
use Rattle.ots_client_endings.specs.Outside.{Outside}
use Rattle.ots_client_endings.specs.Reading.{WithList}
use Rattle.ots_client_inputs.specs.Inputs.{Input, calendars_of, target_under}
use Rattle.ots_client_text.specs.Lines.{proof_name, wrote_text}
use Rattle.ots_client_text.specs.Refusal.{refusal_text}
use Rattle.ots_client_text.specs.declared.status.Status.TheVariants.{Done, NonceFault, TooFew}
use Rattle.ots_client_words.specs.Words.{Stamping}
use Rattle.ots_lines.specs.Lines.{calendar_line}
use Rattle.ots_merkle.specs.CalendarTree.{root}
use Rattle.ots_outside.specs.Shelf.{Names}
use Rattle.ots_stamp.specs.Stamped.{good_trees, leaves}
use Rattle.ots_stamp.specs.Stamping.{to_stamp}
use Rattle.ots_stamp.specs.Ways.{IsDepth}
use Rattle.ots_stamp.specs.declared.target.Target.{Target}
use Rattle.ots_stamping.specs.Hashing.{WithHashes}
use Rattle.ots_tree.specs.declared.token.Token.{Token}

-- what is read, in order
abbrev pub inputs_stamped : Stamping → List Input
inputs_stamped s = calendars_of s.calendars ∷ map target_under s.files

-- ---- what is asked

-- Each of these files has its digest and the nonce that was drawn for it, and each calendar was sent the root over
-- them.
pub record AreStampTargets (o : Outside) (calendars : List AddressParts) (digests : List (List ℕ))
    (targets : List Target) : Type 0 where
  pub digests_are : map (λ t. t.digest) targets ≡ digests
  pub nonces_are : o.nonces ≡ Some (map (λ t. t.nonce) targets)
  pub depth : ℕ
  pub depth_is : IsDepth (leaves targets) depth
  pub questions_are : o.questions ≡ map (to_stamp (root (leaves targets)) depth) calendars

-- ---- what comes of it

-- a line for each calendar
abbrev pub calendars_text : List AddressParts → List Outcome → List ℕ
calendars_text calendars outcomes = flat_map calendar_line (zip calendars outcomes)

-- the proof of each file is made in order, from the i-th on, and that is told
abbrev pub stamp_acts : List Target → List (List Token) → ℕ → List (List ℕ) → List Act
stamp_acts targets trees i [] = []
stamp_acts targets trees i (name ∷ names) =
    makes_stamp targets trees i (proof_name name) ∷ prints (wrote_text name)
    ∷ stamp_acts targets trees (suc i) names

-- No nonce could be drawn, and that is told before any calendar is asked. Or what came of each calendar is printed.
-- Then it is told that too few of them timestamped the files, or each file's proof is made.
pub data Stamps (o : Outside) (least : ℕ) (files : List (List ℕ)) (calendars : List AddressParts)
    (digests : List (List ℕ)) (e : Ending) : Type 0 where
  no_nonce : o.nonces ≡ None → o.questions ≡ [] → e ≡ refused [] NonceFault
      → Stamps o least files calendars digests e
  too_few : (targets : List Target) → AreStampTargets o calendars digests targets
      → length (good_trees o.outcomes) < least
      → e ≡ record {
        status = TooFew (length (good_trees o.outcomes)) least;
        acts = prints (calendars_text calendars o.outcomes) ∷ prints
            (refusal_text [] (TooFew (length (good_trees o.outcomes)) least)) ∷ [];
      } → Stamps o least files calendars digests e
  stamped : (targets : List Target) → AreStampTargets o calendars digests targets
      → least ≤ length (good_trees o.outcomes)
      → e ≡ record {
        status = Done;
        acts = prints (calendars_text calendars o.outcomes) ∷ stamp_acts targets (good_trees o.outcomes) 0 files;
      } → Stamps o least files calendars digests e

-- The list of calendars is read, and then the files are hashed.
abbrev pub StampsFiles : Outside → Option Names → Stamping → Ending → Type 0
StampsFiles o told s e = WithList s.calendars (λ calendars. WithHashes told s.files
    (Stamps o s.least s.files calendars)) e

-- The same, where this happened outside.
abbrev pub StampsFilesAs : (Outside → Type 0) → Option Names → Stamping → Ending → Type 0
StampsFilesAs happens told s e = (o : Outside) × happens o × StampsFiles o told s e
