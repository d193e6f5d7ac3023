-- For the code: files that are submitted to calendars, and what comes of it.
use Rattle.std.specs.Prelude.{◌≡◌, ◌<◌, ◌≤◌, ℕ, List, [], ◌∷◌, length, map}
use Rattle.std.specs.Prelude.{Option, slice_index_or}
use Rattle.ots_address.specs.Address.{AddressParts}
use Rattle.ots_address.specs.AddressList.{IsListOf}
use Rattle.ots_arguments.specs.Values.{texts}
use Rattle.ots_asking.specs.Conversation.{Converse, ConverseUpTo}
use Rattle.ots_asking.specs.declared.outcome.Outcome.{Outcome}
use Rattle.ots_client_endings.specs.Ending.{Act, Ending, makes_stamp, prints}
use Rattle.ots_client_text.specs.Lines.{proof_name, wrote_text}
use Rattle.ots_client_text.specs.Refusal.{refusal_text}
use Rattle.ots_client_text.specs.declared.status.Status.TheVariants.{Done, TooFew}
use Rattle.ots_client_words.specs.Words.{Stamping}
use Rattle.ots_merkle.specs.CalendarTree.{root}
use Rattle.ots_outside.specs.Dialer.{DialerTold}
use Rattle.ots_outside.specs.Shelf.{Names}
use Rattle.ots_stamp.specs.Stamped.{GathersForm, IsSoundBelow, good_trees, leaves}
use Rattle.ots_stamp.specs.Stamping.{to_stamp}
use Rattle.ots_stamp.specs.Ways.{IsDepth}
use Rattle.ots_stamp.specs.declared.target.Target.{Target}
use Rattle.ots_stamping.specs.Hashing.{AreHashed}
use Rattle.ots_stamping.specs.Stamp.{calendars_text, stamp_acts}
use Rattle.ots_stamping.specs.declared.submission.Submission.{Submission}
use Rattle.ots_tree.specs.declared.token.Token.{Token}

-- The calendars of the list are to be asked for the files under these names.
pub record IsSubmissionOf (told : Option Names) (s : Stamping) (i : Submission) : Type 0 where
  pub is_list : IsListOf s.calendars i.calendars.items
  pub hashed : AreHashed told s.files i.digests.items
  pub files : texts i.files.items ≡ s.files
  pub least : i.least ≡ s.least

-- Of what calendars are asked for files with their nonces, some was asked in order, the last of it perhaps in part.
pub record Submits {D : Type 0} (told : D → DialerTold) (faults : D → ℕ) (s : Submission) (targets : List Target)
    (old new : D) : Type 0 where
  pub depth : ℕ
  pub depth_is : IsDepth (leaves targets) depth
  pub asks : ConverseUpTo told faults (map (to_stamp (root (leaves targets)) depth) s.calendars.items) old new

-- Files with their nonces were submitted to calendars, and it is told how few timestamped them, or each proof is made.
pub data EndsStamping (s : Submission) (targets : List Target) (outcomes : List Outcome) (e : Ending) : Type 0 where
  too_few : length (good_trees outcomes) < s.least
      → e ≡ record {
        status = TooFew (length (good_trees outcomes)) s.least;
        acts = prints (calendars_text s.calendars.items outcomes)
            ∷ prints (refusal_text [] (TooFew (length (good_trees outcomes)) s.least)) ∷ [];
      } → EndsStamping s targets outcomes e
  enough : s.least ≤ length (good_trees outcomes)
      → e ≡ record {
        status = Done;
        acts = prints (calendars_text s.calendars.items outcomes)
            ∷ stamp_acts targets (good_trees outcomes) 0 (texts s.files.items);
      } → EndsStamping s targets outcomes e

-- The same, where this came of asking the calendars.
pub record AnswersTo {D : Type 0} (told : D → DialerTold) (faults : D → ℕ) (s : Submission)
    (targets : List Target) (old new : D) (e : Ending) : Type 0 where
  pub depth : ℕ
  pub depth_is : IsDepth (leaves targets) depth
  pub outcomes : List Outcome
  pub conversed : Converse told faults (map (to_stamp (root (leaves targets)) depth) s.calendars.items) old new outcomes
  pub ends : EndsStamping s targets outcomes e

-- ---- files whose proofs are made

-- files whose proofs are to be made, and what came of asking each calendar
pub record StampedFiles : Type 0 where
  pub calendars : List AddressParts
  pub outcomes : List Outcome
  pub files : List (List ℕ)
  pub targets : List Target

-- What is kept of files that calendars timestamped: one canonical tree has the paths of all good answers, and is sound
-- below the root.
pub record KeepsStamped (files : List (List ℕ)) (targets : List Target) (outcomes : List Outcome)
    (form : List Token) : Type 0 where
  pub count : length files ≡ length targets
  pub sound : IsSoundBelow targets form
  pub gathers : GathersForm (good_trees outcomes) form

-- the proof of each file is made, and told
abbrev pub acts_of_stamped : StampedFiles → List Act
acts_of_stamped s = stamp_acts s.targets (good_trees s.outcomes) 0 s.files

-- the name of one of the files, and what is done for it
abbrev pub name_at : StampedFiles → ℕ → List ℕ
name_at s i = slice_index_or s.files i []

abbrev pub acts_at : StampedFiles → ℕ → List Act
acts_at s i = makes_stamp s.targets (good_trees s.outcomes) i (proof_name (name_at s i))
    ∷ prints (wrote_text (name_at s i)) ∷ []
