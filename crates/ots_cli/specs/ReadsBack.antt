-- What is written reads back: under the output of a command that did its work stands a proof file, that of the
-- command's result.
use Rattle.std.specs.Prelude.{◌≡◌, ◌≤◌, ℕ, List, length, slice_get, Option, Some, None}
use Rattle.std.specs.FinMap as map
use Rattle.ots_address.specs.Address.{AddressParts}
use Rattle.ots_address.specs.AddressList.{IsListOf}
use Rattle.ots_canon.specs.Join.{IsMergeOf}
use Rattle.ots_client_endings.specs.Ending.{IsStampAt}
use Rattle.ots_client_endings.specs.Outside.{Outside}
use Rattle.ots_client_text.specs.Lines.{proof_name}
use Rattle.ots_client_words.specs.Words.{ClientCommand, Stamping, info, canon, merge, prune, verify, stamp, upgrade}
use Rattle.ots_client_words.specs.Words.{sample, chain}
use Rattle.ots_completing.specs.Complete.{IsResult}
use Rattle.ots_detached.specs.File.{IsFileOf}
use Rattle.ots_inputs.specs.Under.{HasUnder}
use Rattle.ots_outside.specs.Shelf.{Names}
use Rattle.ots_rewriting.specs.Rewritten.{IsRewritten}
use Rattle.ots_rewriting.specs.declared.rewriting.Rewriting.TheVariants.{Canon, Prune}
use Rattle.ots_stamp.specs.Stamped.{good_trees}
use Rattle.ots_stamp.specs.declared.target.Target.{Target}
use Rattle.ots_stamping.specs.Hashing.{AreHashed}
use Rattle.ots_stamping.specs.Stamp.{AreStampTargets}
use Rattle.ots_tree.specs.declared.detached.Detached.{Detached}

-- the names that a command writes
abbrev pub IsOutput : ClientCommand → List ℕ → Type 0
IsOutput (info proof) name = ⊥
IsOutput (canon from to) name = to ≡ name
IsOutput (merge first second to) name = to ≡ name
IsOutput (prune from to) name = to ≡ name
IsOutput (verify v) name = ⊥
IsOutput (stamp s) name = (i : ℕ) × (file : List ℕ) × (slice_get s.files i ≡ Some file) × (proof_name file ≡ name)
IsOutput (upgrade u) name = u.to ≡ name
IsOutput (sample n) name = ⊥
IsOutput (chain c) name = ⊥

abbrev pub IsOutputAsked : Option ClientCommand → List ℕ → Type 0
IsOutputAsked None name = ⊥
IsOutputAsked (Some c) name = IsOutput c name

-- Under a name the proof of a stamped file is made, where calendars answered so.
pub record IsStampedFile (o : Outside) (names : Names) (s : Stamping) (name : List ℕ) (r : Detached) : Type 0 where
  pub calendars : List AddressParts
  pub is_list : IsListOf s.calendars calendars
  pub digests : List (List ℕ)
  pub hashed : AreHashed (Some names) s.files digests
  pub targets : List Target
  pub asked : AreStampTargets o calendars digests targets
  pub enough : s.least ≤ length (good_trees o.outcomes)
  pub i : ℕ
  pub file : List ℕ
  pub is_file : slice_get s.files i ≡ Some file
  pub is_name : proof_name file ≡ name
  pub is_stamp : IsStampAt targets (good_trees o.outcomes) i r

-- what a command makes of the files under the names that it reads, under this name
abbrev pub IsResultOf : (Outside → Type 0) → Names → ClientCommand → List ℕ → Detached → Type 0
IsResultOf happens names (info proof) name r = ⊥
IsResultOf happens names (canon from to) name r = HasUnder (Some names) from (λ bytes. (p : Detached) × IsFileOf bytes p
    × IsRewritten Canon p r)
IsResultOf happens names (merge first second to) name r = HasUnder (Some names) first (λ b. (p : Detached)
    × IsFileOf b p × HasUnder (Some names) second (λ c. (q : Detached) × IsFileOf c q × IsMergeOf p q r))
IsResultOf happens names (prune from to) name r = HasUnder (Some names) from (λ bytes. (p : Detached) × IsFileOf bytes p
    × IsRewritten Prune p r)
IsResultOf happens names (verify v) name r = ⊥
IsResultOf happens names (sample n) name r = ⊥
IsResultOf happens names (chain c) name r = ⊥
IsResultOf happens names (stamp s) name r = (o : Outside) × happens o × IsStampedFile o names s name r
IsResultOf happens names (upgrade u) name r = IsResult happens (Some names) u r

-- Under the name of an output is a proof file, that of the result.
abbrev pub ReadsBack : (Outside → Type 0) → Names → ClientCommand → List ℕ → Option Names → Type 0
ReadsBack happens names c to new = (after : Names) × (new ≡ Some after) × (bytes : List ℕ)
    × (map.get after to ≡ Some bytes) × (r : Detached) × IsFileOf bytes r × IsResultOf happens names c to r
