-- A proof that calendars are asked to complete (opentimestamps-client, otsclient/cmds.py, upgrade_timestamp: for each
-- pending attestation its calendar is asked for the message that it stands on, and what is answered is merged there).
use Rattle.std.specs.Prelude.{◌≡◌, ◌≤◌, ◌<◌, ℕ, List, [], ◌∷◌, map, length, find, Option, None, Some, IfSome}
use Rattle.std.specs.Prelude.{is_some, bytes_eq}
use Rattle.std.specs.List.{filter_map}
use Rattle.std.specs.Option.{option_map}
use Rattle.ots_address.specs.Address.{AddressParts}
use Rattle.ots_asking.specs.Conversation.{Converse, ConverseUpTo, Question}
use Rattle.ots_asking.specs.Outcome.{IsSoundOutcome}
use Rattle.ots_asking.specs.declared.outcome.Outcome.{Outcome}
use Rattle.ots_asking.specs.declared.outcome.Outcome.TheVariants as outcome
use Rattle.ots_http.specs.declared.asking.Asked.TheVariants.{Get}
use Rattle.ots_outside.specs.Dialer.{DialerTold}
use Rattle.ots_pending.specs.Completed.{IsCompleted}
use Rattle.ots_pending.specs.Pairs.{PairAt, ArePairs}
use Rattle.ots_tree.specs.declared.token.Token.{Token}
use Rattle.ots_tree.specs.declared.detached.Detached.{Detached}
use Rattle.ots_tree.specs.Wire.{spelled}
use Rattle.ots_upgrade.specs.declared.asking.AskedAt.{AskedAt}
use Rattle.ots_upgrade.specs.declared.upgrading.Upgraded.{Upgraded}
use Rattle.ots_upgrade.specs.declared.upgrading.UpgradedWithin.{UpgradedWithin}

-- ---- what is asked

-- the first address whose text is exactly this
abbrev pub address_of : List AddressParts → List ℕ → Option AddressParts
address_of calendars uri = find (λ a. bytes_eq a.text uri) calendars

-- A calendar is asked for the timestamp of a message. Its answer is to stand below the message, and `depth` operations.
abbrev pub to_get : List ℕ → ℕ → AddressParts → Question
to_get message depth address = record { address = address; asked = Get message; length = length message; depth = depth }

-- What is asked for a pair: its message, where an address has the URI as its text. The answer is to stand below as many
-- operations as are before the pair where it stands deepest.
abbrev pub question_for : List AddressParts → PairAt → Option Question
question_for calendars p = option_map (to_get p.pair.message p.depth) (address_of calendars p.pair.uri)

-- what is asked for these pairs, in order
abbrev pub questions : List AddressParts → List PairAt → List Question
questions calendars pairs = filter_map (question_for calendars) pairs

-- ---- what comes of it

-- the outcomes of the conversations that were had, in order
abbrev pub outcomes : List AskedAt → List Outcome
outcomes asked = filter_map (λ a. a.outcome) asked

-- the tree that was answered, if one was
abbrev pub tree_of : Option Outcome → Option (List Token)
tree_of None = None
tree_of (Some (outcome.Tree tree)) = Some tree
tree_of (Some outcome.Unreachable) = None
tree_of (Some (outcome.Status code)) = None
tree_of (Some outcome.TooLong) = None
tree_of (Some outcome.BadHttp) = None
tree_of (Some (outcome.BadReply fault)) = None

-- for each pair the tree that was answered for it, if one was
abbrev pub trees_of : List AskedAt → List (Option (List Token))
trees_of asked = map (λ a. tree_of a.outcome) asked

-- A pair, and what came of asking for it: something exactly where an address has its URI as text. A tree is sound for
-- its message after as many operations as are before the pair where it stands deepest.
pub record IsAskedPair (calendars : List AddressParts) (p : PairAt) (a : AskedAt) : Type 0 where
  pub uri : a.uri ≡ p.pair.uri
  pub message : a.message ≡ p.pair.message
  pub which : is_some a.outcome ≡ is_some (question_for calendars p)
  pub sound : IfSome a.outcome (IsSoundOutcome (length p.pair.message) p.depth)

-- these pairs in order, each with what came of asking for it
abbrev pub AreAskedPairs : List AddressParts → List PairAt → List AskedAt → Type 0
AreAskedPairs calendars [] [] = Unit {0}
AreAskedPairs calendars [] (a ∷ asked) = ⊥
AreAskedPairs calendars (p ∷ pairs) [] = ⊥
AreAskedPairs calendars (p ∷ pairs) (a ∷ asked) = IsAskedPair calendars p a × AreAskedPairs calendars pairs asked

-- These pairs were asked for in order, each of them once, and each conversation has its outcome. A pair whose URI no
-- address has begins none.
pub record AsksFor {D : Type 0} (told : D → DialerTold) (faults : D → ℕ) (calendars : List AddressParts)
    (pairs : List PairAt) (old new : D) (asked : List AskedAt) : Type 0 where
  pub are : AreAskedPairs calendars pairs asked
  pub conversed : Converse told faults (questions calendars pairs) old new (outcomes asked)

-- A proof was upgraded: the pairs of its pending paths were asked for, and it is completed by the trees that were
-- answered.
pub record UpgradesProof {D : Type 0} (told : D → DialerTold) (faults : D → ℕ) (calendars : List AddressParts)
    (proof : Detached) (old new : D) (upgraded : Upgraded) : Type 0 where
  pub pairs : List PairAt
  pub are : ArePairs proof pairs
  pub asks : AsksFor told faults calendars pairs old new upgraded.asked
  pub hash : upgraded.proof.hash ≡ proof.hash
  pub digest : upgraded.proof.digest ≡ proof.digest
  pub tree : IsCompleted proof pairs (trees_of upgraded.asked) upgraded.proof.tree

-- A proof is told where its tree is spelled in at most so many bytes, and none where it has more.
abbrev pub IsProofWithin : ℕ → Detached → Option Detached → Type 0
IsProofWithin most made None = most < length (spelled made.tree)
IsProofWithin most made (Some proof) = (length (spelled made.tree) ≤ most) × (proof ≡ made)

-- A proof was upgraded, and what it became is told where its tree is spelled in at most so many bytes.
pub record UpgradesWithin {D : Type 0} (told : D → DialerTold) (faults : D → ℕ) (calendars : List AddressParts)
    (proof : Detached) (most : ℕ) (old new : D) (within : UpgradedWithin) : Type 0 where
  pub upgraded : Upgraded
  pub upgrades : UpgradesProof told faults calendars proof old new upgraded
  pub asked : within.asked ≡ upgraded.asked
  pub told_within : IsProofWithin most upgraded.proof within.proof

-- Memory ran out: some of what is asked for the pairs of a proof's pending paths was asked in order, the last of it
-- perhaps in part.
pub record UpgradesUpTo {D : Type 0} (told : D → DialerTold) (faults : D → ℕ) (calendars : List AddressParts)
    (proof : Detached) (old new : D) : Type 0 where
  pub pairs : List PairAt
  pub are : ArePairs proof pairs
  pub conversed : ConverseUpTo told faults (questions calendars pairs) old new

-- ---- for the code

-- A proof of the same digest has a completed tree, and is told where this is spelled in at most so many bytes.
pub record CompletesWithin (proof : Detached) (pairs : List PairAt) (trees : List (Option (List Token))) (most : ℕ)
    (result : Option Detached) : Type 0 where
  pub made : Detached
  pub hash : made.hash ≡ proof.hash
  pub digest : made.digest ≡ proof.digest
  pub tree : IsCompleted proof pairs trees made.tree
  pub told : IsProofWithin most made result

-- the proof with another tree, if there is one
abbrev pub HasTree : Detached → Option (List Token) → Option Detached → Type 0
HasTree proof None None = Unit {0}
HasTree proof None (Some made) = ⊥
HasTree proof (Some tree) None = ⊥
HasTree proof (Some tree) (Some made) = (made.hash ≡ proof.hash) × (made.digest ≡ proof.digest) × (made.tree ≡ tree)

-- What came of a question, where there is one.
abbrev pub AsksIf : {D : Type 0} → (D → DialerTold) → (D → ℕ) → Option Question → D → D → Option Outcome → Type 0
AsksIf told faults None old new None = new ≡ old
AsksIf told faults None old new (Some outcome) = ⊥
AsksIf told faults (Some q) old new None = ⊥
AsksIf told faults (Some q) old new (Some outcome) =
    Converse told faults (q ∷ []) old new (outcome ∷ []) × IsSoundOutcome q.length q.depth outcome

-- Some of it was asked.
abbrev pub AsksUpTo : {D : Type 0} → (D → DialerTold) → (D → ℕ) → Option Question → D → D → Type 0
AsksUpTo told faults None old new = ConverseUpTo told faults [] old new
AsksUpTo told faults (Some q) old new = ConverseUpTo told faults (q ∷ []) old new
