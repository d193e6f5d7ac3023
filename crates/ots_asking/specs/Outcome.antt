-- What came of asking a calendar, by the bytes of its reply. Source: the client's table of this project's HTTP profile;
-- a body is good where a tree is all of it (python-opentimestamps, opentimestamps/calendar.py: RemoteCalendar.submit).
use Rattle.std.specs.Prelude.{◌≡◌, ◌<◌, ◌↔◌, ℕ, List, length, Option, None, Some, Result, Err}
use Rattle.std.specs.List.{AllByRecursion}
use Rattle.ots_asking.specs.declared.outcome.Outcome.{Outcome}
use Rattle.ots_asking.specs.declared.outcome.Outcome.TheVariants.{Tree, Unreachable, Status, TooLong, BadHttp}
use Rattle.ots_asking.specs.declared.outcome.Outcome.TheVariants.{BadReply}
use Rattle.ots_http.specs.ReplyTable.{IsOutcome, good, status, too_long, bad_http}
use Rattle.ots_http.specs.declared.reply.HttpReply.{HttpReply}
use Rattle.ots_http.specs.declared.reply.ReplyError.{ReplyError}
use Rattle.ots_http.specs.declared.reply.ReplyError.TheVariants.{LinkFault}
use Rattle.ots_reader.specs.declared.fault.Fault.{Fault}
use Rattle.ots_reader.specs.declared.fault.Reason.TheVariants.{TrailingBytes}
use Rattle.ots_reader.specs.TreeFault.{HasTreeFault}
use Rattle.ots_reader.specs.TreeRead.{IsTreeAt}
use Rattle.ots_tree.specs.declared.token.Token.{Token}
use Rattle.ots_tree.specs.declared.tree.Tree.{Tree as AnyTree}
use Rattle.ots_tree.specs.Sound.{IsSoundPre}

-- Below a message of n bytes and k operations a body is no tree: it has this fault, or bytes follow the tree.
pub data HasBodyFault (n k : ℕ) (body : List ℕ) (f : Fault) : Type 0 where
  no_tree : HasTreeFault n k body f → HasBodyFault n k body f
  more : (tree : AnyTree) (used : ℕ) → IsTreeAt n k body tree used → used < length body
      → f ≡ record { place = used; reason = TrailingBytes }
      → HasBodyFault n k body f

-- The outcome of a good reply with this body, asked for below a message of n bytes and k operations: the whole of it is
-- the tree, or it has the fault.
abbrev pub IsOutcomeOfBody : ℕ → ℕ → List ℕ → Outcome → Type 0
IsOutcomeOfBody n k body (Tree t) = IsTreeAt n k body t (length body)
IsOutcomeOfBody n k body (BadReply f) = HasBodyFault n k body f
IsOutcomeOfBody n k body Unreachable = ⊥
IsOutcomeOfBody n k body (Status code) = ⊥
IsOutcomeOfBody n k body TooLong = ⊥
IsOutcomeOfBody n k body BadHttp = ⊥

-- The outcome of a reply, asked for below a message of n bytes and k operations. That the conversation failed may come
-- in its place.
abbrev pub IsOutcomeOf : ℕ → ℕ → List ℕ → Outcome → Type 0
IsOutcomeOf n k reply (Tree t) = (body : List ℕ) × IsOutcome reply (good body) × IsOutcomeOfBody n k body (Tree t)
IsOutcomeOf n k reply (BadReply f) = (body : List ℕ) × IsOutcome reply (good body)
    × IsOutcomeOfBody n k body (BadReply f)
IsOutcomeOf n k reply (Status code) = IsOutcome reply (status code)
IsOutcomeOf n k reply TooLong = IsOutcome reply too_long
IsOutcomeOf n k reply BadHttp = IsOutcome reply bad_http
IsOutcomeOf n k reply Unreachable = Unit {0}

-- It is unreachable exactly where the link failed.
abbrev pub IsUnreachableAs : Result HttpReply ReplyError → Outcome → Type 0
IsUnreachableAs read outcome = (outcome ≡ Unreachable) ↔ (read ≡ Err LinkFault)

-- A tree is sound below a message of n bytes and k operations.
abbrev pub IsSoundOutcome : ℕ → ℕ → Outcome → Type 0
IsSoundOutcome n k (Tree t) = IsSoundPre n k t
IsSoundOutcome n k (BadReply f) = Unit {0}
IsSoundOutcome n k (Status code) = Unit {0}
IsSoundOutcome n k TooLong = Unit {0}
IsSoundOutcome n k BadHttp = Unit {0}
IsSoundOutcome n k Unreachable = Unit {0}

abbrev pub AreSound : ℕ → ℕ → List Outcome → Type 0
AreSound n k outcomes = AllByRecursion (IsSoundOutcome n k) outcomes

-- Where trees are gathered in one, that is sound there.
abbrev pub IsSoundGathered : ℕ → ℕ → Option (List Token) → Type 0
IsSoundGathered n k None = Unit {0}
IsSoundGathered n k (Some t) = IsSoundPre n k t
