-- Drafts: proofs that wait to be sent to calendars by hand, and what calendars' answers make of them. Source: this
-- project's profile. A pending attestation (python-opentimestamps, opentimestamps/core/notary.py) names a URI; one that
-- waits names `post:` and the calendar to which the message is to be posted (opentimestamps/calendar.py,
-- RemoteCalendar.submit).
use Rattle.std.specs.Prelude.{◌≡◌, ◌<◌, ◌≤◌, ℕ, List, ◌++◌, length, map, Option, None, Some, codes}
use Rattle.std.specs.List.{AllByRecursion, flat_map}
use Rattle.ots_attest.specs.declared.attestation.Attestation.TheVariants.{Pending}
use Rattle.ots_calendar_url.specs.declared.url.Scheme.{Scheme}
use Rattle.ots_calendar_url.specs.CalendarUrl.{IsUrl}
use Rattle.ots_canon.specs.Canonical.{IsCanonTree}
use Rattle.ots_ops.specs.Value.{value}
use Rattle.ots_ops.specs.declared.hash_op.HashOp.TheVariants as hash
use Rattle.ots_ops.specs.declared.op.Op.{Op}
use Rattle.ots_stamp.specs.Ways.{way_from}
use Rattle.ots_stamp.specs.declared.target.Target.{Target}
use Rattle.ots_tree.specs.Made.{after}
use Rattle.ots_tree.specs.Wire.{Node, Path, paths, pre, spelled}
use Rattle.ots_tree.specs.declared.detached.Detached.{Detached}
use Rattle.ots_tree.specs.declared.token.Token.{Token}

-- the URI that waits to be sent to this URL
abbrev pub post_uri : List ℕ → List ℕ
post_uri address = codes "post:" ++ address

-- The URI waits to be sent to this address, which is a calendar's URL.
pub record IsPost (uri address : List ℕ) : Type 0 where
  pub is : uri ≡ post_uri address
  pub scheme : Scheme
  pub url : IsUrl address scheme

-- A path has these operations, and waits at their end.
pub record Waits (ops : List Op) (p : Path) : Type 0 where
  pub same : p.ops ≡ ops
  pub uri : List ℕ
  pub pending : p.end ≡ Pending uri
  pub address : List ℕ
  pub post : IsPost uri address

-- A proof is a draft by these operations: each of its paths has them and waits at their end. So one message is sent to
-- all calendars, and it has 32 bytes.
pub record IsDraft (proof : Detached) (ops : List Op) : Type 0 where
  pub node : Node
  pub are : pre node ≡ proof.tree
  pub wait : AllByRecursion (Waits ops) (paths node)
  pub message : List ℕ
  pub reached : value ops proof.digest ≡ Some message
  pub hash_long : length message ≡ 32

-- Each of these is a calendar's URL.
abbrev pub AreAddresses : List (List ℕ) → Type 0
AreAddresses addresses = AllByRecursion (λ address. (scheme : Scheme) × IsUrl address scheme) addresses

-- a path for each of these addresses, which waits after the operations
abbrev pub waiting : List Op → List (List ℕ) → List Path
waiting ops addresses = map (λ address. record { ops = ops; end = Pending (post_uri address) }) addresses

-- The draft of a file whose leaf is at this place among others: in canonical form, with a path for each address.
pub record IsDraftOf (leaves : List (List ℕ)) (i : ℕ) (t : Target) (addresses : List (List ℕ))
    (proof : Detached) : Type 0 where
  pub hash : proof.hash ≡ hash.Sha256
  pub digest : proof.digest ≡ t.digest
  pub form : IsCanonTree (waiting (way_from leaves i t.nonce) addresses) proof.tree

-- What calendars' trees make of a draft: in canonical form, its paths are those of every tree, each after the draft's
-- operations.
pub record IsTaken (proof : Detached) (ops : List Op) (trees : List (List Token)) (made : Detached) : Type 0 where
  pub hash : made.hash ≡ proof.hash
  pub digest : made.digest ≡ proof.digest
  pub nodes : List Node
  pub are : map pre nodes ≡ trees
  pub form : IsCanonTree (map (after ops) (flat_map paths nodes)) made.tree

-- A proof is told where its tree is spelled in at most so many bytes, and none where it is spelled in more.
abbrev pub IsToldWithin : ℕ → Detached → Option Detached → Type 0
IsToldWithin most made None = most < length (spelled made.tree)
IsToldWithin most made (Some told) = (length (spelled made.tree) ≤ most) × (told ≡ made)

-- Trees make a proof of the draft, and it is told where it is not too long.
pub record IsTakenWithin (proof : Detached) (ops : List Op) (trees : List (List Token)) (most : ℕ)
    (result : Option Detached) : Type 0 where
  pub made : Detached
  pub taken : IsTaken proof ops trees made
  pub told : IsToldWithin most made result
