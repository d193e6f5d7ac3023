-- What is answered by some records is answered by more.
use Rattle.std.proofs.Common.{◌≡◌, ℕ, List}
use Rattle.std.proofs.Math.Logic.{∥∥₁_map}
use Rattle.std.specs.Prelude.{Option, None, Some}
use Rattle.ots_http.specs.declared.request.Request.{Request}
use Rattle.ots_http.specs.declared.request.Request.TheVariants.{Digest, Timestamp, Records, Refused}
use Rattle.ots_outside.specs.Link.{LinkTold}
use Rattle.ots_store.specs.Records.{Record}
use Rattle.ots_shared.proofs.Begins.{starts_trans}
use Rattle.ots_shared.specs.Records.{StartsWith}
use Rattle.ots_connection.specs.Answered.{IsAnswered, IsAnsweredBy, IsAnsweredWithin, IsDigestReply, IsDueFor, IsReplyTo, no_nonce, late, busy, disk, full, stamped}
use Rattle.ots_connection.specs.declared.due.Due.{Due}

module _ (P Q : List Record → Type 0) (wider : (records : List Record) → P records → Q records) where
  digest : (leaf : List ℕ) (due : Due) → IsDigestReply P leaf due → IsDigestReply Q leaf due
  digest leaf due (no_nonce is) = no_nonce is
  digest leaf due (late is) = late is
  digest leaf due (busy is) = busy is
  digest leaf due (disk is) = disk is
  digest leaf due (full is) = full is
  digest leaf due (stamped records nonce uri tree receipt may stamps is) = stamped records nonce uri tree receipt (wider records may) stamps is

  due_for : (request : Request) (due : Due) → IsDueFor P request due → IsDueFor Q request due
  due_for (Digest leaf) due d = digest leaf due d
  due_for (Timestamp commitment) due d = (d.0, wider d.0 d.1, d.2)
  due_for (Records number) due d = (d.0, wider d.0 d.1, d.2)
  due_for (Refused status) due d = d

  reply : (input bytes : List ℕ) → IsReplyTo P input bytes → IsReplyTo Q input bytes
  reply input bytes r = record { request = r.request; asks = r.asks; due = r.due; is_due = due_for r.request r.due r.is_due; whole = r.whole }

  pub by_more : (told : Option LinkTold) (faults : ℕ) → IsAnsweredBy P told faults → IsAnsweredBy Q told faults
  by_more None faults a = tt
  by_more (Some link) faults a = λ none some. ∥∥₁_map (a none some) (reply _ _)

pub within_more : (more records : List Record) → StartsWith more records → (told : Option LinkTold) (faults : ℕ) → IsAnsweredWithin records told faults → IsAnsweredWithin more told faults
within_more more records starts = by_more (StartsWith records) (StartsWith more) (λ seen begins. starts_trans seen records more begins starts)

pub by_any : (records : List Record) (told : Option LinkTold) (faults : ℕ) → IsAnsweredWithin records told faults → IsAnswered told faults
by_any records = by_more (StartsWith records) _ (λ seen begins. tt)
