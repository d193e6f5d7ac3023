-- A link that was served is answered.
use Rattle.std.proofs.Common.{◌≡◌, ℕ, true, List, [], ◌++◌, sym, ap, subst, ◌∙◌, arith}
use Rattle.std.specs.Prelude.{Option, None, Some, Result, Ok, Err}
use Rattle.ots_base.specs.declared.out_of_memory.OutOfMemory.{OutOfMemory}
use Rattle.ots_http.specs.RequestRead.{IsRequestAnswer}
use Rattle.ots_http.specs.declared.request.Request.{Request}
use Rattle.ots_http.specs.declared.request.Request.TheVariants.{Digest, Timestamp, Records, Refused}
use Rattle.ots_http.specs.ReplyText.{reply_bytes}
use Rattle.ots_http.specs.RequestTable.{IsRequest}
use Rattle.ots_http.specs.declared.request.RequestError.{RequestError}
use Rattle.ots_http.specs.declared.request.RequestError.TheVariants as unread
use Rattle.ots_outside.specs.Link.{LinkTold, IsFresh, whole_input}
use Rattle.ots_shared.specs.Records.{StartsWith}
use Rattle.ots_shared.specs.Told.{PassTold}
use Rattle.ots_shared.specs.declared.row.Row.{Row}
use Rattle.ots_shared.proofs.Begins.{starts_self}
use Rattle.ots_store.specs.Records.{Record}
use Rattle.ots_connection.specs.Answered as reply
use Rattle.ots_connection.specs.Answered.{IsAnsweredWithin, IsDigestReply, IsDueFor, IsReplyTo, is_answer}
use Rattle.ots_connection.specs.Connection.{Seen, Serves, Ends, EndsWith, Handles, Does}
use Rattle.ots_http.specs.Seen.{LinkSeen, Took, Takes}
use Rattle.ots_connection.specs.Sending.{Sends, whole, cut}
use Rattle.ots_connection.specs.Stamping as stamping
use Rattle.ots_connection.specs.Stamping.{SourcesTold, Settles, PutsNone, PutsAndSettles, Comes, ComesOf}
use Rattle.ots_connection.specs.declared.due.Due.{Due}
use Rattle.ots_connection.specs.declared.served.Served.{Served}

-- ---- what was due may be due

module _ (leaf key uri : List ℕ) (limit : ℕ) (seen : List Record) (due : Due) where
  settled : (nonce : List ℕ) (second : ℕ) (row : Row) → Settles leaf nonce key uri second limit seen row (Ok due) → IsDigestReply (StartsWith seen) leaf due
  settled nonce second row (stamping.stamped tree receipt stamps within is) = reply.stamped seen nonce uri tree receipt (starts_self seen) stamps cc
  settled nonce second row (stamping.disk rose one is) = reply.disk cc
  settled nonce second row (stamping.full full one is) = reply.full cc
  settled nonce second row (stamping.no_memory gone why is) = absurd cc

  put_none : (row : Row) → PutsNone row (Ok due) → IsDigestReply (StartsWith seen) leaf due
  put_none row (stamping.busy nothing busy) = let is = busy.1 in reply.busy cc
  put_none row (stamping.no_memory nothing few why is) = absurd cc

  put_settled : (nonce : List ℕ) (second : ℕ) (row : Row) → PutsAndSettles leaf nonce key uri second limit seen row (Ok due) → IsDigestReply (StartsWith seen) leaf due
  put_settled nonce second row (stamping.none none) = put_none row none
  put_settled nonce second row (stamping.put few fewer settles) = settled nonce second _ settles

  come : (nonce : List ℕ) (second : ℕ) (rows : List Row) → Comes leaf nonce key uri second limit seen rows (Ok due) → IsDigestReply (StartsWith seen) leaf due
  come nonce second rows (stamping.late late none is) = reply.late cc
  come nonce second rows (stamping.none row early one none) = put_none row none
  come nonce second rows (stamping.put row next early two puts fewer settles) = settled nonce second next settles
  come nonce second rows (stamping.again row next last early three puts nothing settles) = put_settled nonce second last settles

  comes_of : (nonce : Option (List ℕ)) (second : ℕ) (rows : List Row) → ComesOf nonce leaf key uri second limit seen rows (Ok due) → IsDigestReply (StartsWith seen) leaf due
  comes_of (Some nonce) second rows comes = come nonce second rows comes
  comes_of None second rows comes = let is = comes.1 in reply.no_nonce cc

done : (key uri : List ℕ) (limit : ℕ) (request : Request) (old new : SourcesTold) (seen : List Record) (rows : List Row) (due : Due) → Does key uri limit request old new seen rows (Ok due) → IsDueFor (StartsWith seen) request due
done key uri limit (Digest leaf) old new seen rows due does = comes_of leaf key uri limit seen due does.nonce does.second rows does.comes
done key uri limit (Timestamp commitment) old new seen rows due does = (seen, starts_self seen, does.2)
done key uri limit (Records number) old new seen rows due does = (seen, starts_self seen, does.2)
done key uri limit (Refused status) old new seen rows due does = let is = does.2 in cc

-- ---- the link

fresh_input : (old new : LinkTold) (bytes : List ℕ) → old.given ≡ [] → Took bytes old new → whole_input new ≡ old.left
fresh_input old new bytes none t = t.input ∙ ap (λ (l : List ℕ). l ++ old.left) none

module _ (x y : LinkTold) (before now : ℕ) (result : Served) (given : x.given ≡ []) (taken : x.taken ≡ []) (none : before ≡ 0) where
  abbrev found : LinkSeen
  found = record { told = Some x; faults = before }

  abbrev left : LinkSeen
  left = record { told = Some y; faults = now }

  sent : (seen : List Record) (request : Request) (due : Due) → IsRequestAnswer x.left (Ok request) → IsDueFor (StartsWith seen) request due → Sends due found left result → IsAnsweredWithin seen (Some y) now
  sent seen request due reads is_due (whole is t) = λ no_fault some. ∣ record {
    request = request;
    asks = subst (λ (l : List ℕ). IsRequest l request) (sym (fresh_input x y _ given t)) reads.1;
    due = due;
    is_due = is_due;
    whole = t.taken ∙ ap (λ (l : List ℕ). l ++ reply_bytes due.reply) taken;
  } ∣₁
  sent seen request due reads is_due (cut n within is rose t) = λ no_fault some. absurd (omega arith)

  module _ (key uri : List ℕ) (limit : ℕ) (p q : PassTold) (s r : SourcesTold) (answers : is_answer result ≡ true) where
    ended : (request : Result Request RequestError) → IsRequestAnswer x.left request
        → Ends key uri limit request (record { pass = p; link = found; sources = s }) (record { pass = q; link = left; sources = r }) result → IsAnsweredWithin q.seen (Some y) now
    ended (Ok request) reads ends = replied ends.due ends.handles ends.ends where
      replied : (due : Result Due OutOfMemory) → Handles key uri limit request s r p q due → EndsWith due found left result → IsAnsweredWithin q.seen (Some y) now
      replied (Ok due) handles e = sent q.seen request due reads (done key uri limit request s r q.seen handles.rows due handles.does) e
      replied (Err e) handles none_written = absurd (let is = ap is_answer none_written.0 in cc)
    ended (Err unread.Closed) reads ends = λ no_fault some. absurd (some (fresh_input x y [] given ends.1.link ∙ reads))
    ended (Err unread.LinkFault) reads ends = λ no_fault some. absurd (let rose = ends.1 in omega arith)

-- ---- told before and after, or neither

some_bytes : (key uri : List ℕ) (limit : ℕ) (old new : Seen) (result : Served) (request : Result Request RequestError) → Ends key uri limit request old new result
    → (bytes : List ℕ) × Takes bytes old.link new.link
some_bytes key uri limit old new result (Ok request) ends = written ends.due ends.ends where
  written : (due : Result Due OutOfMemory) → EndsWith due old.link new.link result → (bytes : List ℕ) × Takes bytes old.link new.link
  written (Ok due) (whole is t) = (_, t)
  written (Ok due) (cut n within is rose t) = (_, t)
  written (Err e) none = (_, none.1)
some_bytes key uri limit old new result (Err unread.Closed) ends = (_, ends.1.link)
some_bytes key uri limit old new result (Err unread.LinkFault) ends = (_, ends.2.link)

pub serves_answered : (key uri : List ℕ) (limit : ℕ) (p q : PassTold) (s r : SourcesTold) (before now : ℕ) (result : Served) (o n : Option LinkTold)
    → Serves key uri limit (record { pass = p; link = record { told = o; faults = before }; sources = s }) (record { pass = q; link = record { told = n; faults = now }; sources = r }) result
    → IsFresh o before → is_answer result ≡ true → IsAnsweredWithin q.seen n now
serves_answered key uri limit p q s r before now result o None serves fresh answers = tt
serves_answered key uri limit p q s r before now result None (Some y) serves fresh answers = absurd (some_bytes key uri limit _ _ result serves.request serves.ends).1
serves_answered key uri limit p q s r before now result (Some x) (Some y) serves fresh answers =
    ended x y before now result fresh.given fresh.taken fresh.no_fault key uri limit p q s r answers serves.request serves.reads serves.ends
