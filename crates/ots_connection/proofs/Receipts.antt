-- Where the commitment of a receipt stands.
use Rattle.std.proofs.Common.{◌≡◌, ℕ, List, refl, ap, subst}
use Rattle.std.specs.Prelude.{Option, None, Some, Result, Ok, Err}
use Rattle.ots_base.specs.declared.out_of_memory.OutOfMemory.{OutOfMemory as NoMemory}
use Rattle.ots_calendar.specs.Answer.{answer}
use Rattle.ots_calendar.specs.declared.answer.Answer.{Answer}
use Rattle.ots_calendar.specs.declared.answer.Answer.TheVariants as told
use Rattle.ots_http.specs.declared.request.Request.{Request}
use Rattle.ots_http.specs.declared.request.Request.TheVariants.{Digest, Timestamp, Records, Refused}
use Rattle.ots_http.specs.declared.request.RequestError.{RequestError}
use Rattle.ots_http.specs.declared.request.RequestError.TheVariants as unread
use Rattle.ots_http.specs.declared.word.Word.{Word}
use Rattle.ots_http.specs.declared.word.Word.TheVariants.{Nonce, Clock, Busy, Disk, JournalFull}
use Rattle.ots_round.specs.declared.ticket.Receipt.{Receipt}
use Rattle.ots_shared.specs.Records.{StandsAt}
use Rattle.ots_shared.specs.declared.row.Row.{Row}
use Rattle.ots_store.specs.Page.{page_of}
use Rattle.ots_store.specs.Records.{Record}
use Rattle.ots_connection.specs.Connection.{Seen, Serves, Ends, EndsWith, Does, IfStamped}
use Rattle.ots_http.specs.ReplyText.{refusal}
use Rattle.ots_connection.specs.Replies.{in_words, answered, paged, stamp}
use Rattle.ots_connection.specs.Sending.{whole, cut}
use Rattle.ots_connection.specs.Stamping as stamping
use Rattle.ots_connection.specs.Stamping.{SourcesTold, Settles, PutsNone, PutsAndSettles, Comes, ComesOf}
use Rattle.ots_connection.specs.declared.due.Due.{Due}
use Rattle.ots_connection.specs.declared.served.Served.{Served}
use Rattle.ots_connection.specs.declared.served.Served.TheVariants as served

module _ (receipt : Receipt) (d : Due) (is : served.Stamped receipt ≡ d.served) where
  not_words : (word : Word) (due : Result Due NoMemory) → due ≡ Ok d → due ≡ Ok (in_words word) → ⊥
  not_words word due one other = let e : d ≡ in_words word = cc in let f = ap (λ (x : Due). x.served) e in cc

  not_answered : (a : Answer) → d ≡ answered a → ⊥
  not_answered (told.Complete tree) e = let f = ap (λ (x : Due). x.served) e in cc
  not_answered told.Pending e = let f = ap (λ (x : Due). x.served) e in cc
  not_answered told.Unknown e = let f = ap (λ (x : Due). x.served) e in cc

  not_paged : (page : Option (List ℕ)) → d ≡ paged page → ⊥
  not_paged None e = let f = ap (λ (x : Due). x.served) e in cc
  not_paged (Some page) e = let f = ap (λ (x : Due). x.served) e in cc

  module _ (leaf key uri : List ℕ) (limit : ℕ) (seen : List Record) where
    settled : (nonce : List ℕ) (second : ℕ) (row : Row) → Settles leaf nonce key uri second limit seen row (Ok d) → StandsAt seen receipt.index receipt.commitment
    settled nonce second row (stamping.stamped tree other stamps within e) =
        let same : d.served ≡ served.Stamped other = (let f : d ≡ stamp tree other = cc in ap (λ (x : Due). x.served) f) in
        let one : other ≡ receipt = cc in
        subst (λ (r : Receipt). StandsAt seen r.index r.commitment) one (stamps.gives).stands
    settled nonce second row (stamping.disk rose one e) = absurd (not_words Disk (Ok d) refl e)
    settled nonce second row (stamping.full full one e) = absurd (not_words JournalFull (Ok d) refl e)
    settled nonce second row (stamping.no_memory gone why e) = absurd cc

    put_none : (row : Row) → PutsNone row (Ok d) → StandsAt seen receipt.index receipt.commitment
    put_none row (stamping.busy nothing busy) = absurd (not_words Busy (Ok d) refl busy.1)
    put_none row (stamping.no_memory nothing few why e) = absurd cc

    put_settled : (nonce : List ℕ) (second : ℕ) (row : Row) → PutsAndSettles leaf nonce key uri second limit seen row (Ok d) → StandsAt seen receipt.index receipt.commitment
    put_settled nonce second row (stamping.none none) = put_none row none
    put_settled nonce second row (stamping.put few fewer settles) = settled nonce second _ settles

    come : (nonce : List ℕ) (second : ℕ) (rows : List Row) → Comes leaf nonce key uri second limit seen rows (Ok d) → StandsAt seen receipt.index receipt.commitment
    come nonce second rows (stamping.late late none e) = absurd (not_words Clock (Ok d) refl e)
    come nonce second rows (stamping.none row early one none) = put_none row none
    come nonce second rows (stamping.put row next early two puts fewer settles) = settled nonce second next settles
    come nonce second rows (stamping.again row next last early three puts nothing settles) = put_settled nonce second last settles

    comes_of : (nonce : Option (List ℕ)) (second : ℕ) (rows : List Row) → ComesOf nonce leaf key uri second limit seen rows (Ok d) → StandsAt seen receipt.index receipt.commitment
    comes_of (Some nonce) second rows comes = come nonce second rows comes
    comes_of None second rows comes = absurd (not_words Nonce (Ok d) refl comes.1)

  done : (key uri : List ℕ) (limit : ℕ) (request : Request) (old new : SourcesTold) (seen : List Record) (rows : List Row) → Does key uri limit request old new seen rows (Ok d) → StandsAt seen receipt.index receipt.commitment
  done key uri limit (Digest leaf) old new seen rows does = comes_of leaf key uri limit seen does.nonce does.second rows does.comes
  done key uri limit (Timestamp commitment) old new seen rows does = absurd (not_answered (answer seen commitment) does.2)
  done key uri limit (Records number) old new seen rows does = absurd (not_paged (page_of seen number) does.2)
  done key uri limit (Refused status) old new seen rows does = absurd (not_words (refusal status) (Ok d) refl does.2)

stands_at : (key uri : List ℕ) (limit : ℕ) (old new : Seen) (receipt : Receipt) (request : Result Request RequestError) → Ends key uri limit request old new (served.Stamped receipt) → StandsAt new.pass.seen receipt.index receipt.commitment
stands_at key uri limit old new receipt (Err unread.Closed) ends = let e = ends.0 in absurd cc
stands_at key uri limit old new receipt (Err unread.LinkFault) ends = let e = ends.0 in absurd cc
stands_at key uri limit old new receipt (Ok request) ends = by_due ends.due ends.handles.rows ends.handles.does ends.ends where
  by_due : (due : Result Due NoMemory) (rows : List Row) → Does key uri limit request old.sources new.sources new.pass.seen rows due → EndsWith due old.link new.link (served.Stamped receipt) → StandsAt new.pass.seen receipt.index receipt.commitment
  by_due (Ok d) rows does (whole is t) = done receipt d is key uri limit request old.sources new.sources new.pass.seen rows does
  by_due (Ok d) rows does (cut n within is rose t) = absurd cc
  by_due (Err e) rows does none = let f = none.0 in absurd cc

pub stands : (key uri : List ℕ) (limit : ℕ) (old new : Seen) (result : Served) → Serves key uri limit old new result → IfStamped result (λ (receipt : Receipt). StandsAt new.pass.seen receipt.index receipt.commitment)
stands key uri limit old new (served.Stamped receipt) s = stands_at key uri limit old new receipt s.request s.ends
stands key uri limit old new (served.Replied status) s = tt
stands key uri limit old new served.Closed s = tt
stands key uri limit old new served.LinkFault s = tt
stands key uri limit old new served.OutOfMemory s = tt
