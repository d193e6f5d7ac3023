-- What a round takes of the calendar's reply.
use Rattle.std.specs.Prelude.{◌≡◌, ◌≤◌, ℕ, List, [], length, Result, Ok, Err}
use Rattle.ots_http.specs.ReplyTable.{IsOutcome, good, status, too_long, bad_http}
use Rattle.ots_http.specs.declared.reply.HttpReply.{HttpReply}
use Rattle.ots_http.specs.declared.reply.HttpReply.TheVariants.{Good, Status as AnyStatus}
use Rattle.ots_http.specs.declared.reply.ReplyError.{ReplyError}
use Rattle.ots_http.specs.declared.reply.ReplyError.TheVariants as reply
use Rattle.ots_journal.specs.declared.entry.Entry.{Entry}
use Rattle.ots_mirror_pages.specs.Round.{Takes}
use Rattle.ots_mirror_words.specs.declared.outcome.RoundOutcome.{RoundOutcome}
use Rattle.ots_mirror_words.specs.declared.outcome.RoundOutcome.TheVariants.{Took, Current, BadPage, Unreachable}
use Rattle.ots_mirror_words.specs.declared.outcome.RoundOutcome.TheVariants.{Status, TooLong, BadHttp}
use Rattle.ots_mirror_words.specs.declared.status.MirrorStatus.{MirrorStatus}
use Rattle.ots_mirror_words.specs.declared.status.MirrorStatus.TheVariants.{OutOfMemory}
use Rattle.ots_store.specs.Records.{Record}

-- it is so, and no entry is taken
abbrev pub TakesNone : Type 0 → List Entry → Type 0
TakesNone so group = so × (group ≡ [])

-- The outcome by the body of a good reply, over the records held: the entries of a page for their count are taken, if
-- there are any.
abbrev pub TakesBody : List Record → List ℕ → RoundOutcome → List Entry → Type 0
TakesBody records body (Took count) group = Takes records body group × (count ≡ length group) × (1 ≤ count)
TakesBody records body Current group = TakesNone (Takes records body []) group
TakesBody records body BadPage group = TakesNone ((entries : List Entry) → Takes records body entries → ⊥) group
TakesBody records body Unreachable group = ⊥
TakesBody records body (Status code) group = ⊥
TakesBody records body TooLong group = ⊥
TakesBody records body BadHttp group = ⊥

-- The outcome where no reply was read; want of memory has none.
abbrev pub without_reply : ReplyError → Result RoundOutcome MirrorStatus
without_reply reply.TooLong = Ok TooLong
without_reply reply.BadHttp = Ok BadHttp
without_reply reply.LinkFault = Ok Unreachable
without_reply reply.OutOfMemory = Err OutOfMemory

-- The outcome by what was read of a reply.
abbrev pub TakesReply : List Record → Result HttpReply ReplyError → RoundOutcome → List Entry → Type 0
TakesReply records (Ok (Good body)) outcome group = TakesBody records body outcome group
TakesReply records (Ok (AnyStatus code)) outcome group = TakesNone (outcome ≡ Status code) group
TakesReply records (Err why) outcome group = TakesNone (without_reply why ≡ Ok outcome) group

-- A group is taken by this rule, which would be told by its length.
abbrev pub TakesGroup : (RoundOutcome → List Entry → Type 0) → List Entry → Type 0
TakesGroup takes group = takes (Took (length group)) group

-- A group is taken where the outcome says how many entries, and none else.
abbrev pub IsCounted : RoundOutcome → List Entry → Type 0
IsCounted (Took count) group = (count ≡ length group) × (1 ≤ count)
IsCounted Current group = group ≡ []
IsCounted BadPage group = group ≡ []
IsCounted Unreachable group = group ≡ []
IsCounted (Status code) group = group ≡ []
IsCounted TooLong group = group ≡ []
IsCounted BadHttp group = group ≡ []

-- The bytes are a good reply whose body has P.
abbrev pub HasBody : List ℕ → (List ℕ → Type 0) → Type 0
HasBody bytes P = (body : List ℕ) × IsOutcome bytes (good body) × P body

-- The outcome by the bytes of a reply. That the conversation failed may come in its place.
abbrev pub IsRound : List Record → List ℕ → RoundOutcome → List Entry → Type 0
IsRound records bytes (Took count) group = HasBody bytes (λ body. TakesBody records body (Took count) group)
IsRound records bytes Current group = HasBody bytes (λ body. TakesBody records body Current group)
IsRound records bytes BadPage group = HasBody bytes (λ body. TakesBody records body BadPage group)
IsRound records bytes Unreachable group = group ≡ []
IsRound records bytes (Status code) group = TakesNone (IsOutcome bytes (status code)) group
IsRound records bytes TooLong group = TakesNone (IsOutcome bytes too_long) group
IsRound records bytes BadHttp group = TakesNone (IsOutcome bytes bad_http) group
