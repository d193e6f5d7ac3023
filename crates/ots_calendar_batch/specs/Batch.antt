-- The command `batch`.
use Rattle.std.specs.Prelude.{◌≡◌, ◌<◌, ◌≤◌, ◌^◌, ℕ, List, [], ◌∷◌, ◌++◌, length, Option}
use Rattle.std.specs.List.{AllByRecursion, flat_map}
use Rattle.ots_base.specs.Told.{IfTold}
use Rattle.ots_outside.specs.Streams.{Gives}
use Rattle.ots_journal.specs.declared.entry.Entry.{Entry}
use Rattle.ots_journal.specs.Journal.{size_with}
use Rattle.ots_round.specs.declared.ticket.Ticket.{Ticket}
use Rattle.ots_round.specs.Round.{round_commitment}
use Rattle.ots_store.specs.Order.{commits_of, records_of}
use Rattle.ots_store.specs.Records.{CommitRecord, entry_of}
use Rattle.ots_tickets.specs.Calls.{tree_of}
use Rattle.ots_tickets.specs.Tickets.{settles}
use Rattle.ots_tickets.specs.declared.settled.Settled.{Settled}
use Rattle.ots_tree.specs.Wire.{spelled}
use Rattle.ots_calendar_text.specs.Lines.{tree_line}
use Rattle.ots_calendar_text.specs.declared.status.DaemonStatus.TheVariants.{BadSecond, Full, NonceFault}
use Rattle.ots_calendar_endings.specs.RunEnd.{RunEnd, declined, done}
use Rattle.ots_base.specs.Cause.{Rose}
use Rattle.ots_inputs.specs.Under.{HasUnder}
use Rattle.ots_outside.specs.Shelf.{Names}
use Rattle.ots_journal.specs.declared.limits.TheConstants.{MAX_JOURNAL}
use Rattle.ots_calendar_words.specs.Words.{BatchAsked}
use Rattle.ots_calendar_inputs.specs.Address.{IsOneAddress}
use Rattle.ots_calendar_inputs.specs.Digests.{IsDigests, RefusesDigests}
use Rattle.ots_calendar_inputs.specs.Key.{GivesKey, RefusesKey}
use Rattle.ots_calendar_endings.specs.Ran.{Meaning}
use Rattle.ots_calendar_endings.specs.Told.{Told}
use Rattle.ots_calendar_endings.specs.With.{WithBook, WithInput, WithUri}

-- What happens outside while a round is made: the clock's second, and the nonces that are drawn.
pub record Drawing : Type 0 where
  pub second : ℕ
  pub nonces : List (List ℕ)

abbrev pub joined : List (List ℕ) → List ℕ
joined nonces = flat_map (λ (nonce : List ℕ). nonce) nonces

-- It happened so, by what a clock and a giver of nonces tell: each nonce has 16 bytes, and they are the first of those
-- to come.
pub record Happens (coming : Option ℕ) (left now : Option (List ℕ)) (o : Drawing) : Type 0 where
  pub second : IfTold coming (λ second. o.second ≡ second)
  pub each : AllByRecursion (λ (nonce : List ℕ). length nonce ≡ 16) o.nonces
  pub drawn : Gives left now (joined o.nonces)

-- The tickets of these digests, each with its nonce. Their numbers are of no matter.
abbrev pub AreTickets : List (List ℕ) → List (List ℕ) → List Ticket → Type 0
AreTickets [] [] [] = Unit {0}
AreTickets (digest ∷ digests) (nonce ∷ nonces) (ticket ∷ tickets) = (ticket.leaf ≡ digest) × (ticket.nonce ≡ nonce)
    × AreTickets digests nonces tickets
AreTickets digests nonces tickets = ⊥

-- the record of their round
abbrev pub round_entries : List ℕ → ℕ → List Ticket → List Entry
round_entries key second tickets = entry_of (CommitRecord (round_commitment key second tickets)) ∷ []

-- a line for each of them, in their order
abbrev pub settled_line : List ℕ → Settled → List ℕ
settled_line uri settled = tree_line settled.receipt.index (spelled (tree_of settled uri))

unfoldable pub trees_text : List ℕ → List Settled → List ℕ
trees_text uri settled = flat_map (settled_line uri) settled

-- the index of the next commitment
abbrev pub next_index : List Entry → ℕ
next_index entries = length (commits_of (records_of entries))

-- Over a journal with this limit, whose closed gate is at this place. The second is looked at first, and then a nonce
-- is drawn for each digest.
pub data BatchAnswers (failed : Type 0) (limit : ℕ) (key uri : List ℕ) (digests : List (List ℕ)) (o : Drawing)
    (gate : ℕ) (entries : List Entry) (e : RunEnd) : Type 0 where
  bad_second : 2 ^ 32 ≤ o.second → o.nonces ≡ [] → e ≡ declined entries (BadSecond o.second)
      → BatchAnswers failed limit key uri digests o gate entries e
  not_drawn : o.second < 2 ^ 32 → length o.nonces < length digests → failed → e ≡ declined entries NonceFault
      → BatchAnswers failed limit key uri digests o gate entries e
  added : o.second < 2 ^ 32 → (tickets : List Ticket) → AreTickets digests o.nonces tickets
      → size_with gate (round_entries key o.second tickets) ≤ limit
      → e ≡ done (entries ++ round_entries key o.second tickets)
      (trees_text uri (settles key o.second (next_index entries) tickets))
      → BatchAnswers failed limit key uri digests o gate entries e
  full : o.second < 2 ^ 32 → (tickets : List Ticket) → AreTickets digests o.nonces tickets
      → limit < size_with gate (round_entries key o.second tickets)
      → e ≡ declined entries (Full (size_with gate (round_entries key o.second tickets)) limit)
      → BatchAnswers failed limit key uri digests o gate entries e

-- What it may add: the commitment over the digests, by what happened outside.
pub record AddsRound (happens : Drawing → Type 0) (key : List ℕ) (digests : List (List ℕ))
    (entries added : List Entry) : Type 0 where
  pub o : Drawing
  pub happened : happens o
  pub tickets : List Ticket
  pub are : AreTickets digests o.nonces tickets
  pub is : added ≡ round_entries key o.second tickets

-- The same, by what may have happened.
abbrev pub RoundAnswers : (Drawing → Type 0) → Type 0 → ℕ → List ℕ → List ℕ → List (List ℕ) → ℕ → List Entry → RunEnd
    → Type 0
RoundAnswers happens failed limit key uri digests gate entries e = (o : Drawing) × happens o
    × BatchAnswers failed limit key uri digests o gate entries e

-- At most one nonce for each digest was drawn.
pub record DrawsFor (happens : Drawing → Type 0) (digests : List (List ℕ)) : Type 0 where
  pub o : Drawing
  pub happened : happens o
  pub in_time : o.second < 2 ^ 32
  pub most : length o.nonces ≤ length digests

-- What a clock and a giver of nonces tell: the second to come, the nonces that are left before and after, and how often
-- nonces failed.
pub record DrawsTold : Type 0 where
  pub second : Option ℕ
  pub left : Option (List ℕ)
  pub left_now : Option (List ℕ)
  pub faults : ℕ
  pub faults_now : ℕ

abbrev pub draws_told : {C N : Type 0} → (C → Option ℕ) → (N → Option (List ℕ)) → (N → ℕ) → C → N → N → DrawsTold
draws_told coming left faults clock old new = record {
  second = coming clock;
  left = left old;
  left_now = left new;
  faults = faults old;
  faults_now = faults new;
}

-- It happened so.
abbrev pub HappensIn : DrawsTold → Drawing → Type 0
HappensIn told = Happens told.second told.left told.left_now

-- Nonces failed.
abbrev pub FailsIn : DrawsTold → Type 0
FailsIn told = Rose told.faults told.faults_now

-- the names that a batch reads
abbrev pub names_of : BatchAsked → List (List ℕ)
names_of asked = asked.key ∷ asked.digests ∷ []

-- the address, the key file, and the file of digests
abbrev pub WithFiles : Option Names → BatchAsked → (List ℕ → List (List ℕ) → RunEnd → Type 0) → RunEnd → Type 0
WithFiles names asked goes_on =
    WithInput names asked.key GivesKey RefusesKey (λ key. WithInput names asked.digests IsDigests RefusesDigests
    (λ digests. goes_on key digests))

abbrev pub WithRound : Option Names → BatchAsked → (List ℕ → List ℕ → List (List ℕ) → RunEnd → Type 0) → RunEnd → Type 0
WithRound names asked goes_on = WithUri asked.uri (λ uri. WithFiles names asked (goes_on uri))

-- The commitment over the digests under their name, by the key under its.
pub record AddsBatch (happens : Drawing → Type 0) (names : Option Names) (asked : BatchAsked)
    (entries added : List Entry) : Type 0 where
  pub key : List ℕ
  pub has_key : HasUnder names asked.key (λ bytes. GivesKey bytes key)
  pub digests : List (List ℕ)
  pub has_digests : HasUnder names asked.digests (λ bytes. IsDigests bytes digests)
  pub adds : AddsRound happens key digests entries added

-- Nonces were drawn, at most one for each of the digests under their name, by a clock whose second a commitment can
-- hold.
pub record MayDraw (told : DrawsTold) (names : Option Names) (asked : BatchAsked) : Type 0 where
  pub digests : List (List ℕ)
  pub has_digests : HasUnder names asked.digests (λ bytes. IsDigests bytes digests)
  pub drawn : DrawsFor (HappensIn told) digests

-- What a batch names is in order.
pub record HasRound (names : Option Names) (asked : BatchAsked) : Type 0 where
  pub uri : List ℕ
  pub one : IsOneAddress asked.uri uri
  pub key : List ℕ
  pub has_key : HasUnder names asked.key (λ bytes. GivesKey bytes key)
  pub digests : List (List ℕ)
  pub has_digests : HasUnder names asked.digests (λ bytes. IsDigests bytes digests)

-- It reads the files, and then opens the journal.
abbrev pub batch_meaning : DrawsTold → BatchAsked → Told → Told → Meaning
batch_meaning told asked old new = record {
  reads = names_of asked;
  answers = WithRound old.shelf.names asked (λ uri key digests. WithBook old.bytes
      (RoundAnswers (HappensIn told) (FailsIn told) MAX_JOURNAL key uri digests));
  adds = AddsBatch (HappensIn told) old.shelf.names asked;
  ready = HasRound old.shelf.names asked;
  draws = MayDraw told old.shelf.names asked;
  serves = ⊥;
}
