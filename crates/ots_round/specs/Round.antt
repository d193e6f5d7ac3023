-- A round of a calendar (opentimestamps-server, otsserver/calendar.py: Aggregator and Calendar.submit): the tickets
-- that wait, in their order, the commitment over them, and the way of each to it.
use Rattle.std.specs.Prelude.{ℕ, List, [], ◌∷◌, ◌++◌, map, take, drop}
use Rattle.std.specs.Int.{w32, to_be_bytes}
use Rattle.sha2.specs.Sha256.{sha256}
use Rattle.ots_ops.specs.declared.op.Op.{Op}
use Rattle.ots_ops.specs.declared.op.Op.TheVariants.{Append, Prepend, Sha256}
use Rattle.ots_merkle.specs.CalendarTree.{root, path}
use Rattle.ots_round.specs.declared.ticket.Ticket.{Ticket}
use Rattle.ots_round.specs.Hmac.{hmac_sha256}

-- the leaf of a ticket: SHA-256 of its digest and then its nonce
abbrev pub leaf : Ticket → List ℕ
leaf ticket = sha256 (ticket.leaf ++ ticket.nonce)

abbrev pub leaves : List Ticket → List (List ℕ)
leaves tickets = map leaf tickets

-- the second, 4 bytes with the high one first, and the root
abbrev pub signed : ℕ → List ℕ → List ℕ
signed second root = to_be_bytes w32 second ++ root

-- the first 8 bytes of the keyed hash
abbrev pub mac : List ℕ → List ℕ → List ℕ
mac key message = take 8 (hmac_sha256 key message)

abbrev pub commitment : List ℕ → ℕ → List ℕ → List ℕ
commitment key second root = signed second root ++ mac key (signed second root)

-- the commitment of a round over these tickets
abbrev pub round_commitment : List ℕ → ℕ → List Ticket → List ℕ
round_commitment key second tickets = commitment key second (root (leaves tickets))

-- From a digest to the commitment: the nonce is put after it, that is hashed, its path leads to the root, before which
-- the second is put, and after it the keyed hash.
abbrev pub way : List ℕ → List Op → List ℕ → List Op
way nonce path commitment = Append nonce ∷ Sha256 ∷ (path ++ Prepend (take 4 commitment) ∷ Append (drop 36 commitment)
    ∷ [])

-- the way of one ticket of a round, which has this index among its tickets
abbrev pub round_way : List ℕ → ℕ → List Ticket → ℕ → Ticket → List Op
round_way key second tickets i ticket = way ticket.nonce (path (leaves tickets) i) (round_commitment key second tickets)
