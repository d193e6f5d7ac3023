-- How long the trees are that a calendar sends.
use Rattle.std.proofs.Common.{◌≡◌, ℕ, suc, ◌*◌, ◌^◌, ◌<◌, ◌≤◌, List, [], ◌∷◌, ◌++◌, length, refl, sym, ap, ◌∙◌, arith, length-append}
use Rattle.std.specs.Prelude.{Option, None, Some, find}
use Rattle.std.specs.List.{AllByRecursion}
use Rattle.ots_attest.proofs.Lengths.{spelled_length, payload_few}
use Rattle.ots_attest.specs.declared.attestation.Attestation.{Attestation}
use Rattle.ots_attest.specs.declared.attestation.Attestation.TheVariants as ending
use Rattle.ots_attest.specs.Attestation.{payload}
use Rattle.ots_calendar.specs.Answer.{answer, answer_of, answer_at, way_in}
use Rattle.ots_calendar.specs.Book.{Gives}
use Rattle.ots_calendar.specs.declared.answer.Answer.{Answer}
use Rattle.ots_calendar.specs.declared.answer.Answer.TheVariants.{Complete, Pending, Unknown}
use Rattle.ots_journal.specs.declared.entry.Entry.{Entry}
use Rattle.ots_ops.specs.Operation.{IsOp}
use Rattle.ots_ops.specs.Operation as operation
use Rattle.ots_ops.specs.declared.op.Op.{Op}
use Rattle.ots_ops.specs.declared.op.Op.TheVariants.{Sha1, Ripemd160, Sha256, Append, Prepend, Reverse, Hexlify}
use Rattle.ots_round.specs.Round.{round_way}
use Rattle.ots_round.specs.declared.ticket.Receipt.{Receipt}
use Rattle.ots_round.specs.declared.ticket.Ticket.{Ticket}
use Rattle.ots_store.specs.declared.anchor.Anchor.{Anchor}
use Rattle.ots_store.specs.Index.{least}
use Rattle.ots_store.specs.Order.{anchors_of, commits_of, covers, records_of}
use Rattle.ots_store.specs.Records.{Record}
use Rattle.ots_store.specs.Store.{InRecords}
use Rattle.ots_tree.specs.Made.{lone}
use Rattle.ots_tree.specs.Wire.{pre, spell, spelled, IsToken}
use Rattle.ots_tree.specs.declared.token.Token.{Token}
use Rattle.ots_tree.specs.declared.token.Token.TheVariants as token
use Rattle.ots_connection.specs.Replies.{IsShort}
use Rattle.ots_varint.proofs.OneNumber.{varuint_at_most_ten}
use Rattle.ots_varint.proofs.Written.{varbytes_length}

-- ---- bytes

op_few : (o : Op) → IsOp o → length (operation.spell o) ≤ 8211
op_few Sha1 is = omega arith
op_few Ripemd160 is = omega arith
op_few Sha256 is = omega arith
op_few (Append bytes) is = let few = is.greatest in omega (arith, varbytes_length bytes, varuint_at_most_ten (length bytes))
op_few (Prepend bytes) is = let few = is.greatest in omega (arith, varbytes_length bytes, varuint_at_most_ten (length bytes))
op_few Reverse is = omega arith
op_few Hexlify is = omega arith

token_few : (t : Token) → IsToken t → length (spell t) ≤ 8211
token_few token.Fork is = omega arith
token_few (token.Op o) is = op_few o is
token_few (token.Attestation a) is = omega (arith, spelled_length a is, payload_few a is, varuint_at_most_ten (length (payload a)))

pub spelled_few : (ts : List Token) → AllByRecursion IsToken ts → length (spelled ts) ≤ 8211 * length ts
spelled_few [] all = omega arith
spelled_few (t ∷ ts) all = omega (arith, token_few t all.0, spelled_few ts all.1, length-append (spell t) (spelled ts))

-- ---- tokens

lone_tokens : (ops : List Op) (a : Attestation) → length (pre (lone ops a)) ≡ suc (length ops)
lone_tokens [] a = refl
lone_tokens (o ∷ ops) a = ap suc (lone_tokens ops a)

-- the tree of a ticket whose round is closed
pub gives_short : (records : List Record) (ticket : Ticket) (uri : List ℕ) (tree : List Token) (receipt : Receipt) → Gives records ticket uri tree receipt → length tree ≤ 256
gives_short records ticket uri tree receipt g =
    let ops : List Op = Append ticket.nonce ∷ Sha256 ∷ (g.leads).rest in
    omega (arith, (g.leads).few, ap length (g.leads).tree_is, lone_tokens ops (ending.Pending uri))

-- how long the ways of a calendar are, as it says itself
abbrev pub WaysAreShort : Type 0
WaysAreShort =
    (entries : List Entry) (key : List ℕ) (second : ℕ) (tickets : List Ticket) (i : ℕ) (ticket : Ticket) (j : ℕ) (anchor : Anchor)
    → InRecords entries → length (commits_of (records_of entries)) ≤ 2 ^ 32 → length tickets ≤ 2 ^ 16
    → find (covers j) (anchors_of (records_of entries)) ≡ Some anchor
    → length (round_way key second tickets i ticket ++ way_in (commits_of (records_of entries)) j anchor) ≤ 201

module _ (law : WaysAreShort) (entries : List Entry) (are : InRecords entries) (few : length (commits_of (records_of entries)) ≤ 2 ^ 32) (tree : List Token) where
  nobody : Ticket
  nobody = record { number = 0; leaf = []; nonce = [] }

  found_short : (i : ℕ) (o : Option Anchor) → find (covers i) (anchors_of (records_of entries)) ≡ o → answer_at (commits_of (records_of entries)) i o ≡ Complete tree → length tree ≤ 256
  found_short i None found is = absurd cc
  found_short i (Some anchor) found is =
      let way : List Op = way_in (commits_of (records_of entries)) i anchor in
      let same : pre (lone way (ending.Bitcoin anchor.height)) ≡ tree = cc in
      omega (
        arith,
        law entries [] 0 [] 0 nobody i anchor are few (omega arith) found,
        length-append (round_way [] 0 [] 0 nobody) way,
        ap length same,
        lone_tokens way (ending.Bitcoin anchor.height),
      )

  stored_short : (o : Option ℕ) → answer_of (records_of entries) o ≡ Complete tree → length tree ≤ 256
  stored_short None is = absurd cc
  stored_short (Some i) is = found_short i (find (covers i) (anchors_of (records_of entries))) refl is

-- the tree of a commitment
pub complete_short : WaysAreShort → (records : List Record) (entries : List Entry) → records ≡ records_of entries → InRecords entries → length (commits_of records) < 2 ^ 32
    → (commitment : List ℕ) (tree : List Token) → Complete tree ≡ answer records commitment → length tree ≤ 256
complete_short law records entries same are few commitment tree is =
    stored_short law entries are (let e = ap (λ (r : List Record). length (commits_of r)) same in omega arith) tree (least commitment (commits_of (records_of entries)))
    (ap (λ (r : List Record). answer r commitment) (sym same) ∙ sym is)

-- and so what is answered of it
pub answer_short : WaysAreShort → (records : List Record) (entries : List Entry) → records ≡ records_of entries → InRecords entries → length (commits_of records) < 2 ^ 32
    → (commitment : List ℕ) (a : Answer) → a ≡ answer records commitment → IsShort a
answer_short law records entries same are few commitment (Complete tree) is = complete_short law records entries same are few commitment tree is
answer_short law records entries same are few commitment Pending is = tt
answer_short law records entries same are few commitment Unknown is = tt
