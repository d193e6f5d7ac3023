-- A calendar whose only round has one ticket, and whose only tip stands in a block of one transaction.
use Rattle.std.specs.Prelude.{◌≡◌, ◌≤◌, ◌<◌, ◌+◌, ◌^◌, ℕ, List, [], ◌∷◌, ◌++◌, codes, length, map, replicate}
use Rattle.std.specs.Int.{w32, to_be_bytes}
use Rattle.sha2.specs.Sha256.{sha256}
use Rattle.ots_anchor.specs.Path.{before, after, twice}
use Rattle.ots_attest.specs.declared.attestation.Attestation.TheVariants.{Bitcoin, Pending}
use Rattle.ots_base.specs.declared.limits.TheConstants.{MAX_MESSAGE}
use Rattle.ots_headers.specs.DoubleSha256.{double_sha256}
use Rattle.ots_journal.specs.declared.entry.Entry.{Entry}
use Rattle.ots_merkle.specs.CalendarTree.{root}
use Rattle.ots_ops.specs.declared.op.Op.{Op}
use Rattle.ots_ops.specs.declared.op.Op.TheVariants.{Append, Prepend, Sha256}
use Rattle.ots_round.specs.Round.{leaf, signed, mac, commitment}
use Rattle.ots_round.specs.declared.ticket.Receipt.{Receipt}
use Rattle.ots_round.specs.declared.ticket.Ticket.{Ticket}
use Rattle.ots_stamp.specs.Stamped.{leaves}
use Rattle.ots_stamp.specs.declared.target.Target.{Target}
use Rattle.ots_store.specs.Records.{Record, CommitRecord, TipRecord, AnchorRecord, entry_of}
use Rattle.ots_store.specs.declared.anchor.Anchor.{Anchor}
use Rattle.ots_store.specs.declared.tip.Tip.{Tip}
use Rattle.ots_tree.specs.Made.{lone}
use Rattle.ots_tree.specs.Wire.{pre}
use Rattle.ots_tree.specs.declared.token.Token.{Token}

pub record OneRound : Type 0 where
  -- the calendar's key and its URI
  pub key : List ℕ
  pub uri : List ℕ
  -- the round's ticket, and the second at which it was closed
  pub ticket : Ticket
  pub second : ℕ
  -- the block's height, and what its transaction has before the tip's root and after it
  pub height : ℕ
  pub prefix : List ℕ
  pub suffix : List ℕ

-- Its lengths and its height are as a calendar has them.
pub record Fits (r : OneRound) : Type 0 where
  pub leaf : length r.ticket.leaf ≤ 64
  pub nonce : length r.ticket.nonce ≡ 16
  pub height : r.height < 2 ^ 63
  pub message : length r.prefix + length r.suffix + 32 ≤ MAX_MESSAGE

-- ---- its records

-- the second, the leaf of the ticket, which is the root of the round, and the keyed hash
abbrev pub commit : OneRound → List ℕ
commit r = commitment r.key r.second (leaf r.ticket)

-- The tree over one commitment has the hash of it as its root.
abbrev pub tip : OneRound → Tip
tip r = record { first = 0; count = 1; root = sha256 (commit r) }

abbrev pub transaction : OneRound → List ℕ
transaction r = r.prefix ++ (tip r).root ++ r.suffix

-- The Merkle root of a block of one transaction is that one's id, and the branch to it is empty.
abbrev pub anchor : OneRound → Anchor
anchor r = record {
  first = 0;
  count = 1;
  height = r.height;
  root = double_sha256 (transaction r);
  prefix = r.prefix;
  suffix = r.suffix;
  branch = [];
}

-- as the round is closed, and what is added later
abbrev pub closed : OneRound → List Record
closed r = CommitRecord (commit r) ∷ []

abbrev pub later : OneRound → List Record
later r = TipRecord (tip r) ∷ AnchorRecord (anchor r) ∷ []

abbrev pub entries : OneRound → List Entry
entries r = map entry_of (closed r ++ later r)

-- ---- what is given for its ticket, and what is answered of its commitment

abbrev pub receipt : OneRound → Receipt
receipt r = record { index = 0; commitment = commit r }

-- from the digest over the nonce to the commitment
abbrev pub first_way : OneRound → List Op
first_way r = Append r.ticket.nonce ∷ Sha256 ∷ Prepend (to_be_bytes w32 r.second)
    ∷ Append (mac r.key (signed r.second (leaf r.ticket))) ∷ []

-- from the commitment over the transaction to its id
abbrev pub second_way : OneRound → List Op
second_way r = Sha256 ∷ (before r.prefix ++ (after r.suffix ++ twice))

abbrev pub stamped : OneRound → List Token
stamped r = pre (lone (first_way r) (Pending r.uri))

abbrev pub completed : OneRound → List Token
completed r = pre (lone (second_way r) (Bitcoin r.height))

-- ---- one of them

-- over this digest, and else of small constants
abbrev pub some_round : List ℕ → OneRound
some_round digest = record {
  key = codes "key";
  uri = codes "http://a";
  ticket = record { number = 0; leaf = digest; nonce = replicate 16 0 };
  second = 1;
  height = 1;
  prefix = codes "before";
  suffix = codes "after";
}

-- over the root of files that are stamped together
abbrev pub over : List Target → OneRound
over targets = some_round (root (leaves targets))
