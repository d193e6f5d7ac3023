-- The records of a calendar, and the entry of the journal that each is spelled as.
use Rattle.std.specs.Prelude.{◌≡◌, ◌<◌, ◌≤◌, ◌==◌, ℕ, ◌+◌, ◌^◌, zero, suc, if◌then◌else◌, List, [], ◌∷◌, ◌++◌, length}
use Rattle.std.specs.Prelude.{take, drop, slice_index}
use Rattle.std.specs.Int.{w16, w64, to_be_bytes, from_be_bytes}
use Rattle.std.specs.List.{flat_map, AllByRecursion}
use Rattle.ots_base.specs.declared.limits.TheConstants.{MAX_MESSAGE}
use Rattle.ots_journal.specs.declared.entry.Entry.{Entry}
use Rattle.ots_merkle.specs.declared.branch.Side.{Side}
use Rattle.ots_merkle.specs.declared.branch.Side.TheVariants.{Left, Right}
use Rattle.ots_store.specs.declared.anchor.Anchor.{Anchor}
use Rattle.ots_store.specs.declared.tip.Tip.{Tip}

pub data Record : Type 0 where
  CommitRecord : List ℕ → Record
  TipRecord : Tip → Record
  AnchorRecord : Anchor → Record

-- ---- how a record is spelled; numbers are big-endian

abbrev pub tip_payload : Tip → List ℕ
tip_payload tip = to_be_bytes w64 tip.first ++ (to_be_bytes w64 tip.count ++ tip.root)

-- The length of bytes, two bytes, and the bytes.
abbrev pub sized : List ℕ → List ℕ
sized bytes = to_be_bytes w16 (length bytes) ++ bytes

abbrev pub side_byte : Side → ℕ
side_byte Left = 0
side_byte Right = 1

-- A step is its side, one byte, and the sibling.
abbrev pub step_bytes : Side × List ℕ → List ℕ
step_bytes step = side_byte step.0 ∷ step.1

-- The number of steps, one byte, and the steps.
abbrev pub branch_bytes : List (Side × List ℕ) → List ℕ
branch_bytes branch = length branch ∷ flat_map step_bytes branch

-- first, count and height
abbrev pub anchor_head : Anchor → List ℕ
anchor_head anchor = to_be_bytes w64 anchor.first ++ (to_be_bytes w64 anchor.count ++ to_be_bytes w64 anchor.height)

abbrev pub anchor_rest : Anchor → List ℕ
anchor_rest anchor = sized anchor.prefix ++ (sized anchor.suffix ++ branch_bytes anchor.branch)

abbrev pub anchor_payload : Anchor → List ℕ
anchor_payload anchor = anchor_head anchor ++ (anchor.root ++ anchor_rest anchor)

abbrev pub entry_of : Record → Entry
entry_of (CommitRecord commitment) = record { kind = 1; payload = commitment }
entry_of (TipRecord tip) = record { kind = 2; payload = tip_payload tip }
entry_of (AnchorRecord anchor) = record { kind = 3; payload = anchor_payload anchor }

-- ---- form

pub record FitsTip (tip : Tip) : Type 0 where
  pub first : tip.first < 2 ^ 64
  pub count : tip.count < 2 ^ 64
  pub root : length tip.root ≡ 32

abbrev pub HasHash : Side × List ℕ → Type 0
HasHash step = length step.1 ≡ 32

-- A transaction is hashed as a message of at most MAX_MESSAGE bytes, the root among them.
pub record FitsAnchor (anchor : Anchor) : Type 0 where
  pub first : anchor.first < 2 ^ 64
  pub count : anchor.count < 2 ^ 64
  pub height : anchor.height < 2 ^ 63
  pub root : length anchor.root ≡ 32
  pub message : length anchor.prefix + length anchor.suffix + 32 ≤ MAX_MESSAGE
  pub steps : length anchor.branch ≤ 32
  pub hashes : AllByRecursion HasHash anchor.branch

-- What the type of an anchor leaves open of this.
pub record FitsLimits (anchor : Anchor) : Type 0 where
  pub height : anchor.height < 2 ^ 63
  pub message : length anchor.prefix + length anchor.suffix + 32 ≤ MAX_MESSAGE
  pub steps : length anchor.branch ≤ 32

abbrev pub HasForm : Record → Type 0
HasForm (CommitRecord commitment) = length commitment ≡ 44
HasForm (TipRecord tip) = FitsTip tip
HasForm (AnchorRecord anchor) = FitsAnchor anchor

-- ---- the record that an entry spells, where it spells one

abbrev pub number : List ℕ → ℕ
number bytes = from_be_bytes w64 (take 8 bytes)

abbrev pub tip_at : List ℕ → Tip
tip_at payload = record { first = number payload; count = number (drop 8 payload); root = drop 16 payload }

abbrev pub short : List ℕ → ℕ
short bytes = from_be_bytes w16 (take 2 bytes)

-- The bytes that lie sized at the start, and what lies after them.
abbrev pub part : List ℕ → List ℕ
part bytes = take (short bytes) (drop 2 bytes)

abbrev pub after : List ℕ → List ℕ
after bytes = drop (short bytes) (drop 2 bytes)

abbrev pub side_at : List ℕ → Side
side_at bytes = if slice_index bytes 0 == 0 then Left else Right

abbrev pub steps_at : ℕ → List ℕ → List (Side × List ℕ)
steps_at zero bytes = []
steps_at (suc n) bytes = (side_at bytes, take 32 (drop 1 bytes)) ∷ steps_at n (drop 33 bytes)

abbrev pub branch_at : List ℕ → List (Side × List ℕ)
branch_at bytes = steps_at (slice_index bytes 0) (drop 1 bytes)

abbrev pub anchor_at : List ℕ → Anchor
anchor_at payload = record {
  first = number payload;
  count = number (drop 8 payload);
  height = number (drop 16 payload);
  root = take 32 (drop 24 payload);
  prefix = part (drop 56 payload);
  suffix = part (after (drop 56 payload));
  branch = branch_at (after (after (drop 56 payload)));
}

abbrev pub record_of : Entry → Record
record_of entry =
    if entry.kind == 1 then CommitRecord entry.payload else (if entry.kind == 2 then TipRecord (tip_at entry.payload)
    else AnchorRecord (anchor_at entry.payload))

-- An entry is the spelling of a record of good form.
pub record IsRecord (entry : Entry) : Type 0 where
  pub spelled : entry ≡ entry_of (record_of entry)
  pub form : HasForm (record_of entry)
