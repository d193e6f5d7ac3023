-- The command `anchor`.
use Rattle.std.specs.Prelude.{◌≡◌, ◌<◌, ◌≤◌, ℕ, List, [], ◌∷◌, ◌++◌, Option}
use Rattle.ots_block.specs.Block.{Contents, txids}
use Rattle.ots_journal.specs.declared.entry.Entry.{Entry}
use Rattle.ots_journal.specs.Journal.{size_with}
use Rattle.ots_merkle.specs.BlockTree.{block_root}
use Rattle.ots_store.specs.declared.anchor.Anchor.{Anchor}
use Rattle.ots_store.specs.Order.{records_of}
use Rattle.ots_store.specs.Records.{AnchorRecord, entry_of}
use Rattle.ots_calendar.specs.Anchors.{FindsAnchor, FindsNone}
use Rattle.ots_calendar.specs.declared.errors.AnchorError.{AnchorError}
use Rattle.ots_calendar.specs.declared.errors.AnchorError.TheVariants as why
use Rattle.ots_calendar_text.specs.Lines.{anchored_line}
use Rattle.ots_calendar_text.specs.declared.status.DaemonStatus.{DaemonStatus}
use Rattle.ots_calendar_text.specs.declared.status.DaemonStatus.TheVariants.{BadRoot, NoTip, TransactionTooLong, Full}
use Rattle.ots_calendar_text.specs.declared.status.DaemonStatus.TheVariants.{DiskFault, OutOfMemory}
use Rattle.ots_calendar_endings.specs.RunEnd.{RunEnd, declined, done}
use Rattle.ots_journal.specs.declared.limits.TheConstants.{MAX_JOURNAL}
use Rattle.ots_inputs.specs.Under.{HasUnder}
use Rattle.ots_outside.specs.Shelf.{Names}
use Rattle.ots_calendar_inputs.specs.Block.{GivesBlock, RefusesBlock}
use Rattle.ots_calendar_words.specs.Words.{AnchoringAsked}
use Rattle.ots_calendar_endings.specs.Ran.{Meaning}
use Rattle.ots_calendar_endings.specs.Told.{Told}
use Rattle.ots_calendar_endings.specs.With.{WithBook, WithInput}

abbrev pub anchor_status : AnchorError → DaemonStatus
anchor_status (why.BadRoot header computed) = BadRoot header computed
anchor_status why.NoTip = NoTip
anchor_status (why.TransactionTooLong bytes) = TransactionTooLong bytes
anchor_status why.DiskFault = DiskFault
anchor_status (why.Full need limit) = Full need limit
anchor_status why.OutOfMemory = OutOfMemory

-- the anchor's record, and its line
abbrev pub anchor_entries : Anchor → List Entry
anchor_entries anchor = entry_of (AnchorRecord anchor) ∷ []

abbrev pub anchor_text : Anchor → List ℕ
anchor_text anchor = anchored_line anchor.first anchor.count anchor.height

-- a refusal for what the block holds
abbrev pub IsOfBlock : AnchorError → Type 0
IsOfBlock (why.BadRoot header computed) = ⊥
IsOfBlock why.NoTip = Unit {0}
IsOfBlock (why.TransactionTooLong bytes) = Unit {0}
IsOfBlock why.DiskFault = ⊥
IsOfBlock (why.Full need limit) = ⊥
IsOfBlock why.OutOfMemory = ⊥

-- the block's header has the root of its transactions
abbrev pub HasRoot : Contents → Type 0
HasRoot block = block.header.root ≡ block_root (txids block)

-- Over a journal with this limit, whose closed gate is at this place. The block's root is looked at before all else.
pub data AnchorAnswers (limit : ℕ) (block : Contents) (height gate : ℕ) (entries : List Entry)
    (e : RunEnd) : Type 0 where
  bad_root : ¬ HasRoot block → e ≡ declined entries (BadRoot block.header.root (block_root (txids block)))
      → AnchorAnswers limit block height gate entries e
  none_found : HasRoot block → (error : AnchorError) → FindsNone (records_of entries) block error → IsOfBlock error
      → e ≡ declined entries (anchor_status error) → AnchorAnswers limit block height gate entries e
  added : HasRoot block → (anchor : Anchor) → FindsAnchor (records_of entries) block height anchor
      → size_with gate (anchor_entries anchor) ≤ limit
      → e ≡ done (entries ++ anchor_entries anchor) (anchor_text anchor)
      → AnchorAnswers limit block height gate entries e
  full : HasRoot block → (anchor : Anchor) → FindsAnchor (records_of entries) block height anchor
      → limit < size_with gate (anchor_entries anchor)
      → e ≡ declined entries (Full (size_with gate (anchor_entries anchor)) limit)
      → AnchorAnswers limit block height gate entries e

-- What it may add: the anchor that the block gives.
pub record AddsAnchor (block : Contents) (height : ℕ) (entries added : List Entry) : Type 0 where
  pub root : HasRoot block
  pub anchor : Anchor
  pub finds : FindsAnchor (records_of entries) block height anchor
  pub is : added ≡ anchor_entries anchor

-- The block under its name is in order.
abbrev pub HasBlock : Option Names → List ℕ → Type 0
HasBlock names name = (block : Contents) × HasUnder names name (λ bytes. GivesBlock bytes block)

-- The anchor of a tip in the block under its name.
pub record AddsFound (names : Option Names) (asked : AnchoringAsked) (entries added : List Entry) : Type 0 where
  pub block : Contents
  pub has_block : HasUnder names asked.block (λ bytes. GivesBlock bytes block)
  pub adds : AddsAnchor block asked.height entries added

-- It reads the block, and then opens the journal.
abbrev pub anchor_meaning : AnchoringAsked → Told → Told → Meaning
anchor_meaning asked old new = record {
  reads = asked.block ∷ [];
  answers = WithInput old.shelf.names asked.block GivesBlock RefusesBlock
      (λ block. WithBook old.bytes (AnchorAnswers MAX_JOURNAL block asked.height));
  adds = AddsFound old.shelf.names asked;
  ready = HasBlock old.shelf.names asked.block;
  draws = ⊥;
  serves = ⊥;
}
