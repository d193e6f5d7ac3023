-- What anchoring a tip in a block does.
use Rattle.std.specs.Prelude.{◌≡◌, ◌≢◌, ◌⊎◌, ℕ, ◌+◌, List, [], ◌∷◌, map, take, drop, nat_lt, slice_get, Bool, Option}
use Rattle.std.specs.Prelude.{Some, Result, Ok, Err}
use Rattle.std.specs.List.{filter}
use Rattle.ots_journal.specs.declared.errors.AppendError.{AppendError}
use Rattle.ots_journal.specs.declared.errors.AppendError.TheVariants as append
use Rattle.ots_journal.specs.Journal.{JournalTold, Refreshed}
use Rattle.ots_anchor.specs.declared.search.Found.{Found}
use Rattle.ots_anchor.specs.declared.search.FindError.{FindError}
use Rattle.ots_anchor.specs.declared.search.FindError.TheVariants as find
use Rattle.ots_anchor.specs.Find.{form_of, IsFound, IsFindError}
use Rattle.ots_block.specs.Block.{Contents, txids}
use Rattle.ots_merkle.specs.BlockTree.{block_root, block_branch}
use Rattle.ots_store.specs.declared.anchor.Anchor.{Anchor}
use Rattle.ots_store.specs.declared.tip.Tip.{Tip}
use Rattle.ots_store.specs.Order.{commits_of, tips_of, covered_of, tip_end, records_of, FollowsAnchor}
use Rattle.ots_store.specs.Records.{Record, AnchorRecord, entry_of, FitsAnchor}
use Rattle.ots_store.specs.Store.{Added}
use Rattle.ots_calendar.specs.declared.errors.AnchorError.{AnchorError}
use Rattle.ots_calendar.specs.declared.errors.AnchorError.TheVariants.{BadRoot, NoTip, TransactionTooLong, DiskFault}
use Rattle.ots_calendar.specs.declared.errors.AnchorError.TheVariants.{Full, OutOfMemory}
use Rattle.ots_calendar.specs.Book.{GoesOn, Stops}
use Rattle.ots_calendar.specs.Values.{IsTrueAnchor}

abbrev pub reaches_past : ℕ → Tip → Bool
reaches_past covered tip = nat_lt covered (tip_end tip)

-- the tips that reach past what is covered, and their roots
abbrev pub open_tips : List Record → List Tip
open_tips records = filter (reaches_past (covered_of records)) (tips_of records)

abbrev pub roots : List Tip → List (List ℕ)
roots tips = map (λ (tip : Tip). tip.root) tips

-- the anchor of a tip whose root is found in a block
abbrev pub anchor_of : Contents → ℕ → Tip → Found → Anchor
anchor_of block height tip found = record {
  first = tip.first;
  count = tip.count;
  height = height;
  root = block.header.root;
  prefix = take found.place (form_of block found.transaction);
  suffix = drop (found.place + 32) (form_of block found.transaction);
  branch = block_branch (txids block) found.transaction;
}

-- It is the anchor of the open tip whose root the block holds first.
pub record FindsAnchor (records : List Record) (block : Contents) (height : ℕ) (anchor : Anchor) : Type 0 where
  pub found : Found
  pub is_found : IsFound block (roots (open_tips records)) found
  pub tip : Tip
  pub tip_is : slice_get (open_tips records) found.which ≡ Some tip
  pub anchor_is : anchor ≡ anchor_of block height tip found

-- It may be stored after these records: it follows them, has its form, and its root is right.
pub record MayStand (records : List Record) (anchor : Anchor) : Type 0 where
  pub follows : FollowsAnchor records anchor
  pub fits : FitsAnchor anchor
  pub is_true : IsTrueAnchor (commits_of records) anchor

abbrev pub find_error : FindError → AnchorError
find_error find.NoTip = NoTip
find_error (find.TransactionTooLong n) = TransactionTooLong n
find_error find.OutOfMemory = OutOfMemory

-- No anchor is found, for this reason.
pub record FindsNone (records : List Record) (block : Contents) (error : AnchorError) : Type 0 where
  pub why : FindError
  pub is_why : IsFindError block (roots (open_tips records)) why
  pub error_is : error ≡ find_error why

abbrev pub anchor_error : AppendError → AnchorError
anchor_error append.DiskFault = DiskFault
anchor_error (append.Full need limit) = Full need limit
anchor_error append.OutOfMemory = OutOfMemory

-- the answer, by how the anchor was added
abbrev pub anchor_answer : Anchor → Result (Unit {0}) AppendError → Result Anchor AnchorError
anchor_answer anchor (Ok _) = Ok anchor
anchor_answer anchor (Err why) = Err (anchor_error why)

-- The anchor that is found is answered, once it is stored.
pub record GivesAnchor {D : Type 0} (clock : D → ℕ) (images_since : D → ℕ → List ℕ → Type 0) (block : Contents)
    (height : ℕ) (new : JournalTold D) (result : Result Anchor AnchorError) (mid : JournalTold D) : Type 0 where
  pub anchor : Anchor
  pub finds : FindsAnchor (records_of mid.entries) block height anchor
  pub stored : Result (Unit {0}) AppendError
  pub stores : Added clock images_since mid new (entry_of (AnchorRecord anchor) ∷ []) stored
  pub answer : result ≡ anchor_answer anchor stored

-- No anchor is found, and nothing is stored.
pub record GivesNone {D : Type 0} (block : Contents) (new : JournalTold D) (result : Result Anchor AnchorError)
    (mid : JournalTold D) : Type 0 where
  pub error : AnchorError
  pub finds : FindsNone (records_of mid.entries) block error
  pub same : new ≡ mid
  pub answer : result ≡ Err error

-- The block's header and its transactions disagree.
pub record HasBadRoot (block : Contents) (error : AnchorError) : Type 0 where
  pub differs : block.header.root ≢ block_root (txids block)
  pub both : error ≡ BadRoot block.header.root (block_root (txids block))

-- The store is refreshed, and then a tip is sought whose root the block holds.
abbrev pub AnchorsIn : {D : Type 0} → (D → Option (List ℕ)) → (D → ℕ) → (D → ℕ → List ℕ → Type 0) → Contents → ℕ
    → JournalTold D → JournalTold D → Result Anchor AnchorError → Type 0
AnchorsIn bytes clock images_since block height old new result =
    GoesOn bytes clock images_since old (λ mid. GivesAnchor clock images_since block height new result mid
    ⊎ GivesNone block new result mid)
    ⊎ (Stops bytes clock images_since old new × (result ≡ Err DiskFault))

-- The root is bad, or memory ran out, and all is as before.
pub record AnchorsNothing {D : Type 0} (block : Contents) (old new : JournalTold D)
    (result : Result Anchor AnchorError) : Type 0 where
  pub error : AnchorError
  pub why : HasBadRoot block error ⊎ (error ≡ OutOfMemory)
  pub same : new ≡ old
  pub answer : result ≡ Err error

-- Nothing was done, or nothing but a refresh.
abbrev pub OnlyRefreshed : {D : Type 0} → (D → Option (List ℕ)) → JournalTold D → JournalTold D → Type 0
OnlyRefreshed bytes old new = (new ≡ old) ⊎ Refreshed bytes old new

-- The block's root is tested before all else.
abbrev pub AsksAnchor : {D : Type 0} → (D → Option (List ℕ)) → (D → ℕ) → (D → ℕ → List ℕ → Type 0) → Contents → ℕ
    → JournalTold D → JournalTold D → Result Anchor AnchorError → Type 0
AsksAnchor bytes clock images_since block height old new result =
    ((block.header.root ≡ block_root (txids block)) × AnchorsIn bytes clock images_since block height old new result)
    ⊎ AnchorsNothing block old new result
