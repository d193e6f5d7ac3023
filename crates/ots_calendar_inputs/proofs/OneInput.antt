-- A word and each file give one thing at most, are refused in one way at most, and never both.
use Rattle.std.proofs.Common.{◌≡◌, ◌≢◌, ◌<◌, inl, inr, ℕ, Bool, List, [], ◌∷◌, ◌++◌, length, take, drop, Result, Err, refl, sym, ap, ◌∙◌, arith, append_assoc, length-append}
use Rattle.std.specs.List.{AllByRecursion, flat_map}
use Rattle.ots_address.proofs.OneLemmas.{given_once, never_both, refused_once}
use Rattle.ots_block.specs.Block.{Contents}
use Rattle.ots_block.specs.declared.fault.BlockError.{BlockError}
use Rattle.ots_block.specs.declared.fault.BlockError.TheVariants as fault
use Rattle.ots_block.specs.declared.fault.BlockReason.{BlockReason}
use Rattle.ots_block.proofs.Blocks.{block_again}
use Rattle.ots_block.proofs.OneAnswer.{never_both_lem}
use Rattle.ots_block.proofs.Spelled.{ok_is}
use Rattle.ots_journal.specs.Image.{FitsEntry, entry_bytes, open_gate}
use Rattle.ots_journal.specs.Opening.{magic1}
use Rattle.ots_journal.specs.Version1.{Begins1, HasEntry, IsDamaged1, Stands1, StandsLong1, prefix1, gated_entry}
use Rattle.ots_journal.specs.declared.entry.Entry.{Entry}
use Rattle.ots_journal.proofs.GroupReading.{unique_rest}
use Rattle.ots_journal.proofs.OldReading.{has_entry, stands_once1}
use Rattle.ots_journal.proofs.Unique.{head_is, unique_entry}
use Rattle.ots_calendar_text.specs.declared.status.DaemonStatus.{DaemonStatus}
use Rattle.ots_calendar_text.specs.declared.status.DaemonStatus.TheVariants.{BadAddress, BadBlock, BadDigests, Damaged}
use Rattle.ots_address.specs.Address.{AddressParts}
use Rattle.ots_calendar_inputs.specs.Address.{IsOneAddress, RefusesAddress}
use Rattle.ots_calendar_inputs.specs.Block.{GivesBlock, RefusesBlock, too_big, bad_block}
use Rattle.ots_inputs.proofs.OneFile.{lines_given_once, lines_never_both, one_bad_line}
use Rattle.ots_calendar_inputs.specs.DigestLines.{digest_form}
use Rattle.ots_calendar_inputs.specs.Digests.{IsDigests, RefusesDigests}
use Rattle.ots_calendar_inputs.specs.Key.{GivesKey, RefusesKey}
use Rattle.ots_calendar_inputs.specs.Old.{GivesOld, RefusesOld, no_journal, damaged}
use Rattle.ots_calendar_inputs.specs.Old as old

-- ---- the address

pub address_given_once : (word first second : List ℕ) → IsOneAddress word first → IsOneAddress word second → first ≡ second
address_given_once word first second f g = f.text ∙ ap (λ (a : AddressParts). a.text) (given_once word f.address g.address f.is_address g.is_address) ∙ sym g.text

abbrev bad_address : ℕ → Bool → DaemonStatus
bad_address place https = BadAddress place https

pub address_refused_once : (word : List ℕ) (first second : DaemonStatus) → RefusesAddress word first → RefusesAddress word second → first ≡ second
address_refused_once word first second f g =
    let (place, https) = refused_once word f.place g.place f.https g.https f.none g.none in
    f.status ∙ (λ i. bad_address (place i) (https i)) ∙ sym g.status

pub address_never_both : (word uri : List ℕ) (status : DaemonStatus) → IsOneAddress word uri → RefusesAddress word status → ⊥
address_never_both word uri status is refuses = never_both word is.address refuses.place refuses.https is.is_address refuses.none

-- ---- the key

pub key_given_once : (bytes first second : List ℕ) → GivesKey bytes first → GivesKey bytes second → first ≡ second
key_given_once bytes first second f g = f.block ∙ sym g.block

pub key_refused_once : (bytes : List ℕ) (first second : DaemonStatus) → RefusesKey bytes first → RefusesKey bytes second → first ≡ second
key_refused_once bytes first second f g = f.status ∙ sym g.status

pub key_never_both : (bytes key : List ℕ) (status : DaemonStatus) → GivesKey bytes key → RefusesKey bytes status → ⊥
key_never_both bytes key status gives refuses = refuses.none gives.is_key

-- ---- the digests

pub digests_given_once : (bytes : List ℕ) (first second : List (List ℕ)) → IsDigests bytes first → IsDigests bytes second → first ≡ second
digests_given_once = lines_given_once digest_form

pub digests_refused_once : (bytes : List ℕ) (first second : DaemonStatus) → RefusesDigests bytes first → RefusesDigests bytes second → first ≡ second
digests_refused_once bytes first second f g =
    f.status ∙ ap (λ (z : ℕ). let s : DaemonStatus = BadDigests z in s) (one_bad_line digest_form bytes f.number g.number f.bad g.bad) ∙ sym g.status

pub digests_never_both : (bytes : List ℕ) (digests : List (List ℕ)) (status : DaemonStatus) → IsDigests bytes digests → RefusesDigests bytes status → ⊥
digests_never_both bytes digests status is refuses = lines_never_both digest_form bytes digests refuses.number is refuses.bad

-- ---- the block

pub block_given_once : (bytes : List ℕ) (first second : Contents) → GivesBlock bytes first → GivesBlock bytes second → first ≡ second
block_given_once bytes first second f g = ok_is first second (sym (block_again bytes first f.is_block) ∙ block_again bytes second g.is_block)

abbrev fault_at : ℕ → BlockReason → Result Contents BlockError
fault_at place reason = Err (fault.BadBlock place reason)

same_fault : (p q : ℕ) (v w : BlockReason) → fault_at p v ≡ fault_at q w → (p ≡ q) × (v ≡ w)
same_fault p q v w same = (cc, cc)

abbrev bad_block_at : ℕ → BlockReason → DaemonStatus
bad_block_at place reason = BadBlock place reason

pub block_refused_once : (bytes : List ℕ) (first second : DaemonStatus) → RefusesBlock bytes first → RefusesBlock bytes second → first ≡ second
block_refused_once bytes first second (too_big long is) (too_big again also) = is ∙ sym also
block_refused_once bytes first second (too_big long is) (bad_block q w few has also) = absurd (omega (arith, long, few))
block_refused_once bytes first second (bad_block p v few has is) (too_big long also) = absurd (omega (arith, long, few))
block_refused_once bytes first second (bad_block p v few has is) (bad_block q w again too also) =
    let same = same_fault p q v w (sym has ∙ too) in
    is ∙ ap (λ (z : ℕ). bad_block_at z v) same.0 ∙ ap (bad_block_at q) same.1 ∙ sym also

pub block_never_both : (bytes : List ℕ) (block : Contents) (status : DaemonStatus) → GivesBlock bytes block → RefusesBlock bytes status → ⊥
block_never_both bytes block status gives (too_big long is) = absurd (let few = gives.within in omega (arith, long, few))
block_never_both bytes block status gives (bad_block place reason few has is) = never_both_lem bytes block place reason gives.is_block has

-- ---- the journal of version 1

abbrev gated : List Entry → List ℕ
gated entries = flat_map gated_entry entries

-- what stands after the first gate of each
after_gate : (f h : Entry) (fs hs : List Entry) (xs ys : List ℕ) → gated (f ∷ fs) ++ xs ≡ gated (h ∷ hs) ++ ys → entry_bytes f ++ (gated fs ++ xs) ≡ entry_bytes h ++ (gated hs ++ ys)
after_gate f h fs hs xs ys same = sym (append_assoc (entry_bytes f) (gated fs) xs) ∙ ap (λ (l : List ℕ). drop 1 l) same ∙ append_assoc (entry_bytes h) (gated hs) ys

module _ (g k : ℕ) (r s : List ℕ) where
  -- as many entries from the start are the same entries, and have the same gate after them
  same_entries : (fs hs : List Entry) → AllByRecursion FitsEntry fs → AllByRecursion FitsEntry hs → gated fs ++ g ∷ r ≡ gated hs ++ k ∷ s → length fs ≡ length hs → (fs ≡ hs) × (g ≡ k)
  same_entries [] [] fit_f fit_h same sizes = (refl, head_is g k r s same)
  same_entries [] (h ∷ hs) fit_f fit_h same sizes = absurd (omega (arith, sizes))
  same_entries (f ∷ fs) [] fit_f fit_h same sizes = absurd (omega (arith, sizes))
  same_entries (f ∷ fs) (h ∷ hs) fit_f fit_h same sizes =
      let xs = gated fs ++ g ∷ r in
      let ys = gated hs ++ k ∷ s in
      let tails = after_gate f h fs hs (g ∷ r) (k ∷ s) same in
      let more = same_entries fs hs fit_f.1 fit_h.1 (unique_rest f h xs ys fit_f.0 fit_h.0 tails) (omega (arith, sizes)) in
      (ap (λ (e : Entry). e ∷ fs) (unique_entry f h xs ys fit_f.0 fit_h.0 tails) ∙ ap (λ (l : List Entry). h ∷ l) more.0, more.1)

  -- fewer entries from the start have an open gate and an entry after them
  entry_after : (fs hs : List Entry) → AllByRecursion FitsEntry fs → AllByRecursion FitsEntry hs → gated fs ++ g ∷ r ≡ gated hs ++ k ∷ s → length fs < length hs → (g ≡ open_gate) × HasEntry r
  entry_after fs [] fit_f fit_h same less = absurd (omega (arith, less))
  entry_after [] (h ∷ hs) fit_f fit_h same less =
      let more = gated hs ++ k ∷ s in
      let whole : r ≡ entry_bytes h ++ more = ap (λ (l : List ℕ). drop 1 l) same ∙ append_assoc (entry_bytes h) (gated hs) (k ∷ s) in (
        head_is g open_gate r ((entry_bytes h ++ gated hs) ++ k ∷ s) same,
        has_entry r more h (record { fits = fit_h.0; whole = whole }) (omega (arith, length-append (gated hs) (k ∷ s))),
      )
  entry_after (f ∷ fs) (h ∷ hs) fit_f fit_h same less =
      let tails = after_gate f h fs hs (g ∷ r) (k ∷ s) same in
      entry_after fs hs fit_f.1 fit_h.1 (unique_rest f h (gated fs ++ g ∷ r) (gated hs ++ k ∷ s) fit_f.0 fit_h.0 tails) (omega (arith, less))

after_magic : (bytes : List ℕ) (fs hs : List Entry) (g k : ℕ) (r s : List ℕ) → Begins1 fs g r bytes → Begins1 hs k s bytes → gated fs ++ g ∷ r ≡ gated hs ++ k ∷ s
after_magic bytes fs hs g k r s f h = ap (λ (l : List ℕ). drop 8 l) (sym f.whole ∙ h.whole)

begins_magic1 : (bytes : List ℕ) (fs : List Entry) (g : ℕ) (r : List ℕ) → Begins1 fs g r bytes → take 8 bytes ≡ magic1
begins_magic1 bytes fs g r f = ap (λ (l : List ℕ). take 8 l) f.whole

-- the entries before a damaged place are all that can be read
damaged_is_last : (bytes : List ℕ) (place : ℕ) (hs : List Entry) (k : ℕ) (s : List ℕ) (d : IsDamaged1 bytes place) → Begins1 hs k s bytes → length d.entries < length hs → ⊥
damaged_is_last bytes place hs k s d h less =
    d.broken (entry_after open_gate k d.rest s d.entries hs d.begins.fit h.fit (after_magic bytes d.entries hs open_gate k d.rest s d.begins h) less).1

one_damaged_place : (bytes : List ℕ) (first second : ℕ) → IsDamaged1 bytes first → IsDamaged1 bytes second → first ≡ second
one_damaged_place bytes first second d e =
    let not_less : length d.entries < length e.entries → ⊥ = damaged_is_last bytes first e.entries open_gate e.rest d e.begins in
    let not_more : length e.entries < length d.entries → ⊥ = damaged_is_last bytes second d.entries open_gate d.rest e d.begins in
    let same = same_entries open_gate open_gate d.rest e.rest d.entries e.entries d.begins.fit e.begins.fit
    (after_magic bytes d.entries e.entries open_gate open_gate d.rest e.rest d.begins e.begins) (omega (arith, not_less, not_more)) in
    d.at ∙ ap (λ (z : List Entry). length (prefix1 z)) same.0 ∙ sym e.at

-- a journal that ends at a closed gate has no damaged place
closed_not_damaged : (bytes : List ℕ) (entries : List Entry) (place : ℕ) → StandsLong1 bytes entries → IsDamaged1 bytes place → ⊥
closed_not_damaged bytes entries place t d =
    let tails = after_magic bytes entries d.entries t.gate open_gate t.rest d.rest t.begins d.begins in
    let not_less : length d.entries < length entries → ⊥ = damaged_is_last bytes place entries t.gate t.rest d t.begins in
    let not_more : length entries < length d.entries → ⊥ = λ more. t.closed (entry_after t.gate open_gate t.rest d.rest entries d.entries t.begins.fit d.begins.fit tails more).0 in
    t.closed (same_entries t.gate open_gate t.rest d.rest entries d.entries t.begins.fit d.begins.fit tails (omega (arith, not_less, not_more))).1

stands_not_damaged : (bytes : List ℕ) (entries : List Entry) (place : ℕ) → Stands1 bytes entries → IsDamaged1 bytes place → ⊥
stands_not_damaged bytes entries place (inl short) d = absurd (let long = d.long in omega (arith, short.0, long))
stands_not_damaged bytes entries place (inr t) d = closed_not_damaged bytes entries place t d

stands_is_journal : (bytes : List ℕ) (entries : List Entry) → Stands1 bytes entries → 9 < length bytes → take 8 bytes ≢ magic1 → ⊥
stands_is_journal bytes entries (inl short) long other = absurd (omega (arith, short.0, long))
stands_is_journal bytes entries (inr t) long other = other (begins_magic1 bytes entries t.gate t.rest t.begins)

damaged_is_journal : (bytes : List ℕ) (place : ℕ) → IsDamaged1 bytes place → take 8 bytes ≢ magic1 → ⊥
damaged_is_journal bytes place d other = other (begins_magic1 bytes d.entries open_gate d.rest d.begins)

pub old_given_once : (bytes : List ℕ) (first second : List Entry) → GivesOld bytes first → GivesOld bytes second → first ≡ second
old_given_once bytes first second f g = stands_once1 bytes first second f.stand g.stand

pub old_refused_once : (bytes : List ℕ) (first second : DaemonStatus) → RefusesOld bytes first → RefusesOld bytes second → first ≡ second
old_refused_once bytes first second (old.too_big long is) (old.too_big again also) = is ∙ sym also
old_refused_once bytes first second (old.too_big long is) (no_journal few other also) = absurd (omega (arith, long, few))
old_refused_once bytes first second (old.too_big long is) (damaged q few d also) = absurd (omega (arith, long, few))
old_refused_once bytes first second (no_journal few other is) (old.too_big long also) = absurd (omega (arith, long, few))
old_refused_once bytes first second (no_journal few other is) (no_journal again too also) = is ∙ sym also
old_refused_once bytes first second (no_journal few other is) (damaged q again d also) = absurd (damaged_is_journal bytes q d other.1)
old_refused_once bytes first second (damaged p few d is) (old.too_big long also) = absurd (omega (arith, long, few))
old_refused_once bytes first second (damaged p few d is) (no_journal again other also) = absurd (damaged_is_journal bytes p d other.1)
old_refused_once bytes first second (damaged p few d is) (damaged q again e also) =
    is ∙ ap (λ (z : ℕ). let s : DaemonStatus = Damaged z in s) (one_damaged_place bytes p q d e) ∙ sym also

pub old_never_both : (bytes : List ℕ) (entries : List Entry) (status : DaemonStatus) → GivesOld bytes entries → RefusesOld bytes status → ⊥
old_never_both bytes entries status gives (old.too_big long is) = absurd (let few = gives.within in omega (arith, long, few))
old_never_both bytes entries status gives (no_journal few other is) = stands_is_journal bytes entries gives.stand other.0 other.1
old_never_both bytes entries status gives (damaged place few d is) = stands_not_damaged bytes entries place gives.stand d
