-- A whole run.
use Rattle.std.proofs.Common.{◌≡◌, ◌≤◌, ◌⊎◌, inl, inr, ℕ, zero, suc, List, [], ◌++◌, length, take, Option, Some, refl, sym, ap, subst, ◌∙◌, arith, append-nil, length-append}
use Rattle.std.proofs.lemmas.List.{length-map}
use Rattle.ots_address.specs.Address.{AddressParts}
use Rattle.ots_address.specs.OneAddress.{IfNotOneAddress, IsOneAddress}
use Rattle.ots_address.specs.declared.list.AddressError.{AddressError}
use Rattle.ots_address.specs.declared.list.AddressError.TheVariants as address
use Rattle.ots_base.specs.Cause.{Rose}
use Rattle.ots_disk.specs.Disk.{LeavesOnly}
use Rattle.ots_disk.specs.Moments.{joined, started, weaker}
use Rattle.ots_journal.specs.declared.entry.Entry.{Entry}
use Rattle.ots_journal.specs.declared.limits.TheConstants.{MAX_JOURNAL}
use Rattle.ots_journal.specs.Image.{Stands}
use Rattle.ots_journal.specs.Journal.{JournalTold}
use Rattle.ots_journal.specs.Opening.{OpenedFrom}
use Rattle.ots_mirror_words.specs.Words.{Mirroring}
use Rattle.ots_mirror_words.specs.declared.outcome.RoundOutcome.{RoundOutcome}
use Rattle.ots_mirror_words.specs.declared.status.MirrorStatus.{MirrorStatus}
use Rattle.ots_mirror_words.specs.declared.status.MirrorStatus.TheVariants.{DiskFault, WriteFault}
use Rattle.ots_opening.specs.Images.{IsOnlyImage, StandsAfter}
use Rattle.ots_opening.specs.Opening.{Closes, MayClose, Opens, RefusesStore, disk_failed as failed_disk, is_refused, no_memory as no_room}
use Rattle.ots_opening.specs.declared.errors.OpenError.{OpenError}
use Rattle.ots_opening.proofs.Images.{found_once, opened_stands}
use Rattle.ots_outputs.specs.Printed.{PrintsLastOr}
use Rattle.ots_outside.specs.Dialer.{DialerTold}
use Rattle.ots_outside.specs.Streams.{Takes, TakesPrefix, Takes-trans}
use Rattle.ots_store.specs.Order.{records_of}
use Rattle.ots_store.specs.Records.{Record, record_of}
use Rattle.ots_mirror.specs.Honest.{HonestOwner, StandsAlong}
use Rattle.ots_mirror.specs.Printed.{end_text}
use Rattle.ots_mirror.specs.Rounds.{End, Held, LinesPrinted, MakesRounds, RoundsEnd, StopsRun, behind, current, held_in, not_printed, stops, full, disk_failed, no_memory, round_lines}
use Rattle.ots_mirror.specs.Run.{Ends, OverDisk, RoundsOver, RunEnd, not_opened, of_rounds, open_status, refused, runs}
use Rattle.ots_mirror.specs.Run.{disk_failed as ran_against_the_disk, no_memory as ran_short}
use Rattle.ots_mirror.specs.Run.{OverAsked, OverWords, address_status, asks as words_ask, bad_address, no_address_memory, opens as address_opens}
use Rattle.ots_mirror.proofs.Making.{after, along, cut_then}

-- ---- causes

pub rose_then : (a b c : ℕ) → b ≤ c → Rose a b → Rose a c
rose_then a b c le rose = omega (arith, le, rose)

module _ {T : Type 0} (told : T → DialerTold) (faults : T → ℕ) (addr : AddressParts) (limit : ℕ) (disk sink later_disk later_sink : Type 0) (rise : disk → later_disk) (rise_sink : sink → later_sink) where
  stops_as : (held : Held) (old new : T) (s : MirrorStatus) → StopsRun told faults addr limit disk held old new s → StopsRun told faults addr limit later_disk held old new s
  stops_as held old new s (full group takes over is) = full group takes over is
  stops_as held old new s (disk_failed group takes rose is) = disk_failed group takes (rise rose) is
  stops_as held old new s (no_memory asks is) = no_memory asks is

  makes_as : (rounds : ℕ) (found : Held) (old new : T) (e : End) → MakesRounds told faults addr limit disk sink rounds found old new e → MakesRounds told faults addr limit later_disk later_sink rounds found old new e
  makes_as rounds found old new e (current before all less made is done) = current before all less made is done
  makes_as rounds found old new e (behind all many made is) = behind all many made is
  makes_as rounds found old new e (stops all less mid made stop) = stops all less mid made (stops_as e.held mid new e.status stop)
  makes_as rounds found old new e (not_printed before last all less failed made is so) = not_printed before last all less (rise_sink failed) made is so

-- ---- what is printed

end_same : (s : MirrorStatus) (n m : ℕ) → (n ≡ m) ⊎ (s ≡ DiskFault) → end_text s n ≡ end_text s m
end_same s n m (inl is) = ap (end_text s) is
end_same s n m (inr is) = ap (λ (z : MirrorStatus). end_text z n) is ∙ sym (ap (λ (z : MirrorStatus). end_text z m) is)

take_none : (k : ℕ) → take {A = ℕ} k [] ≡ []
take_none zero = refl
take_none (suc k) = refl

prefix_then_nothing : (a b c : Option (List ℕ)) (lines : List ℕ) → TakesPrefix a b lines → Takes b c [] → TakesPrefix a c (lines ++ [])
prefix_then_nothing a b c lines (n, few, first) second = (
  n,
  omega (arith, few, length-append lines []),
  subst (λ (z : List ℕ). Takes a c (take n z)) (sym (append-nil lines)) (subst (Takes a c) (append-nil (take n lines)) (Takes-trans a b c (take n lines) [] first second)),
)

-- lines, and then a text
module _ (sink print all : Type 0) (rise : sink → all) (rise_print : print → all) (before mid now : Option (List ℕ)) where
  pub printed_whole : (s r : MirrorStatus) (outcomes : List RoundOutcome) (count records : ℕ) → LinesPrinted sink s outcomes before mid → (records ≡ count) ⊎ (s ≡ DiskFault)
      → PrintsLastOr WriteFault print s (end_text s records) mid now r → PrintsLastOr WriteFault all s (round_lines outcomes ++ end_text s count) before now r
  printed_whole s r outcomes count records (inl lines) same last = then (subst (λ (z : List ℕ). PrintsLastOr WriteFault print s z mid now r) (end_same s records count same) last)
    where
      then : PrintsLastOr WriteFault print s (end_text s count) mid now r → PrintsLastOr WriteFault all s (round_lines outcomes ++ end_text s count) before now r
      then (inl (took, is)) = inl (Takes-trans before mid now (round_lines outcomes) (end_text s count) lines took, is)
      then (inr (failed, some, is)) = inr (rise_print failed, cut_then before mid now (round_lines outcomes) (end_text s count) lines some, is)
  printed_whole s r outcomes count records (inr (failed, some, is)) same last =
      subst (λ (z : MirrorStatus). PrintsLastOr WriteFault all z (round_lines outcomes ++ end_text z count) before now r) (sym is)
      (then (subst (λ (z : MirrorStatus). PrintsLastOr WriteFault print z (end_text z records) mid now r) is last))
    where
      then : PrintsLastOr WriteFault print WriteFault [] mid now r → PrintsLastOr WriteFault all WriteFault (round_lines outcomes ++ []) before now r
      then (inl (took, one)) = inr (rise failed, prefix_then_nothing before mid now (round_lines outcomes) some took, one)
      then (inr (also, (n, few, took), one)) = inr (rise failed, prefix_then_nothing before mid now (round_lines outcomes) some (subst (Takes mid now) (take_none n) took), one)

-- before the first round
pub refused_ends : (images : List ℕ → Type 0) (before now : Option (List ℕ)) (sink : Type 0) (r : MirrorStatus) (may : RunEnd → Type 0) (s : MirrorStatus) → may (refused s) → PrintsLastOr WriteFault sink s (end_text s 0) before now r
    → Ends may images sink before now r
refused_ends images before now sink r may s is printed = record { ending = refused s; comes = is; left = tt; printed = printed }

-- ---- rounds over an open store

module _ {T : Type 0} (told : T → DialerTold) (faults : T → ℕ) (addr : AddressParts) where
  pub store_ends : (disk sink print all : Type 0) → (sink → all) → (print → all) → (limit rounds : ℕ) (found : Held) (old new : T) (images : List ℕ → Type 0) (entries : List Entry) (records : List Record) (count : ℕ) (before mid now : Option (List ℕ)) (s r : MirrorStatus)
      → RoundsEnd (MakesRounds told faults addr limit disk sink rounds found old new) images entries sink before mid s → limit ≡ MAX_JOURNAL → records ≡ records_of entries → count ≡ length records
      → PrintsLastOr WriteFault print s (end_text s count) mid now r
      → Ends (RoundsOver told faults addr disk all rounds found old new) images all before now r
  store_ends disk sink print all rise rise_print limit rounds found old new images entries records count before mid now s r made within known counted last = record {
    ending = of_rounds made.ending;
    comes = (
      made.ending,
      makes_as told faults addr MAX_JOURNAL disk sink disk all (λ d. d) rise rounds found old new made.ending
          (subst (λ (z : ℕ). MakesRounds told faults addr z disk sink rounds found old new made.ending) within made.comes),
      refl,
    );
    left = made.left;
    printed = printed_whole sink print all rise rise_print before mid now made.ending.status r made.ending.outcomes (length made.ending.held.entries) count made.printed (counts made.entries_are)
        (subst (λ (z : MirrorStatus). PrintsLastOr WriteFault print z (end_text z count) mid now r) made.status last);
  }
    where
      counts : (entries ≡ made.ending.held.entries) ⊎ (made.ending.status ≡ DiskFault) → (count ≡ length made.ending.held.entries) ⊎ (made.ending.status ≡ DiskFault)
      counts (inl is) = inl (counted ∙ ap length known ∙ length-map entries record_of ∙ ap length is)
      counts (inr is) = inr is

  -- ---- on a disk

  module _ {D : Type 0} (bytes : D → Option (List ℕ)) (disk_faults clock : D → ℕ) (images : D → List ℕ → Type 0) (images_since : D → ℕ → List ℕ → Type 0) (disk new : D) (rounds : ℕ) (before now : Option (List ℕ)) (sink : Type 0) (r : MirrorStatus) where
    pub disk_ends : (j : JournalTold D) (old next : T) → Opens bytes disk_faults clock images images_since disk j
        → Ends (RoundsOver told faults addr (Rose (disk_faults j.disk) (disk_faults new)) sink rounds (held_in j) old next) (images new) sink before now r
        → Ends (OverDisk told faults addr (bytes disk) (Rose (disk_faults disk) (disk_faults new)) sink rounds old next) (images new) sink before now r
    disk_ends j old next opens ends = record {
      ending = ends.ending;
      comes = runs (held_in j) opens.has opens.gate (
        ends.comes.0,
        makes_as told faults addr MAX_JOURNAL _ sink _ sink (λ rose. let later = opens.later in omega (arith, later, rose)) (λ d. d) rounds (held_in j) old next ends.comes.0 ends.comes.1,
        ends.comes.2,
      );
      left = ends.left;
      printed = ends.printed;
    }

    pub unopened_ends : (why : OpenError) (s : MirrorStatus) (d : T) → Closes bytes disk_faults clock images images_since RefusesStore disk new why → s ≡ open_status why
        → PrintsLastOr WriteFault sink s (end_text s 0) before now r
        → Ends (OverDisk told faults addr (bytes disk) (Rose (disk_faults disk) (disk_faults new)) sink rounds d d) (images new) sink before now r
    unopened_ends why s d closes is printed = refused_ends (images new) before now sink r _ s (by closes.why) printed
      where
        by : MayClose (RefusesStore (bytes disk)) (Rose (disk_faults disk) (disk_faults new)) why → OverDisk told faults addr (bytes disk) (Rose (disk_faults disk) (disk_faults new)) sink rounds d d (refused s)
        by (is_refused refuses) = not_opened why refuses refl (ap refused is)
        by (failed_disk rose one) = ran_against_the_disk rose refl (ap refused (is ∙ ap open_status one))
        by (no_room one) = ran_short refl (ap refused (is ∙ ap open_status one))

-- ---- a crash

module _ {D : Type 0} (bytes : D → Option (List ℕ)) (clock : D → ℕ) (images : D → List ℕ → Type 0) (images_since : D → ℕ → List ℕ → Type 0) (disk : D) (found : List Entry) (one : IsOnlyImage (bytes disk) (images disk) found) where
  -- what holds of each image that stands for the entries found
  module _ (P : List ℕ → Type 0) (still : (c : List ℕ) → Stands c found → P c) where
    -- the disk is opened at most
    opened_leaves : (new : D) → LeavesOnly clock images_since disk new (OpenedFrom (images disk)) → LeavesOnly clock images_since disk new P
    opened_leaves new moments = weaker clock images_since disk new _ _ moments (λ c left. still c (opened_stands (bytes disk) (images disk) found one c left))

    idle_leaves : ((d : D) (c : List ℕ) → images_since d (clock d) c → images d c) → LeavesOnly clock images_since disk disk P
    idle_leaves only_now = opened_leaves disk (started clock images_since disk _ (λ c left. inl (only_now disk c left)))

    -- rounds are made
    rounds_leave : (j : JournalTold D) (new : D) → LeavesOnly clock images_since disk j.disk (OpenedFrom (images disk)) → LeavesOnly clock images_since j.disk new P → LeavesOnly clock images_since disk new P
    rounds_leave j new opens moments = joined clock images_since disk j.disk new _ _ _ (opened_leaves j.disk opens) moments (λ c h. h) (λ c h. h)

  -- whatever a calendar answers
  still_after : (c : List ℕ) → Stands c found → StandsAfter found c
  still_after c stands = after found found c ([], sym (append-nil found)) stands

  pub opened_after : (new : D) → LeavesOnly clock images_since disk new (OpenedFrom (images disk)) → LeavesOnly clock images_since disk new (StandsAfter found)
  opened_after = opened_leaves (StandsAfter found) still_after

  pub idle_after : ((d : D) (c : List ℕ) → images_since d (clock d) c → images d c) → LeavesOnly clock images_since disk disk (StandsAfter found)
  idle_after = idle_leaves (StandsAfter found) still_after

  pub rounds_after : (faults : D → ℕ) (j : JournalTold D) (new : D) → Opens bytes faults clock images images_since disk j → LeavesOnly clock images_since j.disk new (StandsAfter j.entries) → LeavesOnly clock images_since disk new (StandsAfter found)
  rounds_after faults j new opens moments =
      let same : j.entries ≡ found = found_once (bytes disk) (images disk) found one j.entries opens.has.stand in
      rounds_leave (StandsAfter found) still_after j new opens.moments (subst (λ (z : List Entry). LeavesOnly clock images_since j.disk new (StandsAfter z)) same moments)

  -- where it is honest
  module _ (all : List Record) (told : DialerTold) (owner : HonestOwner all (records_of found) told) where
    still_along : (c : List ℕ) → Stands c found → StandsAlong found all c
    still_along c stands = along found found all c ([], sym (append-nil found)) owner.begin stands

    pub opened_along : (new : D) → LeavesOnly clock images_since disk new (OpenedFrom (images disk)) → LeavesOnly clock images_since disk new (StandsAlong found all)
    opened_along = opened_leaves (StandsAlong found all) still_along

    pub idle_along : ((d : D) (c : List ℕ) → images_since d (clock d) c → images d c) → LeavesOnly clock images_since disk disk (StandsAlong found all)
    idle_along = idle_leaves (StandsAlong found all) still_along

    pub rounds_along : (faults : D → ℕ) (j : JournalTold D) (records : List Record) (new : D) → Opens bytes faults clock images images_since disk j → records ≡ records_of j.entries
        → (HonestOwner all records told → LeavesOnly clock images_since j.disk new (StandsAlong j.entries all)) → LeavesOnly clock images_since disk new (StandsAlong found all)
    rounds_along faults j records new opens known moments =
        let same : j.entries ≡ found = found_once (bytes disk) (images disk) found one j.entries opens.has.stand in
        rounds_leave (StandsAlong found all) still_along j new opens.moments
        (subst (λ (z : List Entry). LeavesOnly clock images_since j.disk new (StandsAlong z all)) same
        (moments (subst (λ (z : List Record). HonestOwner all z told) (sym (known ∙ ap records_of same)) owner)))

-- ---- the address

pub address_refused : {T : Type 0} (told : T → DialerTold) (faults : T → ℕ) (bytes : Option (List ℕ)) (disk sink : Type 0) (asked : Mirroring) (d : T) (e : AddressError) (s : MirrorStatus)
    → IfNotOneAddress asked.address e → s ≡ address_status e → OverAsked told faults bytes disk sink asked d d (refused s)
address_refused told faults bytes disk sink asked d (address.BadAddress place https) s none is = bad_address s (record { place = place; https = https; none = none; status = is }) refl refl
address_refused told faults bytes disk sink asked d address.OutOfMemory s none is = no_address_memory refl (ap refused is)

-- what is asked for, as the words have it
pub words_ends : {T : Type 0} (told : T → DialerTold) (faults : T → ℕ) (bytes : Option (List ℕ)) (disk sink : Type 0) (words : Option Mirroring) (m : Mirroring) (old new : T) (images : List ℕ → Type 0) (before now : Option (List ℕ)) (r : MirrorStatus)
    → words ≡ Some m → Ends (OverAsked told faults bytes disk sink m old new) images sink before now r → Ends (OverWords told faults bytes disk sink words old new) images sink before now r
words_ends told faults bytes disk sink words m old new images before now r is ends = record { ending = ends.ending; comes = words_ask m is ends.comes; left = ends.left; printed = ends.printed }

pub disk_asked : {T : Type 0} (told : T → DialerTold) (faults : T → ℕ) (bytes : Option (List ℕ)) (disk sink : Type 0) (m : Mirroring) (addr : AddressParts) (old new : T) (images : List ℕ → Type 0) (before now : Option (List ℕ)) (r : MirrorStatus)
    → IsOneAddress m.address addr → Ends (OverDisk told faults addr bytes disk sink m.rounds old new) images sink before now r → Ends (OverAsked told faults bytes disk sink m old new) images sink before now r
disk_asked told faults bytes disk sink m addr old new images before now r is ends = record { ending = ends.ending; comes = address_opens addr is ends.comes; left = ends.left; printed = ends.printed }
