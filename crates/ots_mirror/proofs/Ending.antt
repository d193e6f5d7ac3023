-- How rounds end.
use Rattle.std.proofs.Common.{◌≡◌, ◌<◌, ◌≤◌, inl, inr, ℕ, List, [], ◌∷◌, ◌++◌, Option, refl, sym, ap, subst, ◌∙◌, arith, append-nil}
use Rattle.ots_address.specs.Address.{AddressParts}
use Rattle.ots_base.specs.Cause.{Rose}
use Rattle.ots_disk.specs.Disk.{LeavesOnly}
use Rattle.ots_journal.specs.declared.entry.Entry.{Entry}
use Rattle.ots_journal.specs.Image.{Stands}
use Rattle.ots_journal.specs.Journal.{JournalTold, StandsForEither, size_with}
use Rattle.ots_mirror_words.specs.Lines.{round_line}
use Rattle.ots_mirror_words.specs.declared.outcome.RoundOutcome.{RoundOutcome}
use Rattle.ots_mirror_words.specs.declared.outcome.RoundOutcome.TheVariants.{Current}
use Rattle.ots_mirror_words.specs.declared.status.MirrorStatus.{MirrorStatus}
use Rattle.ots_mirror_words.specs.declared.status.MirrorStatus.TheVariants.{Done, Behind, Full, WriteFault}
use Rattle.ots_outside.specs.Dialer.{DialerTold}
use Rattle.ots_outside.specs.Streams.{Takes, TakesPrefix}
use Rattle.ots_store.specs.Order.{records_of}
use Rattle.ots_store.specs.Records.{Record}
use Rattle.ots_opening.specs.Images.{StandsAfter}
use Rattle.ots_mirror.specs.Asking.{AsksInVain, HasRound}
use Rattle.ots_mirror.specs.Group.{Adds, StopsRound, disk_failed, full, no_memory}
use Rattle.ots_mirror.specs.Honest.{HonestOwner, StandsAlong}
use Rattle.ots_mirror.specs.Round.{TakesGroup}
use Rattle.ots_mirror.specs.Rounds.{Held, MakesRounds, Rounds, RoundsEnd, behind, current, not_printed, stops}
use Rattle.ots_mirror.specs.Rounds.{full as too_full, disk_failed as ran_against_the_disk, no_memory as ran_short}
use Rattle.ots_mirror.proofs.Making.{Reached, next, along_next, either_after, fits_next, holds_next, keeps_next, lines_cut, lines_then, moments_next, rounds_next}

module _ {T D : Type 0} (told : T → DialerTold) (faults : T → ℕ) (clock : D → ℕ) (images : D → List ℕ → Type 0) (images_since : D → ℕ → List ℕ → Type 0) (address : AddressParts) (limit : ℕ)
    (found : Held) (old mid : T) (start j : JournalTold D) (before taken : Option (List ℕ)) (made : ℕ) (r : Reached told faults clock images images_since address limit found old mid start j before taken made) (rounds : ℕ) (disk sink : Type 0) where
  abbrev Ended : T → JournalTold D → Option (List ℕ) → MirrorStatus → Type 0
  Ended new k after s = RoundsEnd (MakesRounds told faults address limit disk sink rounds found old new) (images k.disk) k.entries sink before after s

  module _ (less : made < rounds) where
    module _ (new : T) (o : RoundOutcome) (group : List Entry) (round : HasRound told faults address (records_of r.now.entries) mid new o group) (k : JournalTold D) (adds : Adds clock images images_since j k group) (after : Option (List ℕ)) where
      all_rounds : Rounds told faults address limit found old new (r.outcomes ++ o ∷ []) (next told faults clock images images_since address limit found old mid start j before taken made r new o group round)
      all_rounds = rounds_next told faults clock images images_since address limit found old mid start j before taken made r new o group round
          (fits_next told faults clock images images_since address limit found old mid start j before taken made r new o group round k adds)

      pub ends_current : o ≡ Current → Takes taken after (round_line o) → Ended new k after Done
      ends_current is printed = record {
        ending = record { status = Done; outcomes = r.outcomes ++ o ∷ []; held = next told faults clock images images_since address limit found old mid start j before taken made r new o group round };
        comes = current r.outcomes r.behind (omega (arith, less, r.many)) (subst (λ (z : RoundOutcome). Rounds told faults address limit found old new (r.outcomes ++ z ∷ []) (next told faults clock images images_since address limit found old mid start j before taken made r new o group round)) is all_rounds)
            (ap (λ (z : RoundOutcome). r.outcomes ++ z ∷ []) is) refl;
        status = refl;
        left = inl (holds_next told faults clock images images_since address limit found old mid start j before taken made r new o group round k adds).kept;
        entries_are = inl (holds_next told faults clock images images_since address limit found old mid start j before taken made r new o group round k adds).entries;
        printed = inl (lines_then before taken after r.outcomes o r.printed printed);
      }

      pub ends_unprinted : sink → TakesPrefix taken after (round_line o) → Ended new k after WriteFault
      ends_unprinted failed printed = record {
        ending = record { status = WriteFault; outcomes = r.outcomes ++ o ∷ []; held = next told faults clock images images_since address limit found old mid start j before taken made r new o group round };
        comes = not_printed r.outcomes o r.behind (omega (arith, less, r.many)) failed all_rounds refl refl;
        status = refl;
        left = inl (holds_next told faults clock images images_since address limit found old mid start j before taken made r new o group round k adds).kept;
        entries_are = inl (holds_next told faults clock images images_since address limit found old mid start j before taken made r new o group round k adds).entries;
        printed = inr (failed, lines_cut before taken after r.outcomes o r.printed printed, refl);
      }

      pub ends_keeping : LeavesOnly clock images_since start.disk k.disk (StandsAfter found.entries)
      ends_keeping = keeps_next told faults clock images images_since address limit found old mid start j before taken made r new o group round k
          (moments_next told faults clock images images_since address limit found old mid start j before taken made r new o group round k adds.moments)

      pub ends_along : (all : List Record) → HonestOwner all (records_of found.entries) (told old) → LeavesOnly clock images_since start.disk k.disk (StandsAlong found.entries all)
      ends_along all owner = (along_next told faults clock images images_since address limit found old mid start j before taken made r new o group round k
          (moments_next told faults clock images images_since address limit found old mid start j before taken made r new o group round k adds.moments) all owner).1

    module _ (counts_now : (d : D) (t : ℕ) (c : List ℕ) → t ≤ clock d → images d c → images_since d t c) (new : T) (k : JournalTold D) (s : MirrorStatus) where
      abbrev Stopped : Type 0
      Stopped = StopsRound clock images_since disk (TakesGroup (HasRound told faults address (records_of r.now.entries) mid new)) (AsksInVain told faults address (records_of r.now.entries) mid new) j k s

      kept_same : k ≡ j → (c : List ℕ) → images k.disk c → Stands c r.now.entries
      kept_same same c image = r.holds.kept c (subst (λ (z : JournalTold D). images z.disk c) same image)

      after_failed : (group : List Entry) → LeavesOnly clock images_since j.disk k.disk (StandsForEither j.entries group) → (c : List ℕ) → images k.disk c → StandsAfter r.now.entries c
      after_failed group moments c image = either_after r.now.entries r.now.entries group c ([], sym (append-nil r.now.entries))
          (subst (λ (z : List Entry). StandsForEither z group c) r.holds.entries (moments.each c (counts_now k.disk (clock j.disk) c moments.later image)))

      size_is : (group : List Entry) → size_with j.gate group ≡ size_with r.now.gate group
      size_is group = ap (λ (z : ℕ). size_with z group) r.holds.gate

      pub ends_stopped : Stopped → Ended new k taken s
      ends_stopped (full group takes over is same) = record {
        ending = record { status = s; outcomes = r.outcomes; held = r.now };
        comes = stops r.behind (omega (arith, less, r.many)) mid r.rounds (too_full group takes (omega (arith, over, size_is group, r.holds.limit_is))
            (let size = size_is group in let most = r.holds.limit_is in is ∙ (λ i. Full (size i) (most i))));
        status = refl;
        left = inl (kept_same same);
        entries_are = inl (ap (λ (z : JournalTold D). z.entries) same ∙ r.holds.entries);
        printed = inl r.printed;
      }
      ends_stopped (disk_failed group takes rose is moments) = record {
        ending = record { status = s; outcomes = r.outcomes; held = r.now };
        comes = stops r.behind (omega (arith, less, r.many)) mid r.rounds (ran_against_the_disk group takes rose is);
        status = refl;
        left = inr (is, after_failed group moments);
        entries_are = inr is;
        printed = inl r.printed;
      }
      ends_stopped (no_memory asks is same) = record {
        ending = record { status = s; outcomes = r.outcomes; held = r.now };
        comes = stops r.behind (omega (arith, less, r.many)) mid r.rounds (ran_short asks is);
        status = refl;
        left = inl (kept_same same);
        entries_are = inl (ap (λ (z : JournalTold D). z.entries) same ∙ r.holds.entries);
        printed = inl r.printed;
      }

      pub stopped_keeping : Stopped → LeavesOnly clock images_since start.disk k.disk (StandsAfter found.entries)
      stopped_keeping (full group takes over is same) = subst (λ (z : JournalTold D). LeavesOnly clock images_since start.disk z.disk (StandsAfter found.entries)) (sym same) r.keeps
      stopped_keeping (disk_failed group takes rose is moments) =
          keeps_next told faults clock images images_since address limit found old mid start j before taken made r new _ group takes k
          (moments_next told faults clock images images_since address limit found old mid start j before taken made r new _ group takes k moments)
      stopped_keeping (no_memory asks is same) = subst (λ (z : JournalTold D). LeavesOnly clock images_since start.disk z.disk (StandsAfter found.entries)) (sym same) r.keeps

      pub stopped_along : Stopped → (all : List Record) → HonestOwner all (records_of found.entries) (told old) → LeavesOnly clock images_since start.disk k.disk (StandsAlong found.entries all)
      stopped_along (full group takes over is same) all owner = subst (λ (z : JournalTold D). LeavesOnly clock images_since start.disk z.disk (StandsAlong found.entries all)) (sym same) (r.along all owner).1
      stopped_along (disk_failed group takes rose is moments) all owner =
          (along_next told faults clock images images_since address limit found old mid start j before taken made r new _ group takes k
          (moments_next told faults clock images images_since address limit found old mid start j before taken made r new _ group takes k moments) all owner).1
      stopped_along (no_memory asks is same) all owner = subst (λ (z : JournalTold D). LeavesOnly clock images_since start.disk z.disk (StandsAlong found.entries all)) (sym same) (r.along all owner).1

  pub ends_behind : rounds ≡ made → Ended mid j taken Behind
  ends_behind all = record {
    ending = record { status = Behind; outcomes = r.outcomes; held = r.now };
    comes = behind r.behind (r.many ∙ sym all) r.rounds refl;
    status = refl;
    left = inl r.holds.kept;
    entries_are = inl r.holds.entries;
    printed = inl r.printed;
  }

-- ---- as the code has it

-- the records of a store, as those of the entries held
pub round_at : {T : Type 0} (told : T → DialerTold) (faults : T → ℕ) (address : AddressParts) (records : List Record) (entries held : List Entry) (old new : T) (o : RoundOutcome) (group : List Entry)
    → records ≡ records_of entries → entries ≡ held → HasRound told faults address records old new o group → HasRound told faults address (records_of held) old new o group
round_at told faults address records entries held old new o group known is round = subst (λ (z : List Record). HasRound told faults address z old new o group) (known ∙ ap records_of is) round

pub stops_at : {T D : Type 0} (told : T → DialerTold) (faults : T → ℕ) (clock : D → ℕ) (images_since : D → ℕ → List ℕ → Type 0) (address : AddressParts) (records : List Record) (entries held : List Entry) (old new : T) (j k : JournalTold D) (disk later : Type 0) (s : MirrorStatus)
    → records ≡ records_of entries → entries ≡ held → (disk → later)
    → StopsRound clock images_since disk (TakesGroup (HasRound told faults address records old new)) (AsksInVain told faults address records old new) j k s
    → StopsRound clock images_since later (TakesGroup (HasRound told faults address (records_of held) old new)) (AsksInVain told faults address (records_of held) old new) j k s
stops_at told faults clock images_since address records entries held old new j k disk later s known is rise h =
    subst (λ (z : List Record). StopsRound clock images_since later (TakesGroup (HasRound told faults address z old new)) (AsksInVain told faults address z old new) j k s) (known ∙ ap records_of is) (risen h)
  where
    risen : StopsRound clock images_since disk (TakesGroup (HasRound told faults address records old new)) (AsksInVain told faults address records old new) j k s
        → StopsRound clock images_since later (TakesGroup (HasRound told faults address records old new)) (AsksInVain told faults address records old new) j k s
    risen (full group takes over is same) = full group takes over is same
    risen (disk_failed group takes rose is moments) = disk_failed group takes (rise rose) is moments
    risen (no_memory asks is same) = no_memory asks is same

-- a count that rose later has risen
pub rose_later : (a b c : ℕ) → a ≤ b → Rose b c → Rose a c
rose_later a b c le rose = omega (arith, le, rose)

pub owner_at : (all records : List Record) (entries : List Entry) (told : DialerTold) → records ≡ records_of entries → HonestOwner all records told → HonestOwner all (records_of entries) told
owner_at all records entries told known owner = subst (λ (z : List Record). HonestOwner all z told) known owner
