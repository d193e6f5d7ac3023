-- Rounds, one after another.
use Rattle.std.proofs.Common.{◌≡◌, ◌⊎◌, inl, inr, ℕ, ◌+◌, List, [], ◌∷◌, ◌++◌, length, take, drop, Option, Some, refl, sym, ap, subst, ◌∙◌, arith, append_assoc, append-nil, length-append}
use Rattle.std.specs.List.{AllByRecursion}
use Rattle.std.specs.Option.{option_map}
use Rattle.std.proofs.Math.Seq.{take-append-add}
use Rattle.std.proofs.lemmas.List.{map-append}
use Rattle.std.proofs.lemmas.List.Concat.{flat_map-append}
use Rattle.ots_address.specs.Address.{AddressParts}
use Rattle.ots_base.specs.Told.{IfTold}
use Rattle.ots_conversation.specs.Conversation.{WhereTold}
use Rattle.ots_disk.specs.Disk.{LeavesOnly}
use Rattle.ots_disk.specs.Moments.{joined, started}
use Rattle.ots_journal.specs.declared.entry.Entry.{Entry}
use Rattle.ots_journal.specs.Image.{Stands}
use Rattle.ots_journal.specs.Journal.{JournalTold, StandsForEither}
use Rattle.ots_mirror_pages.specs.Round.{IsPrefix}
use Rattle.ots_mirror_pages.proofs.Honest.{followed}
use Rattle.ots_mirror_words.specs.Lines.{round_line}
use Rattle.ots_mirror_words.specs.declared.outcome.RoundOutcome.{RoundOutcome}
use Rattle.ots_mirror_words.specs.declared.outcome.RoundOutcome.TheVariants.{Took, Current, BadPage, Unreachable, Status, TooLong, BadHttp}
use Rattle.ots_opening.specs.Images.{StandsAfter}
use Rattle.ots_outside.specs.Dialer.{DialerTold, Sent, next_reply}
use Rattle.ots_outside.specs.Streams.{Takes, TakesPrefix, Takes-nothing, Takes-trans}
use Rattle.ots_store.specs.Order.{records_of}
use Rattle.ots_store.specs.Records.{Record, record_of}
use Rattle.ots_mirror.specs.Asking.{HasRound}
use Rattle.ots_mirror.specs.Group.{Adds, FitsLimit, gate_with}
use Rattle.ots_mirror.specs.Honest.{HonestOwner, IsHonestReply, StandsAlong}
use Rattle.ots_mirror.specs.Round.{IsRound}
use Rattle.ots_mirror.specs.Rounds.{AreBehind, Held, Holds, IsBehind, Rounds, round_lines, with_group}
use Rattle.ots_mirror.proofs.Empty.{none_good}

-- ---- lists

records_more : (entries group : List Entry) → records_of (entries ++ group) ≡ records_of entries ++ records_of group
records_more entries group = map-append record_of entries group

pub lines_more : (os : List RoundOutcome) (o : RoundOutcome) → round_lines os ++ round_line o ≡ round_lines (os ++ o ∷ [])
lines_more os o = ap (λ (z : List ℕ). round_lines os ++ z) (sym (append-nil (round_line o))) ∙ sym (flat_map-append round_line os (o ∷ []))

pub behind_more : (os : List RoundOutcome) (o : RoundOutcome) → AreBehind os → IsBehind o → AreBehind (os ++ o ∷ [])
behind_more [] o behind is = (is, tt)
behind_more (x ∷ os) o behind is = (behind.0, behind_more os o behind.1 is)

pub many_more : (os : List RoundOutcome) (o : RoundOutcome) (i : ℕ) → length os ≡ i → length (os ++ o ∷ []) ≡ i + 1
many_more os o i is = omega (arith, is, length-append os (o ∷ []))

-- ---- an honest calendar's replies

module _ (all : List Record) where
  next_honest : (replies : List (List ℕ)) → AllByRecursion (IsHonestReply all) replies → IsHonestReply all (next_reply replies)
  next_honest [] honest = λ body is. absurd (none_good body is)
  next_honest (r ∷ replies) honest = honest.0

  rest_honest : (replies : List (List ℕ)) → AllByRecursion (IsHonestReply all) replies → AllByRecursion (IsHonestReply all) (drop 1 replies)
  rest_honest [] honest = tt
  rest_honest (r ∷ replies) honest = honest.1

  stays : (entries group : List Entry) → group ≡ [] → IsPrefix (records_of entries) all → IsPrefix (records_of (entries ++ group)) all
  stays entries group none begin = subst (λ (z : List Entry). IsPrefix (records_of z) all) (sym (ap (λ (z : List Entry). entries ++ z) none ∙ append-nil entries)) begin

module _ {T : Type 0} (told : T → DialerTold) (faults : T → ℕ) (address : AddressParts) where
  module _ (all : List Record) (entries group : List Entry) (old new : T) (owner : HonestOwner all (records_of entries) (told old)) where
    taken_of : (bytes : List ℕ) (o : RoundOutcome) → IsHonestReply all bytes → IsRound (records_of entries) bytes o group → IsPrefix (records_of (entries ++ group)) all
    taken_of bytes (Took n) honest (body, is, taken) =
        subst (λ (z : List Record). IsPrefix z all) (sym (records_more entries group)) (followed all (records_of entries) body group owner.forms owner.begin (honest body is) taken.0)
    taken_of bytes Current honest (body, is, taken) = stays all entries group taken.1 owner.begin
    taken_of bytes BadPage honest (body, is, taken) = stays all entries group taken.1 owner.begin
    taken_of bytes Unreachable honest none = stays all entries group none owner.begin
    taken_of bytes (Status code) honest taken = stays all entries group taken.1 owner.begin
    taken_of bytes TooLong honest taken = stays all entries group taken.1 owner.begin
    taken_of bytes BadHttp honest taken = stays all entries group taken.1 owner.begin

    -- what a told dialer tells
    at_told : (P : List Sent → List (List ℕ) → Type 0) → WhereTold (told old) P → P owner.sent owner.replies
    at_told P h =
        subst (λ (z : Option (List (List ℕ))). IfTold z (P owner.sent)) owner.replies_told
        (subst (λ (z : Option (List Sent)). IfTold z (λ sent. IfTold (told old).replies (P sent))) owner.sent_told h)

    some_sent : (o : RoundOutcome) → HasRound told faults address (records_of entries) old new o group → (sent : List Sent) × ((told new).sent ≡ Some sent)
    some_sent o round = pick (at_told _ round.sends.prefix)
      where
        pick : {N : Type 0} {P : N → Type 0} {f : N → List Sent} → ((told new).sent ≡ Some owner.sent) ⊎ ((n : N) × P n × ((told new).sent ≡ Some (f n))) → (sent : List Sent) × ((told new).sent ≡ Some sent)
        pick (inl is) = (owner.sent, is)
        pick {f = f} (inr (n, few, is)) = (f n, is)

    pub honest_step : (o : RoundOutcome) → HasRound told faults address (records_of entries) old new o group → HonestOwner all (records_of (entries ++ group)) (told new)
    honest_step o round = record {
      forms = owner.forms;
      begin = taken_of (next_reply owner.replies) o (next_honest all owner.replies owner.honest) (at_told (λ sent replies. IsRound (records_of entries) (next_reply replies) o group) round.outcome_is);
      sent = (some_sent o round).0;
      sent_told = (some_sent o round).1;
      replies = drop 1 owner.replies;
      replies_told = round.sends.replies ∙ ap (λ (z : Option (List (List ℕ))). option_map (drop 1) z) owner.replies_told;
      honest = rest_honest all owner.replies owner.honest;
    }

  -- ---- one round more

  pub rounds_more : (limit : ℕ) (held now : Held) (old mid new : T) (os : List RoundOutcome) (o : RoundOutcome) (group : List Entry) → Rounds told faults address limit held old mid os now
      → HasRound told faults address (records_of now.entries) mid new o group → FitsLimit limit now.gate group → Rounds told faults address limit held old new (os ++ o ∷ []) (with_group now group)
  rounds_more limit held now old mid new [] o group (same, is) round fits = (
    new,
    group,
    subst (λ (z : T). HasRound told faults address (records_of held.entries) z new o group) same (subst (λ (z : Held). HasRound told faults address (records_of z.entries) mid new o group) is round),
    subst (λ (z : Held). FitsLimit limit z.gate group) is fits,
    (refl, ap (λ (z : Held). with_group z group) is),
  )
  rounds_more limit held now old mid new (x ∷ os) o group (next, first, one, fit, more) round fits = (next, first, one, fit, rounds_more limit (with_group held first) now next mid new os o group more round fits)

-- ---- what a crash leaves

pub after_all : (found now group : List Entry) → (later : List Entry) × (now ≡ found ++ later) → (later : List Entry) × (now ++ group ≡ found ++ later)
after_all found now group (later, is) = (later ++ group, ap (λ (z : List Entry). z ++ group) is ∙ append_assoc found later group)

-- whatever a calendar answers
pub after : (found now : List Entry) (c : List ℕ) → (later : List Entry) × (now ≡ found ++ later) → Stands c now → StandsAfter found c
after found now c (later, is) stands = (later, subst (Stands c) is stands)

pub either_after : (found now group : List Entry) (c : List ℕ) → (later : List Entry) × (now ≡ found ++ later) → StandsForEither now group c → StandsAfter found c
either_after found now group c grown (inl stands) = after found now c grown stands
either_after found now group c grown (inr stands) = after found (now ++ group) c (after_all found now group grown) stands

-- where it is honest
pub along : (found now : List Entry) (all : List Record) (c : List ℕ) → (later : List Entry) × (now ≡ found ++ later) → IsPrefix (records_of now) all → Stands c now → StandsAlong found all c
along found now all c (later, is) begin stands = (later, subst (λ (z : List Entry). IsPrefix (records_of z) all) is begin, subst (Stands c) is stands)

pub either_along : (found now group : List Entry) (all : List Record) (c : List ℕ) → (later : List Entry) × (now ≡ found ++ later) → IsPrefix (records_of now) all → IsPrefix (records_of (now ++ group)) all
    → StandsForEither now group c → StandsAlong found all c
either_along found now group all c grown begin more (inl stands) = along found now all c grown begin stands
either_along found now group all c grown begin more (inr stands) = along found (now ++ group) all c (after_all found now group grown) more stands

-- ---- printed lines

pub lines_then : (a b c : Option (List ℕ)) (os : List RoundOutcome) (o : RoundOutcome) → Takes a b (round_lines os) → Takes b c (round_line o) → Takes a c (round_lines (os ++ o ∷ []))
lines_then a b c os o first second = subst (Takes a c) (lines_more os o) (Takes-trans a b c (round_lines os) (round_line o) first second)

pub cut_then : (a b c : Option (List ℕ)) (first second : List ℕ) → Takes a b first → TakesPrefix b c second → TakesPrefix a c (first ++ second)
cut_then a b c first second p (n, few, q) = (
  length first + n,
  omega (arith, few, length-append first second),
  subst (Takes a c) (sym (take-append-add first second n)) (Takes-trans a b c first (take n second) p q),
)

pub lines_cut : (a b c : Option (List ℕ)) (os : List RoundOutcome) (o : RoundOutcome) → Takes a b (round_lines os) → TakesPrefix b c (round_line o) → TakesPrefix a c (round_lines (os ++ o ∷ []))
lines_cut a b c os o first second = subst (TakesPrefix a c) (lines_more os o) (cut_then a b c (round_lines os) (round_line o) first second)

-- ---- what was reached

-- So many rounds were made, and none was current.
pub record Reached {T D : Type 0} (told : T → DialerTold) (faults : T → ℕ) (clock : D → ℕ) (images : D → List ℕ → Type 0) (images_since : D → ℕ → List ℕ → Type 0)
    (address : AddressParts) (limit : ℕ) (found : Held) (old new : T) (start j : JournalTold D) (before taken : Option (List ℕ)) (made : ℕ) : Type 0 where
  pub outcomes : List RoundOutcome
  pub now : Held
  pub behind : AreBehind outcomes
  pub many : length outcomes ≡ made
  pub rounds : Rounds told faults address limit found old new outcomes now
  pub holds : Holds images limit j now
  pub grown : (later : List Entry) × (now.entries ≡ found.entries ++ later)
  pub printed : Takes before taken (round_lines outcomes)
  pub keeps : LeavesOnly clock images_since start.disk j.disk (StandsAfter found.entries)
  pub along : (all : List Record) → HonestOwner all (records_of found.entries) (told old)
      → HonestOwner all (records_of now.entries) (told new) × LeavesOnly clock images_since start.disk j.disk (StandsAlong found.entries all)

module _ {T D : Type 0} (told : T → DialerTold) (faults : T → ℕ) (clock : D → ℕ) (images : D → List ℕ → Type 0) (images_since : D → ℕ → List ℕ → Type 0) (address : AddressParts) (limit : ℕ) where
  pub reached_none : ((d : D) (c : List ℕ) → images_since d (clock d) c → images d c) → (found : Held) (d : T) (j : JournalTold D) (taken : Option (List ℕ)) → Holds images limit j found
      → Reached told faults clock images images_since address limit found d d j j taken taken 0
  reached_none only_now found d j taken holds = record {
    outcomes = [];
    now = found;
    behind = tt;
    many = refl;
    rounds = (refl, refl);
    holds = holds;
    grown = ([], sym (append-nil found.entries));
    printed = Takes-nothing taken;
    keeps = started clock images_since j.disk _ (λ c left. after found.entries found.entries c ([], sym (append-nil found.entries)) (holds.kept c (only_now j.disk c left)));
    along = λ all owner. (
      owner,
      started clock images_since j.disk _ (λ c left. along found.entries found.entries all c ([], sym (append-nil found.entries)) owner.begin (holds.kept c (only_now j.disk c left))),
    );
  }

  module _ (found : Held) (old mid : T) (start j : JournalTold D) (before taken : Option (List ℕ)) (made : ℕ) (r : Reached told faults clock images images_since address limit found old mid start j before taken made)
      (new : T) (o : RoundOutcome) (group : List Entry) (round : HasRound told faults address (records_of r.now.entries) mid new o group) where
    abbrev pub next : Held
    next = with_group r.now group

    pub rounds_next : FitsLimit limit r.now.gate group → Rounds told faults address limit found old new (r.outcomes ++ o ∷ []) next
    rounds_next fits = rounds_more told faults address limit found r.now old mid new r.outcomes o group r.rounds round fits

    pub keeps_next : (k : JournalTold D) → LeavesOnly clock images_since j.disk k.disk (StandsForEither r.now.entries group) → LeavesOnly clock images_since start.disk k.disk (StandsAfter found.entries)
    keeps_next k moments = joined clock images_since start.disk j.disk k.disk _ _ _ r.keeps moments (λ c h. h) (λ c h. either_after found.entries r.now.entries group c r.grown h)

    pub along_next : (k : JournalTold D) → LeavesOnly clock images_since j.disk k.disk (StandsForEither r.now.entries group) → (all : List Record) → HonestOwner all (records_of found.entries) (told old)
        → HonestOwner all (records_of next.entries) (told new) × LeavesOnly clock images_since start.disk k.disk (StandsAlong found.entries all)
    along_next k moments all owner =
        let (at, so_far) = r.along all owner in
        let then = honest_step told faults address all r.now.entries group mid new at o round in (
          then,
          joined clock images_since start.disk j.disk k.disk _ _ _ so_far moments (λ c h. h) (λ c h. either_along found.entries r.now.entries group all c r.grown at.begin then.begin h),
        )

    pub holds_next : (k : JournalTold D) → Adds clock images images_since j k group → Holds images limit k next
    holds_next k adds = record {
      entries = adds.entries ∙ ap (λ (z : List Entry). z ++ group) r.holds.entries;
      gate = adds.gate ∙ ap (λ (z : ℕ). gate_with z group) r.holds.gate;
      limit_is = adds.limit ∙ r.holds.limit_is;
      sure = adds.sure;
      kept = λ c image. subst (Stands c) (adds.entries ∙ ap (λ (z : List Entry). z ++ group) r.holds.entries) (adds.kept c image);
    }

    pub fits_next : (k : JournalTold D) → Adds clock images images_since j k group → FitsLimit limit r.now.gate group
    fits_next k adds = subst (λ (z : ℕ). FitsLimit z r.now.gate group) r.holds.limit_is (subst (λ (z : ℕ). FitsLimit j.limit z group) r.holds.gate adds.within)

    pub moments_next : (k : JournalTold D) → LeavesOnly clock images_since j.disk k.disk (StandsForEither j.entries group) → LeavesOnly clock images_since j.disk k.disk (StandsForEither r.now.entries group)
    moments_next k moments = subst (λ (z : List Entry). LeavesOnly clock images_since j.disk k.disk (StandsForEither z group)) r.holds.entries moments

    -- one more
    pub reached_more : (k : JournalTold D) (after : Option (List ℕ)) → Adds clock images images_since j k group → Takes taken after (round_line o) → IsBehind o
        → Reached told faults clock images images_since address limit found old new start k before after (made + 1)
    reached_more k after adds printed is = record {
      outcomes = r.outcomes ++ o ∷ [];
      now = next;
      behind = behind_more r.outcomes o r.behind is;
      many = many_more r.outcomes o made r.many;
      rounds = rounds_next (fits_next k adds);
      holds = holds_next k adds;
      grown = after_all found.entries r.now.entries group r.grown;
      printed = lines_then before taken after r.outcomes o r.printed printed;
      keeps = keeps_next k (moments_next k adds.moments);
      along = along_next k (moments_next k adds.moments);
    }
