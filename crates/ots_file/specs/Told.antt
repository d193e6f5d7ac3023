-- The bytes and the images that a history tells, where the file's first bytes are told.
use Rattle.std.specs.Prelude.{◌≡◌, ◌⊎◌, ℕ, ◌+◌, ◌≤◌, Bool, true, false, List, [], ◌∷◌, length, take, Option, Some}
use Rattle.std.specs.Prelude.{None, Result, Ok, Err, MatchResult, refl}
use Rattle.std.proofs.Common.{inl, inr, ⊎_elim, arith, subst, ap, sym, ◌∙◌, length-take}
use Rattle.ots_disk.specs.Disk.{put, Torn, Tears, After, Follows, Elapses}
use Rattle.ots_disk.specs.History.{DiskState, start, IsImage}
use Rattle.ots_disk.specs.Laws.{torn_same, put_is_torn}
use Rattle.ots_base.specs.Told.{IfTold}
use Rattle.ots_file.specs.Events.{FileEvent, after_event, replay, is_ready, ready_by, IsHonest}
use Rattle.ots_file.specs.Events.FileEvent.{opened, folder_synced, pages_dropped, measured, got, wrote, synced}

abbrev pub told_bytes : Option (List ℕ) → List FileEvent → Option (List ℕ)
told_bytes None h = None
told_bytes (Some b) h = Some (replay b h).bytes

abbrev pub told_images : Option (List ℕ) → List FileEvent → List ℕ → Type 0
told_images None h c = ⊥
told_images (Some b) h c = IsImage (replay b h) c

-- At some moment from t on, a moment being the number of calls that were made of the file.
abbrev pub told_since : Option (List ℕ) → List FileEvent → ℕ → List ℕ → Type 0
told_since first [] t c = (t ≤ 0) × told_images first [] c
told_since first (e ∷ earlier) t c =
    ((t ≤ length earlier + 1) × told_images first (e ∷ earlier) c) ⊎ told_since first earlier t c

-- ---- ranges

pub torn_within : (place n from m : ℕ) (a b c : List ℕ) → place ≤ from → from + m ≤ place + n → Torn place n a b
    → Torn from m b c → Torn place n a c
torn_within place n from m a b c low high s t = record {
  no_shorter = omega (arith, s.no_shorter, t.no_shorter);
  no_longer = omega (arith, s.no_longer, t.no_longer);
  below = λ i lt within. t.below i (omega arith) (omega (arith, s.no_shorter)) ∙ s.below i lt within;
  above = λ i le within. t.above i (omega arith) (omega (arith, s.no_shorter)) ∙ s.above i le within;
}

put_taken : (place : ℕ) (piece : List ℕ) (n : ℕ) (old : List ℕ)
    → Torn place (length piece) old (put place (take n piece) old)
put_taken place piece n old =
    torn_within place (length piece) place (length (take n piece)) old old _ (omega arith)
    (omega (arith, length-take n piece)) (torn_same place (length piece) old) (put_is_torn place (take n piece) old)

-- ---- the laws of a disk

pub event_keeps : (e : FileEvent) (s : DiskState) → IsImage s s.bytes
    → IsImage (after_event e s) (after_event e s).bytes
event_keeps (opened folder ok) s is = is
event_keeps (folder_synced folder ok) s is = is
event_keeps (pages_dropped ok) s is = is
event_keeps (measured ok n) s is = is
event_keeps (got place asked ok bytes) s is = is
event_keeps (wrote place piece true n) s is = (s.bytes, is, put_taken place piece n s.bytes)
event_keeps (wrote place piece false n) s is = (s.bytes, is, torn_same place (length piece) s.bytes)
event_keeps (synced true) s is = refl
event_keeps (synced false) s is = is

pub replay_keeps : (b : List ℕ) (h : List FileEvent) → IsImage (replay b h) (replay b h).bytes
replay_keeps b [] = refl
replay_keeps b (e ∷ earlier) = event_keeps e (replay b earlier) (replay_keeps b earlier)

pub read_is_image : (first : Option (List ℕ)) (h : List FileEvent) (b : List ℕ) → told_bytes first h ≡ Some b
    → told_images first h b
read_is_image None h b told = absurd (cc)
read_is_image (Some x) h b told =
    let same : (replay x h).bytes ≡ b = cc in
    subst (λ c. IsImage (replay x h) c) same (replay_keeps x h)

pub counts_now : (first : Option (List ℕ)) (h : List FileEvent) (t : ℕ) (c : List ℕ) → t ≤ length h
    → told_images first h c → told_since first h t c
counts_now first [] t c le now = (le, now)
counts_now first (e ∷ earlier) t c le now = inl (omega (arith, le), now)

since_within : (first : Option (List ℕ)) (h : List FileEvent) (t : ℕ) (c : List ℕ) → told_since first h t c
    → t ≤ length h
since_within first [] t c since = since.0
since_within first (e ∷ earlier) t c since =
    ⊎_elim (λ now. omega (arith, now.0)) (λ past. omega (arith, since_within first earlier t c past)) since

pub only_now : (first : Option (List ℕ)) (h : List FileEvent) (c : List ℕ) → told_since first h (length h) c
    → told_images first h c
only_now first [] c since = since.1
only_now first (e ∷ earlier) c since =
    ⊎_elim (λ now. now.1)
    (λ past. absurd (omega (arith, since_within first earlier (length (e ∷ earlier)) c past))) since

-- ---- runs of calls

-- No bytes change, and no image is gained.
pub record Quiet (first : Option (List ℕ)) (old new : List FileEvent) : Type 0 where
  pub same : told_bytes first new ≡ told_bytes first old
  pub fewer : (c : List ℕ) → told_images first new c → told_images first old c
  pub later : length old ≤ length new
  pub past : (t : ℕ) (c : List ℕ) → t ≤ length old → told_since first new t c → told_since first old t c
  pub keeps : (t : ℕ) (c : List ℕ) → t ≤ length old → told_since first old t c → told_since first new t c

-- Some bytes of a range may change, and images are only gained.
pub record Grows (place n : ℕ) (first : Option (List ℕ)) (old new : List FileEvent) : Type 0 where
  pub tears : Tears (Torn place n) (told_bytes first old) (told_bytes first new)
  pub torn : Follows (Torn place n) (told_images first old) (told_images first new)
  pub more : (c : List ℕ) → told_images first old c → told_images first new c
  pub time : Elapses (length old) (length new) (told_since first old) (told_since first new) (told_images first new)

abbrev pub is_quiet : FileEvent → Bool
is_quiet (opened folder ok) = true
is_quiet (folder_synced folder ok) = true
is_quiet (pages_dropped ok) = true
is_quiet (measured ok n) = true
is_quiet (got place asked ok bytes) = true
is_quiet (wrote place piece ok n) = false
is_quiet (synced ok) = true

pub quiet_none : (first : Option (List ℕ)) (h : List FileEvent) → Quiet first h h
quiet_none first h = record {
  same = refl;
  fewer = λ c image. image;
  later = omega arith;
  past = λ t c le since. since;
  keeps = λ t c le since. since;
}

pub quiet_both : (first : Option (List ℕ)) (old mid new : List FileEvent) → Quiet first old mid → Quiet first mid new
    → Quiet first old new
quiet_both first old mid new p q = record {
  same = q.same ∙ p.same;
  fewer = λ c image. p.fewer c (q.fewer c image);
  later = omega (arith, p.later, q.later);
  past = λ t c le since. p.past t c le (q.past t c (omega (arith, p.later)) since);
  keeps = λ t c le since. q.keeps t c (omega (arith, p.later)) (p.keeps t c le since);
}

same_bytes : (e : FileEvent) (s : DiskState) → is_quiet e ≡ true → (after_event e s).bytes ≡ s.bytes
same_bytes (opened folder ok) s quiet = refl
same_bytes (folder_synced folder ok) s quiet = refl
same_bytes (pages_dropped ok) s quiet = refl
same_bytes (measured ok n) s quiet = refl
same_bytes (got place asked ok bytes) s quiet = refl
same_bytes (wrote place piece ok n) s quiet = absurd (cc)
same_bytes (synced true) s quiet = refl
same_bytes (synced false) s quiet = refl

no_more_of : (e : FileEvent) (s : DiskState) → is_quiet e ≡ true → IsImage s s.bytes → (c : List ℕ)
    → IsImage (after_event e s) c → IsImage s c
no_more_of (opened folder ok) s quiet reads c image = image
no_more_of (folder_synced folder ok) s quiet reads c image = image
no_more_of (pages_dropped ok) s quiet reads c image = image
no_more_of (measured ok n) s quiet reads c image = image
no_more_of (got place asked ok bytes) s quiet reads c image = image
no_more_of (wrote place piece ok n) s quiet reads c image = absurd (cc)
no_more_of (synced true) s quiet reads c image = subst (λ (l : List ℕ). IsImage s l) (sym image) reads
no_more_of (synced false) s quiet reads c image = image

told_same : (first : Option (List ℕ)) (e : FileEvent) (h : List FileEvent) → is_quiet e ≡ true
    → told_bytes first (e ∷ h) ≡ told_bytes first h
told_same None e h quiet = refl
told_same (Some b) e h quiet = ap Some (same_bytes e (replay b h) quiet)

told_fewer : (first : Option (List ℕ)) (e : FileEvent) (h : List FileEvent) → is_quiet e ≡ true → (c : List ℕ)
    → told_images first (e ∷ h) c → told_images first h c
told_fewer None e h quiet c image = image
told_fewer (Some b) e h quiet c image = no_more_of e (replay b h) quiet (replay_keeps b h) c image

pub quiet_one : (first : Option (List ℕ)) (e : FileEvent) (h : List FileEvent) → is_quiet e ≡ true
    → Quiet first h (e ∷ h)
quiet_one first e h quiet = record {
  same = told_same first e h quiet;
  fewer = told_fewer first e h quiet;
  later = omega arith;
  past = λ t c le since.
      ⊎_elim (λ now. counts_now first h t c le (told_fewer first e h quiet c now.1)) (λ past. past) since;
  keeps = λ t c le since. inr since;
}

pub quiet_is : (first : Option (List ℕ)) (e : FileEvent) (h new : List FileEvent) → new ≡ e ∷ h → is_quiet e ≡ true
    → Quiet first h new
quiet_is first e h new is quiet = subst (λ (l : List FileEvent). Quiet first h l) (sym is) (quiet_one first e h quiet)

pub quiet_elapses : (first : Option (List ℕ)) (old new : List FileEvent) → Quiet first old new
    → Elapses (length old) (length new) (told_since first old) (told_since first new) (told_images first new)
quiet_elapses first old new q =
    record { later = q.later; nothing_else = λ t c le since. inl (q.past t c le since); keeps = q.keeps }

-- ---- writes

pub tears_same : (place n : ℕ) (told : Option (List ℕ)) → Tears (Torn place n) told told
tears_same place n None = tt
tears_same place n (Some b) = torn_same place n b

-- a run that changes nothing, before the first write
pub grows_none : (place n : ℕ) (first : Option (List ℕ)) (h : List FileEvent) → Grows place n first h h
grows_none place n first h = record {
  tears = tears_same place n (told_bytes first h);
  torn = λ c image. (c, image, torn_same place n c);
  more = λ c image. image;
  time = quiet_elapses first h h (quiet_none first h);
}

wrote_bytes : (place : ℕ) (piece : List ℕ) (ok : Bool) (k : ℕ) (s : DiskState)
    → Torn place (length piece) s.bytes (after_event (wrote place piece ok k) s).bytes
wrote_bytes place piece true k s = put_taken place piece k s.bytes
wrote_bytes place piece false k s = torn_same place (length piece) s.bytes

wrote_image : (place : ℕ) (piece : List ℕ) (ok : Bool) (k : ℕ) (s : DiskState) (c : List ℕ)
    → IsImage (after_event (wrote place piece ok k) s) c → After (Torn place (length piece)) (IsImage s) c
wrote_image place piece true k s c image = image
wrote_image place piece false k s c image = image

wrote_more : (place : ℕ) (piece : List ℕ) (ok : Bool) (k : ℕ) (s : DiskState) (c : List ℕ) → IsImage s c
    → IsImage (after_event (wrote place piece ok k) s) c
wrote_more place piece true k s c image = (c, image, torn_same place (length piece) c)
wrote_more place piece false k s c image = (c, image, torn_same place (length piece) c)

module _ (place n : ℕ) (first : Option (List ℕ)) (old mid : List FileEvent) (from : ℕ) (piece : List ℕ) (ok : Bool)
    (k : ℕ) (low : place ≤ from) (high : from + length piece ≤ place + n) where
  abbrev e : FileEvent
  e = wrote from piece ok k

  tears_more : (f : Option (List ℕ)) → Tears (Torn place n) (told_bytes f old) (told_bytes f mid)
      → Tears (Torn place n) (told_bytes f old) (told_bytes f (e ∷ mid))
  tears_more None tears = tt
  tears_more (Some b) tears =
      torn_within place n from (length piece) _ _ _ low high tears (wrote_bytes from piece ok k (replay b mid))

  torn_more : (f : Option (List ℕ)) → Follows (Torn place n) (told_images f old) (told_images f mid)
      → Follows (Torn place n) (told_images f old) (told_images f (e ∷ mid))
  torn_more None torn c image = absurd image
  torn_more (Some b) torn c image =
      let (d, is, step) = wrote_image from piece ok k (replay b mid) c image in
      let (a, was, before) = torn d is in
      (a, was, torn_within place n from (length piece) a d c low high before step)

  more_more : (f : Option (List ℕ)) (c : List ℕ) → told_images f mid c → told_images f (e ∷ mid) c
  more_more None c image = image
  more_more (Some b) c image = wrote_more from piece ok k (replay b mid) c image

  pub grows_more : Grows place n first old mid → Grows place n first old (e ∷ mid)
  grows_more g = record {
    tears = tears_more first g.tears;
    torn = torn_more first g.torn;
    more = λ c image. more_more first c (g.more c image);
    time = record {
      later = omega (arith, g.time.later);
      nothing_else = λ t c le since. ⊎_elim
          (λ now. inr now.1)
          (λ past. ⊎_elim inl (λ image. inr (more_more first c image)) (g.time.nothing_else t c le past))
          since;
      keeps = λ t c le since. inr (g.time.keeps t c le since);
    };
  }

-- a quiet run before a write
pub elapses_both : (first : Option (List ℕ)) (old mid new : List FileEvent) → Quiet first old mid
    → Elapses (length mid) (length new) (told_since first mid) (told_since first new) (told_images first new)
    → Elapses (length old) (length new) (told_since first old) (told_since first new) (told_images first new)
elapses_both first old mid new q time = record {
  later = omega (arith, q.later, time.later);
  nothing_else = λ t c le since.
      ⊎_elim (λ past. inl (q.past t c le past)) inr (time.nothing_else t c (omega (arith, q.later)) since);
  keeps = λ t c le since. time.keeps t c (omega (arith, q.later)) (q.keeps t c le since);
}

-- ---- before a file is ready it was not written

unready : (e : FileEvent) (ready : Bool) → ready_by e ready ≡ false → ready ≡ false
unready (opened folder ok) ready is = is
unready (folder_synced folder true) ready is = absurd (cc)
unready (folder_synced folder false) ready is = is
unready (pages_dropped ok) ready is = is
unready (measured ok n) ready is = is
unready (got place asked ok bytes) ready is = is
unready (wrote place piece ok n) ready is = absurd (cc)
unready (synced ok) ready is = is

starts : (e : FileEvent) (b : List ℕ) (ready : Bool) → ready_by e ready ≡ false → after_event e (start b) ≡ start b
starts (opened folder ok) b ready is = refl
starts (folder_synced folder ok) b ready is = refl
starts (pages_dropped ok) b ready is = refl
starts (measured ok n) b ready is = refl
starts (got place asked ok bytes) b ready is = refl
starts (wrote place piece ok n) b ready is = absurd (cc)
starts (synced true) b ready is = refl
starts (synced false) b ready is = refl

pub unwritten : (b : List ℕ) (h : List FileEvent) → is_ready h ≡ false → replay b h ≡ start b
unwritten b [] is = refl
unwritten b (e ∷ earlier) is =
    ap (after_event e) (unwritten b earlier (unready e (is_ready earlier) is)) ∙ starts e b (is_ready earlier) is

images_of : (first : Option (List ℕ)) (old new : List FileEvent) → ((b : List ℕ) → replay b new ≡ replay b old)
    → (c : List ℕ) → told_images first old c → told_images first new c
images_of None old new same c image = image
images_of (Some b) old new same c image = subst (λ s. IsImage s c) (sym (same b)) image

-- no image is lost
pub stays_unready : (first : Option (List ℕ)) (old new : List FileEvent) → is_ready old ≡ false → is_ready new ≡ false
    → (c : List ℕ) → told_images first old c → told_images first new c
stays_unready first old new was is = images_of first old new (λ b. unwritten b new is ∙ sym (unwritten b old was))

pub stays_failed : (first : Option (List ℕ)) (h : List FileEvent) (c : List ℕ) → told_images first h c
    → told_images first (synced false ∷ h) c
stays_failed None h c image = image
stays_failed (Some b) h c image = image

pub durable_synced : (first : Option (List ℕ)) (h : List FileEvent) (c : List ℕ)
    → told_images first (synced true ∷ h) c → told_bytes first h ≡ Some c
durable_synced None h c image = absurd image
durable_synced (Some b) h c image = ap Some (sym image)

-- what is told of a length
pub length_told : (first : Option (List ℕ)) (h : List FileEvent) (n : ℕ)
    → IfTold first (λ b. IsHonest b (measured true n ∷ h)) → IfTold (told_bytes first h) (λ b. n ≡ length b)
length_told None h n honest = tt
length_told (Some b) h n honest = honest.1

pub stays_folder : {T E : Type 0} (first : Option (List ℕ)) (folder : List ℕ) (old mid new : List FileEvent)
    (r : Result T E)
    → MatchResult r (λ _. new ≡ folder_synced folder true ∷ mid) (λ _. new ≡ folder_synced folder false ∷ mid)
    → is_ready old ≡ false → is_ready mid ≡ false → (c : List ℕ) → told_images first old c → told_images first new c
stays_folder first folder old mid new (Ok x) noted was is =
    images_of first old new (λ b. ap (replay b) noted ∙ unwritten b mid is ∙ sym (unwritten b old was))
stays_folder first folder old mid new (Err x) noted was is =
    images_of first old new (λ b. ap (replay b) noted ∙ unwritten b mid is ∙ sym (unwritten b old was))

-- a quiet run before a write
pub torn_both : (place n : ℕ) (first : Option (List ℕ)) (old mid new : List FileEvent) → Quiet first old mid
    → Grows place n first mid new → Follows (Torn place n) (told_images first old) (told_images first new)
torn_both place n first old mid new q g c image = let (d, is, step) = g.torn c image in (d, q.fewer d is, step)

pub quiet_measured : {E : Type 0} (first : Option (List ℕ)) (mid new : List FileEvent) (r : Result ℕ E)
    → MatchResult r (λ n. new ≡ measured true n ∷ mid) (λ _. new ≡ measured false 0 ∷ mid) → Quiet first mid new
quiet_measured first mid new (Ok n) noted = quiet_is first (measured true n) mid new noted refl
quiet_measured first mid new (Err e) noted = quiet_is first (measured false 0) mid new noted refl

-- a quiet run that loses no image
pub grows_quiet : (place n : ℕ) (first : Option (List ℕ)) (old new : List FileEvent) → Quiet first old new
    → ((c : List ℕ) → told_images first old c → told_images first new c) → Grows place n first old new
grows_quiet place n first old new q stays = record {
  tears =
      subst (λ (o : Option (List ℕ)). Tears (Torn place n) (told_bytes first old) o)
      (sym q.same) (tears_same place n (told_bytes first old));
  torn = λ c image. (c, q.fewer c image, torn_same place n c);
  more = stays;
  time = quiet_elapses first old new q;
}

-- and writes after it
pub grows_after : (place n : ℕ) (first : Option (List ℕ)) (old mid new : List FileEvent) → Quiet first old mid
    → ((c : List ℕ) → told_images first old c → told_images first mid c) → Grows place n first mid new
    → Grows place n first old new
grows_after place n first old mid new q stays g = record {
  tears = subst (λ (o : Option (List ℕ)). Tears (Torn place n) o (told_bytes first new)) q.same g.tears;
  torn = torn_both place n first old mid new q g;
  more = λ c image. g.more c (stays c image);
  time = elapses_both first old mid new q g.time;
}

pub quiet_folder : {T E : Type 0} (first : Option (List ℕ)) (folder : List ℕ) (mid new : List FileEvent)
    (r : Result T E)
    → MatchResult r (λ _. new ≡ folder_synced folder true ∷ mid) (λ _. new ≡ folder_synced folder false ∷ mid)
    → Quiet first mid new
quiet_folder first folder mid new (Ok x) noted = quiet_is first (folder_synced folder true) mid new noted refl
quiet_folder first folder mid new (Err x) noted = quiet_is first (folder_synced folder false) mid new noted refl
