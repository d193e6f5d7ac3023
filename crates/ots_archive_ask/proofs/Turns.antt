-- What one proof more adds to what was gathered.
use Rattle.std.proofs.Common.{◌≡◌, ◌∙◌, ◌+◌, ◌<◌, ◌≤◌, ℕ, Bool, false, List, [], ◌∷◌, ◌++◌, cond, length, map, take, get_or, refl, sym, ap, subst, append_assoc, append-nil, arith}
use Rattle.std.specs.Prelude.{Ok, Err, Some, nat_lt}
use Rattle.std.specs.List.{slice_get}
use Rattle.std.proofs.lemmas.Grind.{fold-append}
use Rattle.std.proofs.lemmas.List.{length-take, map-append, take_all}
use Rattle.std.proofs.lemmas.Option.{get_or_from_slice_get}
use Rattle.ots_archive_ask.proofs.Kept.{Gathers, Wanting}
use Rattle.ots_archive_ask.specs.Total.{AllWant, Total, Tried, TriesAll, TriesEach, status_of}
use Rattle.ots_archive_ask.specs.declared.gathering.Gathered.{Gathered}
use Rattle.ots_archive_ask.specs.inner.Held.{AddsProof, AddsRefusal, AddsTried, HasRoom, Holds, none_yet}
use Rattle.ots_archive_steps.proofs.Turns.{each_ends, each_next}
use Rattle.ots_archive_steps.specs.Ends.{IfRoom}
use Rattle.ots_archive_steps.specs.Entries.{Entry}
use Rattle.ots_archive_steps.specs.Proofs.{Tries}
use Rattle.ots_archive_steps.specs.Worst.{rank, worse, worst}
use Rattle.ots_archive_text.specs.declared.status.ArchiveStatus.{ArchiveStatus}
use Rattle.ots_archive_text.specs.declared.status.ArchiveStatus.TheVariants.{Done}
use Rattle.ots_archive_world.specs.Told.{Told}
use Rattle.ots_base.specs.declared.limits.TheConstants.{MAX_PROOF_FILE}
use Rattle.ots_calendar_url.specs.CalendarUrl.{Url, text_of}
use Rattle.ots_request_set.specs.RequestSet.{Asked}
use Rattle.ots_sums.specs.declared.reading.TheConstants.{MAX_LINES}
use Rattle.ots_sheet.specs.Request.{RequestParts}
use Rattle.ots_tree.specs.declared.detached.Detached.{Detached}
use Rattle.ots_wanted.proofs.Taking.{take_none, take_on}
use Rattle.ots_wanted.specs.Wanted.{TakesIn, Wants, texts_of}

-- ---- one proof more

-- a proof that was read
read_more : (urls : List (List ℕ)) (all : Bool) (tried : List Tried) (proof : Detached) (v w : List RequestParts) (m n : ℕ) → AllWant urls all tried v m
    → Wants urls all proof w n → AllWant urls all (tried ++ Ok proof ∷ []) (v ++ w) (m + n)
read_more urls all [] proof v w m n want wants =
    (w, [], n, 0, wants, (refl, refl), rw want.0 (sym (append-nil w)), rw want.1 (omega arith))
read_more urls all (Err s ∷ tried) proof v w m n want wants = read_more urls all tried proof v w m n want wants
read_more urls all (Ok other ∷ tried) proof v w m n (first, later, few, more, one, rest, are, number) wants = (
  first,
  later ++ w,
  few,
  more + n,
  one,
  read_more urls all tried proof later w more n rest wants,
  ap (λ (z : List RequestParts). z ++ w) are ∙ append_assoc first later w,
  omega (arith, number),
)

-- one that was refused
refused_more : (urls : List (List ℕ)) (all : Bool) (tried : List Tried) (s : ArchiveStatus) (v : List RequestParts) (m : ℕ) → AllWant urls all tried v m
    → AllWant urls all (tried ++ Err s ∷ []) v m
refused_more urls all [] s v m want = want
refused_more urls all (Err t ∷ tried) s v m want = refused_more urls all tried s v m want
refused_more urls all (Ok other ∷ tried) s v m (first, later, few, more, one, rest, are, number) =
    (first, later, few, more, one, refused_more urls all tried s later more rest, are, number)

worst_more : (tried : List Tried) (one : Tried) → worst (map status_of (tried ++ one ∷ [])) ≡ worse (worst (map status_of tried)) (status_of one)
worst_more tried one = ap worst (map-append status_of tried (one ∷ [])) ∙ fold-append worse Done (map status_of tried) (status_of one ∷ [])

never_below : (n : ℕ) → nat_lt n 0 ≡ false
never_below n = grind arith

-- no status is worse for a proof that was read
no_worse : (s : ArchiveStatus) → worse s Done ≡ s
no_worse s = ap (λ (b : Bool). cond b Done s) (never_below (rank s))

-- ---- what was gathered

-- no proof is tried yet
pub gathers_none : (urls : List Url) (all : Bool) (a : Asked) (old : Told) → a.urls ≡ urls → a.requests ≡ [] → Gathers urls all [] old old (record { set = a; skipped = 0; status = Done })
gathers_none urls all a old same none =
    let is : a ≡ none_yet urls = λ j. record { urls = same j; requests = none j } in
    record {
      tried = [];
      each = refl;
      wanting = record {
        wanted = [];
        skipped = 0;
        want = (refl, refl);
        holds = record {
          takes = subst (λ (b : Asked). TakesIn (none_yet urls) b []) (sym is) (take_none (none_yet urls));
          skipped = refl;
          status = refl;
        };
      };
      few = omega arith;
    }

read_gathered : (urls : List Url) (all : Bool) (tried : List Tried) (g h : Gathered) (proof : Detached) → Wanting urls all tried g → AddsProof all g h proof
    → Wanting urls all (tried ++ Ok proof ∷ []) h
read_gathered urls all tried g h proof w adds =
    let texts : texts_of g.set ≡ map text_of urls = ap (map text_of) w.holds.takes.gains.urls in
    let wants : Wants (map text_of urls) all proof adds.takes.wanted adds.few =
    subst (λ (z : List (List ℕ)). Wants z all proof adds.takes.wanted adds.few) texts adds.takes.wants in
    record {
      wanted = w.wanted ++ adds.takes.wanted;
      skipped = w.skipped + adds.few;
      want = read_more (map text_of urls) all tried proof w.wanted adds.takes.wanted w.skipped adds.few w.want wants;
      holds = record {
        takes = take_on (none_yet urls) g.set h.set w.wanted adds.takes.wanted w.holds.takes adds.takes.takes;
        skipped = adds.skipped ∙ ap (λ (z : ℕ). z + adds.few) w.holds.skipped;
        status = adds.status ∙ w.holds.status ∙ sym (worst_more tried (Ok proof) ∙ no_worse (worst (map status_of tried)));
      };
    }

refused_gathered : (urls : List Url) (all : Bool) (tried : List Tried) (g h : Gathered) (s : ArchiveStatus) → Wanting urls all tried g → AddsRefusal g h s
    → Wanting urls all (tried ++ Err s ∷ []) h
refused_gathered urls all tried g h s w adds = record {
  wanted = w.wanted;
  skipped = w.skipped;
  want = refused_more (map text_of urls) all tried s w.wanted w.skipped w.want;
  holds = record {
    takes = subst (λ (a : Asked). TakesIn (none_yet urls) a w.wanted) (sym adds.set) w.holds.takes;
    skipped = adds.skipped ∙ w.holds.skipped;
    status = adds.status ∙ ap (λ (z : ArchiveStatus). worse z s) w.holds.status ∙ sym (worst_more tried (Err s));
  };
}

pub tried_gathered : (urls : List Url) (all : Bool) (tried : List Tried) (g h : Gathered) (one : Tried) → Wanting urls all tried g → AddsTried all g h one
    → Wanting urls all (tried ++ one ∷ []) h
tried_gathered urls all tried g h (Ok proof) w adds = read_gathered urls all tried g h proof w adds
tried_gathered urls all tried g h (Err s) w adds = refused_gathered urls all tried g h s w adds

-- ---- turns

module _ (urls : List Url) (all : Bool) (entries : List Entry) (i : ℕ) (e : Entry) (at : slice_get entries i ≡ Some e) (less : i < length entries) (old mid new : Told) (g : Gathered)
    (before : Gathers urls all (take i entries) old mid g) where
  here : get_or entries i e ≡ e
  here = get_or_from_slice_get entries i e e at

  pub gathers_next : (h : Gathered) (one : Tried) → IfRoom (Tries e) mid new (Ok one) → AddsTried all g h one → h.skipped ≤ g.skipped + MAX_PROOF_FILE → Gathers urls all (take (i + 1) entries) old new h
  gathers_next h one next adds more = record {
    tried = before.tried ++ one ∷ [];
    each = each_next (λ z. IfRoom (Tries z)) entries i e less old mid new before.tried before.each one
        (subst (λ (z : Entry). IfRoom (Tries z) mid new (Ok one)) (sym here) next);
    wanting = tried_gathered urls all before.tried g h one before.wanting adds;
    few = let few = before.few in omega (arith, few, more, length-take i entries, length-take (i + 1) entries, less);
  }

  pub gathers_ends : (s : ArchiveStatus) → IfRoom (Tries e) mid new (Err s) → TriesAll (map text_of urls) all entries old new (Err s)
  gathers_ends s ended = each_ends (λ z. IfRoom (Tries z)) entries i e less old mid new before.tried before.each s
      (subst (λ (z : Entry). IfRoom (Tries z) mid new (Err s)) (sym here) ended)

-- before each turn there is room for what a proof skips
pub room : (urls : List Url) (all : Bool) (entries : List Entry) (i : ℕ) (old new : Told) (g : Gathered) → i < length entries → length entries ≤ MAX_LINES
    → Gathers urls all (take i entries) old new g → HasRoom g
room urls all entries i old new g less most done = let few = done.few in omega (arith, few, less, most, length-take i entries)

-- after the last turn
pub all_gathered : (urls : List Url) (all : Bool) (entries : List Entry) (i : ℕ) (old new : Told) (g : Gathered) → length entries ≤ i → Gathers urls all (take i entries) old new g
    → (total : Total) × TriesAll (map text_of urls) all entries old new (Ok total) × Holds urls total g
all_gathered urls all entries i old new g whole done =
    let w = done.wanting in (
      record { wanted = w.wanted; skipped = w.skipped; status = worst (map status_of done.tried) },
      (done.tried, subst (λ (z : List Entry). TriesEach z old new (Ok done.tried)) (take_all i entries whole) done.each, record { want = w.want; status = refl }),
      w.holds,
    )
