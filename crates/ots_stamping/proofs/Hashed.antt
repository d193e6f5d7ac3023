-- Files that are hashed one after the other.
use Rattle.std.proofs.Common.{◌≡◌, ◌<◌, inr, ℕ, zero, suc, ◌+◌, List, [], ◌∷◌, ◌++◌, Bor, length, take, drop, get_or, Option, refl, sym, ap, subst, ◌∙◌, add-one, arith}
use Rattle.std.specs.Prelude.{map, Result, Ok, Err, IsErrAnd, slice_index_or}
use Rattle.std.proofs.Math.Seq.{take-suc}
use Rattle.std.proofs.lemmas.List.{drop_more, map-append, take-append-drop}
use Rattle.ots_outside.specs.Shelf.{Names, ShelfFaults, ShelfTold}
use Rattle.ots_ops.specs.declared.hash_op.HashOp.TheVariants.{Sha256}
use Rattle.ots_ops.specs.Hashed.{hashed}
use Rattle.ots_inputs.specs.declared.error.InputError.{InputError}
use Rattle.ots_inputs.specs.declared.error.InputError.TheVariants.{OutOfMemory}
use Rattle.ots_client_text.specs.declared.status.Status.{Status}
use Rattle.ots_inputs.specs.declared.error.Stop.{Stop}
use Rattle.ots_client_endings.specs.Reading.{RefusesInput}
use Rattle.ots_stamping.specs.Hashing.{AreHashed, RefusesOne}
use Rattle.ots_client_inputs.specs.Target.{IsHashOf, RefusesTarget}
use Rattle.ots_client_endings.specs.Reading.{Reads, StopsFor}
use Rattle.ots_client_endings.specs.InTurn.{StopsInTurn, broken_after}
use Rattle.ots_client_endings.specs.Reading.{BreaksOff}
use Rattle.ots_client_endings.proofs.Reading.{ReadsName, stops_as}
use Rattle.ots_client_endings.proofs.Turns.{accepted_then, names_then, opened_then, turn_before, turn_later}
use Rattle.ots_client_inputs.specs.Inputs.{AreAccepted, Input, names_in, target_under}
use Rattle.ots_inputs.proofs.Opened.{keeps_then, prefix_of_more, stops_before, stops_later, then_opened}
use Rattle.ots_arguments.specs.Values.{texts}
use Rattle.ots_inputs.specs.Under.{HasUnder}
use Rattle.ots_inputs.specs.Opened.{Opens, OpensPrefix, StopsAt}

hashed_more : (told : Option Names) (names digests : List (List ℕ)) (name digest : List ℕ) → AreHashed told names digests
    → HasUnder told name (λ b. IsHashOf Sha256 b digest) → AreHashed told (names ++ name ∷ []) (digests ++ digest ∷ [])
hashed_more told [] [] name digest h is = (is, tt)
hashed_more told [] (d ∷ ds) name digest h is = absurd h
hashed_more told (n ∷ ns) [] name digest h is = absurd h
hashed_more told (n ∷ ns) (d ∷ ds) name digest h is = (h.0, hashed_more told ns ds name digest h.1 is)

-- These names were hashed.
abbrev pub Hashes : List (List ℕ) → ShelfTold → ShelfTold → ShelfFaults → ShelfFaults → List (List ℕ) → Type 0
Hashes names old new before now digests = Reads {A = List (List ℕ)} (map target_under names) (λ told. AreHashed told names) (λ told. RefusesOne told names) old new before now (Ok digests)

-- what is read of names, the first ones apart
apart : (names later : List (List ℕ)) (name : List ℕ) → map target_under names ++ target_under name ∷ map target_under later ≡ map target_under (names ++ name ∷ later)
apart names later name = sym (map-append target_under names (name ∷ later))

prefix_then : (names later : List (List ℕ)) (name : List ℕ) (old mid new : Option (List (List ℕ))) → Opens (names_in (map target_under names)) old mid → OpensPrefix (name ∷ []) mid new
    → OpensPrefix (names_in (map target_under names ++ target_under name ∷ map target_under later)) old new
prefix_then names later name old mid new first next =
    subst (λ (z : List (List ℕ)). OpensPrefix z old new) (names_then (map target_under names) (target_under name ∷ map target_under later))
    (then_opened (names_in (map target_under names)) (name ∷ names_in (map target_under later)) old mid new first
    (prefix_of_more (name ∷ []) (names_in (map target_under later)) mid new next))

-- A name is hashed after others.
module _ {old mid new : ShelfTold} {before between now : ShelfFaults} {names digests : List (List ℕ)} {name : List ℕ} where
  pub hashes_stop : {B : Type 0} {gives : Option Names → B → Type 0} {stop : Stop Status} (later : List (List ℕ)) → Hashes names old mid before between digests
      → ReadsName {A = List ℕ} (target_under name) (IsHashOf Sha256) RefusesTarget name mid new between now (Err stop)
      → Reads {A = B} (map target_under (names ++ name ∷ later)) gives (λ told. RefusesOne told (names ++ name ∷ later)) old new before now (Err stop)
  hashes_stop {B} {gives} {stop} later first next =
      subst (λ (z : List Input). Reads {A = B} z gives (λ told. RefusesOne told (names ++ name ∷ later)) old new before now (Err stop)) (apart names later name) (record {
        given = tt;
        stopped = stops_as (RefusesInput mid.names name RefusesTarget) (RefusesOne old.names (names ++ name ∷ later)) (StopsAt (name ∷ []) mid.opened new.opened between now)
            (StopsAt (names_in (map target_under names ++ target_under name ∷ map target_under later)) old.opened new.opened before now) stop.name.now stop.why (λ e refused. record {
              earlier = names;
              name = name;
              later = later;
              split = refl;
              digests = digests;
              hashed = first.given;
              refused = subst (λ (z : Option Names). RefusesInput z name RefusesTarget e) first.kept.names refused;
            })
            (λ n at. subst (λ (z : List (List ℕ)). StopsAt z old.opened new.opened before now n) (names_then (map target_under names) (target_under name ∷ map target_under later))
            (stops_later (names_in (map target_under names)) (name ∷ names_in (map target_under later)) old.opened mid.opened new.opened before between now n first.opened first.kept.later
            (stops_before (name ∷ []) (names_in (map target_under later)) mid.opened new.opened between now n at))) next.stopped;
        opened = tt;
        prefix = prefix_then names later name old.opened mid.opened new.opened first.opened next.prefix;
        accepted = tt;
        in_turn = turn_later (map target_under names) (target_under name ∷ map target_under later) first.accepted first.opened
            (turn_before (target_under name ∷ []) (map target_under later)
            (subst (λ (z : Option Names). StopsInTurn z (target_under name ∷ []) (BreaksOff stop.why) mid.opened new.opened) first.kept.names next.in_turn));
        kept = keeps_then (λ enough ran. ran) (λ enough. enough) first.kept next.kept;
      })

  -- Memory ran out after them.
  pub hashes_short : {B : Type 0} {gives : Option Names → B → Type 0} {digest : List ℕ} (later : List (List ℕ)) (r : Result B (Stop Status)) → IsErrAnd r (λ stop. stop.why ≡ OutOfMemory)
      → Hashes names old mid before between digests → ReadsName (target_under name) (IsHashOf Sha256) RefusesTarget name mid new between now (Ok digest)
      → Reads {A = B} (map target_under (names ++ name ∷ later)) gives (λ told. RefusesOne told (names ++ name ∷ later)) old new before now r
  hashes_short later (Ok x) short first next = absurd short
  hashes_short {B} {gives} {digest} later (Err stop) short first next =
      subst (λ (z : List Input). Reads {A = B} z gives (λ told. RefusesOne told (names ++ name ∷ later)) old new before now (Err stop)) (apart names later name) (record {
        given = tt;
        stopped = subst (λ (z : InputError Status). StopsFor (RefusesOne old.names (names ++ name ∷ later))
            (StopsAt (names_in (map target_under names ++ target_under name ∷ map target_under later)) old.opened new.opened before now) stop.name.now z) (sym short) tt;
        opened = tt;
        prefix = prefix_then names later name old.opened mid.opened new.opened first.opened next.prefix;
        accepted = tt;
        in_turn = broken_after (map target_under names) (map target_under later) (target_under name) refl first.accepted (inr short)
            (opened_then (map target_under names) (target_under name ∷ []) old.opened mid.opened new.opened first.opened next.opened);
        kept = keeps_then (λ enough ran. ran) (λ enough ran. ran) first.kept next.kept;
      })

  pub hashes_next : {digest : List ℕ} → Hashes names old mid before between digests → ReadsName (target_under name) (IsHashOf Sha256) RefusesTarget name mid new between now (Ok digest)
      → Hashes (names ++ name ∷ []) old new before now (digests ++ digest ∷ [])
  hashes_next {digest} first next =
      subst (λ (z : List Input). Reads {A = List (List ℕ)} z (λ told. AreHashed told (names ++ name ∷ [])) (λ told. RefusesOne told (names ++ name ∷ [])) old new before now (Ok (digests ++ digest ∷ [])))
      (apart names [] name) (record {
        given = hashed_more old.names names digests name digest first.given (subst (λ (z : Option Names). HasUnder z name (λ b. IsHashOf Sha256 b digest)) first.kept.names next.given);
        stopped = tt;
        opened = opened_then (map target_under names) (target_under name ∷ []) old.opened mid.opened new.opened first.opened next.opened;
        prefix = prefix_then names [] name old.opened mid.opened new.opened first.opened next.prefix;
        accepted = accepted_then old.names (map target_under names) (target_under name ∷ []) first.accepted
            (subst (λ (z : Option Names). AreAccepted z (target_under name ∷ [])) first.kept.names next.accepted);
        in_turn = tt;
        kept = keeps_then (λ enough ran. ran) (λ enough. enough) first.kept next.kept;
      })

-- ---- the digests

pub as_many : (told : Option Names) (names digests : List (List ℕ)) → AreHashed told names digests → length digests ≡ length names
as_many told [] [] h = refl
as_many told [] (d ∷ ds) h = absurd h
as_many told (n ∷ ns) [] h = absurd h
as_many told (n ∷ ns) (d ∷ ds) h = ap suc (as_many told ns ds h.1)

pub are_sha256 : (told : Option Names) (names digests : List (List ℕ)) → ((m : List ℕ) → length (hashed Sha256 m) ≡ 32) → AreHashed told names digests
    → (k : ℕ) (d : List ℕ) → k < length digests → length (slice_index_or digests k d) ≡ 32
are_sha256 told [] [] size h k d less = absurd (omega arith)
are_sha256 told [] (x ∷ xs) size h k d less = absurd h
are_sha256 told (n ∷ ns) [] size h k d less = absurd h
are_sha256 told (n ∷ ns) (x ∷ xs) size h zero d less = ap length h.0.2.1 ∙ size h.0.0
are_sha256 told (n ∷ ns) (x ∷ xs) size h (suc k) d less = are_sha256 told ns xs size h.1 k d (omega arith)

-- ---- the names that a loop goes over

pub first_texts : (names : List (Bor (List ℕ))) (i : ℕ) (d : Bor (List ℕ)) → i < length names → texts (take (i + 1) names) ≡ texts (take i names) ++ (get_or names i d).now ∷ []
first_texts names i d less =
    ap texts (ap (λ (z : ℕ). take z names) (add-one i) ∙ take-suc names i d less) ∙ map-append (λ s. s.now) (take i names) (get_or names i d ∷ [])

pub all_texts : (names : List (Bor (List ℕ))) (i : ℕ) (d : Bor (List ℕ)) → i < length names
    → texts names ≡ texts (take i names) ++ (get_or names i d).now ∷ texts (drop (i + 1) names)
all_texts names i d less =
    ap texts (sym (take-append-drop i names) ∙ ap (λ (z : List (Bor (List ℕ))). take i names ++ z) (drop_more names i d less))
    ∙ map-append (λ s. s.now) (take i names) (get_or names i d ∷ drop (i + 1) names)
