-- What a batch names is read.
use Rattle.std.proofs.Common.{◌≡◌, ℕ, List, [], ◌∷◌, Option, None, refl, sym, subst}
use Rattle.std.specs.Prelude.{Result, Ok, Err, Vec}
use Rattle.std.specs.declared.alloc.Global.{Global}
use Rattle.ots_outside.specs.Shelf.{Names, ShelfFaults, ShelfTold}
use Rattle.ots_calendar_inputs.specs.Address.{IsOneAddress, MayRefuseAddress}
use Rattle.ots_calendar_inputs.specs.Digests.{IsDigests, IsDigestsOf, RefusesDigests}
use Rattle.ots_inputs.specs.Input.{ReadsNamed}
use Rattle.ots_calendar_inputs.specs.Key.{GivesKey, RefusesKey}
use Rattle.ots_inputs.specs.declared.error.InputError.{InputError}
use Rattle.ots_inputs.specs.declared.error.InputError.TheVariants as input
use Rattle.ots_inputs.specs.declared.error.Stop.{Stop}
use Rattle.ots_calendar_text.specs.declared.status.DaemonStatus.{DaemonStatus}
use Rattle.ots_calendar_words.specs.Words.{BatchAsked}
use Rattle.ots_calendar_batch.specs.declared.round.Round.{Round}
use Rattle.ots_calendar_endings.specs.With.{WithInput, is_given, no_file, refuses, is_uri, no_uri}
use Rattle.ots_calendar_batch.specs.Batch.{WithFiles, WithRound}
use Rattle.ots_calendar_endings.specs.RunEnd.{Comes, as_defined, no_memory, RunEnd, refused, status_of}
use Rattle.ots_calendar_batch.specs.Reading.{HasFiles, ReadsFiles, ReadsRound, no_round, nothing}
use Rattle.ots_calendar_batch.specs.Round.{IsRound}
use Rattle.ots_calendar_endings.proofs.Inputs.{comes_map, input_comes, reads_given, reads_nothing, reads_refused}
use Rattle.ots_inputs.proofs.Opened.{stops_before, stops_later}
use Rattle.ots_calendar_endings.proofs.Shelves.{shelf_prefix, shelf_then}
use Rattle.ots_inputs.specs.Under.{HasUnder, IsUnder}
use Rattle.ots_inputs.specs.Opened.{StopsAt}

module _ (asked : BatchAsked) (uri : List ℕ) (old new : ShelfTold) (a c : ShelfFaults) where
  -- the key file is refused
  pub key_stops : (stop : Stop DaemonStatus) → ReadsNamed {A = List ℕ} GivesKey RefusesKey asked.key old new a c (Err stop) → ReadsFiles asked uri old new a c (Err stop)
  key_stops stop h = record {
    answer = comes_map (refused stop.name.now (status_of stop.why)) (λ w. w) (λ name at. stops_before (asked.key ∷ []) (asked.digests ∷ []) old.opened new.opened a c name at) (λ none. none)
        (input_comes GivesKey RefusesKey (λ key. WithInput old.names asked.digests IsDigests RefusesDigests (nothing key)) asked.key old new a c ⊥ stop h);
    shelf = λ s ran. shelf_prefix (asked.key ∷ []) (asked.digests ∷ []) old new a c s (reads_refused stop s ran h);
  }

  module _ (mid : ShelfTold) (b : ShelfFaults) (key : List ℕ) (first : ReadsNamed GivesKey RefusesKey asked.key old mid a b (Ok key)) where
    pub files_given : (digests : Vec (List ℕ) Global) (round : Round) → round.key ≡ key → round.uri ≡ uri → round.digests ≡ digests
        → ReadsNamed IsDigestsOf RefusesDigests asked.digests mid new b c (Ok digests) → ReadsFiles asked uri old new a c (Ok round)
    files_given digests round key_is uri_is digests_are h = record {
      answer = (
        record {
          has_key = subst (λ (z : List ℕ). HasUnder old.names asked.key (λ bytes. GivesKey bytes z)) (sym key_is) first.answer;
          has_digests = subst (λ (z : Vec (List ℕ) Global). HasUnder old.names asked.digests (λ bytes. IsDigests bytes z.items)) (sym digests_are)
              (subst (λ (z : Option Names). HasUnder z asked.digests (λ bytes. IsDigests bytes digests.items)) first.kept.names h.answer);
        },
        uri_is,
      );
      shelf = λ s ran. shelf_then (asked.key ∷ []) (asked.digests ∷ []) old mid new a b c s first.opened (reads_given key s first) (reads_given digests s h);
    }

    digests_of : (names : Option Names) (e : RunEnd) → names ≡ old.names → WithInput {A = Vec (List ℕ) Global} names asked.digests IsDigestsOf RefusesDigests (λ d e. ⊥) e → WithFiles old.names asked nothing e
    digests_of names e same w = is_given key first.answer (by w)
      where
        by : WithInput {A = Vec (List ℕ) Global} names asked.digests IsDigestsOf RefusesDigests (λ d e. ⊥) e → WithInput old.names asked.digests IsDigests RefusesDigests (nothing key) e
        by (is_given x has goes) = absurd goes
        by (no_file under is) = no_file (subst (λ (z : Option Names). IsUnder z asked.digests None) same under) is
        by (refuses s has is) = refuses s (subst (λ (z : Option Names). HasUnder z asked.digests (λ bytes. RefusesDigests bytes s)) same has) is

    pub digests_stop : (stop : Stop DaemonStatus) → ReadsNamed {A = Vec (List ℕ) Global} IsDigestsOf RefusesDigests asked.digests mid new b c (Err stop) → ReadsFiles asked uri old new a c (Err stop)
    digests_stop stop h = record {
      answer = comes_map (refused stop.name.now (status_of stop.why)) (digests_of mid.names (refused stop.name.now (status_of stop.why)) first.kept.names)
          (λ name at. stops_later (asked.key ∷ []) (asked.digests ∷ []) old.opened mid.opened new.opened a b c name first.opened first.kept.later at) (λ none. none)
          (input_comes IsDigestsOf RefusesDigests (λ d e. ⊥) asked.digests mid new b c ⊥ stop h);
      shelf = λ s ran. shelf_then (asked.key ∷ []) (asked.digests ∷ []) old mid new a b c s first.opened (reads_given key s first) (reads_refused stop s ran h);
    }

  -- after the address
  pub with_address : (r : Result Round (Stop DaemonStatus)) → IsOneAddress asked.uri uri → ReadsFiles asked uri old new a c r → ReadsRound asked old new a c r
  with_address (Ok round) one h = record { answer = (h.answer.0, subst (IsOneAddress asked.uri) (sym h.answer.1) one); shelf = h.shelf }
  with_address (Err stop) one h = record {
    answer = comes_map (refused stop.name.now (status_of stop.why)) (λ w. is_uri uri one w) (λ name at. at) (λ none. none) h.answer;
    shelf = h.shelf;
  }

-- the address is refused
pub address_stops : (asked : BatchAsked) (told : ShelfTold) (faults : ShelfFaults) (stop : Stop DaemonStatus) → stop.name.now ≡ [] → MayRefuseAddress asked.uri stop.why → ReadsRound asked told told faults faults (Err stop)
address_stops asked told faults stop none may = record {
  answer = subst (λ (z : List ℕ). Comes (WithRound told.names asked no_round) (StopsAt (asked.key ∷ asked.digests ∷ []) told.opened told.opened faults faults) ⊥ (refused z (status_of stop.why))) (sym none) (by stop.why may);
  shelf = λ s ran. reads_nothing (asked.key ∷ asked.digests ∷ []) told faults s;
}
  where
    by : (e : InputError DaemonStatus) → MayRefuseAddress asked.uri e → Comes (WithRound told.names asked no_round) (StopsAt (asked.key ∷ asked.digests ∷ []) told.opened told.opened faults faults) ⊥ (refused [] (status_of e))
    by input.NoFile may = absurd may
    by input.ReadFault may = absurd may
    by (input.Refused s) may = as_defined (no_uri s may refl)
    by input.OutOfMemory may = no_memory refl

-- ---- what goes on with it

pub round_stops : (names : Option Names) (asked : BatchAsked) (goes_on : List ℕ → List ℕ → List (List ℕ) → RunEnd → Type 0) (e : RunEnd) → WithRound names asked no_round e → WithRound names asked goes_on e
round_stops names asked goes_on e (no_uri s refused is) = no_uri s refused is
round_stops names asked goes_on e (is_uri uri one w) = is_uri uri one (key w)
  where
    digests : (k : List ℕ) → WithInput names asked.digests IsDigests RefusesDigests (no_round uri k) e → WithInput names asked.digests IsDigests RefusesDigests (goes_on uri k) e
    digests k (is_given d has goes) = absurd goes
    digests k (no_file under is) = no_file under is
    digests k (refuses s has is) = refuses s has is

    key : WithFiles names asked (no_round uri) e → WithFiles names asked (goes_on uri) e
    key (is_given k has w) = is_given k has (digests k w)
    key (no_file under is) = no_file under is
    key (refuses s has is) = refuses s has is

-- it is a round that may be put
pub may_be_put : (names : Option Names) (asked : BatchAsked) (round : Round) → HasFiles names asked round → IsRound round.digests.items
may_be_put names asked round h = let are = h.has_digests.2 in record { some = are.some; most = are.most }
