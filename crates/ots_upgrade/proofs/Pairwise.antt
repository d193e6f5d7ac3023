-- Pairs that are asked for one after the other.
use Rattle.std.proofs.Common.{◌≡◌, ◌<◌, ◌+◌, ℕ, zero, suc, List, [], ◌∷◌, ◌++◌, length, map, take, drop, Option, Some, None, refl, sym, ap, subst, ◌∙◌, inl, inr, arith}
use Rattle.std.specs.Prelude.{IfSome}
use Rattle.std.specs.List.{slice_get}
use Rattle.std.proofs.lemmas.List.{drop_more, length-take, take-append-drop, take_more}
use Rattle.std.proofs.lemmas.List.Elements.{filter_map-append}
use Rattle.std.proofs.lemmas.Option.{get_or_from_slice_get}
use Rattle.ots_address.specs.Address.{AddressParts}
use Rattle.ots_outside.specs.Dialer.{DialerTold}
use Rattle.ots_tree.specs.declared.token.Token.{Token}
use Rattle.ots_pending.specs.Completed.{AreSoundFor, IsSoundFor}
use Rattle.ots_pending.specs.Pairs.{PairAt}
use Rattle.ots_upgrade.specs.AskedList.{asked_with}
use Rattle.ots_asking.specs.Conversation.{Converse, ConverseUpTo, Question}
use Rattle.ots_asking.specs.Outcome.{IsSoundOutcome}
use Rattle.ots_upgrade.specs.Upgrading.{outcomes, question_for, questions, tree_of, trees_of, AreAskedPairs, AsksFor}
use Rattle.ots_upgrade.specs.declared.asking.AskedAt.{AskedAt}
use Rattle.ots_asking.specs.declared.outcome.Outcome.{Outcome}
use Rattle.ots_asking.specs.declared.outcome.Outcome.TheVariants as outcome
use Rattle.ots_upgrade.proofs.AskedWith.{asked_append, trees_same}
use Rattle.ots_asking.proofs.Questions.{breaks_off_later, nothing_asked}

-- ---- lists

asked_more : (calendars : List AddressParts) (pairs more : List PairAt) (asked others : List AskedAt)
    → AreAskedPairs calendars pairs asked → AreAskedPairs calendars more others → AreAskedPairs calendars (pairs ++ more) (asked ++ others)
asked_more calendars [] more [] others are then = then
asked_more calendars [] more (a ∷ asked) others are then = absurd are
asked_more calendars (p ∷ pairs) more [] others are then = absurd are
asked_more calendars (p ∷ pairs) more (a ∷ asked) others are then = (are.0, asked_more calendars pairs more asked others are.1 then)

-- the pairs up to the next one
next_pair : (pairs : List PairAt) (i : ℕ) (p : PairAt) → i < length pairs → slice_get pairs i ≡ Some p → take (i + 1) pairs ≡ take i pairs ++ p ∷ []
next_pair pairs i p less at = take_more pairs i p less ∙ ap (λ (q : PairAt). take i pairs ++ q ∷ []) (get_or_from_slice_get pairs i p p at)

pub there : {X : Type 0} (xs : List X) (i : ℕ) → i < length xs → (x : X) × (slice_get xs i ≡ Some x)
there [] i less = absurd (omega arith)
there (x ∷ xs) zero less = (x, refl)
there (x ∷ xs) (suc i) less = there xs i (omega arith)

some_same : {X : Type 0} (x y : X) → (let o : Option X = Some x in o) ≡ Some y → x ≡ y
some_same x y is = cc

none_some : {X : Type 0} (y : X) → (let o : Option X = None in o) ≡ Some y → ⊥
none_some y is = absurd cc

-- the pairs before one, that one, and those after it
split : (pairs : List PairAt) (i : ℕ) (p : PairAt) → i < length pairs → slice_get pairs i ≡ Some p → take i pairs ++ p ∷ drop (i + 1) pairs ≡ pairs
split pairs i p less at =
    ap (λ (rest : List PairAt). take i pairs ++ rest) (ap (λ (q : PairAt). q ∷ drop (i + 1) pairs) (sym (get_or_from_slice_get pairs i p p at)) ∙ sym (drop_more pairs i p less)) ∙ take-append-drop i pairs

-- ---- conversations

module _ {D : Type 0} (told : D → DialerTold) (faults : D → ℕ) where
  converse_more : (first second : List Question) (old mid new : D) (these those : List Outcome)
      → Converse told faults first old mid these → Converse told faults second mid new those → Converse told faults (first ++ second) old new (these ++ those)
  converse_more [] second old mid new [] those same then = subst (λ (d : D). Converse told faults second d new those) same then
  converse_more [] second old mid new (o ∷ these) those had then = absurd had
  converse_more (q ∷ first) second old mid new [] those had then = absurd had
  converse_more (q ∷ first) second old mid new (o ∷ these) those (at, one, had) then = (at, one, converse_more first second at mid new these those had then)

  -- it broke off in the first of more
  up_to_more : (first second : List Question) (old new : D) → ConverseUpTo told faults first old new → ConverseUpTo told faults (first ++ second) old new
  up_to_more [] [] old new keeps = keeps
  up_to_more [] (q ∷ second) old new keeps = inl keeps
  up_to_more (q ∷ first) second old new (inl keeps) = inl keeps
  up_to_more (q ∷ first) second old new (inr (inl sends)) = inr (inl sends)
  up_to_more (q ∷ first) second old new (inr (inr (mid, outcome, had, then))) = inr (inr (mid, outcome, had, up_to_more first second mid new then))

  -- ---- pairs

  pub none_asked : (calendars : List AddressParts) (d : D) → AsksFor told faults calendars [] d d []
  none_asked calendars d = record { are = tt; conversed = refl }

  pub asks_more : (calendars : List AddressParts) (pairs more : List PairAt) (old mid new : D) (asked others : List AskedAt)
      → AsksFor told faults calendars pairs old mid asked → AsksFor told faults calendars more mid new others
      → AsksFor told faults calendars (pairs ++ more) old new (asked ++ others)
  asks_more calendars pairs more old mid new asked others so then = record {
    are = asked_more calendars pairs more asked others so.are then.are;
    conversed = rw (filter_map-append (question_for calendars) pairs more, filter_map-append (λ a. a.outcome) asked others)
        (converse_more (questions calendars pairs) (questions calendars more) old mid new (outcomes asked) (outcomes others) so.conversed then.conversed);
  }

  -- the next pair was asked for
  pub asks_next : (calendars : List AddressParts) (pairs : List PairAt) (i : ℕ) (old mid new : D) (outcomes all : List (Option Outcome)) (o : Option Outcome) → i < length pairs
      → length outcomes ≡ i → AsksFor told faults calendars (take i pairs) old mid (asked_with (take i pairs) outcomes)
      → ((p : PairAt) → slice_get pairs i ≡ Some p → AsksFor told faults calendars (p ∷ []) mid new (asked_with (p ∷ []) (o ∷ []))) → all ≡ outcomes ++ o ∷ []
      → AsksFor told faults calendars (take (i + 1) pairs) old new (asked_with (take (i + 1) pairs) all)
  asks_next calendars pairs i old mid new outcomes all o less count so then is =
      let p = there pairs i less in
      let same : length outcomes ≡ length (take i pairs) = omega (arith, length-take i pairs) in
      rw (next_pair pairs i p.0 less p.1, is, asked_append (take i pairs) (p.0 ∷ []) outcomes (o ∷ []) same)
      (asks_more calendars (take i pairs) (p.0 ∷ []) old mid new (asked_with (take i pairs) outcomes) (asked_with (p.0 ∷ []) (o ∷ [])) so (then p.0 p.1))

  -- it broke off in the next one
  pub breaks_off_in : (calendars : List AddressParts) (pairs : List PairAt) (i : ℕ) (old mid new : D) (asked : List AskedAt) → i < length pairs
      → AsksFor told faults calendars (take i pairs) old mid asked
      → ((p : PairAt) → slice_get pairs i ≡ Some p → ConverseUpTo told faults (questions calendars (p ∷ [])) mid new)
      → ConverseUpTo told faults (questions calendars pairs) old new
  breaks_off_in calendars pairs i old mid new asked less so then =
      let p = there pairs i less in
      let rest = drop (i + 1) pairs in
      let all : ConverseUpTo told faults (questions calendars (p.0 ∷ []) ++ questions calendars rest) mid new =
      up_to_more (questions calendars (p.0 ∷ [])) (questions calendars rest) mid new (then p.0 p.1) in
      subst (λ (ps : List PairAt). ConverseUpTo told faults (questions calendars ps) old new) (split pairs i p.0 less p.1)
      (rw (filter_map-append (question_for calendars) (take i pairs) (p.0 ∷ rest), filter_map-append (question_for calendars) (p.0 ∷ []) rest)
      (breaks_off_later told faults (questions calendars (take i pairs)) _ old mid new (outcomes asked) so.conversed all))

  pub all_asked : (qs : List Question) (old new : D) (os : List Outcome) → Converse told faults qs old new os → ConverseUpTo told faults qs old new
  all_asked [] old new [] same = subst (λ (d : D). ConverseUpTo told faults [] old d) (sym same) (nothing_asked told faults [] old)
  all_asked [] old new (o ∷ os) had = absurd had
  all_asked (q ∷ qs) old new [] had = absurd had
  all_asked (q ∷ qs) old new (o ∷ os) (at, one, had) = inr (inr (at, o, one, all_asked qs at new os had))

-- ---- trees

sound_tree : (n k : ℕ) (o : Option Outcome) → IfSome o (IsSoundOutcome n k) → (pairs : List PairAt) (p : PairAt) → slice_get pairs zero ≡ Some p
    → n ≡ length p.pair.message → k ≡ p.depth → IsSoundFor pairs zero (tree_of o)
sound_tree n k None sound pairs p at long deep = tt
sound_tree n k (Some (outcome.Tree tree)) sound pairs p at long deep = λ q here.
    let same : p ≡ q = some_same p q (sym at ∙ here) in
    subst (λ (r : PairAt). IsSoundOutcome (length r.pair.message) r.depth (outcome.Tree tree)) same (rw (sym long, sym deep) sound)
sound_tree n k (Some outcome.Unreachable) sound pairs p at long deep = tt
sound_tree n k (Some (outcome.Status code)) sound pairs p at long deep = tt
sound_tree n k (Some outcome.TooLong) sound pairs p at long deep = tt
sound_tree n k (Some outcome.BadHttp) sound pairs p at long deep = tt
sound_tree n k (Some (outcome.BadReply fault)) sound pairs p at long deep = tt

later : (p : PairAt) (pairs : List PairAt) (i : ℕ) (tree : Option (List Token)) → IsSoundFor pairs i tree → IsSoundFor (p ∷ pairs) (suc i) tree
later p pairs i None sound = tt
later p pairs i (Some tree) sound = sound

sound_trees : (calendars : List AddressParts) (pairs : List PairAt) (asked : List AskedAt) → AreAskedPairs calendars pairs asked → AreSoundFor pairs (trees_of asked)
sound_trees calendars [] [] are i tree at = absurd (none_some tree at)
sound_trees calendars [] (a ∷ asked) are i tree at = absurd are
sound_trees calendars (p ∷ pairs) [] are i tree at = absurd are
sound_trees calendars (p ∷ pairs) (a ∷ asked) are zero tree at =
    subst (IsSoundFor (p ∷ pairs) zero) (some_same (tree_of a.outcome) tree at)
    (sound_tree (length p.pair.message) p.depth a.outcome are.0.sound (p ∷ pairs) p refl refl refl)
sound_trees calendars (p ∷ pairs) (a ∷ asked) are (suc i) tree at = later p pairs i tree (sound_trees calendars pairs asked are.1 i tree at)

pub sound_outcomes : (calendars : List AddressParts) (pairs : List PairAt) (outcomes : List (Option Outcome)) → length outcomes ≡ length pairs
    → AreAskedPairs calendars pairs (asked_with pairs outcomes) → AreSoundFor pairs (map tree_of outcomes)
sound_outcomes calendars pairs outcomes same are = subst (AreSoundFor pairs) (trees_same pairs outcomes same) (sound_trees calendars pairs (asked_with pairs outcomes) are)
