-- Arguments that are added to a command one by one, and what clap says of the words.
use Rattle.std.proofs.Common.{◌≡◌, ◌≢◌, ◌<◌, ◌≤◌, ℕ, ◌+◌, true, List, [], ◌∷◌, length, get_or, drop, refl, sym, ap, ◌∙◌, inl, inr, arith, drop-cons, add-one, eqb-true}
use Rattle.std.proofs.lemmas.List.{drop_all}
use Rattle.std.specs.Prelude.{map}
use Rattle.clap.specs.Walk.{Text, is_empty}
use Rattle.clap.specs.Words.{App, HasKind, HasMatchesOf, IsAmong, Kinds, fault_of, found_of, is_simple, is_simple_and_free, kind_of, matches_of, new_app, rows_of, with_rule}
use Rattle.clap.specs.declared.error.Error.{Error}
use Rattle.clap.specs.declared.error.kind.ErrorKind.{ErrorKind}
use Rattle.clap.specs.declared.error.kind.ErrorKind.TheVariants as kind
use Rattle.clap.specs.declared.parser.matches.ArgMatches.{ArgMatches}
use Rattle.clap.proofs.WalkLemmas.{both}
use Rattle.ots_arguments.specs.declared.arguments.Argument.{Argument}
use Rattle.ots_arguments.specs.Arguments.{argument, described, is_taken, simple, with_arguments}

pub none_added : (app : App) (name : Text) (arguments : List Argument) → app ≡ new_app name → with_arguments app (map described (drop 0 arguments)) ≡ simple name (map described arguments)
unfolding simple
none_added app name arguments is = rw is refl

pub one_added : (app more whole : App) (arguments : List Argument) (i : ℕ) (d : Argument) → i < length arguments
    → more ≡ with_rule app (argument (get_or arguments i d).0.now (get_or arguments i d).1) → with_arguments app (map described (drop i arguments)) ≡ whole
    → with_arguments more (map described (drop (i + 1) arguments)) ≡ whole
one_added app more whole arguments i d in_range grown so_far =
    rw (grown, add-one) (ap (λ (z : List Argument). with_arguments app (map described z)) (sym (drop-cons arguments i d in_range)) ∙ so_far)

pub all_added : (app whole : App) (arguments : List Argument) (i : ℕ) → length arguments ≤ i → with_arguments app (map described (drop i arguments)) ≡ whole → app ≡ whole
all_added app whole arguments i past so_far = ap (λ (z : List Argument). with_arguments app (map described z)) (sym (drop_all i arguments past)) ∙ so_far

-- ---- what clap says of the words

none_among : (k : ErrorKind) (kinds : Kinds) → IsAmong k kinds → is_empty kinds ≡ true → ⊥
none_among k [] among none = among
none_among k (x ∷ xs) among none = absurd (omega (arith, eqb-true _ _ none))

pub values_are : (app whole : App) (words : List Text) (m : ArgMatches) → app ≡ whole → is_simple_and_free whole ≡ true → HasMatchesOf app words m → rows_of (found_of m) ≡ matches_of whole words
values_are app whole words m is simple has = (has (ap is_simple is ∙ (both _ _ simple).0)).0 ∙ ap (λ (z : App). matches_of z words) is

pub taken_at : (app whole : App) (words : List Text) (m : ArgMatches) → app ≡ whole → is_simple_and_free whole ≡ true
    → (is_simple_and_free app ≡ true → fault_of app words ≡ []) → is_taken whole words ≡ true
unfolding is_taken
taken_at app whole words m is simple none = ap is_empty (ap (λ (z : App). fault_of z words) (sym is) ∙ none (ap is_simple_and_free is ∙ simple))

pub refused_at : (app whole : App) (words : List Text) (e : Error) → app ≡ whole → is_simple_and_free whole ≡ true
    → (is_simple_and_free app ≡ true → HasKind (fault_of app words) e) → kind_of e ≢ kind.OutOfMemory → is_taken whole words ≢ true
unfolding is_taken
refused_at app whole words e is simple has other = λ none. elim (has (ap is_simple_and_free is ∙ simple)) [
  | inl short ↦ other short
  | inr among ↦ none_among (kind_of e) (fault_of app words) among (ap (λ (z : App). is_empty (fault_of z words)) is ∙ none)
]
