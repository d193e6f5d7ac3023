-- Words name at most 1024 files.
use Rattle.std.proofs.Common.{◌≡◌, ◌≤◌, ℕ, Bool, true, false, cond, ◌||◌, nat_lt, List, [], ◌∷◌, bytes_eq, codes, length, Option, Some, None, IfSome, refl}
use Rattle.std.specs.Prelude.{option_and_then, option_map}
use Rattle.std.specs.List.{AllByRecursion}
use Rattle.std.proofs.lemmas.Bool.{ltb-false}
use Rattle.clap.specs.Walk.{Row}
use Rattle.clap.specs.Words.{all_of, first_of}
use Rattle.ots_arguments.specs.Arguments.{Described, read_form}
use Rattle.ots_arguments.specs.Values.{name_in, names_in, some_names}
use Rattle.ots_client_words.specs.Words.{ClientCommand, info, canon, merge, prune, verify, stamp, upgrade, sample, chain}
use Rattle.ots_client_words.specs.Words.{asked_by, chaining_in, command_of, form_of, paths, upgrading_in, verification_in, wanted_calendars_in, with_two}
use Rattle.ots_client_words.specs.declared.limits.TheConstants.{MAX_STAMPED}

abbrev pub FewFiles : ClientCommand → Type 0
FewFiles (stamp s) = length s.files ≤ MAX_STAMPED
FewFiles other = Unit {0}

few_or_none : (a b c : Bool) (most : ℕ) (names : List (List ℕ)) → nat_lt most (length names) ≡ b
    → IfSome (cond (a || b) None (cond c (Some names) None)) (λ (xs : List (List ℕ)). length xs ≤ most)
few_or_none true b c most names e = tt
few_or_none false true c most names e = tt
few_or_none false false true most names e = ltb-false most (length names) e
few_or_none false false false most names e = tt

some_few : (most : ℕ) (names : Option (List (List ℕ))) → IfSome (option_and_then (some_names most) names) (λ (xs : List (List ℕ)). length xs ≤ most)
some_few most None = tt
some_few most (Some names) = few_or_none _ (nat_lt most (length names)) _ most names refl

of_one : {A : Type 0} (f : A → ClientCommand) (x : Option A) → ((a : A) → FewFiles (f a)) → IfSome (option_map f x) FewFiles
of_one f None h = tt
of_one f (Some a) h = h a

of_two : (f : List ℕ → List ℕ → ClientCommand) (x y : Option (List ℕ)) → ((a b : List ℕ) → FewFiles (f a b)) → IfSome (with_two f x y) FewFiles
of_two f None y h = tt
of_two f (Some a) None h = tt
of_two f (Some a) (Some b) h = h a b

of_three : (x y z : Option (List ℕ)) → IfSome (option_and_then (λ a. with_two (merge a) y z) x) FewFiles
of_three None y z = tt
of_three (Some a) y z = of_two (merge a) y z (λ b c. tt)

of_files : (w : Option (List ℕ × ℕ)) (names : Option (List (List ℕ))) → IfSome names (λ (xs : List (List ℕ)). length xs ≤ MAX_STAMPED)
    → IfSome (option_map stamp (option_and_then (λ w. option_map (λ files. record { calendars = w.0; least = w.1; files = files }) names) w)) FewFiles
of_files None names h = tt
of_files (Some w) None h = tt
of_files (Some w) (Some names) h = h

if_taken : (taken : Bool) (c : Option ClientCommand) → IfSome c FewFiles → IfSome (cond taken c None) FewFiles
if_taken true c h = h
if_taken false c h = tt

if_read : (word : List ℕ) (arguments : List Described) (command : List Row → Option ClientCommand) (words : List (List ℕ))
    → ((rows : List Row) → IfSome (command rows) FewFiles) → IfSome (read_form word arguments command words) FewFiles
unfolding read_form
if_read word arguments command words h = if_taken _ _ (h _)

-- the form of the first of these words that is this one
abbrev form_among : {F : Type 0} → (List ℕ → Option F) → List ℕ → List (List ℕ) → Option F
form_among form word [] = None
form_among form word (w ∷ ws) = cond (bytes_eq word w) (form w) (form_among form word ws)

if_same : (is : Bool) {F : Type 0} (asked : F → Option ClientCommand) (x y : Option F) → IfSome (option_and_then asked x) FewFiles
    → IfSome (option_and_then asked y) FewFiles → IfSome (option_and_then asked (cond is x y)) FewFiles
if_same true asked x y h k = h
if_same false asked x y h k = k

if_among : {F : Type 0} (form : List ℕ → Option F) (asked : F → Option ClientCommand) (word : List ℕ) (ws : List (List ℕ))
    → AllByRecursion (λ w. IfSome (option_and_then asked (form w)) FewFiles) ws → IfSome (option_and_then asked (form_among form word ws)) FewFiles
if_among form asked word [] h = tt
if_among form asked word (w ∷ ws) h = if_same (bytes_eq word w) asked (form w) (form_among form word ws) h.0 (if_among form asked word ws h.1)

pub few_files : (words : List (List ℕ)) → IfSome (command_of words) FewFiles
few_files [] = tt
few_files (word ∷ rest) =
    let words : List (List ℕ) = word ∷ rest in
    if_among form_of (λ form. asked_by form words) word
    (codes "info" ∷ codes "canon" ∷ codes "merge" ∷ codes "prune" ∷ codes "verify" ∷ codes "stamp" ∷ codes "upgrade" ∷ codes "sample" ∷ codes "chain" ∷ []) (
      if_read _ _ _ words (λ rows. of_one info (name_in rows (codes "proof")) (λ name. tt)),
      (
        if_read _ _ _ words (λ rows. of_two canon (name_in rows (codes "in")) (name_in rows (codes "out")) (λ from to. tt)),
        (
          if_read _ _ _ words (λ rows. of_three (name_in rows (codes "a")) (name_in rows (codes "b")) (name_in rows (codes "out"))),
          (
            if_read _ _ _ words (λ rows. of_two prune (name_in rows (codes "in")) (name_in rows (codes "out")) (λ from to. tt)),
            (
              if_read _ _ _ words (λ rows. of_one verify (verification_in rows) (λ v. tt)),
              (
                if_read _ _ _ words (λ rows. of_files (wanted_calendars_in rows) (names_in rows (codes "files") MAX_STAMPED) (some_few MAX_STAMPED (all_of (codes "files") rows))),
                (
                  if_read _ _ _ words (λ rows. of_one upgrade (upgrading_in rows) (λ u. tt)),
                  (
                    if_read _ _ _ words (λ rows. of_one sample (option_and_then paths (first_of (codes "paths") rows)) (λ n. tt)),
                    (if_read _ _ _ words (λ rows. of_one chain (chaining_in rows) (λ c. tt)), tt),
                  ),
                ),
              ),
            ),
          ),
        ),
      ),
    )
