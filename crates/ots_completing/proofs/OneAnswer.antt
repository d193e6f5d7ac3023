-- What `upgrade` answers is the only answer, by what was heard of calendars.
use Rattle.std.proofs.Common.{◌≡◌, ℕ, Bool, true, false, List, [], ◌∷◌, ◌++◌, map, Option, Some, None, refl, sym, ap, subst, ◌∙◌, arith}
use Rattle.std.specs.Prelude.{is_some, ◌↔◌, IsTrue, option_map}
use Rattle.std.specs.List.{cons_option, flat_map}
use Rattle.ots_address.specs.Address.{AddressParts}
use Rattle.ots_canon.proofs.Lawful.{same_form}
use Rattle.ots_canon.proofs.Rising.{same_itself}
use Rattle.ots_client_endings.specs.Ending.{Ending, makes, prints}
use Rattle.ots_client_endings.specs.Outside.{Outside}
use Rattle.ots_client_endings.specs.Reading.{WithProof}
use Rattle.ots_client_endings.proofs.OneInput.{with_list, with_proof}
use Rattle.ots_client_text.specs.Lines.{complete_text}
use Rattle.ots_client_text.specs.Status.{complete_status}
use Rattle.ots_client_words.specs.Words.{Upgrading}
use Rattle.ots_completing.specs.Upgrade.{Completes, UpgradesFile, WritesAsked, asked_made, asked_text, asked_too_long}
use Rattle.ots_detached.specs.File.{file_of}
use Rattle.ots_detached.proofs.BothWays.{file_size, same_detached}
use Rattle.ots_outside.specs.Shelf.{Names}
use Rattle.ots_canon.specs.Canonical.{IsCanonTree}
use Rattle.ots_pending.specs.Completed.{IsCompleted, gained}
use Rattle.ots_pending.specs.Pairs.{PairAt}
use Rattle.ots_tree.proofs.Determined.{same_pre}
use Rattle.ots_tree.specs.Wire.{Node, Path, paths, pre}
use Rattle.ots_tree.specs.declared.detached.Detached.{Detached}
use Rattle.ots_tree.specs.declared.token.Token.{Token}
use Rattle.ots_upgrade.proofs.OneList.{one_list as one_pairs}
use Rattle.ots_upgrade.specs.Upgrading.{AreAskedPairs, outcomes, trees_of}
use Rattle.ots_upgrade.specs.declared.asking.AskedAt.{AskedAt}
use Rattle.ots_asking.specs.declared.outcome.Outcome.{Outcome}

-- ---- what was asked

-- An outcome, or none of both, stands before the others.
first_and_rest : (o p : Option Outcome) (os ps : List Outcome) → is_some o ≡ is_some p → cons_option o os ≡ cons_option p ps → (o ≡ p) × (os ≡ ps)
first_and_rest None None os ps which same = (refl, same)
first_and_rest None (Some p) os ps which same = absurd cc
first_and_rest (Some o) None os ps which same = absurd cc
first_and_rest (Some o) (Some p) os ps which same = (cc, cc)

same_asked : (a b : AskedAt) → a.uri ≡ b.uri → a.message ≡ b.message → a.outcome ≡ b.outcome → a ≡ b
same_asked a b uri message outcome = λ i. record { uri = uri i; message = message i; outcome = outcome i }

asked_once : (calendars : List AddressParts) (ps : List PairAt) (xs ys : List AskedAt) → AreAskedPairs calendars ps xs → AreAskedPairs calendars ps ys
    → outcomes xs ≡ outcomes ys → xs ≡ ys
asked_once calendars [] [] [] f g same = refl
asked_once calendars [] [] (y ∷ ys) f g same = absurd g
asked_once calendars [] (x ∷ xs) ys f g same = absurd f
asked_once calendars (p ∷ ps) [] ys f g same = absurd f
asked_once calendars (p ∷ ps) (x ∷ xs) [] f g same = absurd g
asked_once calendars (p ∷ ps) (x ∷ xs) (y ∷ ys) f g same =
    let both = first_and_rest x.outcome y.outcome (outcomes xs) (outcomes ys) (f.0.which ∙ sym g.0.which) same in
    let first = same_asked x y (f.0.uri ∙ sym g.0.uri) (f.0.message ∙ sym g.0.message) both.0 in
    let rest = asked_once calendars ps xs ys f.1 g.1 both.1 in λ i. first i ∷ rest i

-- ---- what came of it

same_given : (xs ys : List (Option Node)) → map (option_map pre) xs ≡ map (option_map pre) ys → xs ≡ ys
same_given [] [] same = refl
same_given [] (y ∷ ys) same = absurd cc
same_given (x ∷ xs) [] same = absurd cc
same_given (x ∷ xs) (y ∷ ys) same =
    let first = one x y cc in let rest = same_given xs ys cc in λ i. first i ∷ rest i
  where
    one : (x y : Option Node) → option_map pre x ≡ option_map pre y → x ≡ y
    one None None e = refl
    one None (Some u) e = absurd cc
    one (Some t) None e = absurd cc
    one (Some t) (Some u) e = ap (λ (z : Node). Some z) (same_pre t u cc)

completed_once : (p : Detached) (ps : List PairAt) (trees : List (Option (List Token))) (r s : List Token) → IsCompleted p ps trees r → IsCompleted p ps trees s → r ≡ s
completed_once p ps trees r s f g =
    let node : f.node ≡ g.node = same_pre f.node g.node (f.tree ∙ sym g.tree) in
    let given : f.given ≡ g.given = same_given f.given g.given (f.given_are ∙ sym g.given_are) in
    let all : List Path = paths g.node ++ flat_map (gained ps g.given (Some p.digest)) (paths g.node) in
    let is : paths f.node ++ flat_map (gained ps f.given (Some p.digest)) (paths f.node) ≡ all =
    λ i. paths (node i) ++ flat_map (gained ps (given i) (Some p.digest)) (paths (node i)) in
    same_form all all r s (same_itself all) (subst (λ (z : List Path). IsCanonTree z r) is f.form) g.form

-- ---- what is written

same_answer : {A : Type 0} (b c : Bool) → IsTrue b ↔ A → IsTrue c ↔ A → b ≡ c
same_answer true true f g = refl
same_answer true false f g = let no : false ≡ true = g.1 (f.0 refl) in absurd cc
same_answer false true f g = let no : false ≡ true = f.1 (g.0 refl) in absurd cc
same_answer false false f g = refl

writes_once : (asked : List AskedAt) (to : List ℕ) (r : Detached) (d e : Ending) → WritesAsked asked to r d → WritesAsked asked to r e → d ≡ e
writes_once asked to r d e (asked_too_long long f) (asked_too_long long' g) = f ∙ sym g
writes_once asked to r d e (asked_too_long long f) (asked_made b bitcoin is g) = absurd (let fits = file_size _ r is in omega arith)
writes_once asked to r d e (asked_made b bitcoin is f) (asked_too_long long g) = absurd (let fits = file_size _ r is in omega arith)
writes_once asked to r d e (asked_made b bitcoin is f) (asked_made c too is' g) =
    f
    ∙ ap (λ (z : Bool). record { status = complete_status z; acts = prints (asked_text asked) ∷ makes to (file_of r) ∷ prints (complete_text z) ∷ [] })
    (same_answer b c bitcoin too)
    ∙ sym g

completes_once : (o : Outside) (calendars : List AddressParts) (p : Detached) (to : List ℕ) (d e : Ending) → Completes o calendars p to d → Completes o calendars p to e → d ≡ e
completes_once o calendars p to d e (xs, r, f, h) (ys, s, g, k) =
    let ps : f.pairs ≡ g.pairs = one_pairs p f.pairs g.pairs f.are g.are in
    let asked : xs ≡ ys =
    asked_once calendars g.pairs xs ys (subst (λ (z : List PairAt). AreAskedPairs calendars z xs) ps f.are_asked) g.are_asked (sym f.outcomes_are ∙ g.outcomes_are) in
    let tree : r.tree ≡ s.tree =
    completed_once p g.pairs (trees_of ys) r.tree s.tree (subst (λ (z : List PairAt). IsCompleted p z (trees_of ys) r.tree) ps
    (subst (λ (z : List AskedAt). IsCompleted p f.pairs (trees_of z) r.tree) asked f.tree)) g.tree in
    let made : r ≡ s = same_detached r s (f.hash ∙ sym g.hash) (f.digest ∙ sym g.digest) tree in
    writes_once ys to s d e (subst (λ (z : Detached). WritesAsked ys to z d) made (subst (λ (z : List AskedAt). WritesAsked z to r d) asked h)) k

pub upgrades : (o : Outside) (names : Names) (u : Upgrading) (d e : Ending) → UpgradesFile o (Some names) u d → UpgradesFile o (Some names) u e → d ≡ e
upgrades o names u d e =
    with_list u.calendars (λ calendars. WithProof (Some names) u.proof (λ p. Completes o calendars p u.to)) d e
    (λ calendars. with_proof names u.proof (λ p. Completes o calendars p u.to) d e (λ p. completes_once o calendars p u.to d e))
