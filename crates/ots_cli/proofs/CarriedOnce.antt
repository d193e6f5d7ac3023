-- Where nothing of the outside fails, an ending is carried out in one way.
use Rattle.std.proofs.Common.{◌≡◌, ◌≢◌, ◌<◌, ℕ, List, [], ◌∷◌, length, map, Option, Some, None, inl, inr, refl, sym, ap, subst, ◌∙◌, arith}
use Rattle.std.specs.Prelude.{IsSome}
use Rattle.std.proofs.lemmas.Bool.{false≢true}
use Rattle.std.specs.FinMap as map_of
use Rattle.std.specs.List.{flat_map}
use Rattle.ots_base.specs.declared.limits.TheConstants.{MAX_PROOF_FILE}
use Rattle.ots_canon.specs.Canonical.{IsCanonTree}
use Rattle.ots_canon.proofs.Lawful.{same_form}
use Rattle.ots_canon.proofs.Rising.{same_itself}
use Rattle.ots_client_endings.specs.CarriedOut.{CarriesOut, MakesThen, PrintsLast}
use Rattle.ots_client_endings.specs.Ending.{Act, IsStampAt, makes, makes_stamp, prints}
use Rattle.ots_client_text.specs.Refusal.{refusal_text}
use Rattle.ots_client_text.specs.declared.status.Status.{Status}
use Rattle.ots_client_text.specs.declared.status.Status.TheVariants.{Exists, OutOfMemory, TooBig}
use Rattle.ots_detached.specs.File.{file_of}
use Rattle.ots_detached.proofs.BothWays.{file_size, same_detached}
use Rattle.ots_outside.specs.Shelf.{Names}
use Rattle.ots_outside.specs.Streams.{Takes}
use Rattle.ots_outside.specs.Written.{with_name}
use Rattle.ots_stamp.specs.Stamped.{IsStampOf, leaves, to_root}
use Rattle.ots_stamp.specs.declared.target.Target.{Target}
use Rattle.ots_tree.proofs.Determined.{same_pre}
use Rattle.ots_tree.specs.Made.{after}
use Rattle.ots_tree.specs.Wire.{Node, Path, paths, pre}
use Rattle.ots_tree.specs.declared.detached.Detached.{Detached}
use Rattle.ots_tree.specs.declared.token.Token.{Token}

-- ---- the proof of a file is the only one

same_nodes : (xs ys : List Node) → map pre xs ≡ map pre ys → xs ≡ ys
same_nodes [] [] same = refl
same_nodes [] (y ∷ ys) same = absurd cc
same_nodes (x ∷ xs) [] same = absurd cc
same_nodes (x ∷ xs) (y ∷ ys) same = let first = same_pre x y cc in let rest = same_nodes xs ys cc in λ i. first i ∷ rest i

stamp_once : (targets : List Target) (i : ℕ) (t : Target) (trees : List (List Token)) (p q : Detached) → IsStampOf targets i t trees p → IsStampOf targets i t trees q → p ≡ q
stamp_once targets i t trees p q f g =
    let nodes : f.nodes ≡ g.nodes = same_nodes f.nodes g.nodes (f.are ∙ sym g.are) in
    let all : List Node → List Path = λ (ns : List Node). map (after (to_root (leaves targets) i t)) (flat_map paths ns) in
    same_detached p q (f.hash ∙ sym g.hash) (f.digest ∙ sym g.digest)
    (same_form (all g.nodes) (all g.nodes) p.tree q.tree (same_itself (all g.nodes)) (subst (λ (z : List Node). IsCanonTree (all z) p.tree) nodes f.form) g.form)

stamp_at_once : (targets : List Target) (trees : List (List Token)) (i : ℕ) (p q : Detached) → IsStampAt targets trees i p → IsStampAt targets trees i q → p ≡ q
stamp_at_once targets trees i p q (t, at, f) (u, there, g) =
    let some : Some t ≡ Some u = sym at ∙ there in
    let same : t ≡ u = cc in
    stamp_once targets i u trees p q (subst (λ (z : Target). IsStampOf targets i z trees p) same f) g

-- ---- what is told of a shelf's names and of a sink's bytes, and a status

pub record Same (names other : Option Names) (taken more : Option (List ℕ)) (r s : Status) : Type 0 where
  pub names_are : names ≡ other
  pub taken_are : taken ≡ more
  pub status_is : r ≡ s

-- what a sink has taken
taken_once : (old : List ℕ) (a b : Option (List ℕ)) (text : List ℕ) → Takes (Some old) a text → Takes (Some old) b text → a ≡ b
taken_once old None b text f g = absurd f
taken_once old (Some x) None text f g = absurd g
taken_once old (Some x) (Some y) text f g = ap (λ (z : List ℕ). Some z) (f ∙ sym g)

takes_some : (old : List ℕ) (a : Option (List ℕ)) (text : List ℕ) → Takes (Some old) a text → (new : List ℕ) × (a ≡ Some new)
takes_some old None text f = absurd f
takes_some old (Some x) text f = (x, refl)

last_once : (s : Status) (text : List ℕ) (old : List ℕ) (a b : Option (List ℕ)) (q r : Status) → PrintsLast ⊥ s text (Some old) a q → PrintsLast ⊥ s text (Some old) b r
    → (a ≡ b) × (q ≡ r)
last_once s text old a b q r (inl f) (inl g) = (taken_once old a b text f.0 g.0, f.1 ∙ sym g.1)
last_once s text old a b q r (inl f) (inr g) = absurd g.0
last_once s text old a b q r (inr f) g = absurd f.0

is_there : (o : Option (List ℕ)) → o ≡ None → IsSome o → ⊥
is_there None none there = absurd (false≢true there)
is_there (Some bytes) none there = cc

free_or_there : (names : Names) (name : List ℕ) → map_of.get names name ≡ None → IsSome (map_of.get names name) → ⊥
free_or_there names name = is_there (map_of.get names name)

-- a file that is to be made
makes_once : (name bytes : List ℕ) (P Q : Option Names → Type 0) (names : Names) (new other : Option Names) (old : List ℕ) (a b : Option (List ℕ)) (q r : Status)
    → q ≢ OutOfMemory → r ≢ OutOfMemory → (P (with_name name bytes (Some names)) → Q (with_name name bytes (Some names)) → Same new other a b q r)
    → MakesThen ⊥ ⊥ name bytes P (Some names) new (Some old) a q → MakesThen ⊥ ⊥ name bytes Q (Some names) other (Some old) b r → Same new other a b q r
makes_once name bytes P Q names new other old a b q r enough also then (inl f) (inl g) = then f.1 g.1
makes_once name bytes P Q names new other old a b q r enough also then (inl f) (inr (inl g)) = absurd (free_or_there names name f.0 g.0)
makes_once name bytes P Q names new other old a b q r enough also then (inr (inl f)) (inl g) = absurd (free_or_there names name g.0 f.0)
makes_once name bytes P Q names new other old a b q r enough also then (inr (inl f)) (inr (inl g)) =
    let same = last_once Exists (refusal_text name Exists) old a b q r f.2 g.2 in
    record { names_are = f.1 ∙ sym g.1; taken_are = same.0; status_is = same.1 }
makes_once name bytes P Q names new other old a b q r enough also then (inr (inr (inl f))) g = absurd f.0
makes_once name bytes P Q names new other old a b q r enough also then (inr (inr (inr f))) g = absurd (enough f.2)
makes_once name bytes P Q names new other old a b q r enough also then f (inr (inr (inl g))) = absurd g.0
makes_once name bytes P Q names new other old a b q r enough also then f (inr (inr (inr g))) = absurd (also g.2)

-- ---- all acts

pub carried_once : (s : Status) (acts : List Act) (names : Names) (new other : Option Names) (old : List ℕ) (a b : Option (List ℕ)) (q r : Status) → q ≢ OutOfMemory → r ≢ OutOfMemory
    → CarriesOut ⊥ ⊥ s acts (Some names) new (Some old) a q → CarriesOut ⊥ ⊥ s acts (Some names) other (Some old) b r → Same new other a b q r
carried_once s [] names new other old a b q r enough also f g = record { names_are = f.0 ∙ sym g.0; taken_are = f.1 ∙ sym g.1; status_is = f.2 ∙ sym g.2 }
carried_once s (prints text ∷ acts) names new other old a b q r enough also (inl f) (inl g) =
    let mid = takes_some old g.0 text g.1 in
    let same : f.0 ≡ g.0 = taken_once old f.0 g.0 text f.1 g.1 in
    carried_once s acts names new other mid.0 a b q r enough also
    (subst (λ (z : Option (List ℕ)). CarriesOut ⊥ ⊥ s acts (Some names) new z a q) (same ∙ mid.1) f.2)
    (subst (λ (z : Option (List ℕ)). CarriesOut ⊥ ⊥ s acts (Some names) other z b r) mid.1 g.2)
carried_once s (prints text ∷ acts) names new other old a b q r enough also (inl f) (inr g) = absurd g.1
carried_once s (prints text ∷ acts) names new other old a b q r enough also (inr f) g = absurd f.1
carried_once s (makes name bytes ∷ acts) names new other old a b q r enough also f g =
    makes_once name bytes (λ mid. CarriesOut ⊥ ⊥ s acts mid new (Some old) a q) (λ mid. CarriesOut ⊥ ⊥ s acts mid other (Some old) b r) names new other old a b q r enough also
    (λ h k. carried_once s acts (map_of.insert names name bytes) new other old a b q r enough also h k) f g
carried_once s (makes_stamp targets trees i name ∷ acts) names new other old a b q r enough also (inl (p, is, file, f)) (inl (p', too, file', g)) =
    let same : p' ≡ p = stamp_at_once targets trees i p' p too is in
    makes_once name (file_of p) (λ mid. CarriesOut ⊥ ⊥ s acts mid new (Some old) a q) (λ mid. CarriesOut ⊥ ⊥ s acts mid other (Some old) b r) names new other old a b q r enough also
    (λ h k. carried_once s acts (map_of.insert names name (file_of p)) new other old a b q r enough also h k) f
    (subst (λ (z : Detached). MakesThen ⊥ ⊥ name (file_of z) (λ mid. CarriesOut ⊥ ⊥ s acts mid other (Some old) b r) (Some names) other (Some old) b r) same g)
carried_once s (makes_stamp targets trees i name ∷ acts) names new other old a b q r enough also (inl (p, is, file, f)) (inr (inl (p', too, long, kept, g))) =
    let same : p' ≡ p = stamp_at_once targets trees i p' p too is in
    let longer : MAX_PROOF_FILE < length (file_of p) = subst (λ (z : Detached). MAX_PROOF_FILE < length (file_of z)) same long in
    absurd (let fits = file_size _ p file in omega arith)
carried_once s (makes_stamp targets trees i name ∷ acts) names new other old a b q r enough also (inr (inl (p, is, long, kept, f))) (inl (p', too, file, g)) =
    let same : p ≡ p' = stamp_at_once targets trees i p p' is too in
    let longer : MAX_PROOF_FILE < length (file_of p') = subst (λ (z : Detached). MAX_PROOF_FILE < length (file_of z)) same long in
    absurd (let fits = file_size _ p' file in omega arith)
carried_once s (makes_stamp targets trees i name ∷ acts) names new other old a b q r enough also (inr (inl (p, is, long, kept, f))) (inr (inl (p', too, long', also_kept, g))) =
    let same = last_once TooBig (refusal_text name TooBig) old a b q r f g in
    record { names_are = kept ∙ sym also_kept; taken_are = same.0; status_is = same.1 }
carried_once s (makes_stamp targets trees i name ∷ acts) names new other old a b q r enough also (inr (inr f)) g = absurd (enough f.2)
carried_once s (makes_stamp targets trees i name ∷ acts) names new other old a b q r enough also f (inr (inr g)) = absurd (also g.2)
