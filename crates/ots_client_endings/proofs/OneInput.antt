-- An input is read in one way, a list too, and a proof is written in one.
use Rattle.std.proofs.Common.{◌≡◌, ℕ, List, [], Some, None, sym, ap, subst, ◌∙◌, arith}
use Rattle.std.specs.FinMap as map
use Rattle.ots_address.specs.Address.{AddressParts}
use Rattle.ots_address.proofs.ListLemmas.{none_bad, one_bad}
use Rattle.ots_address.proofs.OneLemmas.{one_list}
use Rattle.ots_client_endings.specs.Ending.{Ending, refused}
use Rattle.ots_client_endings.specs.Reading.{RefusesInput, no_file, refuses, WithInput, is_given, is_refused, WithList, is_list, is_bad, WithProof}
use Rattle.ots_client_endings.specs.Writing.{Writes, too_long, is_made}
use Rattle.ots_client_inputs.specs.Proof.{RefusesProof, too_big, bad_proof}
use Rattle.ots_client_inputs.specs.Target.{IsHashOf, RefusesTarget}
use Rattle.ots_client_text.specs.declared.status.Status.{Status}
use Rattle.ots_client_text.specs.declared.status.Status.TheVariants.{BadAddress, BadProof}
use Rattle.ots_detached.specs.File.{IsFileOf}
use Rattle.ots_detached.proofs.BothWays.{no_fault, file_size, one_file}
use Rattle.ots_detached.proofs.Files.{one_fault}
use Rattle.ots_inputs.specs.Under.{HasUnder}
use Rattle.ots_ops.specs.declared.hash_op.HashOp.{HashOp}
use Rattle.ots_ops.specs.declared.hash_op.HashOp.TheVariants as hash
use Rattle.ots_outside.specs.Shelf.{Names}
use Rattle.ots_reader.specs.declared.fault.Fault.{Fault}
use Rattle.ots_tree.specs.declared.detached.Detached.{Detached}

-- the bytes under a name are the only ones
pub one_under : (names : Names) (name b c : List ℕ) → map.get names name ≡ Some b → map.get names name ≡ Some c → b ≡ c
one_under names name b c e f = let both : Some b ≡ Some c = sym e ∙ f in cc

pub none_under : (names : Names) (name b : List ℕ) → map.get names name ≡ None → map.get names name ≡ Some b → ⊥
none_under names name b e f = let clash : None ≡ Some b = sym e ∙ f in cc

-- An input is read in one way, where bytes give one thing or are refused with one status, and never both.
module _ {A : Type 0} (names : Names) (name : List ℕ) (Gives : List ℕ → A → Type 0) (Refuses : List ℕ → Status → Type 0)
    (one_given : (b : List ℕ) (x y : A) → Gives b x → Gives b y → x ≡ y) (one_refused : (b : List ℕ) (s t : Status) → Refuses b s → Refuses b t → s ≡ t)
    (not_both : (b : List ℕ) (x : A) (s : Status) → Gives b x → Refuses b s → ⊥) where
  pub one_refusal : (d e : Ending) → RefusesInput (Some names) name Refuses d → RefusesInput (Some names) name Refuses e → d ≡ e
  one_refusal d e (no_file none f) (no_file none' g) = f ∙ sym g
  one_refusal d e (no_file none f) (refuses s h g) = absurd (none_under names name h.0 none h.1)
  one_refusal d e (refuses s h f) (no_file none g) = absurd (none_under names name h.0 none h.1)
  one_refusal d e (refuses s h f) (refuses t k g) =
      f
      ∙ ap (refused name) (one_refused h.0 s t h.2 (subst (λ (z : List ℕ). Refuses z t) (one_under names name k.0 h.0 k.1 h.1) k.2))
      ∙ sym g

  pub not_refused : (b : List ℕ) (x : A) (e : Ending) → map.get names name ≡ Some b → Gives b x → RefusesInput (Some names) name Refuses e → ⊥
  not_refused b x e at is (no_file none f) = none_under names name b none at
  not_refused b x e at is (refuses s h f) = not_both b x s is (subst (λ (z : List ℕ). Refuses z s) (one_under names name h.0 b h.1 at) h.2)

  pub one_input : (P : A → Ending → Type 0) (d e : Ending) → ((x : A) → P x d → P x e → d ≡ e)
      → WithInput (Some names) name Gives Refuses P d → WithInput (Some names) name Gives Refuses P e → d ≡ e
  one_input P d e one (is_given x (b, at, is) h) (is_given y (c, too, as_well) k) =
      let same : x ≡ y = one_given b x y is (subst (λ (z : List ℕ). Gives z y) (one_under names name c b too at) as_well) in
      one y (subst (λ (z : A). P z d) same h) k
  one_input P d e one (is_given x (b, at, is) h) (is_refused r) = absurd (not_refused b x e at is r)
  one_input P d e one (is_refused r) (is_given y (b, at, is) h) = absurd (not_refused b y d at is r)
  one_input P d e one (is_refused r) (is_refused r') = one_refusal d e r r'

  -- what is given
  pub given : (P : A → Ending → Type 0) (x : A) (e : Ending) → (b : List ℕ) → map.get names name ≡ Some b → Gives b x → WithInput (Some names) name Gives Refuses P e → P x e
  given P x e b at is (is_given y (c, too, as_well) h) =
      subst (λ (z : A). P z e) (sym (one_given b x y is (subst (λ (z : List ℕ). Gives z y) (one_under names name c b too at) as_well))) h
  given P x e b at is (is_refused r) = absurd (not_refused b x e at is r)

-- a proof
proof_refusal : (b : List ℕ) (s t : Status) → RefusesProof b s → RefusesProof b t → s ≡ t
proof_refusal b s t (too_big long f) (too_big long' g) = f ∙ sym g
proof_refusal b s t (too_big long f) (bad_proof k fits h g) = absurd (omega arith)
proof_refusal b s t (bad_proof k fits h f) (too_big long g) = absurd (omega arith)
proof_refusal b s t (bad_proof k fits h f) (bad_proof k' fits' h' g) = f ∙ ap (λ (z : Fault). BadProof z) (one_fault b k k' h h') ∙ sym g

pub proof_or_not : (b : List ℕ) (p : Detached) (s : Status) → IsFileOf b p → RefusesProof b s → ⊥
proof_or_not b p s is (too_big long f) = let fits = file_size b p is in omega arith
proof_or_not b p s is (bad_proof k fits h f) = no_fault b p k is h

pub with_proof : (names : Names) (name : List ℕ) (P : Detached → Ending → Type 0) (d e : Ending) → ((p : Detached) → P p d → P p e → d ≡ e)
    → WithProof (Some names) name P d → WithProof (Some names) name P e → d ≡ e
with_proof names name = one_input names name IsFileOf RefusesProof (λ b p q f g. one_file b p q f g) proof_refusal proof_or_not

pub given_proof : (names : Names) (name : List ℕ) (P : Detached → Ending → Type 0) (p : Detached) (e : Ending) → HasUnder (Some names) name (λ b. IsFileOf b p)
    → WithProof (Some names) name P e → P p e
given_proof names name P p e has = given names name IsFileOf RefusesProof (λ b x y f g. one_file b x y f g) proof_refusal proof_or_not P p e has.0 has.1 has.2

-- a list of calendars
pub with_list : (list : List ℕ) (P : List AddressParts → Ending → Type 0) (d e : Ending) → ((xs : List AddressParts) → P xs d → P xs e → d ≡ e)
    → WithList list P d → WithList list P e → d ≡ e
with_list list P d e one (is_list xs is h) (is_list ys too k) = one ys (subst (λ (z : List AddressParts). P z d) (one_list list xs ys is too) h) k
with_list list P d e one (is_list xs is h) (is_bad place https bad f) = absurd (none_bad list place https bad is.good)
with_list list P d e one (is_bad place https bad f) (is_list ys too k) = absurd (none_bad list place https bad too.good)
with_list list P d e one (is_bad place https bad f) (is_bad other another worse g) =
    let same = one_bad list place other https another bad worse in f ∙ (λ i. refused [] (BadAddress (same.0 i) (same.1 i))) ∙ sym g

-- a target
pub target_refusal : (b : List ℕ) (s t : Status) → RefusesTarget b s → RefusesTarget b t → s ≡ t
target_refusal b s t f g = f.1 ∙ sym g.1

pub target_or_not : (hash : HashOp) (b x : List ℕ) (s : Status) → IsHashOf hash b x → RefusesTarget b s → ⊥
target_or_not hash b x s f g = let fits = f.0 in let long = g.0 in omega arith

-- what is there is not refused
pub not_a_proof : (names : Names) (name : List ℕ) (p : Detached) (e : Ending) → HasUnder (Some names) name (λ b. IsFileOf b p)
    → RefusesInput (Some names) name RefusesProof e → ⊥
not_a_proof names name p e has = not_refused names name IsFileOf RefusesProof (λ b x y f g. one_file b x y f g) proof_refusal proof_or_not has.0 p e has.1 has.2

pub not_hashed : (names : Names) (name d : List ℕ) (e : Ending) → HasUnder (Some names) name (λ b. IsHashOf hash.Sha256 b d)
    → RefusesInput (Some names) name RefusesTarget e → ⊥
not_hashed names name d e has =
    not_refused names name (IsHashOf hash.Sha256) RefusesTarget (λ b x y f g. f.1 ∙ sym g.1) target_refusal (target_or_not hash.Sha256) has.0 d e has.1 has.2

-- a proof is written in one way
pub one_writing : (name : List ℕ) (r : Detached) (d e : Ending) → Writes name r d → Writes name r e → d ≡ e
one_writing name r d e (too_long long f) (too_long long' g) = f ∙ sym g
one_writing name r d e (too_long long f) (is_made is g) = absurd (let fits = file_size _ r is in omega arith)
one_writing name r d e (is_made is f) (too_long long g) = absurd (let fits = file_size _ r is in omega arith)
one_writing name r d e (is_made is f) (is_made is' g) = f ∙ sym g
