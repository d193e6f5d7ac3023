-- The tree of a sample as it is made.
use Rattle.std.proofs.Common.{◌≡◌, ℕ, zero, suc, ◌≤◌, List, ◌∷◌, ◌++◌, length, refl, sym, ap, subst, ◌∙◌, arith, append_assoc}
use Rattle.std.specs.Int.{w32, to_be_bytes}
use Rattle.ots_ops.specs.declared.op.Op.TheVariants.{Append, Sha256}
use Rattle.ots_attest.specs.declared.attestation.Attestation.TheVariants.{Bitcoin}
use Rattle.ots_tree.specs.declared.token.Token.{Token}
use Rattle.ots_tree.specs.declared.token.Token.TheVariants as token
use Rattle.ots_tree.specs.Wire.{Node, Item, last, more, attested, step, pre, Path, paths, IsPre}
use Rattle.ots_tree.specs.Sound.{IsSoundPath, IsSound, IsSoundPre}
use Rattle.ots_tree.proofs.Determined.{same_pre}
use Rattle.ots_canon.specs.Canonical.{IsCanonOf, IsCanonTree}
use Rattle.ots_tree.specs.declared.detached.Detached.{Detached}
use Rattle.ots_sample.specs.Sample.{path, sample_paths, IsSampleProof}
use Rattle.ots_sample.specs.Tokens.{path_tokens, item_tokens, tokens_below, IsMadeOf, IsFormOf}

abbrev pub item : ℕ → Item
item i = step (Append (to_be_bytes w32 i)) (last (step Sha256 (last (attested (Bitcoin i)))))

-- the paths i to 0
abbrev pub node : ℕ → Node
node zero = last (item 0)
node (suc i) = more (item (suc i)) (node i)

pre-node : (i : ℕ) → pre (node i) ≡ tokens_below (suc i)
pre-node zero = refl
pre-node (suc i) = ap (λ (z : List Token). token.Fork ∷ (path_tokens (suc i) ++ z)) (pre-node i)

paths-node : (i : ℕ) → paths (node i) ≡ sample_paths (suc i)
paths-node zero = refl
paths-node (suc i) = ap (λ (z : List Path). path (suc i) ∷ z) (paths-node i)

sound_path : (i : ℕ) → IsSoundPath 32 0 (path i)
sound_path i = record { short = omega arith; has_result = refl }

sound_node : (i : ℕ) → IsSound 32 0 (node i)
sound_node zero = (sound_path 0, tt)
sound_node (suc i) = (sound_path (suc i), sound_node i)

-- the tokens of at least one path are those of a sound tree
pub sound_tokens : (n : ℕ) → 1 ≤ n → IsSoundPre 32 0 (tokens_below n)
sound_tokens zero some = absurd (omega arith)
sound_tokens (suc i) some = (node i, sound_node i, pre-node i)

-- their canonical form is that of the paths
pub canon_tokens : (n : ℕ) (us : List Token) → 1 ≤ n → IsCanonOf (tokens_below n) us → IsCanonTree (sample_paths n) us
canon_tokens zero us some form = absurd (omega arith)
canon_tokens (suc i) us some form =
    let same : form.node ≡ node i = same_pre form.node (node i) (form.are ∙ sym (pre-node i)) in
    subst (λ (z : List Path). IsCanonTree z us) (ap paths same ∙ paths-node i) form.form

-- ---- the functions that make it

-- one more item
pub more_items : (n left j : ℕ) (old new : List Token) → left ≡ suc j → new ≡ old ++ item_tokens j → old ++ tokens_below left ≡ tokens_below n
    → new ++ tokens_below j ≡ tokens_below n
more_items n left j old new next added whole =
    ap (λ (z : List Token). z ++ tokens_below j) added
    ∙ append_assoc old (item_tokens j) (tokens_below j)
    ∙ ap (λ (z : ℕ). old ++ tokens_below z) (sym next)
    ∙ whole

pub are_pre : (n : ℕ) (ts : List Token) → 1 ≤ n → ts ≡ tokens_below n → IsPre ts
are_pre n ts some is = let s = sound_tokens n some in (s.0, s.2 ∙ sym is)

pub are_sound : (n : ℕ) (d : List ℕ) (ts us : List Token) → 1 ≤ n → length d ≡ 32 → ts ≡ tokens_below n → us ≡ ts → IsSoundPre (length d) 0 us
are_sound n d ts us some long is same =
    subst (λ (m : ℕ). IsSoundPre m 0 us) (sym long) (subst (IsSoundPre 32 0) (sym (same ∙ is)) (sound_tokens n some))

pub is_sample : (n : ℕ) (p r q : Detached) → 1 ≤ n → IsMadeOf n p → r ≡ p → IsFormOf r q → IsSampleProof n q
is_sample n p r q some made same form =
    let tree : r.tree ≡ tokens_below n = ap (λ (z : Detached). z.tree) same ∙ made.tree in
    record {
      hash = form.hash ∙ ap (λ (z : Detached). z.hash) same ∙ made.hash;
      digest = form.digest ∙ ap (λ (z : Detached). z.digest) same ∙ made.digest;
      tree = canon_tokens n q.tree some (subst (λ (z : List Token). IsCanonOf z q.tree) tree form.tree);
    }
