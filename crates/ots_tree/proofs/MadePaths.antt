-- The paths of trees that are made of others, and when these trees are sound.
use Rattle.std.proofs.Common.{◌≡◌, ℕ, ◌+◌, List, [], ◌∷◌, ◌++◌, map, length, Option, Some, None, Result, Ok, Err, refl, sym, ap, subst, ◌∙◌, arith, append_assoc}
use Rattle.std.specs.Prelude.{IfOk, option_and_then, ◌↔◌}
use Rattle.std.specs.List.{AllByRecursion}
use Rattle.std.proofs.lemmas.List.{append-nil}
use Rattle.ots_ops.specs.declared.op.Op.{Op}
use Rattle.ots_ops.specs.ResultLength.{len}
use Rattle.ots_attest.specs.declared.attestation.Attestation.{Attestation}
use Rattle.ots_tree.specs.declared.token.Token.{Token}
use Rattle.ots_tree.specs.declared.token.Token.TheVariants as token
use Rattle.ots_tree.specs.Wire.{Node, last, more, attested, pre, Path, paths, paths_of_item, below, IsPre}
use Rattle.ots_tree.specs.Sound.{length_after, IsSoundPath, IsSound, IsSoundPre}
use Rattle.ots_tree.specs.Made.{chain, lone, joined, after, IsUnder, IsBeside, IsSoundAfter}
use Rattle.ots_tree.proofs.Closing.{all-append, all-left, all-right, down, up, step_leads}
use Rattle.ots_tree.proofs.Determined.{same_pre}

-- ---- tokens

pub pre-chain : (ops : List Op) (t : Node) → pre (chain ops t) ≡ map (λ o. token.Op o) ops ++ pre t
pre-chain [] t = refl
pre-chain (o ∷ ops) t = ap (λ (z : List Token). token.Op o ∷ z) (pre-chain ops t)

pub lone_pre : (ops : List Op) (a : Attestation) (tokens made : List Token) → tokens ≡ map (λ o. token.Op o) ops → made ≡ tokens ++ token.Attestation a ∷ []
    → made ≡ pre (lone ops a)
lone_pre ops a tokens made are is = is ∙ ap (λ (z : List Token). z ++ token.Attestation a ∷ []) are ∙ sym (pre-chain ops (last (attested a)))

pub chain_pre : (ops : List Op) (below tokens made : List Token) → IsPre below → tokens ≡ map (λ o. token.Op o) ops → made ≡ tokens ++ below → IsUnder ops below made
chain_pre ops below tokens made tree are is = record {
  node = tree.0;
  node_is = tree.1;
  made_is = pre-chain ops tree.0 ∙ ap (λ (z : List Token). map (λ o. token.Op o) ops ++ z) tree.1 ∙ sym (is ∙ ap (λ (z : List Token). z ++ below) are);
}

pub result_under : {E : Type 0} (ops : List Op) (below made : List Token) (r : Result (List Token) E) → IsUnder ops below made → IfOk r (λ t. t ≡ made) → IfOk r (IsUnder ops below)
result_under ops below made (Ok t) u is = subst (IsUnder ops below) (sym is) u
result_under ops below made (Err e) u is = is

-- ---- paths

none_before : (ps : List Path) → ps ≡ map (after []) ps
none_before [] = refl
none_before (p ∷ ps) = ap (λ (z : List Path). p ∷ z) (none_before ps)

one_before : (o : Op) (ops : List Op) (ps : List Path) → map (below o) (map (after ops) ps) ≡ map (after (o ∷ ops)) ps
one_before o ops [] = refl
one_before o ops (p ∷ ps) = ap (λ (z : List Path). after (o ∷ ops) p ∷ z) (one_before o ops ps)

pub paths-chain : (ops : List Op) (t : Node) → paths (chain ops t) ≡ map (after ops) (paths t)
paths-chain [] t = none_before (paths t)
paths-chain (o ∷ ops) t = ap (map (below o)) (paths-chain ops t) ∙ one_before o ops (paths t)

pub paths-lone : (ops : List Op) (a : Attestation) → paths (lone ops a) ≡ record { ops = ops; end = a } ∷ []
paths-lone ops a = paths-chain ops (last (attested a)) ∙ ap (λ (z : List Op). let p : Path = record { ops = z; end = a } in p ∷ []) (append-nil ops)

pub paths-joined : (t u : Node) → paths (joined t u) ≡ paths t ++ paths u
paths-joined (last i) u = refl
paths-joined (more i t) u = ap (λ (z : List Path). paths_of_item i ++ z) (paths-joined t u) ∙ sym (append_assoc (paths_of_item i) (paths t) (paths u))

-- ---- sound for a message of some length

after_sound : (ops : List Op) (n k : ℕ) (t : Node) → IsSound n k (chain ops t) → (m : ℕ) × (length_after ops n ≡ Some m) × IsSound m (k + length ops) t
after_sound [] n k t h = (n, refl, subst (λ (z : ℕ). IsSound n z t) (omega arith) h)
after_sound (o ∷ ops) n k t h =
    let l = step_leads o (chain ops t) n k h in
    let r = after_sound ops l.result (k + 1) t (down o n k l.result l.is (paths (chain ops t)) h) in
    let deep : (k + 1) + length ops ≡ k + length (o ∷ ops) = omega arith in
    (r.0, ap (option_and_then (length_after ops)) l.is ∙ r.1, subst (λ (z : ℕ). IsSound r.0 z t) deep r.2)

some_result : (x : Option ℕ) (f : ℕ → Option ℕ) (r : ℕ) → option_and_then f x ≡ Some r → (m : ℕ) × (x ≡ Some m) × (f m ≡ Some r)
some_result None f r h = absurd cc
some_result (Some m) f r h = (m, refl, h)

sound_after : (ops : List Op) (n k m : ℕ) (t : Node) → length_after ops n ≡ Some m → IsSound m (k + length ops) t → IsSound n k (chain ops t)
sound_after [] n k m t reached h =
    let same : m ≡ n = cc in
    subst (λ (z : ℕ). IsSound z k t) same (subst (λ (z : ℕ). IsSound m z t) (omega arith) h)
sound_after (o ∷ ops) n k m t reached h =
    let r = some_result (len o n) (length_after ops) m reached in
    let deep : k + length (o ∷ ops) ≡ (k + 1) + length ops = omega arith in
    up o n k r.0 r.1 (paths (chain ops t)) (sound_after ops r.0 (k + 1) m t r.2 (subst (λ (z : ℕ). IsSound m z t) deep h))

pub sound_under : (n k : ℕ) (ops : List Op) (below made : List Token) → IsUnder ops below made → IsSoundPre n k made ↔ IsSoundAfter ops n k below
sound_under n k ops below made u = (
  λ (t, sound, is).
      let one : t ≡ chain ops u.node = same_pre t (chain ops u.node) (is ∙ sym u.made_is) in
      let r = after_sound ops n k u.node (subst (IsSound n k) one sound) in
      record { result = r.0; reached = r.1; sound = (u.node, r.2, u.node_is) },
  λ r.
      let one : r.sound.0 ≡ u.node = same_pre r.sound.0 u.node (r.sound.2 ∙ sym u.node_is) in
      (chain ops u.node, sound_after ops n k r.result u.node r.reached (subst (IsSound r.result (k + length ops)) one r.sound.1), u.made_is),
)

pub sound_beside : (n k : ℕ) (first second made : List Token) → IsBeside first second made → IsSoundPre n k made ↔ (IsSoundPre n k first × IsSoundPre n k second)
sound_beside n k first second made b = (
  λ (t, sound, is).
      let one : t ≡ joined b.one b.other = same_pre t (joined b.one b.other) (is ∙ sym b.made_is) in
      let both : AllByRecursion (IsSoundPath n k) (paths b.one ++ paths b.other) =
      subst (AllByRecursion (IsSoundPath n k)) (paths-joined b.one b.other) (subst (IsSound n k) one sound) in
      ((b.one, all-left (IsSoundPath n k) (paths b.one) (paths b.other) both, b.one_is), (b.other, all-right (IsSoundPath n k) (paths b.one) (paths b.other) both, b.other_is)),
  λ ((t, sound, is), (v, sound', is')).
      let one : t ≡ b.one = same_pre t b.one (is ∙ sym b.one_is) in
      let other : v ≡ b.other = same_pre v b.other (is' ∙ sym b.other_is) in
      let both = all-append (IsSoundPath n k) (paths b.one) (paths b.other) (subst (IsSound n k) one sound) (subst (IsSound n k) other sound') in
      (joined b.one b.other, subst (AllByRecursion (IsSoundPath n k)) (sym (paths-joined b.one b.other)) both, b.made_is),
)

pub sound_lone : (n k : ℕ) (ops : List Op) (a : Attestation) → IsSoundPre n k (pre (lone ops a)) ↔ IsSoundPath n k (record { ops = ops; end = a })
sound_lone n k ops a = (
  λ (t, sound, is).
      let one : t ≡ lone ops a = same_pre t (lone ops a) is in
      (subst (AllByRecursion (IsSoundPath n k)) (paths-lone ops a) (subst (IsSound n k) one sound)).0,
  λ h. (lone ops a, subst (AllByRecursion (IsSoundPath n k)) (sym (paths-lone ops a)) (h, tt), refl),
)
