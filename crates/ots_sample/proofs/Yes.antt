-- The verdict of a sample is a yes, at half the number of paths.
use Rattle.std.proofs.Common.{◌≡◌, ◌<◌, ◌≤◌, ◌-◌, ◌/◌, ◌^◌, ℕ, zero, suc, List, [], ◌∷◌, ◌++◌, length, Option, Some, None, refl, sym, ap, subst, ◌∙◌, inl, inr, arith, le-ltb, append-nil, append_assoc}
use Rattle.std.specs.Prelude.{Contains, IsSome, replicate}
use Rattle.std.specs.Option.{option_map}
use Rattle.std.specs.Int.{w32, to_be_bytes, to_le_bytes}
use Rattle.std.proofs.lemmas.Bool.Decides.{leb_tells}
use Rattle.sha2.specs.Sha256.{sha256}
use Rattle.ots_ops.proofs.AppliedLength.{length_of_hashed}
use Rattle.ots_ops.specs.Value.{value}
use Rattle.ots_ops.specs.declared.hash_op.HashOp.TheVariants.{Sha256}
use Rattle.ots_tree.specs.Wire.{Path, paths}
use Rattle.ots_tree.specs.declared.detached.Detached.{Detached}
use Rattle.ots_canon.specs.Order.{Has}
use Rattle.ots_canon.proofs.Among.{some_has}
use Rattle.ots_headers.specs.declared.header.Header.{Header}
use Rattle.ots_headers.specs.Header.{IsHeader, serialized}
use Rattle.ots_headers.specs.HeaderTable.{Table, root_at, time_at}
use Rattle.ots_headers.specs.TableRead.{IsTableOf}
use Rattle.ots_headers.proofs.TableBytes.{heights_lem, one_table_lem}
use Rattle.ots_verdicts.specs.Confirmed.{IsConfirmed, IsVerdict}
use Rattle.ots_verdicts.specs.declared.verdicts.Chain.TheVariants as chain
use Rattle.ots_verdicts.specs.declared.verdicts.Verdict.{Verdict}
use Rattle.ots_verdicts.specs.declared.verdicts.Verdict.TheVariants.{Yes, NoDigest, NoPath}
use Rattle.ots_sample.specs.declared.outcome.Sample.{Sample}
use Rattle.ots_sample.specs.Sample.{IsSample, IsSampleProof, digest_of, header_of, path, sample_paths}
use Rattle.ots_sample.specs.declared.headers.TheConstants.{FIRST_TIME}
use Rattle.ots_sample.proofs.Values.{value-path}

-- ---- the path

has_path : (n i : ℕ) → i < n → Has (sample_paths n) (path i)
has_path zero i less = absurd (omega arith)
has_path (suc j) i less = elim (leb_tells j i) [
  | inl last ↦ let same : j ≡ i = omega (arith, last.1) in inl (ap path same)
  | inr earlier ↦ inr (has_path j i earlier.1)
]

contains : (ps : List Path) (p : Path) → Has ps p → Contains ps p
contains [] p has = absurd has
contains (q ∷ qs) p (inl here) = (0, omega arith, here)
contains (q ∷ qs) p (inr after) = let k = contains qs p after in (suc k.0, (let less = k.1 in omega arith), k.2)

-- some path is there
some_paths : (n : ℕ) (p : Detached) → IsSampleProof n p → 1 ≤ n
some_paths zero p is =
    let any = some_has is.tree.node in
    absurd ((is.tree.is_canon.same any.0).1 (subst (λ (z : List Path). Has z any.0) is.tree.is_tree.same any.1))
some_paths (suc i) p is = omega arith

-- ---- the header

abbrev header : List ℕ → Header
header root = record { version = 0; previous = replicate 32 0; root = root; time = FIRST_TIME; bits = 0; nonce = 0 }

abbrev table : ℕ → List ℕ → Table
table h root = record { first = h; headers = header root ∷ [] }

are_bytes : (root : List ℕ) → serialized (header root) ≡ header_of root
are_bytes root = append_assoc (replicate 36 0 ++ root ++ to_le_bytes w32 FIRST_TIME) (replicate 4 0) (replicate 4 0)

is_header : (root : List ℕ) → length root ≡ 32 → IsHeader (header root)
is_header root long = record {
  version = omega arith;
  previous = refl;
  root = long;
  time = omega arith;
  bits = omega arith;
  nonce = omega arith;
}

is_table : (h : ℕ) (root : List ℕ) → h ≤ 2 ^ 63 - 1 → length root ≡ 32 → IsTableOf h (header_of root) (table h root)
is_table h root most long = record {
  first = refl;
  headers = append-nil (serialized (header root)) ∙ are_bytes root;
  limits = record { first = most; headers = (is_header root long, tt); some = omega arith; at_most = omega arith };
}

the_root : (h : ℕ) (root : List ℕ) → root_at (table h root) h ≡ Some root
the_root h root = let none : h - h ≡ 0 = omega arith in rw (le-ltb h h (omega arith), none) refl

the_time : (h : ℕ) (root : List ℕ) → time_at (table h root) h ≡ Some FIRST_TIME
the_time h root = let none : h - h ≡ 0 = omega arith in rw (le-ltb h h (omega arith), none) refl

-- the table has no other height
some_root : (o : Option Header) (root : List ℕ) → option_map (λ x. x.root) o ≡ Some root → IsSome o
some_root None root is = cc
some_root (Some x) root is = refl

only_height : (h : ℕ) (root : List ℕ) (p : Detached) (k : ℕ) → IsConfirmed chain.Bitcoin (table h root) p k → k ≡ h
only_height h root p k is =
    let within = (heights_lem (table h root) k).0 (some_root _ is.confirms.root is.confirms.given) in
    let from = within.0 in
    let below = within.1 in
    omega arith

-- ---- the verdict

verdict_is : (p : Detached) (t : Table) (h time : ℕ) (v : Verdict) → IsConfirmed chain.Bitcoin t p h → ((k : ℕ) → IsConfirmed chain.Bitcoin t p k → k ≡ h)
    → time_at t h ≡ Some time → IsVerdict p p.digest t None v → v ≡ Yes chain.Bitcoin h time
verdict_is p t h time (Yes chain.Bitcoin k x) confirmed only timed is =
    let same = only k is.1.confirmed in
    let times : Some x ≡ Some time = sym is.1.timed ∙ ap (time_at t) same ∙ timed in
    let equal : x ≡ time = cc in
    λ i. Yes chain.Bitcoin (same i) (equal i)
verdict_is p t h time (Yes chain.Litecoin k x) confirmed only timed is = absurd (is.1 h confirmed)
verdict_is p t h time NoDigest confirmed only timed is = absurd (is refl)
verdict_is p t h time NoPath confirmed only timed is = absurd (is.1 h confirmed)

is_confirmed : (n : ℕ) (p : Detached) (root : List ℕ) → 1 ≤ n → IsSampleProof n p → value (path (n / 2)).ops (digest_of n) ≡ Some root
    → IsConfirmed chain.Bitcoin (table (n / 2) root) p (n / 2)
is_confirmed n p root some is reaches = record {
  node = is.tree.node;
  tree = is.tree.are;
  path = path (n / 2);
  among = contains (paths is.tree.node) (path (n / 2))
      (subst (λ (z : List Path). Has z (path (n / 2))) (sym is.tree.is_tree.same) ((is.tree.is_canon.same (path (n / 2))).0 (has_path n (n / 2) (omega arith))));
  confirms = record {
    root = root;
    attested = refl;
    reached = ap (value (path (n / 2)).ops) is.digest ∙ reaches;
    given = the_root (n / 2) root;
  };
}

root_long : (i : ℕ) (d root : List ℕ) → ((m : List ℕ) → length (sha256 m) ≡ 32) → length d ≡ 32 → value (path i).ops d ≡ Some root → length root ≡ 32
root_long i d root long digest is =
    let both : Some (sha256 (d ++ to_be_bytes w32 i)) ≡ Some root = sym (value-path i d digest) ∙ is in
    let same : sha256 (d ++ to_be_bytes w32 i) ≡ root = cc in
    ap length (sym same) ∙ long (d ++ to_be_bytes w32 i)

pub says_yes : (n : ℕ) (s : Sample) → ((m : List ℕ) → length (sha256 m) ≡ 32) → IsSample n s → s.verdict ≡ Yes chain.Bitcoin (n / 2) FIRST_TIME
says_yes n s long is =
    let some = some_paths n is.proof is.is_proof in
    let root = is.is_table.root in
    let at = is.is_table.is_table in
    let size = root_long (n / 2) (digest_of n) root long (long _) is.is_table.is_value in
    let most : n / 2 ≤ 2 ^ 63 - 1 = (let first = at.first in let below = at.limits.first in omega arith) in
    let tables = one_table_lem (n / 2) (header_of root) is.table (table (n / 2) root) at (is_table (n / 2) root most size) in
    verdict_is is.proof (table (n / 2) root) (n / 2) FIRST_TIME s.verdict (is_confirmed n is.proof root some is.is_proof is.is_table.is_value)
    (only_height (n / 2) root is.proof) (the_time (n / 2) root)
    (subst (λ (z : Table). IsVerdict is.proof is.proof.digest z None s.verdict) tables is.verdict)

-- the same, where a hash has 32 bytes
pub always_yes : (n : ℕ) (s : Sample) → IsSample n s → s.verdict ≡ Yes chain.Bitcoin (n / 2) FIRST_TIME
always_yes n s is = says_yes n s (λ m. length_of_hashed Sha256 m) is
