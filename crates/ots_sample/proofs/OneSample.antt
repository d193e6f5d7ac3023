-- A number of paths has one sample.
use Rattle.std.proofs.Common.{◌≡◌, ℕ, ◌/◌, List, Some, None, sym, ap, subst, ◌∙◌, length}
use Rattle.sha2.specs.Sha256.{sha256}
use Rattle.ots_ops.specs.Value.{value}
use Rattle.ots_tree.specs.declared.detached.Detached.{Detached}
use Rattle.ots_detached.specs.File.{file_of}
use Rattle.ots_detached.proofs.BothWays.{same_detached}
use Rattle.ots_canon.proofs.Lawful.{same_form}
use Rattle.ots_canon.proofs.Rising.{same_itself}
use Rattle.ots_headers.specs.HeaderTable.{Table}
use Rattle.ots_headers.specs.TableRead.{IsTableOf}
use Rattle.ots_headers.proofs.TableBytes.{one_table_lem}
use Rattle.ots_verdicts.specs.Confirmed.{IsVerdict}
use Rattle.ots_verdicts.proofs.OneVerdict.{one}
use Rattle.ots_sample.specs.declared.outcome.Sample.{Sample}
use Rattle.ots_sample.specs.Sample.{IsSample, IsSampleProof, IsSampleTable, digest_of, header_of, path, sample_paths}

one_proof : (n : ℕ) (p q : Detached) → IsSampleProof n p → IsSampleProof n q → p ≡ q
one_proof n p q f g =
    same_detached p q (f.hash ∙ sym g.hash) (f.digest ∙ sym g.digest)
    (same_form (sample_paths n) (sample_paths n) p.tree q.tree (same_itself (sample_paths n)) f.tree g.tree)

one_root : (n : ℕ) (a b : List ℕ) → value (path (n / 2)).ops (digest_of n) ≡ Some a → value (path (n / 2)).ops (digest_of n) ≡ Some b → a ≡ b
one_root n a b f g = let both : Some a ≡ Some b = sym f ∙ g in cc

one_table : (n : ℕ) (t u : Table) → IsSampleTable n t → IsSampleTable n u → t ≡ u
one_table n t u f g =
    one_table_lem (n / 2) (header_of g.root) t u
    (subst (λ (z : List ℕ). IsTableOf (n / 2) (header_of z) t) (one_root n f.root g.root f.is_value g.is_value) f.is_table) g.is_table

same_sample : (s t : Sample) → s.paths ≡ t.paths → s.length ≡ t.length → s.digest ≡ t.digest → s.verdict ≡ t.verdict → s ≡ t
same_sample s t a b c d = λ i. record { paths = a i; length = b i; digest = c i; verdict = d i }

pub one_sample : (n : ℕ) (s t : Sample) → IsSample n s → IsSample n t → s ≡ t
one_sample n s t f g =
    let proofs = one_proof n f.proof g.proof f.is_proof g.is_proof in
    let tables = one_table n f.table g.table f.is_table g.is_table in
    same_sample s t (f.paths ∙ sym g.paths)
    (f.size ∙ ap (λ (z : Detached). length (file_of z)) proofs ∙ sym g.size)
    (f.digest ∙ ap (λ (z : Detached). sha256 (file_of z)) proofs ∙ sym g.digest)
    (one g.proof g.proof.digest g.table None s.verdict t.verdict
    (subst (λ (z : Table). IsVerdict g.proof g.proof.digest z None s.verdict) tables
    (subst (λ (z : Detached). IsVerdict z z.digest f.table None s.verdict) proofs f.verdict)) g.verdict)
