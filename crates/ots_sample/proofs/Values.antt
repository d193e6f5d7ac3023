-- The header table of a sample.
use Rattle.std.proofs.Common.{◌≡◌, ℕ, ◌/◌, List, ◌++◌, length, Some, refl, sym, ap, subst, ◌∙◌, length-append}
use Rattle.std.specs.Int.{w32, to_be_bytes}
use Rattle.sha2.specs.Sha256.{sha256}
use Rattle.ots_ops.specs.Value.{value}
use Rattle.ots_headers.specs.HeaderTable.{Table}
use Rattle.ots_headers.specs.TableRead.{IsTableOf}
use Rattle.ots_sample.specs.Sample.{digest_of, path, header_of, IsSampleTable}

pub value-path : (i : ℕ) (d : List ℕ) → length d ≡ 32 → value (path i).ops d ≡ Some (sha256 (d ++ to_be_bytes w32 i))
value-path i d long = rw (long, length-append d (to_be_bytes w32 i), long) refl

pub is_sample_table : (n h : ℕ) (d root b : List ℕ) (t : Table) → h ≡ n / 2 → d ≡ digest_of n → length (digest_of n) ≡ 32
    → root ≡ sha256 (d ++ to_be_bytes w32 (n / 2)) → b ≡ header_of root → IsTableOf h b t → IsSampleTable n t
is_sample_table n h d root b t half same long value bytes is = record {
  root = root;
  is_value = value-path (n / 2) (digest_of n) long ∙ ap (λ (z : List ℕ). Some (sha256 (z ++ to_be_bytes w32 (n / 2)))) (sym same) ∙ ap (λ (z : List ℕ). Some z) (sym value);
  is_table = subst (λ (z : ℕ). IsTableOf z (header_of root) t) half (subst (λ (z : List ℕ). IsTableOf h z t) bytes is);
}
