-- A run that can do its work: one calendar, and one empty file.
use Rattle.std.proofs.Common.{◌≡◌, ◌<◌, ℕ, zero, suc, List, [], ◌∷◌, length, Bool, cond, Some, None, inl, refl, ap, subst, ◌∙◌, arith}
use Rattle.std.specs.Prelude.{IsTrue, codes, slice_get, slice_index}
use Rattle.std.specs.FinMap as map
use Rattle.std.specs.Cmp.Lexicographic.{nat_list_cmp_total}
use Rattle.ots_address.specs.Address.{AddressParts, IsAddress, is_host_byte}
use Rattle.ots_address.specs.AddressList.{IsListOf}
use Rattle.ots_client_text.specs.Lines.{proof_name}
use Rattle.ots_client_words.specs.Words.{Stamping}
use Rattle.ots_ops.specs.Hashed.{hashed}
use Rattle.ots_ops.specs.declared.hash_op.HashOp.TheVariants.{Sha256}
use Rattle.ots_outside.proofs.Names.{get-insert_other, is_name-self}
use Rattle.ots_outside.specs.Shelf.{Names}
use Rattle.ots_stamping.specs.Complete.{CanStamp}

abbrev no_names : Names
no_names = map.empty

abbrev address : AddressParts
address = record { text = codes "http://a"; host = codes "a"; port = 80 }

is_address : IsAddress (codes "http://a") (codes "a") 80
is_address = record {
  rest = codes "a";
  scheme = refl;
  parts = record { least = omega arith; greatest = omega arith; bytes = host_bytes; after = []; text = refl; port_is = inl (refl, refl) };
} where
  host_bytes : (k : ℕ) → k < length (codes "a") → IsTrue (is_host_byte (slice_index (codes "a") k))
  host_bytes zero less = refl
  host_bytes (suc k) less = absurd (omega arith)

is_list : IsListOf (codes "http://a") (address ∷ [])
is_list = record {
  texts = refl;
  named = (is_address, tt);
  good = (
    record {
      address = (codes "a", 80, is_address);
      fresh = λ k d less same. absurd (omega arith);
      few = omega arith;
    },
    tt,
  );
}

abbrev one_file : Names
one_file = map.insert no_names (codes "f") []

abbrev stamping : Stamping
stamping = record { calendars = codes "http://a"; least = 1; files = codes "f" ∷ [] }

is_free : (i : ℕ) (file : List ℕ) → slice_get (codes "f" ∷ []) i ≡ Some file → map.get one_file (proof_name file) ≡ None
is_free zero file is =
    let same : codes "f" ≡ file = cc in
    subst (λ (z : List ℕ). map.get one_file (proof_name z) ≡ None) same
    (get-insert_other no_names (codes "f") [] (proof_name (codes "f")) (λ clash. let other : 5 ≡ 1 = ap length clash in omega (arith, other)) ∙ map.get-empty _ (proof_name (codes "f")))
is_free (suc i) file is = cc

pub can_stamp_lem : (names : Names) × (s : Stamping) × CanStamp names s
can_stamp_lem = (
  one_file,
  stamping,
  record {
    calendars = address ∷ [];
    is_list = is_list;
    digests = hashed Sha256 [] ∷ [];
    hashed = (([], map.get-insert nat_list_cmp_total no_names (codes "f") [] (codes "f") ∙ ap (λ (b : Bool). cond b (Some []) (map.get no_names (codes "f"))) (is_name-self (codes "f")), (omega arith, refl)), tt);
    absent = is_free;
    distinct = only;
  },
) where
  only : (i j : ℕ) (a b : List ℕ) → slice_get (codes "f" ∷ []) i ≡ Some a → slice_get (codes "f" ∷ []) j ≡ Some b → proof_name a ≡ proof_name b → i ≡ j
  only zero zero a b here there same = refl
  only (suc i) j a b here there same = cc
  only zero (suc j) a b here there same = cc
