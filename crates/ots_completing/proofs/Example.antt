-- A run that can do its work: one calendar, and a proof that ends in Bitcoin.
use Rattle.std.proofs.Common.{◌≡◌, ◌<◌, ◌≤◌, ℕ, zero, suc, List, [], ◌∷◌, length, Bool, cond, Some, inl, refl, ap, ◌∙◌, arith}
use Rattle.std.specs.Prelude.{IsTrue, codes, replicate, slice_index}
use Rattle.std.specs.FinMap as map
use Rattle.std.specs.Cmp.Lexicographic.{nat_list_cmp_total}
use Rattle.ots_address.specs.Address.{AddressParts, IsAddress, is_host_byte}
use Rattle.ots_address.specs.AddressList.{IsListOf}
use Rattle.ots_attest.specs.declared.attestation.Attestation.TheVariants.{Bitcoin}
use Rattle.ots_base.specs.declared.limits.TheConstants.{MAX_PROOF_FILE}
use Rattle.ots_client_words.specs.Words.{Upgrading}
use Rattle.ots_completing.specs.Complete.{CanUpgrade}
use Rattle.ots_detached.specs.File.{IsFileOf, file}
use Rattle.ots_ops.specs.declared.hash_op.HashOp.TheVariants.{Sha256}
use Rattle.ots_outside.proofs.Names.{get-insert_other, is_name-self}
use Rattle.ots_outside.specs.Shelf.{Names}
use Rattle.ots_tree.specs.Sound.{IsSound}
use Rattle.ots_tree.specs.Wire.{Node, attested, last, pre}
use Rattle.ots_tree.specs.declared.detached.Detached.{Detached}
use Rattle.ots_varint.specs.Varuint.{varbytes, varuint}

abbrev no_names : Names
no_names = map.empty

abbrev address : AddressParts
address = record { text = codes "http://a"; host = codes "a"; port = 80 }

is_address : IsAddress (codes "http://a") (codes "a") 80
is_address = record {
  rest = codes "a";
  scheme = refl;
  parts = record { least = omega arith; greatest = omega arith; bytes = host_bytes; after = []; text = refl; port_is = inl (refl, refl) };
} where
  host_bytes : (k : ℕ) → k < length (codes "a") → IsTrue (is_host_byte (slice_index (codes "a") k))
  host_bytes zero less = refl
  host_bytes (suc k) less = absurd (omega arith)

is_list : IsListOf (codes "http://a") (address ∷ [])
is_list = record {
  texts = refl;
  named = (is_address, tt);
  good = (
    record {
      address = (codes "a", 80, is_address);
      fresh = λ k d less same. absurd (omega arith);
      few = omega arith;
    },
    tt,
  );
}

abbrev tree : Node
tree = last (attested (Bitcoin 0))

abbrev digest : List ℕ
digest = replicate 32 0

is_sound : IsSound 32 0 tree
is_sound = (record { short = omega arith; has_result = refl }, tt)

abbrev proof : Detached
proof = record { hash = Sha256; digest = digest; tree = pre tree; digest_of_hash = refl; tree_sound = ∣ (tree, is_sound, refl) ∣₁ }

abbrev bytes : List ℕ
bytes = file Sha256 digest tree

is_short : length bytes ≤ MAX_PROOF_FILE
unfolding varbytes varuint
is_short = omega arith

is_file : IsFileOf bytes proof
is_file = record {
  tree = tree;
  tokens = refl;
  has_file = record { digest = refl; tokens = (omega arith, tt); sound = is_sound; size = is_short };
  spelled = refl;
}

pub can_upgrade_lem : (names : Names) × (u : Upgrading) × CanUpgrade names u
can_upgrade_lem = (
  map.insert no_names (codes "p") bytes,
  record { calendars = codes "http://a"; proof = codes "p"; to = codes "to" },
  record {
    calendars = address ∷ [];
    is_list = is_list;
    proof = proof;
    has_proof = (
      bytes,
      map.get-insert nat_list_cmp_total no_names (codes "p") bytes (codes "p")
          ∙ ap (λ (b : Bool). cond b (Some bytes) (map.get no_names (codes "p"))) (is_name-self (codes "p")),
      is_file,
    );
    absent = get-insert_other no_names (codes "p") bytes (codes "to") (λ clash. let other : 2 ≡ 1 = ap length clash in omega (arith, other)) ∙ map.get-empty _ (codes "to");
  },
)
