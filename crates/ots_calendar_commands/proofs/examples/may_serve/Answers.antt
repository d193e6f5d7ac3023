use Rattle.std.proofs.Common.{◌<◌, ℕ, zero, suc, inl, [], ◌∷◌, refl, arith}
use Rattle.std.specs.Prelude.{IsTrue, codes, slice_index}
use Rattle.ots_address.specs.Address.{IsAddress, is_host_byte}
use Rattle.ots_round.specs.Hmac.{filled}
use Rattle.ots_calendar_commands.proofs.examples.may_serve.Goals as goal

-- the host is one letter
host_bytes : (k : ℕ) → k < 1 → IsTrue (is_host_byte (slice_index (codes "a") k))
host_bytes zero less = refl
host_bytes (suc k) less = absurd (omega (arith, less))

is_address : IsAddress (codes "http://a") (codes "a") 80
is_address = record {
  rest = codes "a";
  scheme = refl;
  parts = record { least = omega arith; greatest = omega arith; bytes = host_bytes; after = []; text = refl; port_is = inl (refl, refl) };
}

pub returns : goal.returns
returns c = λ names has. (
  record {
    uri = codes "http://a";
    one = record {
      address = record { text = codes "http://a"; host = codes "a"; port = 80 };
      is_address = record {
        texts = refl;
        named = (is_address, tt);
        good = (
          record {
            address = (codes "a", 80, is_address);
            fresh = λ k d less is. absurd (omega (arith, less));
            few = omega arith;
          },
          tt,
        );
      };
      text = refl;
    };
    key = filled (7 ∷ []);
    has_key = (7 ∷ [], has, record { is_key = record { least = omega arith; greatest = omega arith }; block = refl });
  },
  ([], record { store = record { within = omega arith; stand = inl (omega arith, refl); records = record { each = tt; order = tt } }; are_true = tt }),
)
