-- How 1 to 64 bytes are kept in place.
use Rattle.std.proofs.Common.{◌≡◌, ◌-◌, ◌≤◌, ℕ, List, ◌++◌, length, drop, replicate, arith, ap, ◌∙◌, length-append}
use Rattle.std.proofs.lemmas.List.{take_at, drop-replicate, length-replicate}
use Rattle.ots_outside.specs.KeptBytes.{IsKept}
use Rattle.ots_outside.specs.declared.small_bytes.TheConstants.{MAX_DIGEST}

pub kept_new : (out bytes : List ℕ) (n : ℕ) → out ≡ bytes → length bytes ≡ n → 1 ≤ n → n ≤ MAX_DIGEST → IsKept (out ++ drop n (replicate {A = ℕ} MAX_DIGEST 0)) n
kept_new out bytes n same fits least greatest =
    let len : length out ≡ n = ap length same ∙ fits in
    let room : drop n (replicate {A = ℕ} MAX_DIGEST 0) ≡ replicate {A = ℕ} (MAX_DIGEST - n) 0 = drop-replicate n MAX_DIGEST 0 in
    record {
      least = least;
      greatest = greatest;
      room = rw room (length-append out (replicate {A = ℕ} (MAX_DIGEST - n) 0) ∙ omega (arith, len, length-replicate {A = ℕ} (MAX_DIGEST - n) 0));
      filled = rw (take_at out (drop n (replicate {A = ℕ} MAX_DIGEST 0)) n len, room) (λ i. out ++ replicate {A = ℕ} (MAX_DIGEST - n) 0);
    }
