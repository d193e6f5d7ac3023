-- Arguments and payloads after their lengths.
use Rattle.std.proofs.Common.{◌≡◌, ℕ, ◌+◌, ◌-◌, ◌<◌, ◌≤◌, Bool, true, false, ltb, List, [], ◌∷◌, length, take, drop, get_or, length-drop, Some, None, refl, ap, sym, subst, ◌∙◌, arith}
use Rattle.std.specs.Prelude.{Ok, Option, not, bytes_eq, if◌then◌else◌}
use Rattle.std.specs.List.{list_all}
use Rattle.std.proofs.lemmas.Bool.{le-ltb, ne_eqb}
use Rattle.std.proofs.lemmas.List.{length-take-le}
use Rattle.ots_base.specs.Table.{line, first_line}
use Rattle.ots_varint.specs.declared.reading.VaruintRead.{VaruintRead}
use Rattle.ots_varint.specs.declared.reading.VaruintRead.TheVariants as read
use Rattle.ots_varint.specs.Reading.{reading, IsSpelledAt}
use Rattle.ots_varint.proofs.After.{IsAfter, after, same_slice}
use Rattle.ots_varint.proofs.ReadBack.{all_bytes}
use Rattle.ots_ops.specs.Arg.{AreBytes}
use Rattle.ots_ops.specs.NewArg.{new_arg}
use Rattle.ots_attest.specs.Kind.{pending_kind, bitcoin_kind, litecoin_kind}
use Rattle.ots_attest.specs.Uri.{is_uri_byte}
use Rattle.ots_attest.specs.declared.attestation.Attestation.{Attestation}
use Rattle.ots_attest.specs.declared.payload.PayloadError.{PayloadError}
use Rattle.ots_attest.specs.declared.payload.PayloadError.TheVariants as payload_error
use Rattle.ots_attest.specs.PayloadFault.{payload_fault, uri_fault, height_fault, IsOf}
use Rattle.ots_reader.specs.TokenRead.{IsArgAt, IsBodyAt}
use Rattle.ots_reader.proofs.ByteLists.{all_take, all_drop}

pub argument_at : (n used : ℕ) (bytes : List ℕ) → IsSpelledAt bytes n used → AreBytes bytes → used + n ≤ length bytes → 1 ≤ n → n ≤ 4096
    → IsArgAt bytes (take n (drop used bytes)) (used + n)
argument_at n used bytes at all room least greatest =
    let b = after n used bytes at room in
    let size = b.size in
    record {
      fits = record { least = omega arith; greatest = omega arith; are_bytes = all_take (λ b. b < 256) n (drop used bytes) (all_drop (λ b. b < 256) used bytes all) };
      front = b.spelled;
      len = b.len;
    }

-- as a slice names its bytes
pub argument_read : (n used : ℕ) (bytes x : List ℕ) → IsSpelledAt bytes n used → AreBytes bytes → used + n ≤ length bytes → 1 ≤ n → n ≤ 4096
    → x ≡ take (used + n - used) (drop used bytes) → IsArgAt bytes x (used + n)
argument_read n used bytes x at all room least greatest is =
    subst (λ (z : List ℕ). IsArgAt bytes z (used + n)) (sym (is ∙ same_slice n used bytes)) (argument_at n used bytes at all room least greatest)

pub body_at : (n used : ℕ) (k bytes : List ℕ) (a : Attestation) → IsSpelledAt bytes n used → used + n ≤ length bytes
    → IsOf k (take n (drop used bytes)) a → IsBodyAt k bytes a (used + n)
body_at n used k bytes a at room is =
    let c = subst (IsAfter n used bytes) (sym is.payload) (after n used bytes at room) in
    record { fits = is.within_limits; kind = is.kind; front = c.spelled; len = c.len }

-- as a slice names its bytes
pub body_read : (n used : ℕ) (k bytes : List ℕ) (a : Attestation) → IsSpelledAt bytes n used → used + n ≤ length bytes
    → IsOf k (take (used + n - used) (drop used bytes)) a → IsBodyAt k bytes a (used + n)
body_read n used k bytes a at room is =
    body_at n used k bytes a at room (subst (λ (z : List ℕ). IsOf k z a) (same_slice n used bytes) is)

-- ---- what the constructors of arguments answer

arg_is : (x : List ℕ) → 1 ≤ length x → length x ≤ 4096 → new_arg x ≡ Ok x
arg_is x least greatest = rw (ne_eqb (length x) 0 (λ e. omega arith), le-ltb 4096 (length x) greatest) refl

slice_size : (n used : ℕ) (bytes : List ℕ) → used + n ≤ length bytes → length (take (used + n - used) (drop used bytes)) ≡ n
slice_size n used bytes room = ap length (same_slice n used bytes) ∙ length-take-le n (drop used bytes) (omega (arith, length-drop used bytes))

-- the argument that is made of a slice
pub argument_made : (n used : ℕ) (bytes a : List ℕ) → IsSpelledAt bytes n used → ((k : ℕ) → get_or bytes k 0 < 256) → used + n ≤ length bytes → 1 ≤ n → n ≤ 4096
    → new_arg (take (used + n - used) (drop used bytes)) ≡ Ok a → IsArgAt bytes a (used + n)
argument_made n used bytes a at all room least greatest made =
    let x = take (used + n - used) (drop used bytes) in
    let size = slice_size n used bytes room in
    let is : Ok a ≡ Ok x = sym made ∙ arg_is x (omega arith) (omega arith) in
    argument_read n used bytes a at (all_bytes bytes all) room least greatest cc

-- ---- what is wrong with a payload is never want of memory

abbrev Never : Option PayloadError → Type 0
Never known = known ≡ Some payload_error.OutOfMemory → ⊥

uri_lines : (a b c d : Bool) → Never (first_line (line a payload_error.BadUri ∷ line b payload_error.PayloadShort ∷ line c payload_error.BadUri ∷ line d payload_error.PayloadRest ∷ []))
uri_lines true b c d e = cc
uri_lines false true c d e = cc
uri_lines false false true d e = cc
uri_lines false false false true e = cc
uri_lines false false false false e = cc

uri_never : (r : VaruintRead) (p : List ℕ) → Never (uri_fault r p)
uri_never (read.Value n used) p e = uri_lines (ltb 1000 n) (ltb (length p) (used + n)) (not (list_all is_uri_byte (take n (drop used p)))) (ltb (used + n) (length p)) e
uri_never read.Short p e = cc
uri_never read.NonMinimal p e = cc
uri_never read.TooLarge p e = cc

rest_line : (a : Bool) → Never (first_line (line a payload_error.PayloadRest ∷ []))
rest_line true e = cc
rest_line false e = cc

height_never : (r : VaruintRead) (p : List ℕ) → Never (height_fault r p)
height_never (read.Value n used) p e = rest_line (ltb used (length p)) e
height_never read.Short p e = cc
height_never read.NonMinimal p e = cc
height_never read.TooLarge p e = cc

of_kind : (a b c : Bool) (u h : Option PayloadError) → Never u → Never h → Never (if a then u else if b then h else if c then h else None)
of_kind true b c u h un hn e = un e
of_kind false true c u h un hn e = hn e
of_kind false false true u h un hn e = hn e
of_kind false false false u h un hn e = cc

pub never_memory : (k p : List ℕ) → payload_fault k p ≡ Some payload_error.OutOfMemory → ⊥
unfolding payload_fault
never_memory k p e = of_kind (bytes_eq k pending_kind) (bytes_eq k bitcoin_kind) (bytes_eq k litecoin_kind) (uri_fault (reading p) p) (height_fault (reading p) p) (uri_never (reading p) p) (height_never (reading p) p) e
