-- Which reasons the fault of a tree has.
use Rattle.std.proofs.Common.{ℕ, ◌+◌, Bool, true, false, cond, ltb, leb, eqb, List, [], ◌∷◌, length, take, drop, Option, Some, None, subst}
use Rattle.std.specs.Prelude.{IfSome, not, ◌||◌, option_and_then}
use Rattle.ots_base.specs.Table.{line, first_line}
use Rattle.ots_varint.specs.declared.reading.VaruintRead.{VaruintRead}
use Rattle.ots_varint.specs.declared.reading.VaruintRead.TheVariants as read
use Rattle.ots_varint.specs.Reading.{reading}
use Rattle.ots_ops.specs.ResultLength.{most, made}
use Rattle.ots_attest.specs.declared.payload.PayloadError.{PayloadError}
use Rattle.ots_attest.specs.declared.payload.PayloadError.TheVariants as payload
use Rattle.ots_attest.specs.PayloadFault.{payload_fault}
use Rattle.ots_tree.specs.declared.shape.Shape.{Shape}
use Rattle.ots_tree.specs.declared.token.Token.{Token}
use Rattle.ots_tree.specs.declared.token.Token.TheVariants as token
use Rattle.ots_reader.specs.declared.fault.Fault.{Fault}
use Rattle.ots_reader.specs.declared.fault.Reason.{Reason}
use Rattle.ots_reader.specs.declared.fault.Reason.TheVariants.{Truncated, ArgEmpty, ArgTooLong, PayloadTooLong, ResultTooLong, TooDeep}
use Rattle.ots_reader.specs.TokenFault.{token_fault, is_tag, is_attestation, has_argument, length_fault, argument_fault, body_fault, as_reason}
use Rattle.ots_reader.specs.TreeFault.{place_fault, IsReason, no_token, no_place, HasTreeFault}
use Rattle.ots_reader.specs.OneAnswer.{IsTreeReason}

abbrev Fits : Option Reason → Type 0
Fits known = IfSome known IsTreeReason

length_fits : (r : VaruintRead) → Fits (length_fault r)
length_fits (read.Value n used) = tt
length_fits read.Short = tt
length_fits read.NonMinimal = tt
length_fits read.TooLarge = tt

argument_lines : (a b c : Bool) → Fits (first_line (line a ArgEmpty ∷ line b ArgTooLong ∷ line c Truncated ∷ []))
argument_lines true b c = tt
argument_lines false true c = tt
argument_lines false false true = tt
argument_lines false false false = tt

argument_fits : (r : VaruintRead) (bytes : List ℕ) → Fits (argument_fault r bytes)
argument_fits (read.Value n used) bytes = argument_lines (eqb n 0) (ltb 4096 n) (ltb (length bytes) (used + n))
argument_fits read.Short bytes = tt
argument_fits read.NonMinimal bytes = tt
argument_fits read.TooLarge bytes = tt

body_lines : (a b : Bool) (e : Option PayloadError) → Fits (first_line (line a PayloadTooLong ∷ line b Truncated ∷ option_and_then as_reason e ∷ []))
body_lines true b e = tt
body_lines false true e = tt
body_lines false false None = tt
body_lines false false (Some payload.BadUri) = tt
body_lines false false (Some payload.PayloadRest) = tt
body_lines false false (Some payload.PayloadShort) = tt
body_lines false false (Some payload.PayloadVaruint) = tt
body_lines false false (Some payload.OutOfMemory) = tt

body_fits : (k : List ℕ) (r : VaruintRead) (bytes : List ℕ) → Fits (body_fault k r bytes)
body_fits k (read.Value n used) bytes = body_lines (ltb 8192 n) (ltb (length bytes) (used + n)) (payload_fault k (take n (drop used bytes)))
body_fits k read.Short bytes = tt
body_fits k read.NonMinimal bytes = tt
body_fits k read.TooLarge bytes = tt

either_fits : (x : Bool) (a b : Option Reason) → Fits a → Fits b → Fits (cond x a b)
either_fits true a b h k = h
either_fits false a b h k = k

token_fits : (bytes : List ℕ) → Fits (token_fault bytes)
unfolding token_fault
token_fits [] = tt
token_fits (tag ∷ after) =
    either_fits (eqb tag 0x67) _ _ tt (either_fits (not (is_tag tag)) _ _ tt (either_fits (is_attestation tag) _ _
    (either_fits (ltb (length after) 8) _ _ tt (body_fits (take 8 after) (reading (drop 8 after)) (drop 8 after)))
    (either_fits (has_argument tag) _ _ (argument_fits (reading after) after) tt)))

op_lines : (a b : Bool) → Fits (first_line (line a TooDeep ∷ line b ResultTooLong ∷ []))
op_lines true b = tt
op_lines false true = tt
op_lines false false = tt

place_fits : (at : Shape) (forked : Bool) (x : Token) → Fits (place_fault at forked x)
place_fits at true token.Fork = tt
place_fits at false token.Fork = tt
place_fits at forked (token.Op o) = op_lines (leb 255 at.depth) (ltb 4096 (made o at.length) || ltb (most o) at.length)
place_fits at forked (token.Attestation a) = tt

reason_fits : (at : Shape) (others : List Shape) (forked : Bool) (bytes : List ℕ) (r : Reason) → IsReason at others forked bytes r → IsTreeReason r
reason_fits at others forked bytes r (no_token absent e) = subst Fits e (token_fits bytes)
reason_fits at others forked bytes r (no_place x begins gone e) = subst Fits e (place_fits at forked x)

pub tree_reason : (n k : ℕ) (input : List ℕ) (f : Fault) → HasTreeFault n k input f → IsTreeReason f.reason
tree_reason n k input f h = reason_fits h.at h.others h.forked h.rest f.reason h.reason
