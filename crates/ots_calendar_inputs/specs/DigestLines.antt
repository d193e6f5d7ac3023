-- The digits of a digest, as a form of lines.
use Rattle.std.specs.Prelude.{◌≡◌, ◌≢◌, ◌<◌, ℕ, true, List, length}
use Rattle.std.proofs.Common.{◌∙◌, ap, sym, arith, lit≤, lit<, get_or}
use Rattle.hex.specs.Hex.{is_hex_digit}
use Rattle.hex.proofs.HexLemmas.{decode_of-ok, decode_of-same}
use Rattle.ots_inputs.specs.Lines.{IsForm}
use Rattle.ots_inputs.proofs.Lining.{none_by_places}
use Rattle.ots_calendar_inputs.specs.declared.lines.TheConstants.{MAX_LINE, MAX_LINES}
use Rattle.ots_calendar_inputs.specs.Digests.{IsDigest}

digits_few : (digits digest : List ℕ) → IsDigest digits digest → length digits < MAX_LINE
digits_few digits digest is =
    let twice = (decode_of-ok digits digest is.decoded).2 in
    let most = is.small.greatest in
    omega (arith, twice, most)

no_end : (digits digest : List ℕ) → IsDigest digits digest → (k : ℕ) → k < length digits → get_or digits k 0 ≢ 10
no_end digits digest is k less same =
    let all = (decode_of-ok digits digest is.decoded).1 in
    let digit : is_hex_digit 10 ≡ true = sym (ap is_hex_digit same) ∙ all k 0 less in
    absurd cc

pub digest_form : IsForm IsDigest MAX_LINE MAX_LINES
digest_form = record {
  short = digits_few;
  no_end = λ digits digest is. none_by_places 10 digits (no_end digits digest is);
  one = λ digits first second f g. decode_of-same digits first second f.decoded g.decoded;
  some = lit≤ tt;
  fits = lit≤ tt;
  few = lit< tt;
}
