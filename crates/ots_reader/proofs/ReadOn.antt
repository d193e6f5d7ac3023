-- Reading a token whose first bytes are kept.
use Rattle.std.proofs.Common.{◌≡◌, ℕ, ◌+◌, ◌-◌, ◌<◌, ◌≤◌, List, [], ◌++◌, length, take, drop, Some, None, refl, sym, ap, subst, ◌∙◌, inl, inr, arith, append_assoc, length-append}
use Rattle.std.proofs.Math.Seq.{take-add}
use Rattle.std.proofs.lemmas.Bool.{cases_lt}
use Rattle.std.proofs.lemmas.List.{take-append-drop, take-append-le, drop-append-le, take_at, length-take-le}
use Rattle.ots_tree.specs.declared.token.Token.{Token}
use Rattle.ots_tree.specs.Wire.{spell}
use Rattle.ots_reader.specs.declared.fault.Reason.TheVariants.{Truncated}
use Rattle.ots_reader.specs.TokenFault.{token_fault}
use Rattle.ots_reader.specs.TokenRead.{IsTokenAt}
use Rattle.ots_reader.proofs.NoTokenFault.{token_ok}
use Rattle.ots_reader.proofs.Stays.{token_stays}
use Rattle.ots_reader.proofs.Walk.{spell-len}
use Rattle.ots_reader.specs.declared.fault.Reason.{Reason}
use Rattle.ots_reader.specs.Cut.{IsCut, IsSettled, IsSpelling, IsJoinedAt}

-- so many bytes of the piece are kept after the old ones
pub record IsGrown (old piece kept : List ℕ) (end : ℕ) : Type 0 where
  pub are : kept ≡ old ++ take end piece
  pub within : end ≤ length piece

-- the token goes on, and there is as much room as there was
pub record Joins (old piece kept : List ℕ) (end before room : ℕ) : Type 0 where
  pub cut : IsCut kept
  pub grown : IsGrown old piece kept end
  pub roomy : room ≡ before

pub grown_more : (old piece kept longer : List ℕ) (end count : ℕ) → IsGrown old piece kept end → count ≤ length piece - end
    → longer ≡ kept ++ take (end + count - end) (drop end piece) → IsGrown old piece longer (end + count)
grown_more old piece kept longer end count g few is =
    let within = g.within in
    let n : end + count - end ≡ count = omega arith in
    record { are = is ∙ rw (n, g.are, append_assoc old (take end piece) (take count (drop end piece)), take-add end count piece) refl; within = omega arith }

-- all bytes
whole_piece : (old piece kept : List ℕ) (end : ℕ) → IsGrown old piece kept end → old ++ piece ≡ kept ++ drop end piece
whole_piece old piece kept end g = rw (g.are, append_assoc, take-append-drop end piece) refl

pub settles : (old piece kept : List ℕ) (end : ℕ) (r : Reason) → IsGrown old piece kept end → IsSettled kept r → IsSettled (old ++ piece) r
settles old piece kept end r g s = (ap token_fault (whole_piece old piece kept end g) ∙ token_stays kept (drop end piece) r s.1 s.0, s.1)

-- ---- the token is whole

pub token_within : (bytes : List ℕ) (x : Token) (used : ℕ) → IsTokenAt bytes x used → used ≤ length bytes
token_within bytes x used t = omega (arith, t.len, ap length t.front, length-append (spell x) (drop used bytes))

token_more : (bytes more : List ℕ) (x : Token) (used : ℕ) → IsTokenAt bytes x used → IsTokenAt (bytes ++ more) x used
token_more bytes more x used t = record {
  fits = t.fits;
  front = ap (λ (z : List ℕ). z ++ more) t.front ∙ append_assoc (spell x) (drop used bytes) more
      ∙ ap (λ (z : List ℕ). spell x ++ z) (sym (drop-append-le used bytes more (token_within bytes x used t)));
  len = t.len;
}

-- it doesn't end within the old bytes, which were cut
not_within : (old more : List ℕ) (x : Token) (used : ℕ) → IsCut old → IsTokenAt (old ++ more) x used → used ≤ length old → ⊥
not_within old more x used cut t le =
    let spelled : take used (old ++ more) ≡ spell x = ap (take used) t.front ∙ take_at (spell x) (drop used (old ++ more)) used (sym t.len) in
    let front : spell x ++ drop used old ≡ old = ap (λ (z : List ℕ). z ++ drop used old) (sym spelled ∙ take-append-le used old more le) ∙ take-append-drop used old in
    let clash : None ≡ Some Truncated = sym (token_ok x (drop used old) t.fits) ∙ ap token_fault front ∙ cut in cc

pub ends_after : (old piece kept : List ℕ) (end size : ℕ) (x : Token) → IsGrown old piece kept end → IsCut old → IsTokenAt kept x size → length old < size
ends_after old piece kept end size x g cut t =
    elim (cases_lt (length old) size) [
      | inl lt ↦ lt
      | inr le ↦ absurd (not_within old (take end piece) x size cut (subst (λ (z : List ℕ). IsTokenAt z x size) g.are t) le)
    ]

pub joined_at : (old piece kept : List ℕ) (end size : ℕ) (x : Token) → IsGrown old piece kept end → IsCut old → IsTokenAt kept x size → IsJoinedAt old piece x (size - length old)
joined_at old piece kept end size x g cut t =
    let after = ends_after old piece kept end size x g cut t in
    let n : length old + (size - length old) ≡ size = omega arith in
    let all : IsTokenAt (old ++ piece) x size = rw (whole_piece old piece kept end g) (token_more kept (drop end piece) x size t) in
    let within = g.within in
    record {
      token = rw n all;
      some = omega arith;
      within = omega (arith, token_within kept x size t, ap length g.are, length-append old (take end piece), length-take-le end piece within);
    }

-- a token of which no byte came before the piece
pub joined_here : (old piece : List ℕ) (x : Token) (used : ℕ) → old ≡ [] → IsTokenAt piece x used → IsJoinedAt old piece x used
joined_here old piece x used none t = let zero : 0 + used ≡ used = omega arith in rw none (record { token = rw zero t; some = omega (arith, t.len, spell-len x); within = token_within piece x used t })

-- its spelling is what is left of the kept bytes
pub spelling_at : (kept bytes : List ℕ) (size : ℕ) (x : Token) → IsTokenAt kept x size → bytes ≡ take size kept → IsSpelling bytes x
spelling_at kept bytes size x t is = record { fits = t.fits; is = is ∙ ap (take size) t.front ∙ take_at (spell x) (drop size kept) size (sym t.len) }
