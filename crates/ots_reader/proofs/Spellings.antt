-- Bytes that spell a token.
use Rattle.std.proofs.Common.{◌≡◌, ℕ, List, [], drop, Some, None, sym, ap, ◌∙◌}
use Rattle.std.proofs.lemmas.List.{append-nil}
use Rattle.ots_tree.specs.declared.token.Token.{Token}
use Rattle.ots_tree.specs.Wire.{spell}
use Rattle.ots_tree.proofs.Determined.{token-apart}
use Rattle.ots_reader.specs.Cut.{IsSpelling}
use Rattle.ots_reader.specs.TokenFault.{token_fault}
use Rattle.ots_reader.specs.TokenRead.{IsTokenAt}
use Rattle.ots_reader.specs.declared.fault.Reason.{Reason}
use Rattle.ots_reader.proofs.NoTokenFault.{token_ok}

pub one_spelled : (bytes : List ℕ) (x y : Token) → IsSpelling bytes x → IsSpelling bytes y → x ≡ y
one_spelled bytes x y a b = (token-apart x y [] [] a.fits b.fits (append-nil (spell x) ∙ sym a.is ∙ b.is ∙ sym (append-nil (spell y)))).0

-- the token at the start of a token's spelling
pub spelled_token : (bytes : List ℕ) (y x : Token) (used : ℕ) → IsTokenAt bytes y used → IsSpelling bytes x → y ≡ x
spelled_token bytes y x used t s = (token-apart y x (drop used bytes) [] t.fits s.fits (sym t.front ∙ s.is ∙ sym (append-nil (spell x)))).0

pub no_fault : (bytes : List ℕ) (x : Token) (r : Reason) → IsSpelling bytes x → token_fault bytes ≡ Some r → ⊥
no_fault bytes x r s e = let clash : None ≡ Some r = sym (token_ok x [] s.fits) ∙ ap token_fault (append-nil (spell x) ∙ sym s.is) ∙ e in cc
