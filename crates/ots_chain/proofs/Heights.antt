-- The heights of a table.
use Rattle.std.proofs.Common.{◌≡◌, ℕ, ◌+◌, ◌<◌, ◌≤◌, length, Some, None, IsSome, true≢false, refl, sym, subst, arith, inl, inr, eq-or-lt_of_le, lt_of_not-le}
use Rattle.std.proofs.Common.{List, true, rules}
use Rattle.std.specs.Cmp.Lexicographic.{pointwise}
use Rattle.std.specs.Prelude.{nat_eq}
use Rattle.ots_chain.specs.Chain.{AreGood, HasFaultAt}
use Rattle.ots_headers.specs.declared.header.Header.{Header}
use Rattle.ots_headers.specs.HeaderTable.{Table, header_at}
use Rattle.ots_headers.proofs.TableBytes.{heights_lem}

pub end_of_table : (t : Table) (height : ℕ) → t.first ≤ height → header_at t height ≡ None → t.first + length t.headers ≤ height
end_of_table t height from e =
    let past : height < t.first + length t.headers → ⊥ = λ h. true≢false (sym (subst IsSome e ((heights_lem t height).1 (from, h)))) in
    omega (arith, lt_of_not-le past)

pub within_table : (t : Table) (height : ℕ) (h : Header) → header_at t height ≡ Some h → height < t.first + length t.headers
within_table t height h e = ((heights_lem t height).0 (subst IsSome (sym e) refl)).1

pub one_more : (t : Table) (end : ℕ) → AreGood t end → HasFaultAt t end None → AreGood t (end + 1)
one_more t end good last height from below = let most : height ≤ end = omega (arith, below) in elim (eq-or-lt_of_le most) [
  | inl same ↦ subst (λ n. HasFaultAt t n None) (sym same) last
  | inr less ↦ good height from less
]

pub same_bytes : (xs ys : List ℕ) → pointwise nat_eq xs ys ≡ true → xs ≡ ys
same_bytes xs ys e = search rules
