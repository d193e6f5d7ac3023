-- What proofs want is one thing in all.
use Rattle.std.proofs.Common.{◌≡◌, ◌∙◌, ◌+◌, ℕ, Bool, List, [], ◌∷◌, ◌++◌, map, sym}
use Rattle.std.specs.Prelude.{Ok, Err}
use Rattle.ots_archive_ask.specs.Sheet.{AreOnce, AreTooMany}
use Rattle.ots_archive_ask.specs.Total.{AllWant, IsTotal, Total, Tried}
use Rattle.ots_request_set.proofs.OneSet as set
use Rattle.ots_sheet.specs.Request.{RequestParts, request_line}
use Rattle.ots_sheet.specs.Sheet.{FitsSheet}
use Rattle.ots_wanted.proofs.Fewer.{fewer_fit}
use Rattle.ots_wanted.proofs.OneWanted as wanted

one_want : (urls : List (List ℕ)) (all : Bool) (tried : List Tried) (v w : List RequestParts) (m n : ℕ) → AllWant urls all tried v m → AllWant urls all tried w n → (v ≡ w) × (m ≡ n)
one_want urls all [] v w m n a b = (a.0 ∙ sym b.0, a.1 ∙ sym b.1)
one_want urls all (Err s ∷ tried) v w m n a b = one_want urls all tried v w m n a b
one_want urls all (Ok proof ∷ tried) v w m n (v1, v2, m1, m2, a1, a2, a3, a4) (w1, w2, n1, n2, b1, b2, b3, b4) =
    let first = wanted.one urls all proof v1 w1 m1 n1 a1 b1 in
    let later = one_want urls all tried v2 w2 m2 n2 a2 b2 in
    (a3 ∙ (λ j. first.0 j ++ later.0 j) ∙ sym b3, a4 ∙ (λ j. first.1 j + later.1 j) ∙ sym b4)

pub one_total : (urls : List (List ℕ)) (all : Bool) (tried : List Tried) (t u : Total) → IsTotal urls all tried t → IsTotal urls all tried u → t ≡ u
one_total urls all tried t u a b =
    let same = one_want urls all tried t.wanted u.wanted t.skipped u.skipped a.want b.want in
    let status = a.status ∙ sym b.status in
    λ j. record { wanted = same.0 j; skipped = same.1 j; status = status j }

pub one_sheet : (wanted first second : List RequestParts) → AreOnce wanted first → AreOnce wanted second → first ≡ second
one_sheet wanted first second a b =
    set.one first second a.order b.order (λ r. (λ has. (b.members r).1 ((a.members r).0 has), λ has. (a.members r).1 ((b.members r).0 has)))

pub never_both : (wanted requests : List RequestParts) → AreTooMany wanted → AreOnce wanted requests → FitsSheet (map request_line requests) → ⊥
never_both wanted requests many once fits = many.past (fewer_fit many.some requests many.order once.order (λ r has. (once.members r).1 (many.members r has)) fits)
