-- How many answers are good.
use Rattle.std.proofs.Common.{◌≡◌, ◌<◌, ℕ, ◌+◌, List, [], ◌∷◌, ◌++◌, length, take, get_or, ap, ◌∙◌, add-one, arith}
use Rattle.std.proofs.Math.Seq.{take-suc}
use Rattle.ots_asking.specs.declared.outcome.Outcome.{Outcome}
use Rattle.ots_asking.specs.declared.outcome.Outcome.TheVariants.{Tree, Unreachable, Status, TooLong, BadHttp, BadReply}
use Rattle.ots_stamp.specs.Stamped.{good_trees}

good_joined : (xs : List Outcome) (x : Outcome) → length (good_trees (xs ++ x ∷ [])) ≡ length (good_trees xs) + length (good_trees (x ∷ []))
good_joined [] x = omega arith
good_joined (Tree t ∷ xs) x = let rest = good_joined xs x in omega (arith, rest)
good_joined (Unreachable ∷ xs) x = good_joined xs x
good_joined (Status code ∷ xs) x = good_joined xs x
good_joined (TooLong ∷ xs) x = good_joined xs x
good_joined (BadHttp ∷ xs) x = good_joined xs x
good_joined (BadReply fault ∷ xs) x = good_joined xs x

pub count_next : (xs : List Outcome) (i : ℕ) (d : Outcome) (n m : ℕ) → i < length xs → n ≡ length (good_trees (take i xs)) → m ≡ length (good_trees (get_or xs i d ∷ []))
    → n + m ≡ length (good_trees (take (i + 1) xs))
count_next xs i d n m less first last =
    let next : take (i + 1) xs ≡ take i xs ++ get_or xs i d ∷ [] = ap (λ (z : ℕ). take z xs) (add-one i) ∙ take-suc xs i d less in
    let all = ap (λ (z : List Outcome). length (good_trees z)) next ∙ good_joined (take i xs) (get_or xs i d) in
    omega (arith, all, first, last)
