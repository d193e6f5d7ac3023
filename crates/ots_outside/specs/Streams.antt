-- What a read gives and a write takes, of bytes that may be told.
use Rattle.std.specs.Prelude.{◌≡◌, ◌<◌, ◌≤◌, ℕ, List, [], ◌++◌, length, take, Option, Result, MatchResult, refl}
use Rattle.std.specs.Io.KnownBytes.{IsAtEnd}
use Rattle.std.proofs.Common.{◌∙◌, ap, sym, append_assoc, append-nil}
use Rattle.ots_base.specs.Told.{BothTold, BothTold-same, BothTold-trans}

-- These bytes were read from the start of those left.
abbrev pub Gives : Option (List ℕ) → Option (List ℕ) → List ℕ → Type 0
Gives old new bytes = BothTold (λ before after. before ≡ bytes ++ after) old new

-- These bytes were written after those taken.
abbrev pub Takes : Option (List ℕ) → Option (List ℕ) → List ℕ → Type 0
Takes old new bytes = BothTold (λ before after. after ≡ before ++ bytes) old new

-- A prefix of these bytes was written.
abbrev pub TakesPrefix : Option (List ℕ) → Option (List ℕ) → List ℕ → Type 0
TakesPrefix old new bytes = (n : ℕ) × (n ≤ length bytes) × Takes old new (take n bytes)

-- `read(buf)` gave the n bytes at the start of `buf` at `Ok(n)`, none only at the end or with no room, and nothing at
-- `Err`.
abbrev pub Reads : {E : Type 0} → Option (List ℕ) → Option (List ℕ) → Result ℕ E → List ℕ → Type 0
Reads old new result buf =
    MatchResult result (λ n. Gives old new (take n buf) × (n ≡ 0 → 0 < length buf → IsAtEnd new)) (λ _. new ≡ old)

-- `write(piece)` took the first n bytes of `piece` at `Ok(n)`, and nothing at `Err`.
abbrev pub Writes : {E : Type 0} → Option (List ℕ) → Option (List ℕ) → Result ℕ E → List ℕ → Type 0
Writes old new result piece = MatchResult result (λ n. Takes old new (take n piece)) (λ _. new ≡ old)

-- ---- one call after another

pub Gives-nothing : (a : Option (List ℕ)) → Gives a a []
Gives-nothing a = BothTold-same (λ before after. before ≡ [] ++ after) (λ xs. refl) a

pub Gives-trans : (a b c : Option (List ℕ)) (first second : List ℕ) → Gives a b first → Gives b c second
    → Gives a c (first ++ second)
Gives-trans a b c first second p q =
    BothTold-trans (λ before after. before ≡ first ++ after) (λ before after. before ≡ second ++ after)
    (λ before after. before ≡ (first ++ second) ++ after)
    (λ xs ys zs e f. e ∙ (ap (λ l. first ++ l) f ∙ sym (append_assoc first second zs))) a b c p q

pub Takes-nothing : (a : Option (List ℕ)) → Takes a a []
Takes-nothing a = BothTold-same (λ before after. after ≡ before ++ []) (λ xs. sym (append-nil xs)) a

pub Takes-trans : (a b c : Option (List ℕ)) (first second : List ℕ) → Takes a b first → Takes b c second
    → Takes a c (first ++ second)
Takes-trans a b c first second p q =
    BothTold-trans (λ before after. after ≡ before ++ first) (λ before after. after ≡ before ++ second)
    (λ before after. after ≡ before ++ (first ++ second))
    (λ xs ys zs e f. f ∙ (ap (λ l. l ++ second) e ∙ append_assoc xs first second)) a b c p q
