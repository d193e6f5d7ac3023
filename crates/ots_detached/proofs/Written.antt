-- Writing a proof file.
use borrow.Rule.Slice.PartMut.{put_mid}
use Rattle.std.proofs.Common.{◌≡◌, ℕ, ◌+◌, ◌-◌, ◌≤◌, List, [], ◌∷◌, ◌++◌, length, take, set, Option, sym, subst, ap, ◌∙◌, arith, append_assoc, length-append}
use Rattle.std.proofs.Math.Seq.{take-append-add, take-append_seam, take-suc-set}
use Rattle.std.proofs.Math.ListN.{length-set}
use Rattle.std.proofs.lemmas.List.{take-append-le}
use Rattle.std.proofs.lemmas.Slice.{take-put_mid}
use Rattle.ots_outside.specs.Streams.{Takes, Takes-trans, TakesPrefix}
use Rattle.std.specs.List.{AllByRecursion}
use Rattle.ots_ops.specs.HashOp.{digest_length}
use Rattle.ots_tree.specs.declared.detached.Detached.{Detached}
use Rattle.ots_tree.specs.declared.token.Token.{Token}
use Rattle.ots_tree.specs.Sound.{IsSoundPre}
use Rattle.ots_tree.specs.Wire.{spelled, IsToken}
use Rattle.ots_detached.specs.File.{file, file_of, header, IsFileOf}

-- a text that is a header, and then the rest of a file
pub whole_written : (a b c : Option (List ℕ)) (text first second : List ℕ) → text ≡ first → Takes a b text → Takes b c second → Takes a c (first ++ second)
whole_written a b c text first second is p q = Takes-trans a b c first second (subst (Takes a b) is p) q

pub first_cut : (a b : Option (List ℕ)) (text first second : List ℕ) → text ≡ first → TakesPrefix a b text → TakesPrefix a b (first ++ second)
first_cut a b text first second is (n, few, p) =
    let long : length text ≡ length first = ap length is in (
      n,
      omega (arith, length-append first second),
      subst (Takes a b) (ap (take n) is ∙ sym (take-append-le n first second (omega arith))) p,
    )

pub second_cut : (a b c : Option (List ℕ)) (text first second : List ℕ) → text ≡ first → Takes a b text → TakesPrefix b c second → TakesPrefix a c (first ++ second)
second_cut a b c text first second is p (n, few, q) = (
  length first + n,
  omega (arith, length-append first second),
  subst (Takes a c) (sym (take-append-add first second n)) (Takes-trans a b c first (take n second) (subst (Takes a b) is p) q),
)

-- two bytes after the first 31, one after the other
two_after : (m rest : List ℕ) (version tag : ℕ) → length m ≡ 31 → length rest ≡ 34
    → take 33 (set (set (m ++ rest) 31 version) 32 tag) ≡ m ++ (version ∷ tag ∷ [])
two_after m rest version tag long room =
    let all : length (m ++ rest) ≡ 65 = omega (arith, length-append m rest) in
    let first : take 32 (set (m ++ rest) 31 version) ≡ take 31 (m ++ rest) ++ (version ∷ []) = take-suc-set (m ++ rest) 31 version (omega arith) in
    let second : take 33 (set (set (m ++ rest) 31 version) 32 tag) ≡ take 32 (set (m ++ rest) 31 version) ++ (tag ∷ []) =
    take-suc-set (set (m ++ rest) 31 version) 32 tag (omega (arith, length-set (m ++ rest) 31 version)) in
    let prefix : take 31 (m ++ rest) ≡ m = ap (λ (z : ℕ). take z (m ++ rest)) (sym long) ∙ take-append_seam m rest in
    second ∙ ap (λ (z : List ℕ). z ++ tag ∷ []) (first ∙ ap (λ (z : List ℕ). z ++ version ∷ []) prefix) ∙ append_assoc m (version ∷ []) (tag ∷ [])

-- 31 bytes, two more, and then others, each written after the one before
pub put_after : (made m d e rest : List ℕ) (version tag t n : ℕ) → made ≡ m → length m ≡ 31 → length rest ≡ 34 → t ≡ tag → e ≡ d → n ≡ length d
    → take (33 + n) (put_mid 33 (33 + n - 33) (set (set (made ++ rest) 31 version) 32 t) e) ≡ m ++ (version ∷ tag ∷ d)
put_after made m d e rest version tag t n is long room tagged same many =
    let made_long : length made ≡ 31 = ap length is ∙ long in
    let all : length (set (set (made ++ rest) 31 version) 32 t) ≡ 65 = length-set (set (made ++ rest) 31 version) 32 t ∙ length-set (made ++ rest) 31 version ∙ omega (arith, length-append made rest) in
    take-put_mid 33 (33 + n - 33) (set (set (made ++ rest) 31 version) 32 t) e (33 + n) (omega (arith, ap length same)) (omega arith)
    ∙ ap (λ (z : List ℕ). z ++ e) (two_after made rest version t made_long room)
    ∙ append_assoc made (version ∷ t ∷ []) e
    ∙ (λ i. made ++ (version ∷ tagged i ∷ same i))
    ∙ ap (λ (z : List ℕ). z ++ (version ∷ tag ∷ d)) is

-- ---- what is written is read

pub file_is : (p : Detached) → length p.digest ≡ digest_length p.hash → IsSoundPre (length p.digest) 0 p.tree → AllByRecursion IsToken p.tree
    → length (file_of p) ≤ 4194304 → IsFileOf (file_of p) p
unfolding file_of
file_is p digest sound tokens size =
    let t = sound.0 in
    let whole : file_of p ≡ file p.hash p.digest t = ap (λ (z : List Token). header p.hash p.digest ++ spelled z) (sym sound.2) in
    record {
      tree = t;
      tokens = sound.2;
      has_file = record {
        digest = digest;
        tokens = subst (AllByRecursion IsToken) (sym sound.2) tokens;
        sound = sound.1;
        size = omega (arith, ap length whole);
      };
      spelled = whole;
    }

pub is_written : (b : List ℕ) (p : Detached) → IsFileOf b p → b ≡ file_of p
unfolding file_of
is_written b p is = is.spelled ∙ ap (λ (z : List Token). header p.hash p.digest ++ spelled z) is.tokens
