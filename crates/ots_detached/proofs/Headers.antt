-- The header of a proof file.
use Rattle.std.proofs.Common.{◌≡◌, ℕ, zero, suc, ◌+◌, ◌<◌, Bool, true, false, cond, List, [], ◌∷◌, ◌++◌, length, take, drop, Option, Some, None, refl, sym, ap, ◌∙◌, arith, append_assoc, length-append}
use Rattle.std.specs.Prelude.{nat_eq, slice_get}
use Rattle.std.specs.List.{starts_with}
use Rattle.std.specs.Cmp.Lexicographic.{same_text}
use Rattle.std.proofs.lemmas.Bool.{lt-ltb, le-ltb, eqb-true}
use Rattle.std.proofs.lemmas.List.{take-append-drop, drop-drop}
use Rattle.ots_ops.specs.declared.hash_op.HashOp.{HashOp}
use Rattle.ots_ops.specs.declared.hash_op.HashOp.TheVariants.{Sha1, Ripemd160, Sha256}
use Rattle.ots_ops.specs.HashOp.{tag, digest_length}
use Rattle.ots_reader.specs.declared.fault.Fault.{Fault}
use Rattle.ots_reader.specs.declared.fault.Reason.TheVariants.{Truncated, BadMagic, BadVersion}
use Rattle.ots_detached.specs.File.{magic, header, IsHeader}
use Rattle.ots_detached.specs.FileFault.{at, magic_fault, version_fault, version_fault_of, hash_fault, hash_fault_of, digest_length_of, header_fault}

-- ---- the first fault that there is

pub magic_first : (b : List ℕ) (f : Fault) → Some f ≡ magic_fault b → header_fault b ≡ Some f
unfolding header_fault
magic_first b f e = rw (← e) refl

pub version_second : (b : List ℕ) (f : Fault) → None ≡ magic_fault b → Some f ≡ version_fault b → header_fault b ≡ Some f
unfolding header_fault
version_second b f none e = rw (← none, ← e) refl

pub hash_third : (b : List ℕ) (f : Fault) → None ≡ magic_fault b → None ≡ version_fault b → hash_fault b ≡ Some f → header_fault b ≡ Some f
unfolding header_fault
hash_third b f none none' e = rw (← none, ← none', e) refl

tag_length : (h : HashOp) → digest_length_of (Some (tag h)) ≡ digest_length h
tag_length Sha1 = refl
tag_length Ripemd160 = refl
tag_length Sha256 = refl

tag_good : (h : HashOp) → hash_fault_of (Some (tag h)) ≡ None
tag_good Sha1 = refl
tag_good Ripemd160 = refl
tag_good Sha256 = refl

pub digest_last : (b : List ℕ) (h : HashOp) → None ≡ magic_fault b → None ≡ version_fault b → slice_get b 32 ≡ Some (tag h) → length b < 33 + digest_length h
    → header_fault b ≡ Some (at 33 Truncated)
unfolding header_fault
digest_last b h none none' is short =
    rw (← none, ← none', is, tag_good h, tag_length h, lt-ltb (length b) (33 + digest_length h) short) refl

-- ---- what has no fault

pub header_length : (h : HashOp) (d : List ℕ) → length (header h d) ≡ 33 + length d
header_length h d = omega (arith, length-append magic (0x01 ∷ tag h ∷ d))

magic_none : (x y : Bool) → None ≡ cond x None (cond y (Some (at 0 Truncated)) (Some (at 0 BadMagic))) → x ≡ true
magic_none true y e = refl
magic_none false true e = absurd cc
magic_none false false e = absurd cc

magic_prefix : (b : List ℕ) → None ≡ magic_fault b → magic ≡ take 31 b
magic_prefix b e = same_text magic (take 31 b) (sym (magic_none (starts_with nat_eq b magic) (starts_with nat_eq magic b) e))

version_none : (o : Option ℕ) → None ≡ version_fault_of o → o ≡ Some 0x01
version_none None e = absurd cc
version_none (Some v) e = ap Some (is_one (nat_eq v 0x01) e (eqb-true v 0x01))
  where
    is_one : (x : Bool) → None ≡ cond x None (Some (at 31 BadVersion)) → (x ≡ true → v ≡ 0x01) → v ≡ 0x01
    is_one true e h = h refl
    is_one false e h = absurd cc

-- the byte at a place, and the bytes after it
at_drop : (n x : ℕ) (xs : List ℕ) → slice_get xs n ≡ Some x → drop n xs ≡ x ∷ drop (suc n) xs
at_drop n x [] e = absurd cc
at_drop zero x (y ∷ ys) e = let same : y ≡ x = cc in ap (λ z. z ∷ ys) same
at_drop (suc n) x (y ∷ ys) e = at_drop n x ys e

pub is_header : (b : List ℕ) (h : HashOp) (d : List ℕ) → None ≡ magic_fault b → None ≡ version_fault b → slice_get b 32 ≡ Some (tag h)
    → d ≡ take (digest_length h) (drop 33 b) → length d ≡ digest_length h → IsHeader b h d
is_header b h d magics version hash digest len =
    let prefix = magic_prefix b magics in
    let one : drop 31 b ≡ 0x01 ∷ drop 32 b = at_drop 31 0x01 b (version_none (slice_get b 31) version) in
    let two : drop 32 b ≡ tag h ∷ drop 33 b = at_drop 32 (tag h) b hash in
    let after : drop 33 b ≡ d ++ drop (33 + length d) b = digest_split d (digest_length h) b digest len in
    record {
      digest = len;
      prefix = sym (take-append-drop 31 b) ∙ pieces magic (take 31 b) (drop 31 b) (drop 32 b) (drop 33 b) (drop (33 + length d) b) 0x01 (tag h) d prefix one two after;
    }
  where
    digest_split : (d : List ℕ) (n : ℕ) (b : List ℕ) → d ≡ take n (drop 33 b) → length d ≡ n → drop 33 b ≡ d ++ drop (33 + length d) b
    digest_split d n b e len =
        sym (take-append-drop n (drop 33 b)) ∙ ap (λ (z : List ℕ). z ++ drop n (drop 33 b)) (sym e) ∙ ap (λ (z : List ℕ). d ++ z) (drop-drop n 33 b ∙ ap (λ (n : ℕ). drop (33 + n) b) (sym len))

    pieces : (m m' a b c r : List ℕ) (x y : ℕ) (d : List ℕ) → m ≡ m' → a ≡ x ∷ b → b ≡ y ∷ c → c ≡ d ++ r → m' ++ a ≡ (m ++ (x ∷ y ∷ d)) ++ r
    pieces m m' a b c r x y d f g h k = rw (← f, g, h, k) (sym (append_assoc m (x ∷ y ∷ d) r))

-- a header has no fault
none_of : (h : HashOp) (d r : List ℕ) → length d ≡ digest_length h → header_fault (header h d ++ r) ≡ None
unfolding header_fault
none_of h d r len =
    rw (tag_good h, tag_length h, le-ltb (length (header h d ++ r)) (33 + digest_length h) (omega (arith, length-append (header h d) r, header_length h d))) refl

pub header_none : (b : List ℕ) (h : HashOp) (d : List ℕ) → IsHeader b h d → header_fault b ≡ None
header_none b h d head = ap header_fault head.prefix ∙ none_of h d (drop (33 + length d) b) head.digest
