-- Bytes have a fault or are a proof file.
use Rattle.std.proofs.Common.{◌≡◌, ℕ, ◌+◌, ◌<◌, ◌≤◌, Bool, true, false, List, [], ◌∷◌, ◌++◌, length, take, drop, Option, Some, None, refl, sym, ap, ◌∙◌, arith, inl, inr, append_assoc, append-nil, length-append, length-drop}
use Rattle.std.specs.Prelude.{◌⊎◌, nat_eq, nat_lt, slice_get}
use Rattle.std.proofs.lemmas.Bool.{eqb-true, ltb-true, ltb-false}
use Rattle.std.proofs.lemmas.List.{length-take-le}
use Rattle.ots_ops.specs.Arg.{AreBytes}
use Rattle.ots_ops.specs.declared.hash_op.HashOp.{HashOp}
use Rattle.ots_ops.specs.declared.hash_op.HashOp.TheVariants.{Sha1, Ripemd160, Sha256}
use Rattle.ots_ops.specs.HashOp.{tag, digest_length}
use Rattle.ots_tree.specs.Wire.{Node, bytes}
use Rattle.ots_reader.specs.declared.fault.Fault.{Fault}
use Rattle.ots_reader.specs.declared.fault.Reason.TheVariants.{Truncated, Keccak, BadHashOp, TrailingBytes}
use Rattle.ots_reader.specs.OneAnswer.{HasOneTree}
use Rattle.ots_reader.proofs.ByteLists.{all_drop}
use Rattle.ots_reader.proofs.FaultOrTree.{fault_or_tree_lem}
use Rattle.ots_detached.specs.File.{header, file, HasFile, IsHeader}
use Rattle.ots_detached.specs.FileFault.{at, magic_fault, version_fault, header_fault, HasFault, in_header, in_tree, after}
use Rattle.ots_detached.specs.OneAnswer.{HasOneFault, HasOneFile}
use Rattle.ots_detached.proofs.Headers.{magic_first, version_second, hash_third, digest_last, is_header}
use Rattle.ots_detached.proofs.Files.{file_apart, one_fault}

-- ---- the header

record Headed (b : List ℕ) : Type 0 where
  hash : HashOp
  digest : List ℕ
  is : IsHeader b hash digest

record Faulted (b : List ℕ) : Type 0 where
  fault : Fault
  is : header_fault b ≡ Some fault

abbrev Header : List ℕ → Type 0
Header b = Faulted b ⊎ Headed b

by_length : (b : List ℕ) (h : HashOp) (x : Bool) → x ≡ nat_lt (length b) (33 + digest_length h) → None ≡ magic_fault b → None ≡ version_fault b → slice_get b 32 ≡ Some (tag h) → Header b
by_length b h true e magics version tagged = inl (record { fault = at 33 Truncated; is = digest_last b h magics version tagged (ltb-true (length b) (33 + digest_length h) (sym e)) })
by_length b h false e magics version tagged =
    let enough : 33 + digest_length h ≤ length b = ltb-false (length b) (33 + digest_length h) (sym e) in
    let d = take (digest_length h) (drop 33 b) in
    let len : length d ≡ digest_length h = length-take-le (digest_length h) (drop 33 b) (omega (arith, length-drop 33 b)) in
    inr (record { hash = h; digest = d; is = is_header b h d magics version tagged refl len })

by_hash : (b : List ℕ) (h : HashOp) → None ≡ magic_fault b → None ≡ version_fault b → slice_get b 32 ≡ Some (tag h) → Header b
by_hash b h = by_length b h (nat_lt (length b) (33 + digest_length h)) refl

-- the byte at the hash's place, and which of the tags it is
by_tag : (b : List ℕ) (v : ℕ) (k s r t : Bool) → k ≡ nat_eq v 0x67 → s ≡ nat_eq v 0x02 → r ≡ nat_eq v 0x03 → t ≡ nat_eq v 0x08
    → None ≡ magic_fault b → None ≡ version_fault b → slice_get b 32 ≡ Some v → Header b
by_tag b v true s r t ke se re te magics version there =
    inl (record { fault = at 32 Keccak; is = hash_third b (at 32 Keccak) magics version (rw (there, ← ke) refl) })
by_tag b v false true r t ke se re te magics version there = by_hash b Sha1 magics version (there ∙ ap Some (eqb-true v 0x02 (sym se)))
by_tag b v false false true t ke se re te magics version there = by_hash b Ripemd160 magics version (there ∙ ap Some (eqb-true v 0x03 (sym re)))
by_tag b v false false false true ke se re te magics version there = by_hash b Sha256 magics version (there ∙ ap Some (eqb-true v 0x08 (sym te)))
by_tag b v false false false false ke se re te magics version there =
    inl (record { fault = at 32 BadHashOp; is = hash_third b (at 32 BadHashOp) magics version (rw (there, ← ke, ← se, ← re, ← te) refl) })

by_byte : (b : List ℕ) (o : Option ℕ) → slice_get b 32 ≡ o → None ≡ magic_fault b → None ≡ version_fault b → Header b
by_byte b None e magics version = inl (record { fault = at 32 Truncated; is = hash_third b (at 32 Truncated) magics version (rw e refl) })
by_byte b (Some v) e magics version = by_tag b v (nat_eq v 0x67) (nat_eq v 0x02) (nat_eq v 0x03) (nat_eq v 0x08) refl refl refl refl magics version e

by_version : (b : List ℕ) (o : Option Fault) → o ≡ version_fault b → None ≡ magic_fault b → Header b
by_version b (Some f) e magics = inl (record { fault = f; is = version_second b f magics e })
by_version b None e magics = by_byte b (slice_get b 32) refl magics e

by_magic : (b : List ℕ) (o : Option Fault) → o ≡ magic_fault b → Header b
by_magic b (Some f) e = inl (record { fault = f; is = magic_first b f e })
by_magic b None e = by_version b (version_fault b) refl e

-- ---- the tree

digest_least : (h : HashOp) → (20 ≤ digest_length h) × (digest_length h ≤ 32)
digest_least Sha1 = (omega arith, omega arith)
digest_least Ripemd160 = (omega arith, omega arith)
digest_least Sha256 = (omega arith, omega arith)

one : (b : List ℕ) (f : Fault) → HasFault b f → HasOneFault b ⊎ HasOneFile b
one b f has = inl (record { fault = f; has = has; only = λ g other. one_fault b g f other has })

-- a whole tree after the header, and what follows it
with_tree : (b : List ℕ) (h : HashOp) (d : List ℕ) (rest : List ℕ) (t : Node) → HasFile h d t → b ≡ file h d t ++ rest → HasOneFault b ⊎ HasOneFile b
with_tree b h d [] t has whole =
    let is : b ≡ file h d t = whole ∙ append-nil (file h d t) in
    inr (record {
      hash = h;
      digest = d;
      tree = t;
      has_file = has;
      spelled = is;
      only = λ k e u other is'. let same = file_apart k h e d u t [] [] other has (ap (λ (z : List ℕ). z ++ []) (sym is' ∙ is)) in (same.hash, same.digest, same.tree);
    })
with_tree b h d (x ∷ rest) t has whole = one b (at (length (file h d t)) TrailingBytes) (after h d t x rest has whole refl)

tree_after : (b : List ℕ) (h : HashOp) (d : List ℕ) → length b ≤ 4194304 → IsHeader b h d → HasOneTree (length d) 0 (drop (33 + length d) b) → HasOneFault b ⊎ HasOneFile b
tree_after b h d size head t =
    let whole : b ≡ file h d t.node ++ t.rest =
    head.prefix ∙ ap (λ (z : List ℕ). header h d ++ z) t.spelled ∙ sym (append_assoc (header h d) (bytes t.node) t.rest) in
    with_tree b h d t.rest t.node
    (record { digest = head.digest; tokens = t.sound.fits; sound = t.sound.sound; size = omega (arith, ap length whole, length-append (file h d t.node) t.rest) })
    whole

pub fault_or_file_lem : (b : List ℕ) → AreBytes b → length b ≤ 4194304 → HasOneFault b ⊎ HasOneFile b
fault_or_file_lem b all size =
    elim (by_magic b (magic_fault b) refl) [
      | inl f ↦ one b f.fault (in_header f.is)
      | inr head ↦
          let limits = digest_least head.hash in
          let len = head.is.digest in
          elim (fault_or_tree_lem (length head.digest) 0 (drop (33 + length head.digest) b) (record { least = omega arith; greatest = omega arith; depth = omega arith })
          (all_drop (λ byte. byte < 256) (33 + length head.digest) b all)) [
            | inl f ↦ one b _ (in_tree head.hash head.digest f.fault head.is f.has refl)
            | inr t ↦ tree_after b head.hash head.digest size head.is t
          ]
    ]
