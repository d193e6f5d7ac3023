-- Bytes are one block, or have one fault.
use Rattle.std.proofs.Common.{◌≡◌, ℕ, zero, suc, ◌-◌, ◌<◌, ◌≤◌, List, [], ◌∷◌, ◌++◌, length, Result, Ok, Err, refl, sym, ap, ◌∙◌, arith, inl, inr}
use Rattle.std.specs.Prelude.{◌⊎◌}
use Rattle.std.specs.List.{AllByRecursion}
use Rattle.ots_block.specs.declared.fault.BlockReason.{BlockReason}
use Rattle.ots_block.specs.declared.fault.BlockError.{BlockError}
use Rattle.ots_block.specs.declared.fault.BlockError.TheVariants.{BadBlock}
use Rattle.ots_block.specs.Compact.{compact}
use Rattle.ots_block.specs.Block.{Contents, IsBlock}
use Rattle.ots_block.specs.Reading.{Halt, compact_at, block_at}
use Rattle.ots_block.specs.BlockRead.{placed, HasFault}
use Rattle.ots_block.specs.OneAnswer.{HasOneBlock, HasOneFault}
use Rattle.ots_block.proofs.Spelled.{IsBytes, ok_is, compact_again}
use Rattle.ots_block.proofs.Blocks.{block_takes, block_again}

are_bytes : (bytes : List ℕ) → AllByRecursion (λ b. b < 256) bytes → IsBytes bytes
are_bytes [] all i = omega arith
are_bytes (b ∷ bytes) all zero = all.0
are_bytes (b ∷ bytes) all (suc i) = are_bytes bytes all.1 i

abbrev told : ℕ → BlockReason → Result Contents BlockError
told place why = Err (BadBlock place why)

same_fault : (p q : ℕ) (v w : BlockReason) → told p v ≡ told q w → (p ≡ q) × (v ≡ w)
same_fault p q v w e = (cc, cc)

one_of : (bytes : List ℕ) (r : Result Contents Halt) → IsBytes bytes → block_at bytes ≡ r → HasOneBlock bytes ⊎ HasOneFault bytes
one_of bytes (Ok c) fits e = inl (record {
  block = c;
  is = block_takes bytes c fits e;
  only = λ other is. let same = sym (block_again bytes other is) ∙ e in ok_is other c same;
})
one_of bytes (Err h) fits e =
    let has : HasFault bytes (length bytes - h.left) h.reason = ap (placed (length bytes)) e in
    inr (record {
      place = length bytes - h.left;
      why = h.reason;
      has = has;
      only = λ other cause also. same_fault other (length bytes - h.left) cause h.reason (sym also ∙ has);
    })

pub block_or_fault_lem : (bytes : List ℕ) → AllByRecursion (λ b. b < 256) bytes → HasOneBlock bytes ⊎ HasOneFault bytes
block_or_fault_lem bytes all = one_of bytes (block_at bytes) (are_bytes bytes all) refl

pub never_both_lem : (bytes : List ℕ) (c : Contents) (place : ℕ) (why : BlockReason) → IsBlock bytes c → HasFault bytes place why → ⊥
never_both_lem bytes c place why is has = let clash : Ok c ≡ told place why = sym (ap (placed (length bytes)) (block_again bytes c is)) ∙ has in cc

within_by : (bytes : List ℕ) (r : Result Contents Halt) (place : ℕ) (why : BlockReason) → placed (length bytes) r ≡ told place why → place ≤ length bytes
within_by bytes (Ok c) place why e = absurd cc
within_by bytes (Err h) place why e = let same = same_fault (length bytes - h.left) place h.reason why e in omega (arith, same.0)

pub fault_within_lem : (bytes : List ℕ) (place : ℕ) (why : BlockReason) → HasFault bytes place why → place ≤ length bytes
fault_within_lem bytes place why has = within_by bytes (block_at bytes) place why has

pub one_form_lem : (m n : ℕ) (x y : List ℕ) → m ≤ 4194304 → n ≤ 4194304 → compact m ++ x ≡ compact n ++ y → (m ≡ n) × (x ≡ y)
one_form_lem m n x y few few′ e =
    let same : (m, x) ≡ (n, y) = ok_is (m, x) (n, y) (sym (compact_again m x few) ∙ ap compact_at e ∙ compact_again n y few′) in
    (ap (λ (p : ℕ × List ℕ). p.0) same, ap (λ (p : ℕ × List ℕ). p.1) same)
