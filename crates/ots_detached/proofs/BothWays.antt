-- What reading a proof file answers, both ways.
use Rattle.std.proofs.Common.{◌≡◌, ℕ, ◌<◌, ◌≤◌, List, [], ◌++◌, length, Option, refl, sym, ap, subst, ◌∙◌, arith}
use mathlib.Core.HLevel.{is_prop→PathP}
use Rattle.std.proofs.Math.Nat.{ℕ_set}
use Rattle.ots_ops.specs.HashOp.{digest_length}
use Rattle.ots_tree.specs.Sound.{IsSoundPre}
use Rattle.std.specs.Prelude.{Result, Ok, Err, IfOk, IfErr, Vec}
use Rattle.std.specs.declared.alloc.Global.{Global}
use Rattle.ots_outside.specs.Input.{ReadsAll}
use Rattle.ots_tree.specs.declared.detached.Detached.{Detached}
use Rattle.ots_tree.specs.Wire.{pre}
use Rattle.ots_reader.specs.declared.fault.Fault.{Fault}
use Rattle.ots_detached.specs.declared.reading.FileError.{FileError}
use Rattle.ots_detached.specs.declared.reading.FileError.TheVariants.{ReadFault, TooBig, BadProof, OutOfMemory}
use Rattle.ots_detached.specs.File.{IsFileOf}
use Rattle.ots_detached.specs.FileFault.{HasFault}
use Rattle.ots_detached.specs.FileRead.{IsFileError, ReadsFile}
use Rattle.ots_detached.proofs.Files.{file_apart, never_both, one_fault}

-- proofs are the same where their three parts are
pub same_detached : (p q : Detached) → p.hash ≡ q.hash → p.digest ≡ q.digest → p.tree ≡ q.tree → p ≡ q
same_detached p q h d t = λ i. record {
  hash = h i;
  digest = d i;
  tree = t i;
  digest_of_hash = is_prop→PathP (λ j. length (d j) ≡ digest_length (h j)) (λ j. ℕ_set _ _) p.digest_of_hash q.digest_of_hash i;
  tree_sound = is_prop→PathP (λ j. ∥ IsSoundPre (length (d j)) 0 (t j) ∥₁) (λ j. hlevel) p.tree_sound q.tree_sound i;
}

-- bytes are the file of one proof
pub one_file : (b : List ℕ) (p q : Detached) → IsFileOf b p → IsFileOf b q → p ≡ q
one_file b p q f g =
    let same = file_apart p.hash q.hash p.digest q.digest f.tree g.tree [] [] f.has_file g.has_file (ap (λ (z : List ℕ). z ++ []) (sym f.spelled ∙ g.spelled)) in
    same_detached p q same.hash same.digest (sym f.tokens ∙ ap pre same.tree ∙ g.tokens)

pub no_fault : (b : List ℕ) (p : Detached) (f : Fault) → IsFileOf b p → HasFault b f → ⊥
no_fault b p f is fault = never_both b p.hash p.digest is.tree f is.has_file is.spelled fault

pub file_size : (b : List ℕ) (p : Detached) → IsFileOf b p → length b ≤ 4194304
file_size b p is = rw is.spelled is.has_file.size

pub accepted : (b : List ℕ) (r : Result Detached FileError) → IfOk r (IsFileOf b) → IfErr r (IsFileError b) → (p : Detached) → IsFileOf b p → (r ≡ Err OutOfMemory → ⊥) → r ≡ Ok p
accepted b (Ok q) ok err p is short = ap (λ (z : Detached). Ok z) (one_file b q p ok is)
accepted b (Err TooBig) ok err p is short = absurd (let size = file_size b p is in omega arith)
accepted b (Err (BadProof f)) ok err p is short = absurd (no_fault b p f is err.1)
accepted b (Err ReadFault) ok err p is short = absurd err
accepted b (Err OutOfMemory) ok err p is short = absurd (short refl)

pub refused : (b : List ℕ) (r : Result Detached FileError) → IfOk r (IsFileOf b) → IfErr r (IsFileError b) → (f : Fault) → length b ≤ 4194304 → HasFault b f → (r ≡ Err OutOfMemory → ⊥) → r ≡ Err (BadProof f)
refused b (Ok q) ok err f size fault short = absurd (no_fault b q f ok fault)
refused b (Err TooBig) ok err f size fault short = absurd (omega arith)
refused b (Err (BadProof g)) ok err f size fault short = ap (λ (z : Fault). Err (BadProof z)) (one_fault b g f err.1 fault)
refused b (Err ReadFault) ok err f size fault short = absurd err
refused b (Err OutOfMemory) ok err f size fault short = absurd (short refl)

-- ---- from a source

pub reads : (old new : Option (List ℕ)) (bytes : Vec ℕ Global) (b : List ℕ) (r : Result Detached FileError) → ReadsAll 4194304 old new (Ok bytes) → b ≡ bytes.items
    → IfOk r (IsFileOf b) → IfErr r (IsFileError b) → ReadsFile old new r
reads old new bytes b (Ok p) all is ok err =
    record { came = all.came; gave = all.gave; at_most = all.at_most; tells = (all.ok.1, subst (λ (z : List ℕ). IsFileOf z p) (is ∙ all.ok.0) ok) }
reads old new bytes b (Err TooBig) all is ok err = record { came = all.came; gave = all.gave; at_most = all.at_most; tells = subst (λ (z : List ℕ). 4194304 < length z) (is ∙ all.ok.0) err }
reads old new bytes b (Err (BadProof f)) all is ok err = record {
  came = all.came;
  gave = all.gave;
  at_most = all.at_most;
  tells = (
    all.ok.1,
    subst (λ (z : List ℕ). length z ≤ 4194304) (is ∙ all.ok.0) err.0,
    subst (λ (z : List ℕ). HasFault z f) (is ∙ all.ok.0) err.1,
  );
}
reads old new bytes b (Err ReadFault) all is ok err = absurd err
reads old new bytes b (Err OutOfMemory) all is ok err = record { came = all.came; gave = all.gave; at_most = all.at_most; tells = tt }
