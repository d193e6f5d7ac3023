-- What a piece is answered, the other way: which bytes each answer comes to.
use Rattle.std.proofs.Common.{◌≡◌, ℕ, ◌+◌, ◌≤◌, List, ◌++◌, length, refl, ap, ◌∙◌, arith}
use Rattle.std.specs.Prelude.{◌≢◌, Result, Ok, Err}
use Rattle.ots_base.specs.Memory.{UnlessOutOfMemory}
use Rattle.ots_tree.specs.declared.shape.Shape.{Shape}
use Rattle.ots_tree.specs.declared.tree.Tree.{Tree}
use Rattle.ots_reader.specs.declared.fault.Fault.{Fault}
use Rattle.ots_reader.specs.declared.fault.Reason.TheVariants.{Truncated}
use Rattle.ots_reader.specs.declared.fault.ReadError.{ReadError}
use Rattle.ots_reader.specs.declared.fault.ReadError.TheVariants as error
use Rattle.ots_reader.specs.TreeFault.{HasTreeFault}
use Rattle.ots_reader.specs.TreeRead.{IsTreeAt}
use Rattle.ots_reader.proofs.OneFault.{one_fault_lem}
use Rattle.ots_reader.proofs.Walk.{one_tree_at, not_both}
use Rattle.ots_reader.specs.declared.fed.Fed.{Fed}
use Rattle.ots_reader.specs.declared.fed.Fed.TheVariants.{More, Done}
use Rattle.ots_reader.specs.Progress.{Progress, reading, ends_at, Feeds, IsExact}

-- what was fed, the piece, and its answer
pub record IsFed (at : Shape) (fed piece : List ℕ) (answer : Result Fed ReadError) : Type 0 where
  pub deep : at.depth ≤ 255
  pub now : Progress
  pub feeds : Feeds at (reading fed) piece answer now

accepts : (at : Shape) (fed piece : List ℕ) (answer : Result Fed ReadError) → IsFed at fed piece answer
    → (tree : Tree) (used : ℕ) → IsTreeAt at.length at.depth (fed ++ piece) tree (length fed + used) → UnlessOutOfMemory error.OutOfMemory answer (Ok (Done used))
accepts at fed piece (Ok More) h tree used is short = absurd (not_both at.length at.depth (fed ++ piece) tree (length fed + used) (ends_at h.feeds.0.0) h.deep is h.feeds.0.1)
accepts at fed piece (Ok (Done n)) h tree used is short =
    let one = one_tree_at at.length at.depth (fed ++ piece) h.feeds.0 tree (length fed + n) (length fed + used) h.feeds.1.is_tree is in
    let same : n ≡ used = omega (arith, one.1) in
    ap (λ (z : ℕ). Ok (Done z)) same
accepts at fed piece (Err error.OutOfMemory) h tree used is short = absurd (short refl)
accepts at fed piece (Err (error.Fault g)) h tree used is short = absurd (not_both at.length at.depth (fed ++ piece) tree (length fed + used) g h.deep is h.feeds.0.0)

refuses : (at : Shape) (fed piece : List ℕ) (answer : Result Fed ReadError) → IsFed at fed piece answer
    → (f : Fault) → f.reason ≢ Truncated → HasTreeFault at.length at.depth (fed ++ piece) f → UnlessOutOfMemory error.OutOfMemory answer (Err (error.Fault f))
refuses at fed piece (Ok More) h f other is short =
    absurd (other (ap (λ (z : Fault). z.reason) (one_fault_lem at.length at.depth (fed ++ piece) f (ends_at h.feeds.0.0) is h.feeds.0.1)))
refuses at fed piece (Ok (Done n)) h f other is short = absurd (not_both at.length at.depth (fed ++ piece) h.feeds.0 (length fed + n) f h.deep h.feeds.1.is_tree is)
refuses at fed piece (Err error.OutOfMemory) h f other is short = absurd (short refl)
refuses at fed piece (Err (error.Fault g)) h f other is short = ap (λ (z : Fault). Err (error.Fault z)) (one_fault_lem at.length at.depth (fed ++ piece) g f h.feeds.0.0 is)

goes_on : (at : Shape) (fed piece : List ℕ) (answer : Result Fed ReadError) → IsFed at fed piece answer
    → (f : Fault) → f.reason ≡ Truncated → HasTreeFault at.length at.depth (fed ++ piece) f → UnlessOutOfMemory error.OutOfMemory answer (Ok More)
goes_on at fed piece (Ok More) h f ends is short = refl
goes_on at fed piece (Ok (Done n)) h f ends is short = absurd (not_both at.length at.depth (fed ++ piece) h.feeds.0 (length fed + n) f h.deep h.feeds.1.is_tree is)
goes_on at fed piece (Err error.OutOfMemory) h f ends is short = absurd (short refl)
goes_on at fed piece (Err (error.Fault g)) h f ends is short =
    absurd (h.feeds.0.1 (ap (λ (z : Fault). z.reason) (one_fault_lem at.length at.depth (fed ++ piece) g f h.feeds.0.0 is) ∙ ends))

pub exact : (at : Shape) (fed piece : List ℕ) (answer : Result Fed ReadError) → IsFed at fed piece answer → IsExact at fed piece answer
exact at fed piece answer h = record { accepts = accepts at fed piece answer h; refuses = refuses at fed piece answer h; goes_on = goes_on at fed piece answer h }
