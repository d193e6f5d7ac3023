-- Whatever pieces a reader was fed, it stands where the bytes joined say.
use Rattle.std.proofs.Common.{◌≡◌, ℕ, ◌+◌, false, List, [], ◌∷◌, ◌++◌, length, refl, sym, ap, subst, ◌∙◌, append_assoc}
use Rattle.std.specs.Prelude.{◌≢◌, ◌≤◌, Result, Ok, Err}
use Rattle.std.proofs.lemmas.List.{append-nil}
use Rattle.ots_tree.specs.declared.shape.Shape.{Shape}
use Rattle.ots_tree.specs.declared.tree.Tree.{Tree}
use Rattle.ots_reader.specs.declared.fault.ReadError.{ReadError}
use Rattle.ots_reader.specs.declared.fault.ReadError.TheVariants as error
use Rattle.ots_reader.specs.declared.fault.Reason.TheVariants.{Truncated}
use Rattle.ots_reader.specs.OneAnswer.{IsShape}
use Rattle.ots_reader.proofs.Stays.{fault_stays}
use Rattle.ots_reader.proofs.OneFault.{one_fault_lem}
use Rattle.ots_reader.proofs.Walk.{walk_start, token_stops, one_tree_at, not_both}
use Rattle.ots_reader.specs.declared.fault.Fault.{Fault}
use Rattle.ots_reader.specs.declared.fed.Fed.{Fed}
use Rattle.ots_reader.specs.declared.fed.Fed.TheVariants.{More, Done}
use Rattle.ots_reader.specs.Progress.{Progress, reading, whole, refused, ends_at, GoesOn, IsRefusal, Feeds}
use Rattle.ots_reader.specs.Run.{Run, none, more, joined, StandsFor}
use Rattle.ots_reader.proofs.Steps.{none_cut}

begins : (at : Shape) → GoesOn at []
begins at = (0, token_stops at.length at.depth [] [] (record { length = at.length; depth = at.depth }) [] false 0 Truncated (walk_start at.length at.depth []) none_cut)

refused_more : (at : Shape) (bytes x : List ℕ) (e : ReadError) → IsRefusal at bytes e → IsRefusal at (bytes ++ x) e
refused_more at bytes x error.OutOfMemory h = tt
refused_more at bytes x (error.Fault f) h = (fault_stays at.length at.depth bytes x f h.1 h.0, h.1)

-- one piece more
fed_stands : (at : Shape) (bytes piece : List ℕ) (p q : Progress) (answer : Result Fed ReadError) → StandsFor at bytes p → Feeds at p piece answer q → StandsFor at (bytes ++ piece) q
fed_stands at bytes piece (reading fed) q (Ok More) s f = subst (StandsFor at (bytes ++ piece)) (sym f.1) (ap (λ (z : List ℕ). z ++ piece) s.0, rw s.0 at f.0)
fed_stands at bytes piece (reading fed) q (Ok (Done used)) s f = subst (StandsFor at (bytes ++ piece)) (sym f.2) (length bytes + used, rw s.0 at f.1.is_tree)
fed_stands at bytes piece (reading fed) q (Err e) s f = subst (StandsFor at (bytes ++ piece)) (sym f.1) (rw s.0 at f.0)
fed_stands at bytes piece (whole tree) q answer s f = absurd f
fed_stands at bytes piece (refused e) q answer s f = subst (StandsFor at (bytes ++ piece)) (sym f.1) (refused_more at bytes piece e s)

goes_from : (at : Shape) (bytes : List ℕ) (p : Progress) (pieces : List (List ℕ)) (last : Progress) → StandsFor at bytes p → Run at p pieces last → StandsFor at (bytes ++ joined pieces) last
goes_from at bytes p [] last s (none q) = rw append-nil s
goes_from at bytes p (piece ∷ pieces) last s (more o q l i is answer f r) =
    subst (λ (z : List ℕ). StandsFor at z last) (append_assoc bytes piece (joined pieces)) (goes_from at (bytes ++ piece) q pieces last (fed_stands at bytes piece p q answer s f) r)

pub run_stands : (at : Shape) (pieces : List (List ℕ)) (last : Progress) → IsShape at.length at.depth → Run at (reading []) pieces last → StandsFor at (joined pieces) last
run_stands at pieces last shape r = goes_from at [] (reading []) pieces last (refl, begins at) r

-- ---- bytes stand for one progress alone

read_or_whole : (at : Shape) (bytes fed : List ℕ) (tree : Tree) → at.depth ≤ 255 → StandsFor at bytes (reading fed) → StandsFor at bytes (whole tree) → ⊥
read_or_whole at bytes fed tree deep s t = not_both at.length at.depth bytes tree t.0 (ends_at s.1.0) deep t.1 s.1.1

read_or_refused : (at : Shape) (bytes fed : List ℕ) (f : Fault) → StandsFor at bytes (reading fed) → StandsFor at bytes (refused (error.Fault f)) → ⊥
read_or_refused at bytes fed f s t = t.1 (ap (λ (z : Fault). z.reason) (one_fault_lem at.length at.depth bytes f (ends_at s.1.0) t.0 s.1.1))

whole_or_refused : (at : Shape) (bytes : List ℕ) (tree : Tree) (f : Fault) → at.depth ≤ 255 → StandsFor at bytes (whole tree) → StandsFor at bytes (refused (error.Fault f)) → ⊥
whole_or_refused at bytes tree f deep s t = not_both at.length at.depth bytes tree s.0 f deep s.1 t.0

pub one_stands : (at : Shape) (bytes : List ℕ) (p q : Progress) → IsShape at.length at.depth → StandsFor at bytes p → StandsFor at bytes q
    → p ≢ refused error.OutOfMemory → q ≢ refused error.OutOfMemory → p ≡ q
one_stands at bytes (refused error.OutOfMemory) q h s t m n = absurd (m refl)
one_stands at bytes (reading a) (refused error.OutOfMemory) h s t m n = absurd (n refl)
one_stands at bytes (reading a) (reading b) h s t m n = ap reading (s.0 ∙ sym t.0)
one_stands at bytes (reading a) (whole u) h s t m n = absurd (read_or_whole at bytes a u h.depth s t)
one_stands at bytes (reading a) (refused (error.Fault g)) h s t m n = absurd (read_or_refused at bytes a g s t)
one_stands at bytes (whole u) (refused error.OutOfMemory) h s t m n = absurd (n refl)
one_stands at bytes (whole u) (reading a) h s t m n = absurd (read_or_whole at bytes a u h.depth t s)
one_stands at bytes (whole u) (whole v) h s t m n = ap whole (one_tree_at at.length at.depth bytes u v s.0 t.0 s.1 t.1).0
one_stands at bytes (whole u) (refused (error.Fault g)) h s t m n = absurd (whole_or_refused at bytes u g h.depth s t)
one_stands at bytes (refused (error.Fault f)) (refused error.OutOfMemory) h s t m n = absurd (n refl)
one_stands at bytes (refused (error.Fault f)) (reading a) h s t m n = absurd (read_or_refused at bytes a f t s)
one_stands at bytes (refused (error.Fault f)) (whole u) h s t m n = absurd (whole_or_refused at bytes u f h.depth t s)
one_stands at bytes (refused (error.Fault f)) (refused (error.Fault g)) h s t m n = ap (λ (z : Fault). refused (error.Fault z)) (one_fault_lem at.length at.depth bytes f g s.0 t.0)
