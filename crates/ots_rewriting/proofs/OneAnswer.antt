-- What a command answers that prints or rewrites proofs is the only answer.
use Rattle.std.proofs.Common.{◌≡◌, ℕ, List, ◌++◌, Some, sym, ap, subst, ◌∙◌}
use Rattle.std.specs.List.{flat_map}
use Rattle.ots_canon.specs.Join.{IsMergeOf}
use Rattle.ots_canon.proofs.Lawful.{one_form, one_join, one_prune}
use Rattle.ots_client_endings.specs.Ending.{Ending, printing}
use Rattle.ots_client_endings.specs.Reading.{WithProof}
use Rattle.ots_client_endings.specs.Writing.{Writes, WritesOf}
use Rattle.ots_client_endings.proofs.OneInput.{one_writing, with_proof}
use Rattle.ots_client_text.specs.declared.status.Status.TheVariants.{Done}
use Rattle.ots_detached.proofs.BothWays.{same_detached}
use Rattle.ots_info.specs.Listing.{file_line, item_line}
use Rattle.ots_outside.specs.Shelf.{Names}
use Rattle.ots_rewriting.specs.Info.{PrintsInfo, TellsProof}
use Rattle.ots_rewriting.specs.Merged.{Joins, Merges, differ, joined}
use Rattle.ots_rewriting.specs.Rewritten.{IsRewritten}
use Rattle.ots_rewriting.specs.declared.rewriting.Rewriting.{Rewriting}
use Rattle.ots_rewriting.specs.declared.rewriting.Rewriting.TheVariants.{Canon, Prune}
use Rattle.ots_tree.proofs.Determined.{same_pre}
use Rattle.ots_tree.specs.Listed.{listed}
use Rattle.ots_tree.specs.declared.detached.Detached.{Detached}
use Rattle.ots_tree.specs.declared.token.TokenAt.{TokenAt}

-- the text of a proof is the only one
one_text : (p : Detached) (d e : Ending) → PrintsInfo p d → PrintsInfo p e → d ≡ e
one_text p d e (text, (items, (t, ts, ls), is), f) (text', (items', (u, us, ms), is'), g) =
    let node : t ≡ u = same_pre t u (ts ∙ sym us) in
    let same : items ≡ items' = sym ls ∙ ap (listed 0) node ∙ ms in
    let texts : text ≡ text' = is ∙ ap (λ (z : List TokenAt). file_line p.hash p.digest ++ flat_map item_line z) same ∙ sym is' in
    f ∙ ap (printing Done) texts ∙ sym g

-- a result is the only one
one_rewritten : (way : Rewriting) (p r s : Detached) → IsRewritten way p r → IsRewritten way p s → r ≡ s
one_rewritten Canon p r s f g = same_detached r s (f.hash ∙ sym g.hash) (f.digest ∙ sym g.digest) (one_form p.tree r.tree s.tree f.tree g.tree)
one_rewritten Prune p r s f g = same_detached r s (f.hash ∙ sym g.hash) (f.digest ∙ sym g.digest) (one_prune p.tree r.tree s.tree f.tree g.tree)

pub rewrites : (names : Names) (way : Rewriting) (from to : List ℕ) (d e : Ending) → WithProof (Some names) from (λ p. WritesOf to (IsRewritten way p)) d
    → WithProof (Some names) from (λ p. WritesOf to (IsRewritten way p)) e → d ≡ e
rewrites names way from to d e =
    with_proof names from (λ p. WritesOf to (IsRewritten way p)) d e
    (λ p h k. one_writing to k.0 d e (subst (λ (z : Detached). Writes to z d) (one_rewritten way p h.0 k.0 h.1 k.1) h.2) k.2)

one_merged : (p q r s : Detached) → IsMergeOf p q r → IsMergeOf p q s → r ≡ s
one_merged p q r s f g = same_detached r s (f.hash ∙ sym g.hash) (f.digest ∙ sym g.digest) (one_join p.tree q.tree r.tree s.tree f.tree g.tree)

merges : (to : List ℕ) (p q : Detached) (d e : Ending) → Merges to p q d → Merges to p q e → d ≡ e
merges to p q d e (differ other f) (differ other' g) = f ∙ sym g
merges to p q d e (differ other f) (joined r is h) = absurd (other is.pair)
merges to p q d e (joined r is h) (differ other g) = absurd (other is.pair)
merges to p q d e (joined r is h) (joined s too k) =
    one_writing to s d e (subst (λ (z : Detached). Writes to z d) (one_merged p q r s is too) h) k

pub tells : (names : Names) (name : List ℕ) (d e : Ending) → TellsProof (Some names) name d → TellsProof (Some names) name e → d ≡ e
tells names name d e = with_proof names name PrintsInfo d e (λ p. one_text p d e)

pub joins : (names : Names) (first second to : List ℕ) (d e : Ending) → Joins (Some names) first second to d → Joins (Some names) first second to e → d ≡ e
joins names first second to d e =
    with_proof names first (λ p. WithProof (Some names) second (Merges to p)) d e
    (λ p. with_proof names second (Merges to p) d e (λ q. merges to p q d e))
