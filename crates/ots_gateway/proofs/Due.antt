-- The reply that is due to a digest.
use Rattle.std.proofs.Common.{◌≡◌, ◌∙◌, ℕ, List, [], sym, ap, append-nil}
use Rattle.std.specs.Prelude.{None, Some, Result, Ok, Err, IfOk}
use Rattle.ots_http.specs.declared.replying.Reply.TheVariants as reply
use Rattle.ots_http.specs.declared.word.Word.TheVariants.{Upstream}
use Rattle.ots_ops.specs.declared.op.Op.{Op}
use Rattle.ots_tree.proofs.Determined.{pre-apart}
use Rattle.ots_tree.specs.Made.{IsUnder, chain}
use Rattle.ots_tree.specs.Wire.{Node, pre}
use Rattle.ots_tree.specs.declared.token.Token.{Token}
use Rattle.ots_gateway.specs.Answer.{IsAnswer}
use Rattle.ots_gateway.specs.Round.{Given, below, due, in_words, too_few, tree_from}
use Rattle.ots_gateway.specs.declared.answer.Answer.{Answer}
use Rattle.ots_gateway.specs.declared.waiting.Waiting.{Waiting}

-- tokens are those of one node
pub one_node : (t u : Node) → pre t ≡ pre u → t ≡ u
one_node t u same = (pre-apart t u [] [] (append-nil (pre t) ∙ same ∙ sym (append-nil (pre u)))).0

pub under_is : {E : Type 0} (r : Result (List Token) E) (ops : List Op) (tree : List Token) (node : Node) → IfOk r (IsUnder ops tree) → pre node ≡ tree
    → IfOk r (λ made. made ≡ pre (chain ops node))
under_is (Err e) ops tree node under is = tt
under_is (Ok made) ops tree node under is =
    sym under.made_is ∙ ap (λ (n : Node). pre (chain ops n)) (one_node under.node node (under.node_is ∙ sym is))

pub due_some : (given : Given) (a : Answer) (place : ℕ) (w : Waiting) (tree : List Token) → IsAnswer given (Some a)
    → ((node : Node) → pre node ≡ a.tree → tree ≡ tree_from a.ways node place w.nonce) → reply.Tree tree ≡ due given place w
due_some too_few a place w tree is made = absurd is
due_some (below over node) a place w tree is made =
    ap reply.Tree (made node is.1 ∙ ap (λ (ways : List (List ℕ)). tree_from ways node place w.nonce) is.0)

pub due_none : (given : Given) (place : ℕ) (w : Waiting) → IsAnswer given None → in_words Upstream ≡ due given place w
due_none too_few place w is = λ i. in_words Upstream
due_none (below over node) place w is = absurd is
