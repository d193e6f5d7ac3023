use Rattle.std.proofs.Common.{rules, ◌≡◌, ◌∙◌, ◌++◌, ◌∷◌, [], List, ap, append_assoc}
use Rattle.ots_tree.specs.declared.token.Token.{Token}
use Rattle.ots_pending.proofs.Raising.{on_ok}
use Rattle.ots_pending.proofs.Putting.{turned_after}
use Rattle.ots_pending.proofs.growing.put_items.Goals as goal

pub returns : goal.returns
returns c =
    let is : c.args.tokens.now ≡ c.in-Some.items.now ++ c.in-Some.last.now ∷ [] = search rules in
    let pushed : c.push.new.self.items ≡ c.args.made.now.items ++ c.in-Some.last.now ∷ [] = search rules in
    on_ok c.copy_to-2.result (λ copied.
    copied
    ∙ ap (λ (z : List Token). z ++ c.in-Some.items.now) pushed
    ∙ append_assoc c.args.made.now.items (c.in-Some.last.now ∷ []) c.in-Some.items.now
    ∙ ap (λ (z : List Token). c.args.made.now.items ++ z) (turned_after c.args.after_fork c.args.tokens.now c.in-Some.items.now c.in-Some.last.now c.if-not-after_fork.false is)) c.copy_to-2.ensures
