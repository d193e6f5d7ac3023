use Rattle.std.proofs.Common.{rules, ◌≡◌, ◌∙◌, ◌+◌, ◌++◌, ◌∷◌, [], None, take, sym}
use Rattle.std.proofs.lemmas.List.{append-nil}
use Rattle.ots_tree.specs.declared.token.Token.TheVariants as token
use Rattle.ots_pending.proofs.Walking.{numbers_follow, op_followed, none_noted, nothing_noted}
use Rattle.ots_pending.proofs.walk.follow.Goals as goal

pub returns-in_ok-push : goal.returns-in_ok-push
returns-in_ok-push c =
    let is : c.args.token.now ≡ token.Op c.in-Op.op = search rules in
    let numbers : c.push.new.self.items ≡ take (c.args.depth + 1) c.args.path.now.numbers.items ++ None ∷ [] = search rules in
    record {
      messages = c.in_ok-follow.ensures ∙ sym (op_followed c.args.token.now c.in-Op.op c.args.depth c.args.path.now.messages is);
      numbers = λ all. numbers_follow all c.args.path.now (record { messages = c.follow.new.self; numbers = c.push.new.self }) (c.args.depth + 1) _ _ none_noted c.in_ok-follow.ensures numbers;
    }

pub returns-else-len-depth : goal.returns-else-len-depth
returns-else-len-depth c =
    let is : c.args.token.now ≡ token.Op c.in-Op.op = search rules in
    let numbers : c.truncate.new.self.items ≡ take (c.args.depth + 1) c.args.path.now.numbers.items ++ [] = c.truncate.ensures.items ∙ sym (append-nil _) in
    record {
      messages = c.in_ok-follow.ensures ∙ sym (op_followed c.args.token.now c.in-Op.op c.args.depth c.args.path.now.messages is);
      numbers = λ all. numbers_follow all c.args.path.now (record { messages = c.follow.new.self; numbers = c.truncate.new.self }) (c.args.depth + 1) _ _ nothing_noted c.in_ok-follow.ensures numbers;
    }
