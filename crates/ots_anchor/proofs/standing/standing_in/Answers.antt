use Rattle.std.proofs.Common.{◌+◌, ◌≡◌, [], ◌∷◌, ◌++◌, List, ℕ, Bool, take, subst, sym, rules, arith}
use Rattle.std.specs.Prelude.{is_some}
use Rattle.std.proofs.lemmas.List.{get_or_read, take_all}
use Rattle.memchr.specs.Find.{FindsNeedle}
use Rattle.ots_anchor.specs.Standing.{IsStanding}
use Rattle.ots_anchor.proofs.Standings.{all_stand, one_standing}
use Rattle.ots_anchor.proofs.standing.standing_in.Goals as goal

pub loop-finder-preserved : goal.loop-finder-preserved
loop-finder-preserved c =
    let w = c.loop-finder in
    let root = get_or_read c.args.finders.now w.finder-index c.finder-item.result c.loop-finder-test.true c.finder-item.is [] in
    let grown : c.push.new.self.items ≡ w.standing.items ++ is_some c.find.result ∷ [] = search rules in
    subst (λ (z : List Bool). IsStanding c.in_ok-forms.forms.items (take (w.finder-index + 1) c.args.finders.now) z) (sym grown)
    (one_standing c.in_ok-forms.forms.items c.args.finders.now w.standing.items w.finder-index c.find.result c.loop-finder-test.true
    (subst (λ (r : List ℕ). FindsNeedle c.in_ok-forms.forms.items r 0 c.find.result) root
    (subst (λ (b : List ℕ). FindsNeedle b c.finder-item.result 0 c.find.result) c.deref.ensures.value c.find.ensures)) w.invariant)

pub returns : goal.returns
returns c =
    let w = c.loop-finder in
    all_stand c.args.block.now c.args.finders.now w.standing.items
    (subst (λ (z : List ℕ). IsStanding z c.args.finders.now w.standing.items) c.in_ok-forms.ensures
    (subst (λ (z : List (List ℕ)). IsStanding c.in_ok-forms.forms.items z w.standing.items) (take_all w.finder-index c.args.finders.now (let done = c.loop-finder-test.false in omega arith)) w.invariant))
