use Rattle.std.proofs.Common.{◌≢◌, ℕ, List, map, subst, arith}
use Rattle.std.specs.Prelude.{All}
use Rattle.std.proofs.lemmas.List.{take_all}
use Rattle.ots_address.specs.Address.{text_of}
use Rattle.ots_address.proofs.ListLemmas.{has_text_at, lacks_text_more}
use Rattle.ots_address.proofs.list.has_text.Goals as goal

pub returns-then-eq-clause-yes : goal.returns-then-eq-clause-yes
returns-then-eq-clause-yes c = λ _ all.
    has_text_at c.args.addresses.now c.loop-address.address-index c.address-item.result _ _ _ (omega arith) c.address-item.is c.text.ensures.text c.eq.ensures c.if-eq.true all

pub loop-address-preserved : goal.loop-address-preserved
loop-address-preserved c =
    lacks_text_more c.args.addresses.now c.loop-address.address-index c.address-item.result _ _ _ (omega arith) c.address-item.is c.text.ensures.text c.eq.ensures c.if-eq.false c.loop-address.invariant

pub returns-clause-no : goal.returns-clause-no
returns-clause-no c = λ _.
    subst (λ z. All (λ (earlier : List ℕ). earlier ≢ c.args.text.now) (map text_of z)) (take_all c.loop-address.address-index c.args.addresses.now (omega arith)) c.loop-address.invariant
