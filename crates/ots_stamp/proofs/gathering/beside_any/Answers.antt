use Rattle.std.proofs.Common.{List, Option, subst}
use Rattle.ots_tree.specs.declared.token.Token.{Token}
use Rattle.ots_asking.specs.Outcome.{IsSoundGathered}
use Rattle.ots_stamp.specs.Stamped.{GathersAny}
use Rattle.ots_tree.proofs.Determined.{pre-apart}
use Rattle.ots_tree.proofs.MadePaths.{paths-joined, sound_beside as made_beside}
use Rattle.ots_stamp.proofs.Gathered.{first_gathered, more_gathered, sound_beside}
use Rattle.ots_stamp.proofs.gathering.beside_any.Goals as goal

pub returns-in-Some-clause-gathered : goal.returns-in-Some-clause-gathered
returns-in-Some-clause-gathered c = λ trees all.
    more_gathered trees c.in-Some.before c.args.tree c.beside.result pre-apart paths-joined
    (subst (λ (o : Option (List Token)). GathersAny trees o) c.in-Some.is all) c.beside.ensures

pub returns-in-Some-clause-sound : goal.returns-in-Some-clause-sound
returns-in-Some-clause-sound c = λ n k before tree.
    sound_beside n k c.in-Some.before c.args.tree c.beside.result made_beside
    (subst (λ (o : Option (List Token)). IsSoundGathered n k o) c.in-Some.is before) tree c.beside.ensures

pub returns-in-None-clause-gathered : goal.returns-in-None-clause-gathered
returns-in-None-clause-gathered c = λ trees all.
    first_gathered trees c.args.tree (subst (λ (o : Option (List Token)). GathersAny trees o) c.in-None.is all) c.tokens.ensures.pre

pub returns-in-None-clause-sound : goal.returns-in-None-clause-sound
returns-in-None-clause-sound c = λ n k before tree. tree
