-- Laws of links that are given back.
use Rattle.std.proofs.Common.{◌≡◌, List, [], ◌∷◌, ◌++◌, reverse, Option, Some, None, sym, ap, ◌∙◌, append_assoc}
use Rattle.std.specs.Option.{option_map}
use Rattle.std.proofs.lemmas.List.{append-nil, reverse-append}
use Rattle.ots_outside.specs.Accepter.{GivesBack}
use Rattle.ots_gateway_run.specs.Accepted.{GivesAllBack}

-- None was given back.
pub gives_none : {L : Type 0} → (a : Option (List L)) → GivesAllBack a [] a
gives_none None = tt
gives_none (Some earlier) = ap Some (append-nil earlier)

-- One was given back.
pub gives_one : {L : Type 0} → (link : L) → (a b : Option (List L)) → GivesBack a link b → GivesAllBack a (link ∷ []) b
gives_one link a None given = tt
gives_one link a (Some all) given = given

-- Some were given back, and then some more.
pub gives_more : {L : Type 0} → (xs ys : List L) → (a b c : Option (List L)) → GivesAllBack a xs b → GivesAllBack b ys c
    → GivesAllBack a (xs ++ ys) c
gives_more xs ys a b None first more = tt
gives_more xs ys a None (Some all) first more = cc
gives_more xs ys None (Some some) (Some all) first more = cc
gives_more xs ys (Some earlier) (Some some) (Some all) first more =
    ap Some (sym (append_assoc earlier xs ys)) ∙ ap (option_map (λ given. given ++ ys)) first ∙ more

-- The first of these links were given back, and the others are left, the last of them first.
pub record GivenSoFar {L : Type 0} (links left : List L) (old new : Option (List L)) : Type 0 where
  pub given : List L
  pub all : links ≡ given ++ reverse left
  pub returned : GivesAllBack old given new

-- The first of those left was given back.
pub given_one_more : {L : Type 0} → (links left : List L) → (link : L) → (old now new : Option (List L))
    → GivenSoFar links (left ++ link ∷ []) old now → GivesBack now link new → GivenSoFar links left old new
given_one_more links left link old now new far gives =
    let turned = reverse-append left (link ∷ []) in
    record {
      given = far.given ++ link ∷ [];
      all = rw turned at far.all ∙ sym (append_assoc far.given (link ∷ []) (reverse left));
      returned = gives_more far.given (link ∷ []) old now new far.returned (gives_one link now new gives);
    }
