-- Links that were answered by what some records begin with.
use Rattle.std.proofs.Common.{◌≡◌, ℕ, List, [], ◌∷◌, ◌++◌, Bool, true, false, not, ◌||◌, Option, Some, None, refl, sym, subst, ◌∙◌}
use Rattle.std.proofs.lemmas.List.Elements.{All-push, All-weaker}
use Rattle.ots_connection.proofs.Later.{within_more}
use Rattle.ots_connection.specs.Answered.{IsAnsweredWithin}
use Rattle.ots_outside.specs.Accepter.{GivesBack}
use Rattle.ots_outside.specs.Link.{LinkTold}
use Rattle.ots_shared.specs.Records.{StartsWith}
use Rattle.ots_store.specs.Records.{Record}
use Rattle.ots_workers.specs.Returned.{AllWithin}

module _ {L : Type 0} (told : L → Option LinkTold) (faults : L → ℕ) where
  -- by more records, too
  pub all_more : (more records : List Record) → StartsWith more records → (links : Option (List L)) → AllWithin records told faults links → AllWithin more told faults links
  all_more more records starts None all = tt
  all_more more records starts (Some links) all =
      All-weaker (λ l. IsAnsweredWithin records (told l) (faults l)) (λ l. IsAnsweredWithin more (told l) (faults l)) (λ l. within_more more records starts (told l) (faults l)) links all

  -- and one more link
  and_one : (records : List Record) (old new : Option (List L)) (link : L) → AllWithin records told faults old → GivesBack old link new → IsAnsweredWithin records (told link) (faults link)
      → AllWithin records told faults new
  and_one records old None link all gives one = tt
  and_one records None (Some links) link all gives one = absurd (let not : (let none : Option (List L) = None in none) ≡ Some links = gives in cc)
  and_one records (Some earlier) (Some links) link all gives one =
      let is : earlier ++ link ∷ [] ≡ links = cc in
      subst (λ (z : List L). AllWithin records told faults (Some z)) is (All-push (λ l. IsAnsweredWithin records (told l) (faults l)) earlier link all one)

  -- a link that was given back, where none is without its reply
  pub given_back : (seen before mine : List Record) (old new : Option (List L)) (link : L) (answered short now : Bool) → now ≡ (not answered || short) → now ≡ false
      → (short ≡ false → AllWithin before told faults old) → StartsWith seen before → (answered ≡ true → IsAnsweredWithin mine (told link) (faults link)) → StartsWith seen mine → GivesBack old link new
      → AllWithin seen told faults new
  given_back seen before mine old new link false short now is whole all starts one from gives = absurd (let not : true ≡ false = sym is ∙ whole in cc)
  given_back seen before mine old new link true true now is whole all starts one from gives = absurd (let not : true ≡ false = sym is ∙ whole in cc)
  given_back seen before mine old new link true false now is whole all starts one from gives =
      and_one seen old new link (all_more seen before starts old (all refl)) gives (within_more seen mine from (told link) (faults link) (one refl))
