-- What is asked, whether or not it comes to an end, and what comes of it.
use Rattle.std.proofs.Common.{◌≡◌, ◌<◌, inr, ℕ, List, [], ◌∷◌, Option, Some, refl, ap, length, subst, arith}
use Rattle.std.proofs.lemmas.List.{length-append}
use Rattle.ots_address.specs.Address.{AddressParts}
use Rattle.ots_address.specs.AddressList.{IsListOf}
use Rattle.ots_asking.specs.Conversation.{Converse, ConverseUpTo, Question}
use Rattle.ots_asking.specs.declared.outcome.Outcome.{Outcome}
use Rattle.ots_base.specs.declared.limits.TheConstants.{MAX_PROOF_FILE}
use Rattle.ots_client_endings.specs.Ending.{Ending}
use Rattle.ots_client_endings.specs.Outside.{Hears, alone}
use Rattle.ots_client_endings.specs.Reading.{is_list, is_given}
use Rattle.ots_client_words.specs.Words.{Upgrading}
use Rattle.ots_completing.specs.Asking.{AsksUpTo}
use Rattle.ots_completing.specs.Upgrade.{Upgrades, UpgradesFile, WritesAsked}
use Rattle.ots_detached.specs.File.{IsFileOf, file_of, header}
use Rattle.ots_inputs.specs.Under.{HasUnder}
use Rattle.ots_outside.specs.Dialer.{DialerTold}
use Rattle.ots_outside.specs.Shelf.{Names}
use Rattle.ots_tree.specs.Wire.{spelled}
use Rattle.ots_tree.specs.declared.detached.Detached.{Detached}
use Rattle.ots_upgrade.specs.Upgrading.{UpgradesUpTo, UpgradesWithin, outcomes, questions}
use Rattle.ots_upgrade.specs.declared.asking.AskedAt.{AskedAt}
use Rattle.ots_upgrade.specs.declared.upgrading.UpgradedWithin.{UpgradedWithin}

module _ {D : Type 0} (told : D → DialerTold) (faults : D → ℕ) where
  same_told : (old new : D) → new ≡ old → ConverseUpTo told faults [] old new
  same_told old new is = record {
    sent = ap (λ d. (told d).sent) is;
    replies = ap (λ d. (told d).replies) is;
    slots = λ k. ap (λ d. (told d).slots k) is;
    later = let same = ap faults is in omega (arith, same);
  }

  -- All of it was asked.
  all_asked : (qs : List Question) (old new : D) (os : List Outcome) → Converse told faults qs old new os → ConverseUpTo told faults qs old new
  all_asked [] old new [] h = same_told old new h
  all_asked [] old new (x ∷ os) h = absurd h
  all_asked (q ∷ qs) old new [] h = absurd h
  all_asked (q ∷ qs) old new (x ∷ os) h = inr (inr (h.0, x, h.1, all_asked qs h.0 new os h.2))

  module _ {names : Option Names} {u : Upgrading} {calendars : List AddressParts} {p : Detached} {old new : D} (list : IsListOf u.calendars calendars)
      (has : HasUnder names u.proof (λ bytes. IsFileOf bytes p)) where
    pub asks_some : UpgradesUpTo told faults calendars p old new → AsksUpTo told faults names u old new
    asks_some h = record { calendars = calendars; is_list = list; proof = p; is_proof = has; asks = h }

    pub asks_all : {most : ℕ} {within : UpgradedWithin} → UpgradesWithin told faults calendars p most old new within → AsksUpTo told faults names u old new
    asks_all h = asks_some (record {
      pairs = h.upgrades.pairs;
      are = h.upgrades.are;
      conversed = all_asked (questions calendars h.upgrades.pairs) old new (outcomes h.upgraded.asked) h.upgrades.asks.conversed;
    })

    -- what comes of it is written
    pub comes : {most : ℕ} {within : UpgradedWithin} (h : UpgradesWithin told faults calendars p most old new within) (e : Ending) → WritesAsked within.asked u.to h.upgraded.proof e
        → Upgrades (Hears told faults old new) names u e
    comes h e writes = (
      record { nonces = Some []; questions = questions calendars h.upgrades.pairs; outcomes = outcomes h.upgraded.asked },
      record { heard = h.upgrades.asks.conversed; none = refl },
      is_list calendars list (is_given p has (
        h.upgraded.asked,
        h.upgraded.proof,
        record {
          pairs = h.upgrades.pairs;
          are = h.upgrades.are;
          are_asked = h.upgrades.asks.are;
          questions_are = refl;
          outcomes_are = refl;
          hash = h.upgrades.hash;
          digest = h.upgrades.digest;
          tree = h.upgrades.tree;
        },
        subst (λ (z : List AskedAt). WritesAsked z u.to h.upgraded.proof e) h.asked writes,
      )),
    )

  -- nobody is heard
  pub unheard : (names : Option Names) (u : Upgrading) (d : D) (e : Ending) → UpgradesFile alone names u e → Upgrades (Hears told faults d d) names u e
  unheard names u d e h = (alone, record { heard = refl; none = refl }, h)

-- a file is longer than the tree in it
pub longer : (p : Detached) → MAX_PROOF_FILE < length (spelled p.tree) → MAX_PROOF_FILE < length (file_of p)
unfolding file_of
longer p h = omega (arith, length-append (header p.hash p.digest) (spelled p.tree))
