-- Rounds, one after another.
use Rattle.std.proofs.Common.{◌≡◌, ◌≤◌, ◌<◌, ◌∙◌, ℕ, ◌+◌, ◌^◌, List, [], ◌∷◌, ◌++◌, length, map, take, Option, refl, sym, ap, subst, arith, inl, inr, append-nil, length-append}
use Rattle.std.specs.List.{AllByRecursion}
use Rattle.std.proofs.lemmas.Grind.{flat_map-append}
use Rattle.std.proofs.Math.Seq.{take-append-add}
use Rattle.std.proofs.lemmas.List.{map-append}
use Rattle.ots_address.specs.Address.{AddressParts}
use Rattle.ots_base.specs.Cause.{Rose}
use Rattle.ots_gateway.specs.Round.{EachMayServe, NoncesSeen}
use Rattle.ots_gateway_words.specs.Lines.{round_lines}
use Rattle.ots_gateway_words.specs.declared.status.GateStatus.TheVariants as status
use Rattle.ots_outside.specs.Streams.{Takes, TakesPrefix, Takes-nothing, Takes-trans}
use Rattle.ots_gateway_run.specs.Accepted.{AreFresh, Comes, GivesAllBack, IsOver, counted}
use Rattle.ots_gateway_run.specs.Going.{Ended, Going, IsFull}
use Rattle.ots_gateway_run.specs.Rounds.{AreFull, Gathered, IsRoundOf, Moment, Outside, Passes, Rounds, accept_failed, left_of, lines_of, links_of, no_memory, not_printed, over, seen, stamped}
use Rattle.ots_gateway_run.proofs.Accepts.{comes_more, comes_none, counted_more, fresh_more}
use Rattle.ots_gateway_run.proofs.GivesBack.{gives_more, gives_none}

-- a text, and then a prefix of the next
pub cut_then : (a b c : Option (List ℕ)) (first second : List ℕ) → Takes a b first → TakesPrefix b c second → TakesPrefix a c (first ++ second)
cut_then a b c first second p (n, few, q) = (
  length first + n,
  omega (arith, few, length-append first second),
  subst (Takes a c) (sym (take-append-add first second n)) (Takes-trans a b c first (take n second) p q),
)

-- ---- how many links rounds have

module _ {L : Type 0} (most : ℕ) where
  full_all : (rounds : List (Gathered L)) → 1 ≤ most → AllByRecursion (IsFull most) rounds → AreFull most (map (λ (r : Gathered L). r.links) rounds)
  full_all [] some all = tt
  full_all (r ∷ []) some all = let is = all.0 in (omega (arith, is), omega (arith, is))
  full_all (r ∷ next ∷ rounds) some all = (all.0, full_all (next ∷ rounds) some all.1)

  full_then : (rounds : List (Gathered L)) (links : List L) → AllByRecursion (IsFull most) rounds → 1 ≤ length links → length links ≤ most
      → AreFull most (map (λ (r : Gathered L). r.links) rounds ++ links ∷ [])
  full_then [] links all some few = (some, few)
  full_then (r ∷ []) links all some few = (all.0, (some, few))
  full_then (r ∷ next ∷ rounds) links all some few = (all.0, full_then (next ∷ rounds) links all.1 some few)

  full_more : (rounds : List (Gathered L)) (r : Gathered L) → AllByRecursion (IsFull most) rounds → IsFull most r → AllByRecursion (IsFull most) (rounds ++ r ∷ [])
  full_more [] r all one = (one, tt)
  full_more (x ∷ rounds) r all one = (all.0, full_more rounds r all.1 one)

module _ {A L D : Type 0} (o : Outside A L D) (calendars : List AddressParts) (least most : ℕ) where
  rounds_more : (rounds : List (Gathered L)) (r : Gathered L) (old mid new : D) (nonces between after : NoncesSeen) → Rounds o calendars least rounds old mid nonces between
      → IsRoundOf o calendars least r mid new between after → Rounds o calendars least (rounds ++ r ∷ []) old new nonces after
  rounds_more [] r old mid new nonces between after (same, also) one =
      (new, after, subst (λ (d : D). IsRoundOf o calendars least r d new nonces after) same (subst (λ (n : NoncesSeen). IsRoundOf o calendars least r mid new n after) also one), (refl, refl))
  rounds_more (x ∷ rounds) r old mid new nonces between after (d, n, is, rest) one = (d, n, is, rounds_more rounds r d mid new n between after rest one)

  -- ---- links that pass

  passes_none : (a : A) → o.accepted a < 2 ^ 64 → Passes o [] [] a a
  passes_none a bound = record { comes = comes_none (o.coming a); fresh = tt; count = omega (arith, bound); returned = gives_none (o.returned a); later = omega arith }

  passes_more : (xs ys ls ms : List L) (a b c : A) → Passes o xs ls a b → Passes o ys ms b c → Passes o (xs ++ ys) (ls ++ ms) a c
  passes_more xs ys ls ms a b c first second = record {
    comes = comes_more xs ys (o.coming a) (o.coming b) (o.coming c) first.comes second.comes;
    fresh = fresh_more o.link_told o.link_faults xs ys first.fresh second.fresh;
    count = second.count ∙ ap (λ (n : ℕ). counted n (length ys)) first.count ∙ counted_more (o.accepted a) (length xs) (length ys) ∙ ap (counted (o.accepted a)) (sym (length-append xs ys));
    returned = gives_more ls ms (o.returned a) (o.returned b) (o.returned c) first.returned second.returned;
    later = let one = first.later in let two = second.later in omega (arith, one, two);
  }

  -- The first links of those to come were accepted, and a moment later given back.
  pub record Accepts (links : List L) (a b : A) : Type 0 where
    pub comes : Comes links (o.coming a) (o.coming b)
    pub fresh : AreFresh o.link_told o.link_faults links
    pub returned : o.returned b ≡ o.returned a
    pub count : o.accepted b ≡ counted (o.accepted a) (length links)
    pub later : o.accept_faults a ≤ o.accept_faults b

  pub record GivesBack (left : List L) (b c : A) : Type 0 where
    pub returned : GivesAllBack (o.returned b) left (o.returned c)
    pub coming : o.coming c ≡ o.coming b
    pub accepted : o.accepted c ≡ o.accepted b
    pub faults : o.accept_faults c ≡ o.accept_faults b

  passes_one : (links left : List L) (a b c : A) → Accepts links a b → GivesBack left b c → Passes o links left a c
  passes_one links left a b c accepts gives = record {
    comes = subst (Comes links (o.coming a)) (sym gives.coming) accepts.comes;
    fresh = accepts.fresh;
    count = gives.accepted ∙ accepts.count;
    returned = subst (λ r. GivesAllBack r left (o.returned c)) accepts.returned gives.returned;
    later = let one = accepts.later in let two = gives.faults in omega (arith, one, two);
  }

  -- ---- the loop

  pub going_none : (first : Moment A D) (before : Option (List ℕ)) → o.accepted first.accepter < 2 ^ 64 → Going o calendars least most first first before before
  going_none first before bound = record { rounds = []; full = tt; serves = (refl, refl); passes = passes_none first.accepter bound; prints = Takes-nothing before }

  abbrev text_of : Gathered L → List ℕ
  text_of r = round_lines calendars r.outcomes (stamped r.served)

  -- the parts of one round more
  pub record Longer (rounds : List (Gathered L)) (first now : Moment A D) : Type 0 where
    pub serves : Rounds o calendars least rounds first.dialer now.dialer first.nonces now.nonces
    pub passes : Passes o (links_of rounds) (left_of rounds) first.accepter now.accepter

  longer : (first now new : Moment A D) (between : A) (before taken : Option (List ℕ)) (going : Going o calendars least most first now before taken) (r : Gathered L) → Accepts r.links now.accepter between
      → GivesBack r.left between new.accepter → IsRoundOf o calendars least r now.dialer new.dialer now.nonces new.nonces → Longer (going.rounds ++ r ∷ []) first new
  longer first now new between before taken going r accepts gives one = record {
    serves = rounds_more going.rounds r first.dialer now.dialer new.dialer first.nonces now.nonces new.nonces going.serves one;
    passes = subst (λ (xs : List L). Passes o xs (left_of (going.rounds ++ r ∷ [])) first.accepter new.accepter)
        (ap (λ (xs : List L). links_of going.rounds ++ xs) (sym (append-nil r.links)) ∙ sym (flat_map-append (λ (x : Gathered L). x.links) going.rounds (r ∷ [])))
        (subst (λ (ls : List L). Passes o (links_of going.rounds ++ r.links) ls first.accepter new.accepter)
        (ap (λ (ls : List L). left_of going.rounds ++ ls) (sym (append-nil r.left)) ∙ sym (flat_map-append (λ (x : Gathered L). x.left) going.rounds (r ∷ [])))
        (passes_more (links_of going.rounds) r.links (left_of going.rounds) r.left first.accepter now.accepter new.accepter going.passes (passes_one r.links r.left now.accepter between new.accepter accepts gives)));
  }

  lines_more : (rounds : List (Gathered L)) (r : Gathered L) → lines_of calendars (rounds ++ r ∷ []) ≡ lines_of calendars rounds ++ text_of r
  lines_more rounds r = flat_map-append text_of rounds (r ∷ []) ∙ ap (λ (ls : List ℕ). lines_of calendars rounds ++ ls) (append-nil (text_of r))

  -- a full round more
  pub going_more : (first now new : Moment A D) (between : A) (before taken then_taken : Option (List ℕ)) (going : Going o calendars least most first now before taken) (r : Gathered L) → IsFull most r
      → Accepts r.links now.accepter between → GivesBack r.left between new.accepter → IsRoundOf o calendars least r now.dialer new.dialer now.nonces new.nonces
      → Takes taken then_taken (text_of r) → Going o calendars least most first new before then_taken
  going_more first now new between before taken then_taken going r full accepts gives one prints =
      let more = longer first now new between before taken going r accepts gives one in
      record {
        rounds = going.rounds ++ r ∷ [];
        full = full_more most going.rounds r going.full full;
        serves = more.serves;
        passes = more.passes;
        prints = subst (Takes before then_taken) (sym (lines_more going.rounds r)) (Takes-trans before taken then_taken (lines_of calendars going.rounds) (text_of r) going.prints prints);
      }

  -- ---- how rounds end

  module _ (until : Option ℕ) (printing : Type 0) (first now new : Moment A D) (between : A) (before taken : Option (List ℕ)) (some : 1 ≤ most) (going : Going o calendars least most first now before taken) where
    -- no link came any more
    stays : (a : A) → Accepts [] now.accepter a → Passes o (links_of going.rounds) (left_of going.rounds) first.accepter a
    stays a accepts =
        let none : Passes o [] [] now.accepter a = record { comes = accepts.comes; fresh = tt; count = accepts.count; returned = subst (λ r. GivesAllBack (o.returned now.accepter) [] r) (sym accepts.returned) (gives_none (o.returned now.accepter)); later = accepts.later } in
        subst (λ (xs : List L). Passes o xs (left_of going.rounds) first.accepter a) (append-nil (links_of going.rounds))
        (subst (λ (ls : List L). Passes o (links_of going.rounds ++ []) ls first.accepter a) (append-nil (left_of going.rounds))
        (passes_more (links_of going.rounds) [] (left_of going.rounds) [] first.accepter now.accepter a going.passes none))

    pub over_now : (a : A) → Accepts [] now.accepter a → IsOver (o.coming a) until (o.accepted a)
        → Ended o calendars least most until printing first (record { accepter = a; dialer = now.dialer; nonces = now.nonces }) before taken status.Done
    over_now a accepts ends = (
      record { status = status.Done; lines = lines_of calendars going.rounds },
      refl,
      over going.rounds (full_all most going.rounds some going.full) going.serves (stays a accepts) ends refl,
      inl going.prints,
    )

    pub fault_now : (a : A) → Accepts [] now.accepter a → Rose (o.accept_faults now.accepter) (o.accept_faults a)
        → Ended o calendars least most until printing first (record { accepter = a; dialer = now.dialer; nonces = now.nonces }) before taken status.AcceptFault
    fault_now a accepts rose = (
      record { status = status.AcceptFault; lines = lines_of calendars going.rounds },
      refl,
      accept_failed going.rounds (full_all most going.rounds some going.full) going.serves (stays a accepts) (let later = going.passes.later in omega (arith, later, rose)) refl,
      inl going.prints,
    )

    module _ (links : List L) (accepts : Accepts links now.accepter between) (one : 1 ≤ length links) (few : length links ≤ most) where
      module _ (r : Gathered L) (is : r.links ≡ links) (gives : GivesBack r.left between new.accepter) (served : IsRoundOf o calendars least r now.dialer new.dialer now.nonces new.nonces) where
        more : Longer (going.rounds ++ r ∷ []) first new
        more = longer first now new between before taken going r (subst (λ (xs : List L). Accepts xs now.accepter between) (sym is) accepts) gives served

        full : AreFull most (map (λ (x : Gathered L). x.links) (going.rounds ++ r ∷ []))
        full = subst (AreFull most) (sym (map-append (λ (x : Gathered L). x.links) going.rounds (r ∷ [])))
            (full_then most going.rounds r.links going.full (rw is one) (rw is few))

        -- the last round
        pub over_after : (taken_then : Option (List ℕ)) → Takes taken taken_then (text_of r) → IsOver (o.coming new.accepter) until (o.accepted new.accepter)
            → Ended o calendars least most until printing first new before taken_then status.Done
        over_after taken_then prints ends = (
          record { status = status.Done; lines = lines_of calendars (going.rounds ++ r ∷ []) },
          refl,
          over (going.rounds ++ r ∷ []) full more.serves more.passes ends refl,
          inl (subst (Takes before taken_then) (sym (lines_more going.rounds r)) (Takes-trans before taken taken_then (lines_of calendars going.rounds) (text_of r) going.prints prints)),
        )

        pub fault_after : (taken_then : Option (List ℕ)) → Takes taken taken_then (text_of r) → Rose (o.accept_faults first.accepter) (o.accept_faults new.accepter)
            → Ended o calendars least most until printing first new before taken_then status.AcceptFault
        fault_after taken_then prints rose = (
          record { status = status.AcceptFault; lines = lines_of calendars (going.rounds ++ r ∷ []) },
          refl,
          accept_failed (going.rounds ++ r ∷ []) full more.serves more.passes rose refl,
          inl (subst (Takes before taken_then) (sym (lines_more going.rounds r)) (Takes-trans before taken taken_then (lines_of calendars going.rounds) (text_of r) going.prints prints)),
        )

        pub unprinted_after : (taken_then : Option (List ℕ)) → printing → TakesPrefix taken taken_then (text_of r) → Ended o calendars least most until printing first new before taken_then status.WriteFault
        unprinted_after taken_then failed prints = (
          record { status = status.WriteFault; lines = lines_of calendars (going.rounds ++ r ∷ []) },
          refl,
          not_printed (going.rounds ++ r ∷ []) full more.serves more.passes failed refl,
          inr (failed, subst (TakesPrefix before taken_then) (sym (lines_more going.rounds r)) (cut_then before taken taken_then (lines_of calendars going.rounds) (text_of r) going.prints prints), refl),
        )

      -- memory ran out
      pub lost_after : (left : List L) → GivesBack left between new.accepter → EachMayServe (map (seen o) links) (map (seen o) left)
          → Ended o calendars least most until printing first new before taken status.OutOfMemory
      lost_after left gives each = (
        record { status = status.OutOfMemory; lines = lines_of calendars going.rounds },
        refl,
        no_memory going.rounds links left now.dialer now.nonces (full_then most going.rounds links going.full one few) going.serves
            (passes_more (links_of going.rounds) links (left_of going.rounds) left first.accepter now.accepter new.accepter going.passes (passes_one links left now.accepter between new.accepter accepts gives))
            each refl,
        inl going.prints,
      )
