-- What a run leaves of each link that it gives back.
use Rattle.std.proofs.Common.{◌≡◌, ◌<◌, ◌∙◌, ℕ, suc, ◌+◌, List, [], ◌∷◌, ◌++◌, length, map, take, Option, None, Some, Ok, Err, refl, sym, subst, ap, arith, inl, inr, append-nil, append_assoc, slice_get}
use Rattle.std.specs.List.{AllByRecursion}
use Rattle.std.proofs.lemmas.List.{append_cancel_left}
use Rattle.ots_address.specs.Address.{AddressParts}
use Rattle.ots_address.specs.AddressList.{IsListOf}
use Rattle.ots_base.specs.Cause.{Rose}
use Rattle.ots_base.specs.Told.{BothTold, IfTold}
use Rattle.ots_gateway.specs.Round.{Asks, Given, Heard, NoncesSeen, Reads, Sends, ServeAll, Serves, cut, digest, next, no_nonce, other, waiting_of, whole}
use Rattle.ots_gateway.specs.Ways.{leaves}
use Rattle.ots_gateway.specs.declared.served.GateServed.{GateServed}
use Rattle.ots_outputs.specs.Printed.{PrintsLastOr}
use Rattle.ots_gateway_words.specs.Refusal.{refusal_text}
use Rattle.ots_gateway_words.specs.Words.{Gathering}
use Rattle.ots_gateway_words.specs.declared.status.GateStatus.TheVariants as status
use Rattle.ots_http.specs.ReplyText.{reply_bytes}
use Rattle.ots_http.specs.RequestRead.{IsRequestAnswer}
use Rattle.ots_http.specs.Seen.{LinkSeen, Took}
use Rattle.ots_http.specs.declared.replying.Reply.{Reply}
use Rattle.ots_http.specs.declared.request.Request.TheVariants.{Digest, Timestamp, Records, Refused}
use Rattle.ots_http.specs.declared.request.RequestError.TheVariants as unread
use Rattle.ots_outside.specs.Dialer.{DialerTold}
use Rattle.ots_outside.specs.Link.{IsFresh, LinkTold}
use Rattle.ots_asking.specs.declared.outcome.Outcome.{Outcome}
use Rattle.ots_gateway_run.specs.Accepted.{AreFresh, GivesAllBack}
use Rattle.ots_gateway_run.specs.Answered.{IsAnswered, IsReplied, empty, failed, replied, reply_to, request_of, untold}
use Rattle.ots_gateway_run.specs.Rounds.{Gathered, Moment, Outside, Passes, Rounds, RoundsEnd, Serves as ServesRounds, accept_failed, left_of, links_of, no_memory, not_printed, over, seen}
use Rattle.ots_gateway_run.specs.Run.{Ends, OverAsked, OverCalendars, OverWords, asks, bad_address, calendars, no_address_memory, no_room, no_words_memory, serves, unheard, unprinted, usage}

-- ---- lists

at_length : {X : Type 0} (before : List X) (x : X) (rest : List X) → slice_get (before ++ x ∷ rest) (length before) ≡ Some x
at_length [] x rest = refl
at_length (y ∷ before) x rest = at_length before x rest

take_length : {X : Type 0} (before rest : List X) → take (length before) (before ++ rest) ≡ before
take_length [] rest = refl
take_length (y ∷ before) rest = ap (λ z. y ∷ z) (take_length before rest)

all_front : {X : Type 0} (P : X → Type 0) (xs ys : List X) → AllByRecursion P (xs ++ ys) → AllByRecursion P xs
all_front P [] ys all = tt
all_front P (x ∷ xs) ys (one, all) = (one, all_front P xs ys all)

all_back : {X : Type 0} (P : X → Type 0) (xs ys : List X) → AllByRecursion P (xs ++ ys) → AllByRecursion P ys
all_back P [] ys all = all
all_back P (x ∷ xs) ys (one, all) = all_back P xs ys all

all_both : {X : Type 0} (P : X → Type 0) (xs ys : List X) → AllByRecursion P xs → AllByRecursion P ys → AllByRecursion P (xs ++ ys)
all_both P [] ys first second = second
all_both P (x ∷ xs) ys (one, first) second = (one, all_both P xs ys first second)

-- of what was heard, and then one more, the digests that wait
next_place : (before : List Heard) (h : Heard) → next h (length (waiting_of before)) ≡ length (waiting_of (before ++ h ∷ []))
next_place before (digest w) = sym (more before)
  where
    more : (before : List Heard) → length (waiting_of (before ++ digest w ∷ [])) ≡ length (waiting_of before) + 1
    more [] = refl
    more (digest v ∷ before) = omega (arith, more before)
    more (no_nonce leaf ∷ before) = more before
    more (other request ∷ before) = more before
next_place before (no_nonce leaf) = sym (as_many before)
  where
    as_many : (before : List Heard) → length (waiting_of (before ++ no_nonce leaf ∷ [])) ≡ length (waiting_of before)
    as_many [] = refl
    as_many (digest v ∷ before) = ap suc (as_many before)
    as_many (no_nonce l ∷ before) = as_many before
    as_many (other request ∷ before) = as_many before
next_place before (other request) = sym (as_many before)
  where
    as_many : (before : List Heard) → length (waiting_of (before ++ other request ∷ [])) ≡ length (waiting_of before)
    as_many [] = refl
    as_many (digest v ∷ before) = ap suc (as_many before)
    as_many (no_nonce l ∷ before) = as_many before
    as_many (other r ∷ before) = as_many before

-- ---- one link

-- a count that rose from none is above none
risen : (before now : ℕ) → before ≡ 0 → Rose before now → 0 < now
risen before now none rose = omega (arith, none, rose)

module _ {D : Type 0} (told : D → DialerTold) (faults : D → ℕ) (calendars : List AddressParts) (least : ℕ) where
  abbrev Answered : LinkSeen → Type 0
  Answered link = IsAnswered told faults calendars least link

  module _ (heard : List Heard) (before now : D) (outcomes : List Outcome) (given : Given)
      (asking : Asks told faults calendars least (leaves (waiting_of heard)) before now outcomes given) (place : ℕ) (own : Heard) (own_is : slice_get heard place ≡ Some own) where
    abbrev i : ℕ
    i = length (waiting_of (take place heard))

    -- what a fresh link took is all that it has taken, and its input was to be read
    took : (t u : LinkTold) (reply : Reply) → reply_to given i own ≡ Some reply → t.given ≡ [] → t.taken ≡ [] → IsRequestAnswer t.left (request_of own) → Took (reply_bytes reply) t u
        → IsReplied told faults calendars least u
    took t u reply reply_is none fresh read made = record {
      heard = heard;
      place = place;
      own = own;
      own_is = own_is;
      read = subst (λ z. IsRequestAnswer z (request_of own)) (sym (made.input ∙ ap (λ z. z ++ t.left) none)) read;
      before = before;
      now = now;
      outcomes = outcomes;
      given = given;
      asks = asking;
      reply = reply;
      reply_is = reply_is;
      taken = made.taken ∙ ap (λ z. z ++ reply_bytes reply) fresh;
    }

    told_or_not : (reply : Reply) → reply_to given i own ≡ Some reply → (old new : Option LinkTold) (count : ℕ) → IfTold old (λ link. link.given ≡ []) → IfTold old (λ link. link.taken ≡ [])
        → IfTold old (λ link. IsRequestAnswer link.left (request_of own)) → BothTold (Took (reply_bytes reply)) old new → Answered (record { told = new; faults = count })
    told_or_not reply reply_is old None count given_none taken_none read made = untold refl
    told_or_not reply reply_is None (Some u) count given_none taken_none read made = absurd made
    told_or_not reply reply_is (Some t) (Some u) count given_none taken_none read made = replied u refl (took t u reply reply_is given_none taken_none read made)

    sent : (reply : Reply) → reply_to given i own ≡ Some reply → (old new : LinkSeen) (s : GateServed) → IsFresh old.told old.faults → Reads old (request_of own) → Sends reply old new s
        → Answered new
    sent reply reply_is old new s fresh read (whole is takes) = told_or_not reply reply_is old.told new.told new.faults fresh.given fresh.taken read takes
    sent reply reply_is old new s fresh read (cut n few is rose takes) = failed (risen old.faults new.faults fresh.no_fault rose)

    nothing : (old new : Option LinkTold) (count : ℕ) → IfTold old (λ link. link.given ≡ []) → IfTold old (λ link. link.taken ≡ []) → IfTold old (λ link. link.left ≡ [])
        → BothTold (Took []) old new → Answered (record { told = new; faults = count })
    nothing old None count given_none taken_none read made = untold refl
    nothing None (Some u) count given_none taken_none read made = absurd made
    nothing (Some t) (Some u) count given_none taken_none read made =
        empty u refl (made.input ∙ ap (λ z. z ++ t.left) given_none ∙ read) (made.taken ∙ ap (λ z. z ++ []) taken_none)

  -- each way in which a link is served
  one : (heard : List Heard) (before now : D) (outcomes : List Outcome) (given : Given) → Asks told faults calendars least (leaves (waiting_of heard)) before now outcomes given
      → (place : ℕ) (own : Heard) → slice_get heard place ≡ Some own → (old new : LinkSeen) (s : GateServed) → IsFresh old.told old.faults
      → Serves given (length (waiting_of (take place heard))) own old new s → Answered new
  one heard before now outcomes given asking place (digest w) is old new s fresh (read, sends) = sent heard before now outcomes given asking place (digest w) is _ refl old new s fresh read sends
  one heard before now outcomes given asking place (no_nonce leaf) is old new s fresh (read, sends) = sent heard before now outcomes given asking place (no_nonce leaf) is _ refl old new s fresh read sends
  one heard before now outcomes given asking place (other (Ok (Digest leaf))) is old new s fresh (read, sends) = absurd sends
  one heard before now outcomes given asking place (other (Ok (Timestamp c))) is old new s fresh (read, sends) =
      sent heard before now outcomes given asking place (other (Ok (Timestamp c))) is _ refl old new s fresh read sends
  one heard before now outcomes given asking place (other (Ok (Records n))) is old new s fresh (read, sends) =
      sent heard before now outcomes given asking place (other (Ok (Records n))) is _ refl old new s fresh read sends
  one heard before now outcomes given asking place (other (Ok (Refused code))) is old new s fresh (read, sends) =
      sent heard before now outcomes given asking place (other (Ok (Refused code))) is _ refl old new s fresh read sends
  one heard before now outcomes given asking place (other (Err unread.Closed)) is old new s fresh (read, (served, takes)) =
      nothing heard before now outcomes given asking place (other (Err unread.Closed)) is old.told new.told new.faults fresh.given fresh.taken read takes
  one heard before now outcomes given asking place (other (Err unread.LinkFault)) is old new s fresh (read, (served, rose, takes)) = failed (risen old.faults new.faults fresh.no_fault rose)

  -- all links of a round
  module _ {L : Type 0} (see : L → LinkSeen) (before now : D) (outcomes : List Outcome) (given : Given) where
    each : (done heard all : List Heard) (links left : List L) (served : List GateServed) → all ≡ done ++ heard
        → Asks told faults calendars least (leaves (waiting_of all)) before now outcomes given
        → AllByRecursion (λ link. IsFresh (see link).told (see link).faults) links
        → ServeAll given (length (waiting_of done)) heard (map see links) (map see left) served → AllByRecursion (λ link. Answered (see link)) left
    each done [] all [] [] [] is asking fresh each_served = tt
    each done [] all [] [] (s ∷ served) is asking fresh each_served = absurd each_served
    each done [] all [] (l ∷ left) served is asking fresh each_served = absurd each_served
    each done [] all (k ∷ links) left served is asking fresh each_served = absurd each_served
    each done (h ∷ heard) all [] left served is asking fresh each_served = absurd each_served
    each done (h ∷ heard) all (k ∷ links) [] served is asking fresh each_served = absurd each_served
    each done (h ∷ heard) all (k ∷ links) (l ∷ left) [] is asking fresh each_served = absurd each_served
    each done (h ∷ heard) all (k ∷ links) (l ∷ left) (s ∷ served) is asking (one_fresh, fresh) (serves_one, each_served) = (
      one all before now outcomes given asking (length done) h (ap (λ z. slice_get z (length done)) is ∙ at_length done h heard) (see k) (see l) s one_fresh
          (subst (λ (z : List Heard). Serves given (length (waiting_of z)) h (see k) (see l) s) (sym (ap (take (length done)) is ∙ take_length done (h ∷ heard))) serves_one),
      each (done ++ h ∷ []) heard all links left served (is ∙ sym (append_assoc done (h ∷ []) heard)) asking fresh
          (subst (λ (n : ℕ). ServeAll given n heard (map see links) (map see left) served) (next_place done h) each_served),
    )

-- ---- rounds

module _ {A L D : Type 0} (o : Outside A L D) (calendars : List AddressParts) (least : ℕ) where
  abbrev Answers_link : L → Type 0
  Answers_link link = IsAnswered o.told o.dial_faults calendars least (seen o link)

  rounds_answer : (rounds : List (Gathered L)) (old new : D) (nonces after : NoncesSeen) → AreFresh o.link_told o.link_faults (links_of rounds)
      → Rounds o calendars least rounds old new nonces after → AllByRecursion Answers_link (left_of rounds)
  rounds_answer [] old new nonces after fresh made = tt
  rounds_answer (r ∷ rounds) old new nonces after fresh (mid, between, round, made) = all_both Answers_link r.left (left_of rounds)
      (each o.told o.dial_faults calendars least (seen o) old mid r.outcomes round.given [] round.heard round.heard r.links r.left r.served refl round.asks (all_front _ r.links (links_of rounds) fresh) round.serves)
      (rounds_answer rounds mid new between after (all_back _ r.links (links_of rounds) fresh) made)

-- ---- a whole run

some_same : {X : Type 0} (x y : X) → Some x ≡ Some y → x ≡ y
some_same x y e = cc (e)

-- nothing was given back, and then these links
two_backs : {L : Type 0} (a b c : Option (List L)) (before left added : List L) → a ≡ Some before → c ≡ Some (before ++ added) → GivesAllBack a [] b → GivesAllBack b left c → left ≡ added
two_backs None b c before left added was is first second = absurd (cc (was))
two_backs (Some e) b None before left added was is first second = absurd (cc (is))
two_backs (Some e) None (Some f) before left added was is first second = absurd (cc (second))
two_backs (Some e) (Some d) (Some f) before left added was is first second = append_cancel_left before left added
    (subst (λ (z : List _). z ++ left ≡ before ++ added) (sym (some_same (e ++ []) d first) ∙ append-nil e ∙ some_same e before was)
    (some_same (d ++ left) f second ∙ some_same f (before ++ added) is))

module _ {A L D : Type 0} (o : Outside A L D) (g : Gathering) (p : Type 0) (old new : Moment A D) (before added : List L)
    (was : o.returned old.accepter ≡ Some before) (is : o.returned new.accepter ≡ Some (before ++ added)) where
  abbrev AreAnswered : Type 0
  AreAnswered = (addresses : List AddressParts) × IsListOf g.calendars addresses × AllByRecursion (λ link. IsAnswered o.told o.dial_faults addresses g.min (seen o link)) added

  over_rounds : (addresses : List AddressParts) → IsListOf g.calendars addresses → (listening : A) → Passes o [] [] old.accepter listening → (until : Option ℕ) (f : RoundsEnd)
      → ServesRounds o addresses g.min g.round until p (record { accepter = listening; dialer = old.dialer; nonces = old.nonces }) new f → f.status ≡ status.Done → AreAnswered
  over_rounds addresses list listening first until f (over rounds full made passes ends e) done = (
    addresses,
    list,
    subst (AllByRecursion (λ link. IsAnswered o.told o.dial_faults addresses g.min (seen o link)))
        (two_backs (o.returned old.accepter) (o.returned listening) (o.returned new.accepter) before (left_of rounds) added was is first.returned passes.returned)
        (rounds_answer o addresses g.min rounds old.dialer new.dialer old.nonces new.nonces passes.fresh made),
  )
  over_rounds addresses list listening first until f (accept_failed rounds full made passes rose e) done = absurd (cc (sym (ap (λ (r : RoundsEnd). r.status) e) ∙ done))
  over_rounds addresses list listening first until f (not_printed rounds full made passes why e) done = absurd (cc (sym (ap (λ (r : RoundsEnd). r.status) e) ∙ done))
  over_rounds addresses list listening first until f (no_memory rounds links left d n full made passes many e) done = absurd (cc (sym (ap (λ (r : RoundsEnd). r.status) e) ∙ done))

  over_calendars : (addresses : List AddressParts) → IsListOf g.calendars addresses → (e : RoundsEnd) → OverCalendars o g addresses p old new e → e.status ≡ status.Done → AreAnswered
  over_calendars addresses list e (no_room same made) done = absurd (cc (sym (ap (λ (r : RoundsEnd). r.status) made) ∙ done))
  over_calendars addresses list e (unheard passes rose dialer nonces made) done = absurd (cc (sym (ap (λ (r : RoundsEnd). r.status) made) ∙ done))
  over_calendars addresses list e (unprinted passes dialer nonces why made) done = absurd (cc (sym (ap (λ (r : RoundsEnd). r.status) made) ∙ done))
  over_calendars addresses list e (serves listening f passes rounds within made) done =
      over_rounds addresses list listening passes _ f rounds (sym (ap (λ (r : RoundsEnd). r.status) made) ∙ done)

  over_asked : (e : RoundsEnd) → OverAsked o g p old new e → e.status ≡ status.Done → AreAnswered
  over_asked e (bad_address place https bad same made) done = absurd (cc (sym (ap (λ (r : RoundsEnd). r.status) made) ∙ done))
  over_asked e (no_address_memory same made) done = absurd (cc (sym (ap (λ (r : RoundsEnd). r.status) made) ∙ done))
  over_asked e (calendars addresses list made) done = over_calendars addresses list e made done

  over_words : (e : RoundsEnd) → OverWords o (Some g) p old new e → e.status ≡ status.Done → AreAnswered
  over_words e (usage none same made) done = absurd (cc (none))
  over_words e (no_words_memory same made) done = absurd (cc (sym (ap (λ (r : RoundsEnd). r.status) made) ∙ done))
  over_words e (asks h so made) done = over_asked e (subst (λ (z : Gathering). OverAsked o z p old new e) (sym (some_same g h so)) made) done

  pub after_done : (taken now : Option (List ℕ)) → Ends o (Some g) p old new taken now status.Done → AreAnswered
  after_done taken now made = by made.printed
    where
      by : PrintsLastOr status.WriteFault p made.ending.status (made.ending.lines ++ refusal_text made.ending.status) taken now status.Done → AreAnswered
      by (inl (took, so)) = over_words made.ending made.comes (sym so)
      by (inr (why, some, so)) = absurd (cc (so))
