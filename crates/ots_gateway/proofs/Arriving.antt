-- The requests of a round's links, one after the other.
use Rattle.std.proofs.Common.{◌≡◌, ◌<◌, ℕ, ◌+◌, List, [], ◌∷◌, ◌++◌, length, get_or, set, take, drop, map, refl, sym, ap, subst, ◌∙◌, arith, inl, inr, append-nil, take-append-drop}
use Rattle.std.specs.Prelude.{Result, Ok, Err, OnErr}
use Rattle.std.specs.List.{flat_map}
use Rattle.std.proofs.lemmas.Grind.{flat_map-append}
use Rattle.std.proofs.lemmas.List.{drop-set-lt, drop_more, length-set, map-append, take_more, take_more_set}
use Rattle.ots_base.specs.Told.{BothTold-same}
use Rattle.ots_http.specs.Seen.{LinkSeen, Took, Takes}
use Rattle.ots_outside.specs.Link.{LinkTold}
use Rattle.ots_outside.specs.Streams.{Gives, Gives-nothing, Gives-trans}
use Rattle.ots_gateway.specs.Arrived.{HearAll, IsHeard, waiting_in}
use Rattle.ots_gateway.specs.Round.{Draws, EachMayServe, Heard, MayServe, NoncesSeen, digest, no_nonce, other, too_few, waiting_of, without_nonce}
use Rattle.ots_gateway.specs.declared.arrived.Arrived.{Arrived}
use Rattle.ots_gateway.specs.declared.arrived.Arrived.TheVariants as arrived
use Rattle.ots_gateway.specs.declared.waiting.Waiting.{Waiting}

-- ---- nonces

abbrev nonces_of : List Heard → List ℕ
nonces_of heard = flat_map (λ (w : Waiting). w.nonce) (waiting_of heard)

waiting_more : (xs ys : List Heard) → waiting_of (xs ++ ys) ≡ waiting_of xs ++ waiting_of ys
waiting_more [] ys = refl
waiting_more (digest w ∷ xs) ys = ap (λ (z : List Waiting). w ∷ z) (waiting_more xs ys)
waiting_more (no_nonce leaf ∷ xs) ys = waiting_more xs ys
waiting_more (other r ∷ xs) ys = waiting_more xs ys

without_more : (xs ys : List Heard) → without_nonce (xs ++ ys) ≡ without_nonce xs + without_nonce ys
without_more [] ys = omega arith
without_more (digest w ∷ xs) ys = without_more xs ys
without_more (no_nonce leaf ∷ xs) ys = let more = without_more xs ys in omega (arith, more)
without_more (other r ∷ xs) ys = without_more xs ys

draws_none : (n : NoncesSeen) → Draws [] n n
draws_none n = record { drawn = Gives-nothing n.left; later = omega arith; cause = omega arith }

draws_more : (xs ys : List Heard) (a b c : NoncesSeen) → Draws xs a b → Draws ys b c → Draws (xs ++ ys) a c
draws_more xs ys a b c first second = record {
  drawn = subst (Gives a.left c.left)
      (sym (flat_map-append (λ (w : Waiting). w.nonce) (waiting_of xs) (waiting_of ys)) ∙ ap (flat_map (λ (w : Waiting). w.nonce)) (sym (waiting_more xs ys)))
      (Gives-trans a.left b.left c.left (nonces_of xs) (nonces_of ys) first.drawn second.drawn);
  later = let one = first.later in let two = second.later in omega (arith, one, two);
  cause = let many = without_more xs ys in let one = first.cause in let two = second.cause in omega (arith, many, one, two);
}

-- ---- one link more

pub heard_more : (hs : List Heard) (os ms : List LinkSeen) (bs : List Arrived) (h : Heard) (o m : LinkSeen) (a : Arrived)
    → HearAll hs os ms bs → IsHeard h o m a → HearAll (hs ++ h ∷ []) (os ++ o ∷ []) (ms ++ m ∷ []) (bs ++ a ∷ [])
heard_more [] [] [] [] h o m a all one = (one, tt)
heard_more [] [] [] (x ∷ bs) h o m a all one = absurd all
heard_more [] [] (x ∷ ms) bs h o m a all one = absurd all
heard_more [] (x ∷ os) ms bs h o m a all one = absurd all
heard_more (x ∷ hs) [] ms bs h o m a all one = absurd all
heard_more (x ∷ hs) (y ∷ os) [] bs h o m a all one = absurd all
heard_more (x ∷ hs) (y ∷ os) (z ∷ ms) [] h o m a all one = absurd all
heard_more (x ∷ hs) (y ∷ os) (z ∷ ms) (w ∷ bs) h o m a all one = (all.0, heard_more hs os ms bs h o m a all.1 one)

module _ {L : Type 0} (seen : L → LinkSeen) where
  -- The first links were heard, and the others stand as they stood.
  pub record Hearing (olds now : List L) (arrived : List Arrived) (from to : NoncesSeen) (i : ℕ) : Type 0 where
    pub heard : List Heard
    pub all : HearAll heard (map seen (take i olds)) (map seen (take i now)) arrived
    pub rest : drop i now ≡ drop i olds
    pub long : length now ≡ length olds
    pub draws : Draws heard from to

  pub hearing_none : (olds : List L) (n : NoncesSeen) → Hearing olds olds [] n n 0
  hearing_none olds n = record { heard = []; all = tt; rest = refl; long = refl; draws = draws_none n }

  -- what stands at a place, and after it
  pub same_there : (olds now : List L) (i : ℕ) (x : L) → i < length olds → length now ≡ length olds → drop i now ≡ drop i olds
      → (get_or now i x ≡ get_or olds i x) × (drop (i + 1) now ≡ drop (i + 1) olds)
  same_there olds now i x less long rest =
      let same : get_or now i x ∷ drop (i + 1) now ≡ get_or olds i x ∷ drop (i + 1) olds = sym (drop_more now i x (omega arith)) ∙ rest ∙ drop_more olds i x less in
      (ap (λ (z : List L). get_or z 0 x) same, ap (drop 1) same)

  pub hearing_more : (olds now : List L) (bs : List Arrived) (from mid to : NoncesSeen) (i : ℕ) (o x : L) (h : Heard) (a : Arrived) → i < length olds
      → o ≡ get_or now i o → Hearing olds now bs from mid i → IsHeard h (seen o) (seen x) a → Draws (h ∷ []) mid to
      → Hearing olds (set now i x) (bs ++ a ∷ []) from to (i + 1)
  hearing_more olds now bs from mid to i o x h a less is hearing one draws =
      let there = same_there olds now i o less hearing.long hearing.rest in
      record {
        heard = hearing.heard ++ h ∷ [];
        all = subst (λ (os : List LinkSeen). HearAll (hearing.heard ++ h ∷ []) os (map seen (take (i + 1) (set now i x))) (bs ++ a ∷ []))
            (sym (ap (map seen) (take_more olds i o less) ∙ map-append seen (take i olds) (get_or olds i o ∷ [])))
            (subst (λ (ms : List LinkSeen). HearAll (hearing.heard ++ h ∷ []) (map seen (take i olds) ++ seen (get_or olds i o) ∷ []) ms (bs ++ a ∷ []))
            (sym (ap (map seen) (take_more_set now i x (omega (arith, hearing.long))) ∙ map-append seen (take i now) (x ∷ [])))
            (heard_more hearing.heard (map seen (take i olds)) (map seen (take i now)) bs h (seen (get_or olds i o)) (seen x) a hearing.all
            (subst (λ (y : L). IsHeard h (seen y) (seen x) a) (is ∙ there.0) one)));
        rest = drop-set-lt (i + 1) now i x (omega arith) ∙ there.1;
        long = length-set now i x ∙ hearing.long;
        draws = draws_more hearing.heard (h ∷ []) from mid to hearing.draws draws;
      }

-- ---- where memory ran out

pub any_err : {T E : Type 0} (r : Result T E) (P : Type 0) → P → OnErr r P
any_err (Ok x) P p = tt
any_err (Err e) P p = p

pub took_nothing : (o : LinkSeen) → Takes [] o o
took_nothing o = BothTold-same (Took []) (λ (x : LinkTold). record { input = refl; taken = sym (append-nil x.taken) }) o.told

pub each_same : (os : List LinkSeen) → EachMayServe os os
each_same [] = tt
each_same (o ∷ os) = (inl (took_nothing o), each_same os)

pub each_more : (os ns ps qs : List LinkSeen) → EachMayServe os ns → EachMayServe ps qs → EachMayServe (os ++ ps) (ns ++ qs)
each_more [] [] ps qs first second = second
each_more [] (n ∷ ns) ps qs first second = absurd first
each_more (o ∷ os) [] ps qs first second = absurd first
each_more (o ∷ os) (n ∷ ns) ps qs first second = (first.0, each_more os ns ps qs first.1 second)

pub heard_may : (h : Heard) (o m : LinkSeen) (a : Arrived) → IsHeard h o m a → MayServe o m
heard_may (digest w) o m a one = inl one.2
heard_may (no_nonce leaf) o m a one = inr (too_few, 0, no_nonce leaf, one.0, one.2)
heard_may (other r) o m a one = inr (too_few, 0, other r, one.0, one.2)

pub heard_each : (hs : List Heard) (os ms : List LinkSeen) (bs : List Arrived) → HearAll hs os ms bs → EachMayServe os ms
heard_each [] [] [] [] all = tt
heard_each [] [] [] (x ∷ bs) all = absurd all
heard_each [] [] (x ∷ ms) bs all = absurd all
heard_each [] (x ∷ os) ms bs all = absurd all
heard_each (x ∷ hs) [] ms bs all = absurd all
heard_each (x ∷ hs) (y ∷ os) [] bs all = absurd all
heard_each (x ∷ hs) (y ∷ os) (z ∷ ms) [] all = absurd all
heard_each (x ∷ hs) (y ∷ os) (z ∷ ms) (w ∷ bs) all = (heard_may x y z w all.0, heard_each hs os ms bs all.1)

module _ {L : Type 0} (seen : L → LinkSeen) where
  -- the first links were heard at most
  pub hearing_each : (olds now : List L) (bs : List Arrived) (from to : NoncesSeen) (i : ℕ) → Hearing seen olds now bs from to i → EachMayServe (map seen olds) (map seen now)
  hearing_each olds now bs from to i hearing =
      subst (λ (os : List LinkSeen). EachMayServe os (map seen now)) (sym (map-append seen (take i olds) (drop i olds)) ∙ ap (map seen) (take-append-drop i olds))
      (subst (EachMayServe (map seen (take i olds) ++ map seen (drop i olds))) (sym (map-append seen (take i now) (drop i now)) ∙ ap (map seen) (take-append-drop i now))
      (each_more (map seen (take i olds)) (map seen (take i now)) (map seen (drop i olds)) (map seen (drop i now))
      (heard_each hearing.heard (map seen (take i olds)) (map seen (take i now)) bs hearing.all)
      (subst (λ (r : List L). EachMayServe (map seen (drop i olds)) (map seen r)) (sym hearing.rest) (each_same (map seen (drop i olds))))))

-- ---- the digests that wait

pub waiting_same : (hs : List Heard) (os ms : List LinkSeen) (bs : List Arrived) → HearAll hs os ms bs → waiting_in bs ≡ waiting_of hs
waiting_same [] [] [] [] all = refl
waiting_same [] [] [] (x ∷ bs) all = absurd all
waiting_same [] [] (x ∷ ms) bs all = absurd all
waiting_same [] (x ∷ os) ms bs all = absurd all
waiting_same (x ∷ hs) [] ms bs all = absurd all
waiting_same (x ∷ hs) (y ∷ os) [] bs all = absurd all
waiting_same (x ∷ hs) (y ∷ os) (z ∷ ms) [] all = absurd all
waiting_same (digest w ∷ hs) (y ∷ os) (z ∷ ms) (a ∷ bs) all =
    ap (λ (b : Arrived). waiting_in (b ∷ bs)) all.0.0 ∙ ap (λ (ws : List Waiting). w ∷ ws) (waiting_same hs os ms bs all.1)
waiting_same (no_nonce leaf ∷ hs) (y ∷ os) (z ∷ ms) (arrived.Waits w ∷ bs) all = absurd all.0.1
waiting_same (no_nonce leaf ∷ hs) (y ∷ os) (z ∷ ms) (arrived.Replied status ∷ bs) all = waiting_same hs os ms bs all.1
waiting_same (no_nonce leaf ∷ hs) (y ∷ os) (z ∷ ms) (arrived.Closed ∷ bs) all = waiting_same hs os ms bs all.1
waiting_same (no_nonce leaf ∷ hs) (y ∷ os) (z ∷ ms) (arrived.LinkFault ∷ bs) all = waiting_same hs os ms bs all.1
waiting_same (other r ∷ hs) (y ∷ os) (z ∷ ms) (arrived.Waits w ∷ bs) all = absurd all.0.1
waiting_same (other r ∷ hs) (y ∷ os) (z ∷ ms) (arrived.Replied status ∷ bs) all = waiting_same hs os ms bs all.1
waiting_same (other r ∷ hs) (y ∷ os) (z ∷ ms) (arrived.Closed ∷ bs) all = waiting_same hs os ms bs all.1
waiting_same (other r ∷ hs) (y ∷ os) (z ∷ ms) (arrived.LinkFault ∷ bs) all = waiting_same hs os ms bs all.1
