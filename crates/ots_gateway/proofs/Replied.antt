-- The replies to the digests of a round, one after the other.
use Rattle.std.proofs.Common.{◌≡◌, ◌<◌, ◌≤◌, ℕ, zero, suc, ◌+◌, List, [], ◌∷◌, ◌++◌, length, get_or, set, take, drop, map, refl, sym, ap, subst, ◌∙◌, arith, inr, length-append, take-append-drop}
use Rattle.std.specs.Prelude.{Option, None, Some, IfSome}
use Rattle.std.proofs.lemmas.List.{drop-set-lt, length-set, map-append, take_all, take_more, take_more_set}
use Rattle.ots_http.specs.Seen.{LinkSeen, Takes}
use Rattle.ots_http.specs.declared.replying.Reply.{Reply}
use Rattle.ots_http.proofs.Seen.{takes_after}
use Rattle.ots_gateway.specs.Answer.{Keeps}
use Rattle.ots_gateway.specs.Arrived.{HearAll, IsHeard, IsServed, waiting_in}
use Rattle.ots_gateway.specs.Round.{EachMayServe, Given, Heard, Sends, Serves, ServeAll, cut, digest, due, next, no_nonce, other, whole}
use Rattle.ots_gateway.specs.Ways.{leaf, leaves}
use Rattle.ots_gateway.specs.declared.answer.Answer.{Answer}
use Rattle.ots_gateway.specs.declared.arrived.Arrived.{Arrived}
use Rattle.ots_gateway.specs.declared.arrived.Arrived.TheVariants as arrived
use Rattle.ots_gateway.specs.declared.served.GateServed.{GateServed}
use Rattle.ots_gateway.specs.declared.waiting.Waiting.{Waiting}
use Rattle.ots_gateway.proofs.Arriving.{each_more, heard_each, same_there}

-- ---- one link

pub sends_after : (reply : Reply) (o m n : LinkSeen) (s : GateServed) → Takes [] o m → o.faults ≤ m.faults → Sends reply m n s → Sends reply o n s
sends_after reply o m n s one later (whole is t) = whole is (takes_after _ o m n one t)
sends_after reply o m n s one later (cut k within is rose t) = cut k within is (omega arith) (takes_after _ o m n one t)

-- A digest that waited is served.
pub waited_serves : (given : Given) (i : ℕ) (h : Heard) (o m n : LinkSeen) (w : Waiting) (s : GateServed) → IsHeard h o m (arrived.Waits w)
    → Sends (due given i w) m n s → Serves given i h o n s × (next h i ≡ i + 1)
waited_serves given i (digest v) o m n w s heard sends =
    let same : w ≡ v = let is = heard.0 in cc is in
    ((heard.1, sends_after (due given i v) o m n s heard.2 heard.3 (subst (λ (u : Waiting). Sends (due given i u) m n s) same sends)), refl)
waited_serves given i (no_nonce leaf) o m n w s heard sends = absurd heard.1
waited_serves given i (other r) o m n w s heard sends = absurd heard.1

-- Any other was served.
pub other_serves : (given : Given) (i : ℕ) (h : Heard) (o m : LinkSeen) (a : Arrived) (s : GateServed) → ((w : Waiting) → a ≡ arrived.Waits w → ⊥)
    → IsHeard h o m a → ((t : GateServed) → IsServed a t → t ≡ s) → Serves given i h o m s × (next h i ≡ i)
other_serves given i (digest v) o m a s none heard is = absurd (none v heard.0)
other_serves given i (no_nonce leaf) o m a s none heard is =
    (subst (λ (t : GateServed). Serves given i (no_nonce leaf) o m t) (is heard.0 heard.1) heard.2, refl)
other_serves given i (other r) o m a s none heard is =
    (subst (λ (t : GateServed). Serves given i (other r) o m t) (is heard.0 heard.1) heard.2, refl)

-- ---- one link more

-- the place after some
abbrev pub after : List Heard → ℕ → ℕ
after [] i = i
after (h ∷ hs) i = after hs (next h i)

pub serve_more : (given : Given) (i : ℕ) (hs : List Heard) (os ns : List LinkSeen) (ss : List GateServed) (h : Heard) (o n : LinkSeen) (s : GateServed)
    → ServeAll given i hs os ns ss → Serves given (after hs i) h o n s → ServeAll given i (hs ++ h ∷ []) (os ++ o ∷ []) (ns ++ n ∷ []) (ss ++ s ∷ [])
serve_more given i [] [] [] [] h o n s all one = (one, tt)
serve_more given i [] [] [] (x ∷ ss) h o n s all one = absurd all
serve_more given i [] [] (x ∷ ns) ss h o n s all one = absurd all
serve_more given i [] (x ∷ os) ns ss h o n s all one = absurd all
serve_more given i (x ∷ hs) [] ns ss h o n s all one = absurd all
serve_more given i (x ∷ hs) (y ∷ os) [] ss h o n s all one = absurd all
serve_more given i (x ∷ hs) (y ∷ os) (z ∷ ns) [] h o n s all one = absurd all
serve_more given i (x ∷ hs) (y ∷ os) (z ∷ ns) (w ∷ ss) h o n s all one = (all.0, serve_more given (next x i) hs os ns ss h o n s all.1 one)

after_more : (hs : List Heard) (h : Heard) (i : ℕ) → after (hs ++ h ∷ []) i ≡ next h (after hs i)
after_more [] h i = refl
after_more (x ∷ hs) h i = after_more hs h (next x i)

pub served_each : (given : Given) (i : ℕ) (hs : List Heard) (os ns : List LinkSeen) (ss : List GateServed) → ServeAll given i hs os ns ss → EachMayServe os ns
served_each given i [] [] [] [] all = tt
served_each given i [] [] [] (x ∷ ss) all = absurd all
served_each given i [] [] (x ∷ ns) ss all = absurd all
served_each given i [] (x ∷ os) ns ss all = absurd all
served_each given i (x ∷ hs) [] ns ss all = absurd all
served_each given i (x ∷ hs) (y ∷ os) [] ss all = absurd all
served_each given i (x ∷ hs) (y ∷ os) (z ∷ ns) [] all = absurd all
served_each given i (x ∷ hs) (y ∷ os) (z ∷ ns) (w ∷ ss) all = (inr (given, i, x, w, all.0), served_each given (next x i) hs os ns ss all.1)

-- ---- what stands at a place among what was heard

pub record HeardAt (hs : List Heard) (os ms : List LinkSeen) (bs : List Arrived) (i : ℕ) : Type 0 where
  pub heard : Heard
  pub old : LinkSeen
  pub mid : LinkSeen
  pub a : Arrived
  pub heard_next : take (suc i) hs ≡ take i hs ++ heard ∷ []
  pub old_next : take (suc i) os ≡ take i os ++ old ∷ []
  pub mid_there : (d : LinkSeen) → get_or ms i d ≡ mid
  pub a_there : (d : Arrived) → get_or bs i d ≡ a
  pub is : IsHeard heard old mid a

pub heard_at : (hs : List Heard) (os ms : List LinkSeen) (bs : List Arrived) (i : ℕ) → HearAll hs os ms bs → i < length bs → HeardAt hs os ms bs i
heard_at [] [] [] [] i all less = absurd (omega arith)
heard_at [] [] [] (x ∷ bs) i all less = absurd all
heard_at [] [] (x ∷ ms) bs i all less = absurd all
heard_at [] (x ∷ os) ms bs i all less = absurd all
heard_at (x ∷ hs) [] ms bs i all less = absurd all
heard_at (x ∷ hs) (y ∷ os) [] bs i all less = absurd all
heard_at (x ∷ hs) (y ∷ os) (z ∷ ms) [] i all less = absurd all
heard_at (x ∷ hs) (y ∷ os) (z ∷ ms) (w ∷ bs) zero all less = record {
  heard = x;
  old = y;
  mid = z;
  a = w;
  heard_next = refl;
  old_next = refl;
  mid_there = λ d. refl;
  a_there = λ d. refl;
  is = all.0;
}
heard_at (x ∷ hs) (y ∷ os) (z ∷ ms) (w ∷ bs) (suc i) all less =
    let h = heard_at hs os ms bs i all.1 (omega arith) in
    record {
      heard = h.heard;
      old = h.old;
      mid = h.mid;
      a = h.a;
      heard_next = ap (λ (t : List Heard). x ∷ t) h.heard_next;
      old_next = ap (λ (t : List LinkSeen). y ∷ t) h.old_next;
      mid_there = h.mid_there;
      a_there = h.a_there;
      is = h.is;
    }

-- ---- the loop

module _ {L : Type 0} (seen : L → LinkSeen) where
  -- The first links were answered, and the others stand as they stood; the next digest has this place.
  pub record Replying (heard : List Heard) (olds : List LinkSeen) (mids now : List L) (served : List GateServed) (given : Given) (place i : ℕ) : Type 0 where
    pub all : ServeAll given 0 (take i heard) (take i olds) (map seen (take i now)) served
    pub rest : drop i now ≡ drop i mids
    pub long : length now ≡ length mids
    pub place_is : place ≡ after (take i heard) 0

  pub replying_none : (heard : List Heard) (olds : List LinkSeen) (mids : List L) (given : Given) → Replying heard olds mids mids [] given 0 0
  replying_none heard olds mids given = record { all = tt; rest = refl; long = refl; place_is = refl }

  pub replying_more : (heard : List Heard) (olds : List LinkSeen) (mids now : List L) (served : List GateServed) (given : Given) (place i : ℕ) (x : L) (bs : List Arrived) (s : GateServed)
      (at : HeardAt heard olds (map seen mids) bs i) → i < length mids → Replying heard olds mids now served given place i
      → Serves given place at.heard at.old (seen x) s → Replying heard olds mids (set now i x) (served ++ s ∷ []) given (next at.heard place) (i + 1)
  replying_more heard olds mids now served given place i x bs s at less one serves =
      let there = same_there seen mids now i x less one.long one.rest in
      let heard_next : take (i + 1) heard ≡ take i heard ++ at.heard ∷ [] = ap (λ (k : ℕ). take k heard) {x = i + 1} {y = suc i} (omega arith) ∙ at.heard_next in
      let old_next : take (i + 1) olds ≡ take i olds ++ at.old ∷ [] = ap (λ (k : ℕ). take k olds) {x = i + 1} {y = suc i} (omega arith) ∙ at.old_next in
      record {
        all = subst (λ (hs : List Heard). ServeAll given 0 hs (take (i + 1) olds) (map seen (take (i + 1) (set now i x))) (served ++ s ∷ [])) (sym heard_next)
            (subst (λ (os : List LinkSeen). ServeAll given 0 (take i heard ++ at.heard ∷ []) os (map seen (take (i + 1) (set now i x))) (served ++ s ∷ [])) (sym old_next)
            (subst (λ (ns : List LinkSeen). ServeAll given 0 (take i heard ++ at.heard ∷ []) (take i olds ++ at.old ∷ []) ns (served ++ s ∷ []))
            (sym (ap (map seen) (take_more_set now i x (omega (arith, one.long))) ∙ map-append seen (take i now) (x ∷ [])))
            (serve_more given 0 (take i heard) (take i olds) (map seen (take i now)) served at.heard at.old (seen x) s one.all
            (subst (λ (p : ℕ). Serves given p at.heard at.old (seen x) s) one.place_is serves))));
        rest = drop-set-lt (i + 1) now i x (omega arith) ∙ there.1;
        long = length-set now i x ∙ one.long;
        place_is = ap (next at.heard) one.place_is ∙ sym (after_more (take i heard) at.heard 0) ∙ ap (λ (hs : List Heard). after hs 0) (sym heard_next);
      }

-- ---- lengths

pub heard_long : (hs : List Heard) (os ms : List LinkSeen) (bs : List Arrived) → HearAll hs os ms bs
    → (length hs ≡ length bs) × (length os ≡ length bs)
heard_long [] [] [] [] all = (refl, refl)
heard_long [] [] [] (x ∷ bs) all = absurd all
heard_long [] [] (x ∷ ms) bs all = absurd all
heard_long [] (x ∷ os) ms bs all = absurd all
heard_long (x ∷ hs) [] ms bs all = absurd all
heard_long (x ∷ hs) (y ∷ os) [] bs all = absurd all
heard_long (x ∷ hs) (y ∷ os) (z ∷ ms) [] all = absurd all
heard_long (x ∷ hs) (y ∷ os) (z ∷ ms) (w ∷ bs) all = let long = heard_long hs os ms bs all.1 in (ap suc long.0, ap suc long.1)

-- ---- the digests that wait

waiting_in_more : (xs ys : List Arrived) → waiting_in (xs ++ ys) ≡ waiting_in xs ++ waiting_in ys
waiting_in_more [] ys = refl
waiting_in_more (arrived.Waits w ∷ xs) ys = ap (λ (z : List Waiting). w ∷ z) (waiting_in_more xs ys)
waiting_in_more (arrived.Replied status ∷ xs) ys = waiting_in_more xs ys
waiting_in_more (arrived.Closed ∷ xs) ys = waiting_in_more xs ys
waiting_in_more (arrived.LinkFault ∷ xs) ys = waiting_in_more xs ys

pub waiting_few : (xs : List Arrived) → length (waiting_in xs) ≤ length xs
waiting_few [] = omega arith
waiting_few (arrived.Waits w ∷ xs) = let few = waiting_few xs in omega (arith, few)
waiting_few (arrived.Replied status ∷ xs) = let few = waiting_few xs in omega (arith, few)
waiting_few (arrived.Closed ∷ xs) = let few = waiting_few xs in omega (arith, few)
waiting_few (arrived.LinkFault ∷ xs) = let few = waiting_few xs in omega (arith, few)

-- one more leaf, or none
pub leaves_next : (xs : List Arrived) (i : ℕ) (a : Arrived) → i < length xs → a ≡ get_or xs i a
    → leaves (waiting_in (take (i + 1) xs)) ≡ leaves (waiting_in (take i xs)) ++ leaves (waiting_in (a ∷ []))
leaves_next xs i a less is =
    ap (λ (z : List Arrived). leaves (waiting_in z)) (take_more xs i a less ∙ ap (λ (b : Arrived). take i xs ++ b ∷ []) (sym is))
    ∙ ap leaves (waiting_in_more (take i xs) (a ∷ [])) ∙ map-append leaf (waiting_in (take i xs)) (waiting_in (a ∷ []))

pub waits_none : (a : Arrived) → ((w : Waiting) → a ≡ arrived.Waits w → ⊥) → waiting_in (a ∷ []) ≡ []
waits_none (arrived.Waits w) none = absurd (none w refl)
waits_none (arrived.Replied status) none = refl
waits_none arrived.Closed none = refl
waits_none arrived.LinkFault none = refl

-- one more was looked at
pub waiting_next : (xs : List Arrived) (i : ℕ) (a : Arrived) → i < length xs → a ≡ get_or xs i a
    → length (waiting_in (take (i + 1) xs)) ≡ length (waiting_in (take i xs)) + length (waiting_in (a ∷ []))
waiting_next xs i a less is =
    ap (λ (z : List Arrived). length (waiting_in z)) (take_more xs i a less ∙ ap (λ (b : Arrived). take i xs ++ b ∷ []) (sym is))
    ∙ ap length (waiting_in_more (take i xs) (a ∷ [])) ∙ length-append (waiting_in (take i xs)) (waiting_in (a ∷ []))

pub waiting_up_to : (xs : List Arrived) (i : ℕ) → length (waiting_in (take i xs)) ≤ length (waiting_in xs)
waiting_up_to xs i =
    let both : length (waiting_in xs) ≡ length (waiting_in (take i xs)) + length (waiting_in (drop i xs)) =
    ap (λ (z : List Arrived). length (waiting_in z)) (sym (take-append-drop i xs)) ∙ ap length (waiting_in_more (take i xs) (drop i xs))
    ∙ length-append (waiting_in (take i xs)) (waiting_in (drop i xs)) in
    omega (arith, both)

pub keeps_fewer : (o : Option Answer) (m n : ℕ) → n ≤ m → IfSome o (Keeps m) → IfSome o (Keeps n)
keeps_fewer None m n fewer keeps = tt
keeps_fewer (Some a) m n fewer keeps = (omega (arith, fewer, keeps.0), keeps.1)

-- ---- where memory ran out

each_drop : (os ns : List LinkSeen) (i : ℕ) → EachMayServe os ns → EachMayServe (drop i os) (drop i ns)
each_drop os ns zero each = each
each_drop [] [] (suc i) each = tt
each_drop [] (n ∷ ns) (suc i) each = absurd each
each_drop (o ∷ os) [] (suc i) each = absurd each
each_drop (o ∷ os) (n ∷ ns) (suc i) each = each_drop os ns i each.1

module _ {L : Type 0} (seen : L → LinkSeen) where
  map_drop : (xs : List L) (i : ℕ) → map seen (drop i xs) ≡ drop i (map seen xs)
  map_drop xs zero = refl
  map_drop [] (suc i) = refl
  map_drop (x ∷ xs) (suc i) = map_drop xs i

  seen_at : (xs : List L) (i : ℕ) (o : L) → get_or (map seen xs) i (seen o) ≡ seen (get_or xs i o)
  seen_at [] i o = refl
  seen_at (x ∷ xs) zero o = refl
  seen_at (x ∷ xs) (suc i) o = seen_at xs i o

  -- a link that is seen as before
  pub set_seen : (xs : List L) (i : ℕ) (o x : L) → i < length xs → seen x ≡ seen (get_or xs i o) → map seen (set xs i x) ≡ map seen xs
  set_seen [] i o x less same = absurd (omega arith)
  set_seen (y ∷ ys) zero o x less same = ap (λ (s : LinkSeen). s ∷ map seen ys) same
  set_seen (y ∷ ys) (suc i) o x less same = ap (λ (s : List LinkSeen). seen y ∷ s) (set_seen ys i o x (omega arith) same)

  pub replying_each : (heard : List Heard) (olds : List LinkSeen) (mids now : List L) (served : List GateServed) (given : Given) (place i : ℕ) (bs : List Arrived)
      → HearAll heard olds (map seen mids) bs → Replying seen heard olds mids now served given place i → EachMayServe olds (map seen now)
  replying_each heard olds mids now served given place i bs all one =
      subst (λ (os : List LinkSeen). EachMayServe os (map seen now)) (take-append-drop i olds)
      (subst (EachMayServe (take i olds ++ drop i olds)) (sym (map-append seen (take i now) (drop i now)) ∙ ap (map seen) (take-append-drop i now))
      (each_more (take i olds) (map seen (take i now)) (drop i olds) (map seen (drop i now))
      (served_each given 0 (take i heard) (take i olds) (map seen (take i now)) served one.all)
      (subst (EachMayServe (drop i olds)) (sym (map_drop mids i) ∙ ap (map seen) (sym one.rest))
      (each_drop olds (map seen mids) i (heard_each heard olds (map seen mids) bs all)))))

  -- ---- a step of the loop

  pub replying_step : (heard : List Heard) (olds : List LinkSeen) (mids now : List L) (served : List GateServed) (given : Given) (place after i : ℕ) (o x : L) (bs : List Arrived) (a : Arrived)
      (s : GateServed) → HearAll heard olds (map seen mids) bs → i < length mids → length bs ≡ length mids → o ≡ get_or now i o → a ≡ get_or bs i a
      → ((h : Heard) (old : LinkSeen) → IsHeard h old (seen o) a → Serves given place h old (seen x) s × (after ≡ next h place))
      → Replying seen heard olds mids now served given place i → Replying seen heard olds mids (set now i x) (served ++ s ∷ []) given after (i + 1)
  replying_step heard olds mids now served given place after i o x bs a s all less long is a-is serves one =
      let at = heard_at heard olds (map seen mids) bs i all (omega arith) in
      let there = same_there seen mids now i o less one.long one.rest in
      let mid : at.mid ≡ seen o = sym (at.mid_there (seen o)) ∙ seen_at mids i o ∙ ap seen (sym (is ∙ there.0)) in
      let here : at.a ≡ a = sym (at.a_there a) ∙ sym a-is in
      let made = serves at.heard at.old (subst (IsHeard at.heard at.old (seen o)) here (subst (λ (m : LinkSeen). IsHeard at.heard at.old m at.a) mid at.is)) in
      subst (λ (p : ℕ). Replying seen heard olds mids (set now i x) (served ++ s ∷ []) given p (i + 1)) (sym made.1)
      (replying_more seen heard olds mids now served given place i x bs s at less one made.0)

  -- all were answered
  pub replied : (heard : List Heard) (olds : List LinkSeen) (mids now : List L) (served : List GateServed) (given : Given) (place i : ℕ) (bs : List Arrived)
      → HearAll heard olds (map seen mids) bs → length bs ≤ i → length now ≤ i → Replying seen heard olds mids now served given place i
      → ServeAll given 0 heard olds (map seen now) served
  replied heard olds mids now served given place i bs all long_enough ends one =
      let long = heard_long heard olds (map seen mids) bs all in
      subst (λ (hs : List Heard). ServeAll given 0 hs olds (map seen now) served) (take_all i heard (omega (arith, long_enough, long.0)))
      (subst (λ (os : List LinkSeen). ServeAll given 0 (take i heard) os (map seen now) served) (take_all i olds (omega (arith, long_enough, long.1)))
      (subst (λ (ns : List L). ServeAll given 0 (take i heard) (take i olds) (map seen ns) served) (take_all i now ends) one.all))
