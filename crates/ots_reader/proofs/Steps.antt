-- Reading the next token of a tree.
use Rattle.std.proofs.Common.{◌≡◌, ℕ, ◌+◌, ◌<◌, Bool, true, false, List, [], ◌∷◌, ◌++◌, length, take, drop, Some, refl, sym, ap, subst, ◌∙◌, arith, append_assoc, length-append}
use Rattle.std.specs.Prelude.{◌≢◌, not, if◌then◌else◌}
use Rattle.std.proofs.lemmas.List.{append-nil, drop_at, take_at, drop-drop, take-append-drop, length-take-le}
use Rattle.std.proofs.Math.Seq.{take-append-add}
use Rattle.ots_base.specs.Table.{line, first_line}
use Rattle.ots_tree.specs.declared.shape.Shape.{Shape}
use Rattle.ots_tree.specs.declared.token.Token.{Token}
use Rattle.ots_tree.specs.declared.token.Token.TheVariants as token
use Rattle.ots_tree.specs.TokenRef.{token_of}
use Rattle.ots_tree.specs.Wire.{spell, spelled}
use Rattle.ots_tree.specs.Walk.{Position, open_at, none_open}
use Rattle.ots_tree.specs.Front.{Open, start, next_at, opened}
use Rattle.ots_tree.proofs.Closing.{front_room}
use Rattle.ots_reader.specs.declared.fault.Reason.{Reason}
use Rattle.ots_reader.specs.declared.fault.Reason.TheVariants.{Truncated, TooDeep, ResultTooLong}
use Rattle.ots_reader.specs.declared.fault.Fault.{Fault}
use Rattle.ots_reader.specs.declared.arrived.Arrived.{Arrived}
use Rattle.ots_reader.specs.declared.front.Front.{Front}
use Rattle.ots_reader.specs.declared.next.Next.{Next}
use Rattle.ots_reader.specs.TokenFault.{token_fault}
use Rattle.ots_reader.specs.TokenRead.{IsTokenAt}
use Rattle.ots_reader.specs.TreeFault.{place_fault, HasTreeFault}
use Rattle.ots_reader.specs.Cut.{IsCut, IsSettled, IsSpelling, IsJoinedAt}
use Rattle.ots_reader.specs.Arrived.{tokens_of, reserved_by, IsHeld}
use Rattle.ots_reader.specs.Front.{IsStanding}
use Rattle.ots_reader.specs.Progress.{ends_at}
use Rattle.ots_reader.specs.OneAnswer.{IsShape}
use Rattle.ots_reader.specs.Tokens.{Tokens, begun, with_token, with_bytes, so_far, IsReading, Stands, Brings, Stops}
use Rattle.ots_reader.proofs.Placed.{all_reserved}
use Rattle.ots_reader.proofs.Places.{IsMessage, opened_messages}
use Rattle.ots_reader.proofs.Walk.{IsWalk, walk_read, fits_more, opens_more, spelled_more, token_stops, place_stops}

-- ---- what a reader has read is a walk over all bytes

-- the tree goes on at this place of a walk
pub record IsAt (r : Tokens) (w : Position Shape) (place : ℕ) : Type 0 where
  pub reading : IsReading r
  pub opens : opened (start r.shape.length r.shape.depth) r.came ≡ Some (open_at w)
  pub len : place ≡ length (spelled r.came)

rest_of : (r : Tokens) (w : Position Shape) (place : ℕ) (piece : List ℕ) → IsAt r w place → drop place (so_far r ++ piece) ≡ r.kept ++ piece
rest_of r w place piece a = ap (drop place) (append_assoc (spelled r.came) r.kept piece) ∙ drop_at (spelled r.came) (r.kept ++ piece) place (sym a.len)

walk_of : (r : Tokens) (w : Position Shape) (place : ℕ) (piece : List ℕ) → IsAt r w place → IsWalk r.shape.length r.shape.depth (so_far r ++ piece) r.came (open_at w) place
walk_of r w place piece a = record {
  opens = a.opens;
  fits = a.reading.is_front.fits;
  whole = append_assoc (spelled r.came) r.kept piece ∙ ap (λ (z : List ℕ). spelled r.came ++ z) (sym (rest_of r w place piece a));
  len = a.len;
}

-- ---- a token that isn't one, or can't stand there

token_faults : (r : Tokens) (w : Position Shape) (place : ℕ) (piece : List ℕ) (reason : Reason) → IsAt r w place → IsSettled (r.kept ++ piece) reason
    → Stops r piece (record { place = place; reason = reason })
token_faults r w place piece reason a s = record {
  place = a.len;
  fault = token_stops r.shape.length r.shape.depth (so_far r ++ piece) r.came w.last w.others w.forked place reason (walk_of r w place piece a)
      (ap token_fault (rest_of r w place piece a) ∙ s.0);
  other = s.1;
}

op_lines : (a b : Bool) (r : Reason) → first_line (line a TooDeep ∷ line b ResultTooLong ∷ []) ≡ Some r → r ≢ Truncated
op_lines true b r e = λ t. cc
op_lines false true r e = λ t. cc
op_lines false false r e = absurd cc

place_reason : (at : Shape) (forked : Bool) (x : Token) (r : Reason) → place_fault at forked x ≡ Some r → r ≢ Truncated
place_reason at true token.Fork r e = λ t. cc
place_reason at false token.Fork r e = absurd cc
place_reason at forked (token.Op o) r e = op_lines _ _ r e
place_reason at forked (token.Attestation a) r e = absurd cc

turn_faults : (r : Tokens) (w : Position Shape) (place : ℕ) (piece : List ℕ) (x : Token) (used : ℕ) (reason : Reason) → IsAt r w place → IsJoinedAt r.kept piece x used
    → place_fault w.last w.forked x ≡ Some reason → Stops r piece (record { place = place; reason = reason })
turn_faults r w place piece x used reason a joined e =
    let at = subst (λ (z : List ℕ). IsTokenAt z x (length r.kept + used)) (sym (rest_of r w place piece a)) joined.token in
    record {
      place = a.len;
      fault = place_stops r.shape.length r.shape.depth (so_far r ++ piece) r.came w.last w.others w.forked place (length r.kept + used) x reason (walk_of r w place piece a) at e;
      other = place_reason w.last w.forked x reason e;
    }

-- ---- a token that stands there

pub none_cut : IsCut []
unfolding token_fault
none_cut = refl

spelling_of : (kept piece : List ℕ) (x : Token) (used : ℕ) → IsJoinedAt kept piece x used → spell x ≡ kept ++ take used piece
spelling_of kept piece x used j =
    let size = length kept + used in
    sym (take_at (spell x) (drop size (kept ++ piece)) size (sym j.token.len)) ∙ sym (ap (take size) j.token.front) ∙ take-append-add kept piece used

pub spelled_joined : (old : Tokens) (piece : List ℕ) (x : Token) (used : ℕ) → IsJoinedAt old.kept piece x used → spelled (old.came ++ x ∷ []) ≡ so_far old ++ take used piece
spelled_joined old piece x used j =
    spelled_more old.came x ∙ ap (λ (z : List ℕ). spelled old.came ++ z) (spelling_of old.kept piece x used j) ∙ sym (append_assoc (spelled old.came) old.kept (take used piece))

drop_after : (fed piece : List ℕ) (used : ℕ) → drop (length fed + used) (fed ++ piece) ≡ drop used piece
drop_after fed piece used = sym (drop-drop used (length fed) (fed ++ piece)) ∙ ap (drop used) (drop_at fed piece (length fed) refl)

-- the tokens after the new one show how the tree stands then
stands : (old : Tokens) (piece : List ℕ) (x : Token) (used : ℕ) (f : Front) (whole : Bool) → IsJoinedAt old.kept piece x used → IsStanding f → f.below ≡ old.shape
    → f.came.tokens ≡ old.came ++ x ∷ [] → f.whole ≡ whole → Stands whole old piece used (with_token old x)
stands old piece x used f true j h below came is =
    let n = f.below.length in
    let k = f.below.depth in
    let input = so_far old ++ piece in
    let place = length (so_far old) + used in
    let fed : spelled f.came.tokens ≡ so_far old ++ take used piece = ap spelled came ∙ spelled_joined old piece x used j in
    let rest : drop place input ≡ drop used piece = drop_after (so_far old) piece used in
    let len : place ≡ length (spelled f.came.tokens) = omega (arith, ap length fed, length-append (so_far old) (take used piece), length-take-le used piece j.within) in
    let all : input ≡ spelled f.came.tokens ++ drop place input = rw (rest, fed, append_assoc (so_far old) (take used piece) (drop used piece), take-append-drop used piece) refl in
    let opens : opened (start n k) f.came.tokens ≡ Some none_open = rw is at h.opens in
    let at = walk_read n k input f.came.tokens none_open place h.shape.depth (record { opens = opens; fits = h.fits; whole = all; len = len }) refl in
    record { is_tree = rw (← below, ← came) at; some = j.some; within = j.within }
stands old piece x used f false j h below came is = record {
  shape = rw (← below) h.shape;
  at = f.walk.last;
  others = f.walk.others;
  forked = f.walk.forked;
  is_front = rw (← below, ← came) (record { fits = h.fits; opens = rw is at h.opens });
  cut = none_cut;
}

pub brings : (old : Tokens) (piece : List ℕ) (next : Next) (f : Front) → IsJoinedAt old.kept piece (token_of next.token) next.used → IsStanding f → f.below ≡ old.shape
    → f.came.tokens ≡ old.came ++ token_of next.token ∷ [] → f.whole ≡ next.last → Brings old piece next
brings old piece next f j h below came is =
    let x = token_of next.token in
    record {
      joined = j;
      fed = append-nil (spelled (old.came ++ x ∷ [])) ∙ spelled_joined old piece x next.used j;
      stands = stands old piece x next.used f next.last j h below came is;
    }

-- ---- what is held

-- the tree goes on where the reader stands
open_if : (whole : Bool) (w : Position Shape) (at : Shape) (others : List Shape) (forked : Bool)
    → Some (if whole then none_open else open_at w) ≡ Some (record { nodes = at ∷ others; forked = forked }) → whole ≡ false
open_if true w at others forked e =
    let same : none_open ≡ record { nodes = at ∷ others; forked = forked } = cc in
    let clash : [] ≡ at ∷ others = ap (λ (s : Open). s.nodes) same in absurd cc
open_if false w at others forked e = refl

pub held_at : (a : Arrived) → IsHeld a → IsReading (tokens_of a) → (a.front.whole ≡ false) × IsAt (tokens_of a) a.front.walk a.front.place
held_at a h r =
    let w = open_if a.front.whole a.front.walk r.at r.others r.forked (sym h.stands.opens ∙ r.is_front.opens) in
    (w, record { reading = r; opens = rw w at h.stands.opens; len = h.stands.place })

-- ---- one more token takes its turn

-- a fork has room
pub has_room : (f : Front) → IsStanding f → f.whole ≡ false → f.walk.forked ≡ false → length f.walk.others < f.walk.room
has_room f h still plain =
    let n = f.below.length in
    let k = f.below.depth in
    let opens : opened (start n k) f.came.tokens ≡ Some (open_at f.walk) = rw still at h.opens in
    let forks : next_at f.walk.last f.walk.others f.walk.forked token.Fork ≡ Some (record { nodes = f.walk.last ∷ f.walk.last ∷ f.walk.others; forked = true }) = rw plain refl in
    let more = opens_more (start n k) f.came.tokens token.Fork (open_at f.walk) _ opens forks in
    let nodes = h.nodes in
    omega (arith, front_room n k (f.came.tokens ++ token.Fork ∷ []) _ h.shape.depth more)

pub node_message : (f : Front) → IsStanding f → f.whole ≡ false → IsMessage f.walk.last.length
node_message f h still =
    let n = f.below.length in
    let k = f.below.depth in
    let opens : opened (start n k) f.came.tokens ≡ Some (open_at f.walk) = rw still at h.opens in
    (opened_messages (start n k) f.came.tokens (open_at f.walk) (record { least = h.shape.least; greatest = h.shape.greatest }, tt) opens).0

-- the token is after the others then
pub record IsAfter (f g : Front) (x : Token) (spelling : List ℕ) (more : Bool) : Type 0 where
  pub below : g.below ≡ f.below
  pub tokens : g.came.tokens ≡ f.came.tokens ++ x ∷ []
  pub place : g.place ≡ f.place + length spelling
  pub whole : g.whole ≡ not more
  pub room : g.walk.room ≡ f.walk.room
  pub moves : next_at f.walk.last f.walk.others f.walk.forked x ≡ Some (if more then open_at g.walk else none_open)

if_not : (more : Bool) (a b : Open) → (if more then a else b) ≡ (if not more then b else a)
if_not true a b = refl
if_not false a b = refl

pub stands_after : (f g : Front) (x : Token) (spelling : List ℕ) (more : Bool) → IsStanding f → f.whole ≡ false → IsSpelling spelling x → IsAfter f g x spelling more → IsStanding g
stands_after f g x spelling more h still s b =
    let n = f.below.length in
    let k = f.below.depth in
    let opens : opened (start n k) f.came.tokens ≡ Some (open_at f.walk) = rw still at h.opens in
    let after = opens_more (start n k) f.came.tokens x (open_at f.walk) _ opens b.moves in
    record {
      shape = rw b.below h.shape;
      fits = rw b.tokens (fits_more f.came.tokens x h.fits s.fits);
      opens = rw (b.below, b.tokens, b.whole) (after ∙ ap Some (if_not more (open_at g.walk) none_open));
      place = rw b.tokens (omega (arith, b.place, h.place, ap length s.is, ap length (spelled_more f.came.tokens x), length-append (spelled f.came.tokens) (spell x)));
      nodes = b.room ∙ h.nodes;
    }

-- ---- reading the next token

pub begun_reads : (s : Shape) → IsShape s.length s.depth → IsReading (begun s)
begun_reads s h = record { shape = h; at = s; others = []; forked = false; is_front = record { fits = tt; opens = refl }; cut = none_cut }

-- the first bytes of the next token, where those of the last one aren't kept
pub kept_now : (a : Arrived) → a.spent ≡ false → (tokens_of a).kept ≡ a.kept.items
kept_now a e = rw e refl

pub not_read : (a : Arrived) (piece : List ℕ) (reason : Reason) → IsHeld a → IsReading (tokens_of a) → a.spent ≡ false → IsSettled (a.kept.items ++ piece) reason
    → Stops (tokens_of a) piece (record { place = a.front.place; reason = reason })
not_read a piece reason h r away s = token_faults (tokens_of a) a.front.walk a.front.place piece reason (held_at a h r).1 (rw (kept_now a away) s)

stops_at : (r : Tokens) (piece : List ℕ) (place : ℕ) (f : Fault) → f.place ≡ place → Stops r piece (record { place = place; reason = f.reason }) → Stops r piece f
stops_at r piece place f e s = subst (Stops r piece) (ap (λ (z : ℕ). record { place = z; reason = f.reason }) (sym e)) s

pub not_placed : (a : Arrived) (piece : List ℕ) (x : Token) (used : ℕ) (f : Fault) → IsHeld a → IsReading (tokens_of a) → a.spent ≡ false → IsJoinedAt a.kept.items piece x used
    → (f.place ≡ a.front.place) × (place_fault a.front.walk.last a.front.walk.forked x ≡ Some f.reason) → Stops (tokens_of a) piece f
not_placed a piece x used f h r away j (place, fault) =
    stops_at (tokens_of a) piece a.front.place f place
    (turn_faults (tokens_of a) a.front.walk a.front.place piece x used f.reason (held_at a h r).1 (rw (kept_now a away) j) fault)

-- no memory was taken meanwhile
pub same_reserved : (a b : Arrived) → IsHeld a → IsHeld b → reserved_by b ≡ reserved_by a
same_reserved a b held holds = all_reserved b holds ∙ sym (all_reserved a held)

-- what is held then
pub with_new : (a b : Arrived) (x : Token) → IsHeld a → IsHeld b → b.front.below ≡ a.front.below → b.front.came.tokens ≡ a.front.came.tokens ++ x ∷ [] → (tokens_of b).kept ≡ []
    → tokens_of b ≡ with_token (tokens_of a) x
with_new a b x held holds below came kept =
    let room = same_reserved a b held holds in
    λ i. record { shape = below i; came = came i; kept = kept i; reserved = room i }

pub still_reading : (a : Arrived) (piece : List ℕ) → IsReading (tokens_of a) → a.spent ≡ false → IsCut (a.kept.items ++ piece) → IsReading (with_bytes (tokens_of a) piece)
still_reading a piece r away cut =
    record { shape = r.shape; at = r.at; others = r.others; forked = r.forked; is_front = r.is_front; cut = rw (kept_now a away) cut }

-- ---- where the bytes end

pub cut_at : (r : Tokens) (piece : List ℕ) → IsReading r → IsCut (r.kept ++ piece) → HasTreeFault r.shape.length r.shape.depth (so_far r ++ piece) (ends_at (length (spelled r.came)))
cut_at r piece h cut =
    let w : Position Shape = record { last = h.at; others = h.others; forked = h.forked; room = 0 } in
    let place = length (spelled r.came) in
    let a : IsAt r w place = record { reading = h; opens = h.is_front.opens; len = refl } in
    token_stops r.shape.length r.shape.depth (so_far r ++ piece) r.came h.at h.others h.forked place Truncated (walk_of r w place piece a)
    (ap token_fault (rest_of r w place piece a) ∙ cut)

pub goes_on : (r : Tokens) → IsReading r → HasTreeFault r.shape.length r.shape.depth (so_far r) (ends_at (length (spelled r.came)))
goes_on r h =
    subst (λ (z : List ℕ). HasTreeFault r.shape.length r.shape.depth z (ends_at (length (spelled r.came)))) (append-nil (so_far r))
    (cut_at r [] h (subst IsCut (sym (append-nil r.kept)) h.cut))
