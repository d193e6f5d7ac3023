-- What reading the next token answers, the other way: which bytes each answer comes to.
use Rattle.std.proofs.Common.{◌≡◌, ℕ, ◌+◌, Bool, true, false, List, [], ◌∷◌, ◌++◌, length, take, drop, Some, None, refl, sym, ap, ◌∙◌, arith, append_assoc, length-append}
use Rattle.std.specs.Prelude.{Option, Result, Ok, Err}
use Rattle.std.proofs.lemmas.List.{take-append-drop}
use Rattle.ots_tree.specs.declared.token.Token.{Token}
use Rattle.ots_tree.specs.TokenRef.{token_of}
use Rattle.ots_tree.specs.Wire.{spell, spelled}
use Rattle.ots_tree.specs.Walk.{IsClosed}
use Rattle.ots_tree.specs.Front.{Open, start, opened}
use Rattle.ots_tree.proofs.Closing.{front_law}
use Rattle.ots_tree.proofs.Determined.{token-apart}
use Rattle.ots_reader.specs.declared.fault.Fault.{Fault}
use Rattle.ots_reader.specs.declared.fault.Reason.TheVariants.{Truncated}
use Rattle.ots_reader.specs.declared.next.Next.{Next}
use Rattle.ots_reader.specs.Cut.{IsCut, IsJoinedAt}
use Rattle.ots_reader.specs.Progress.{ends_at}
use Rattle.ots_reader.specs.TokenFault.{token_fault}
use Rattle.ots_reader.specs.Tokens.{Tokens, with_token, with_bytes, so_far, IsReading, Stands, Brings, Stops, Nexts, IsExactNext, IsNext, is_none}
use Rattle.ots_reader.specs.TreeFault.{HasTreeFault}
use Rattle.ots_reader.proofs.OneFault.{open_at, one_fault_lem, front_before}
use Rattle.ots_reader.proofs.NoTokenFault.{token_ok}
use Rattle.ots_reader.proofs.Steps.{goes_on, cut_at, spelled_joined}
use Rattle.ots_reader.proofs.Walk.{fits_more, spelled_more, spell-len}

-- ---- a token that is joined

not_cut : (kept piece : List ℕ) (x : Token) (used : ℕ) → IsJoinedAt kept piece x used → IsCut (kept ++ piece) → ⊥
not_cut kept piece x used j cut =
    let clash : None ≡ Some Truncated = sym (token_ok x (drop (length kept + used) (kept ++ piece)) j.token.fits) ∙ ap token_fault (sym j.token.front) ∙ cut in cc

one_joined : (kept piece : List ℕ) (x y : Token) (used more : ℕ) → IsJoinedAt kept piece x used → IsJoinedAt kept piece y more → (x ≡ y) × (used ≡ more)
one_joined kept piece x y used more j k =
    let same = (token-apart x y (drop (length kept + used) (kept ++ piece)) (drop (length kept + more) (kept ++ piece)) j.token.fits k.token.fits (sym j.token.front ∙ k.token.front)).0 in
    (same, omega (arith, j.token.len, k.token.len, ap (λ (z : Token). length (spell z)) same))

-- no fault stands where a token stands
past : (old : Tokens) (piece : List ℕ) (f : Fault) (x : Token) (used : ℕ) (s : Open) → IsReading old → Stops old piece f → IsJoinedAt old.kept piece x used
    → opened (start old.shape.length old.shape.depth) (old.came ++ x ∷ []) ≡ Some s → ⊥
past old piece f x used s r stops j opens =
    let ts = old.came ++ x ∷ [] in
    let whole : so_far old ++ piece ≡ spelled ts ++ drop used piece = rw (spelled_joined old piece x used j, append_assoc (so_far old) (take used piece) (drop used piece), take-append-drop used piece) refl in
    let before = front_before old.shape.length old.shape.depth (so_far old ++ piece) f ts (drop used piece) s stops.fault (fits_more old.came x r.is_front.fits j.token.fits) whole opens in
    absurd (omega (arith, before, stops.place, ap length (spelled_more old.came x), length-append (spelled old.came) (spell x), spell-len x))

-- ---- the nodes that are open after a token

record Open_by (old : Tokens) (ts : List Token) (last : Bool) : Type 0 where
  state : Open
  opens : opened (start old.shape.length old.shape.depth) ts ≡ Some state
  is : last ≡ is_none state.nodes

closed_by : (old : Tokens) (ts : List Token) (o : Option Open) → opened (start old.shape.length old.shape.depth) ts ≡ o → IsClosed o → Open_by old ts true
closed_by old ts None e h = absurd h
closed_by old ts (Some s) e h = record { state = s; opens = e; is = rw h refl }

open_there : (old : Tokens) (piece : List ℕ) (x : Token) (used : ℕ) (last : Bool) → IsReading old → Stands last old piece used (with_token old x) → Open_by old (old.came ++ x ∷ []) last
open_there old piece x used true r s = closed_by old (old.came ++ x ∷ []) _ refl ((front_law old.shape.length old.shape.depth (old.came ++ x ∷ []) r.shape.depth).1 s.is_tree.sound)
open_there old piece x used false r s = record { state = open_at s.at s.others s.forked; opens = s.is_front.opens; is = refl }

open_by : (old : Tokens) (piece : List ℕ) (next : Next) → IsReading old → Brings old piece next → Open_by old (old.came ++ token_of next.token ∷ []) next.last
open_by old piece next r b = open_there old piece (token_of next.token) next.used next.last r b.stands

-- ---- each answer

comes : (old : Tokens) (piece : List ℕ) (answer : Result (Option Next) Fault) → IsReading old → Nexts old piece answer
    → (x : Token) (used : ℕ) (s : Open) → IsJoinedAt old.kept piece x used → opened (start old.shape.length old.shape.depth) (old.came ++ x ∷ []) ≡ Some s
    → IsNext x used (is_none s.nodes) answer
comes old piece (Ok (Some next)) r b x used s j opens =
    let y = token_of next.token in
    let same = one_joined old.kept piece x y used next.used j b.joined in
    let o = open_by old piece next r b in
    let states : Some s ≡ Some o.state = sym opens ∙ ap (λ (z : Token). opened (start old.shape.length old.shape.depth) (old.came ++ z ∷ [])) same.0 ∙ o.opens in
    let state : s ≡ o.state = cc in
    (sym same.0, sym same.1, o.is ∙ ap (λ (z : Open). is_none z.nodes) (sym state))
comes old piece (Ok None) r k x used s j opens = absurd (not_cut old.kept piece x used j k.cut)
comes old piece (Err f) r stops x used s j opens = absurd (past old piece f x used s r stops j opens)

stops_so : (old : Tokens) (piece : List ℕ) (answer : Result (Option Next) Fault) → IsReading old → Nexts old piece answer → (f : Fault) → Stops old piece f → answer ≡ Err f
stops_so old piece (Ok (Some next)) r b f h = let o = open_by old piece next r b in absurd (past old piece f (token_of next.token) next.used o.state r h b.joined o.opens)
stops_so old piece (Ok None) r k f h =
    let n = old.shape.length in
    let d = old.shape.depth in
    let bytes : so_far (with_bytes old piece) ≡ so_far old ++ piece = sym (append_assoc (spelled old.came) old.kept piece) in
    let ends : HasTreeFault n d (so_far old ++ piece) (ends_at (length (spelled old.came))) = rw (← bytes) (goes_on (with_bytes old piece) k) in
    absurd (h.other (ap (λ (z : Fault). z.reason) (one_fault_lem n d (so_far old ++ piece) f (ends_at (length (spelled old.came))) h.fault ends)))
stops_so old piece (Err g) r stops f h = ap Err (one_fault_lem old.shape.length old.shape.depth (so_far old ++ piece) g f stops.fault h.fault)

goes_on_so : (old : Tokens) (piece : List ℕ) (answer : Result (Option Next) Fault) → IsReading old → Nexts old piece answer → IsCut (old.kept ++ piece) → answer ≡ Ok None
goes_on_so old piece (Ok (Some next)) r b cut = absurd (not_cut old.kept piece (token_of next.token) next.used b.joined cut)
goes_on_so old piece (Ok None) r k cut = refl
goes_on_so old piece (Err f) r stops cut =
    let place = length (spelled old.came) in
    absurd (stops.other (ap (λ (z : Fault). z.reason) (one_fault_lem old.shape.length old.shape.depth (so_far old ++ piece) f (ends_at place) stops.fault (cut_at old piece r cut))))

pub exact_next : (old : Tokens) (piece : List ℕ) (answer : Result (Option Next) Fault) → IsReading old → Nexts old piece answer → IsExactNext old piece answer
exact_next old piece answer r h = record { comes = comes old piece answer r h; stops = stops_so old piece answer r h; goes_on = goes_on_so old piece answer r h }
