-- Reading token after token.
use Rattle.std.proofs.Common.{◌≡◌, ℕ, ◌+◌, ◌≤◌, Bool, false, List, [], ◌∷◌, ◌++◌, length, take, drop, Some, None, refl, sym, ap, subst, ◌∙◌, arith, append_assoc, length-append}
use Rattle.std.specs.Prelude.{option_and_then, Result, Ok, Err, IfOk, IfErr}
use Rattle.std.specs.List.{AllByRecursion}
use Rattle.std.proofs.lemmas.Grind.{flat_map-append}
use Rattle.std.proofs.lemmas.List.{append-nil, drop-drop, take_at, drop_at}
use Rattle.ots_base.specs.Memory.{UnlessOutOfMemory}
use Rattle.ots_tree.specs.declared.shape.Shape.{Shape}
use Rattle.ots_tree.specs.declared.tree.Tree.{Tree}
use Rattle.ots_tree.specs.declared.token.Token.{Token}
use Rattle.ots_tree.specs.declared.token.Token.TheVariants as token
use Rattle.ots_tree.specs.Wire.{Node, pre, bytes, spell, spelled, IsToken}
use Rattle.ots_tree.specs.Sound.{IsSoundPre}
use Rattle.ots_tree.specs.Front.{Open, start, next, opened, IsClosed}
use Rattle.ots_tree.proofs.Closing.{front_law}
use Rattle.ots_tree.proofs.Determined.{bytes-apart}
use Rattle.ots_reader.specs.declared.fault.Fault.{Fault}
use Rattle.ots_reader.specs.declared.fault.Reason.{Reason}
use Rattle.ots_reader.specs.declared.fault.ReadError.{ReadError}
use Rattle.ots_reader.specs.declared.fault.ReadError.TheVariants as error
use Rattle.ots_reader.specs.TokenFault.{token_fault}
use Rattle.ots_reader.specs.TokenRead.{IsTokenAt}
use Rattle.ots_reader.specs.TreeFault.{place_fault, BeginsWith, no_token, no_place, HasTreeFault}
use Rattle.ots_reader.specs.OneAnswer.{IsShape}
use Rattle.ots_reader.specs.TreeRead.{IsTreeAt, IsTreeError, IsSoundNode}
use Rattle.ots_reader.proofs.OneFault.{opened-append, open_at, never_both_lem, one_fault_lem}
use Rattle.ots_reader.proofs.NoTokenFault.{token_ok}
use Rattle.ots_reader.proofs.Places.{IsMessage, opened_messages, refused}

-- the tokens so far, the nodes that are open after them, and how many bytes they take
pub record IsWalk (n k : ℕ) (input : List ℕ) (ts : List Token) (s : Open) (place : ℕ) : Type 0 where
  pub opens : opened (start n k) ts ≡ Some s
  pub fits : AllByRecursion IsToken ts
  pub whole : input ≡ spelled ts ++ drop place input
  pub len : place ≡ length (spelled ts)

pub walk_start : (n k : ℕ) (input : List ℕ) → IsWalk n k input [] (start n k) 0
walk_start n k input = record { opens = refl; fits = tt; whole = refl; len = refl }

-- the message of the last open node
pub walk_message : (n k : ℕ) (input : List ℕ) (ts : List Token) (at : Shape) (others : List Shape) (forked : Bool) (place : ℕ) → IsShape n k
    → IsWalk n k input ts (open_at at others forked) place → IsMessage at.length
walk_message n k input ts at others forked place shape w =
    (opened_messages (start n k) ts (open_at at others forked) (record { least = shape.least; greatest = shape.greatest }, tt) w.opens).0

-- ---- one token more

pub fits_more : (ts : List Token) (x : Token) → AllByRecursion IsToken ts → IsToken x → AllByRecursion IsToken (ts ++ x ∷ [])
fits_more [] x h i = (i, tt)
fits_more (t ∷ ts) x h i = (h.0, fits_more ts x h.1 i)

pub spelled_more : (ts : List Token) (x : Token) → spelled (ts ++ x ∷ []) ≡ spelled ts ++ spell x
spelled_more ts x = flat_map-append spell ts (x ∷ []) ∙ ap (λ (z : List ℕ). spelled ts ++ z) (append-nil (spell x))

pub opens_more : (s : Open) (ts : List Token) (x : Token) (u v : Open) → opened s ts ≡ Some u → next x u ≡ Some v → opened s (ts ++ x ∷ []) ≡ Some v
opens_more s ts x u v e f = opened-append s ts (x ∷ []) ∙ ap (option_and_then (λ w. opened w (x ∷ []))) e ∙ ap (option_and_then (λ w. opened w [])) f

pub walk_more : (n k : ℕ) (input : List ℕ) (ts : List Token) (s u : Open) (place used : ℕ) (x : Token)
    → IsWalk n k input ts s place → IsTokenAt (drop place input) x used → next x s ≡ Some u → IsWalk n k input (ts ++ x ∷ []) u (place + used)
walk_more n k input ts s u place used x w t e = record {
  opens = opens_more (start n k) ts x s u w.opens e;
  fits = fits_more ts x w.fits t.fits;
  whole = rw (spelled_more ts x, append_assoc (spelled ts) (spell x) (drop (place + used) input))
      (w.whole ∙ ap (λ (z : List ℕ). spelled ts ++ z) (t.front ∙ ap (λ (z : List ℕ). spell x ++ z) (drop-drop used place input)));
  len = rw (spelled_more ts x) (omega (arith, w.len, t.len, length-append (spelled ts) (spell x)));
}

-- ---- the faults

pub begins_not : (input : List ℕ) (x : Token) (r : Reason) → token_fault input ≡ Some r → BeginsWith input x → ⊥
begins_not input x r e b = let clash : None ≡ Some r = sym (ap token_fault b.spelled ∙ token_ok x b.rest b.fits) ∙ e in cc

pub token_stops : (n k : ℕ) (input : List ℕ) (ts : List Token) (at : Shape) (others : List Shape) (forked : Bool) (place : ℕ) (r : Reason)
    → IsWalk n k input ts (open_at at others forked) place → token_fault (drop place input) ≡ Some r → HasTreeFault n k input (record { place = place; reason = r })
token_stops n k input ts at others forked place r w e = record {
  front = ts;
  rest = drop place input;
  at = at;
  others = others;
  forked = forked;
  is_front = record { fits = w.fits; opens = w.opens };
  whole = w.whole;
  place = w.len;
  reason = no_token (λ x b. begins_not (drop place input) x r e b) e;
}

pub place_stops : (n k : ℕ) (input : List ℕ) (ts : List Token) (at : Shape) (others : List Shape) (forked : Bool) (place used : ℕ) (x : Token) (r : Reason)
    → IsWalk n k input ts (open_at at others forked) place → IsTokenAt (drop place input) x used → place_fault at forked x ≡ Some r
    → HasTreeFault n k input (record { place = place; reason = r })
place_stops n k input ts at others forked place used x r w t e = record {
  front = ts;
  rest = drop place input;
  at = at;
  others = others;
  forked = forked;
  is_front = record { fits = w.fits; opens = w.opens };
  whole = w.whole;
  place = w.len;
  reason = no_place x (record { fits = t.fits; rest = drop used (drop place input); spelled = t.front }) (refused at others forked x r e) e;
}

-- ---- the end

abbrev pub none_open : Open
none_open = record { nodes = []; forked = false }

pub walk_sound : (n k : ℕ) (input : List ℕ) (ts : List Token) (s : Open) (place : ℕ) → k ≤ 255 → IsWalk n k input ts s place → s.nodes ≡ [] → IsSoundPre n k ts
walk_sound n k input ts s place deep w closed = (front_law n k ts deep).0 (subst IsClosed (sym w.opens) closed)

pub walk_read : (n k : ℕ) (input : List ℕ) (ts : List Token) (s : Open) (place : ℕ) → k ≤ 255 → IsWalk n k input ts s place → s.nodes ≡ [] → IsTreeAt n k input ts place
walk_read n k input ts s place deep w closed =
    record { sound = walk_sound n k input ts s place deep w closed; fits = w.fits; front = w.whole; len = w.len }

-- ---- trees at the start of bytes

pub node_at : (n k : ℕ) (input : List ℕ) (tree : Tree) (used : ℕ) (at : IsTreeAt n k input tree used) → IsSoundNode n k at.sound.0
node_at n k input tree used at = record { sound = at.sound.1; fits = subst (AllByRecursion IsToken) (sym at.sound.2) at.fits }

pub node_front : (n k : ℕ) (input : List ℕ) (tree : Tree) (used : ℕ) (at : IsTreeAt n k input tree used) → input ≡ bytes at.sound.0 ++ drop used input
node_front n k input tree used at = at.front ∙ ap (λ (z : List Token). spelled z ++ drop used input) (sym at.sound.2)

pub tree_at : (n k : ℕ) (t : Node) (rest : List ℕ) → IsSoundNode n k t → IsTreeAt n k (bytes t ++ rest) (pre t) (length (bytes t))
tree_at n k t rest h = record {
  sound = (t, h.sound, refl);
  fits = h.fits;
  front = ap (λ (z : List ℕ). bytes t ++ z) (sym (drop_at (bytes t) rest (length (bytes t)) refl));
  len = refl;
}

pub tree_spelled : (n k : ℕ) (input : List ℕ) (tree : Tree) (used : ℕ) → IsTreeAt n k input tree used → take used input ≡ spelled tree
tree_spelled n k input tree used at = ap (take used) at.front ∙ take_at (spelled tree) (drop used input) used (sym at.len)

pub one_tree_at : (n k : ℕ) (input : List ℕ) (t u : Tree) (used more : ℕ) → IsTreeAt n k input t used → IsTreeAt n k input u more → (t ≡ u) × (used ≡ more)
one_tree_at n k input t u used more a b =
    let nodes = (bytes-apart a.sound.0 b.sound.0 (drop used input) (drop more input) (node_at n k input t used a).fits (node_at n k input u more b).fits
    (sym (node_front n k input t used a) ∙ node_front n k input u more b)).0 in
    let trees : t ≡ u = sym a.sound.2 ∙ ap pre nodes ∙ b.sound.2 in
    (trees, a.len ∙ ap (λ (z : List Token). length (spelled z)) trees ∙ sym b.len)

pub not_both : (n k : ℕ) (input : List ℕ) (tree : Tree) (used : ℕ) (f : Fault) → k ≤ 255 → IsTreeAt n k input tree used → HasTreeFault n k input f → ⊥
not_both n k input tree used f deep at fault =
    never_both_lem n k input f at.sound.0 (drop used input) deep fault (node_at n k input tree used at) (node_front n k input tree used at)

-- ---- what is answered, the other way

pub accepted : (n k : ℕ) (input : List ℕ) (r : Result (Tree × ℕ) ReadError) → k ≤ 255 → IfOk r (λ a. IsTreeAt n k input a.0 a.1) → IfErr r (λ e. IsTreeError n k input e)
    → (tree : Tree) (used : ℕ) → IsTreeAt n k input tree used → UnlessOutOfMemory error.OutOfMemory r (Ok (tree, used))
accepted n k input (Ok (t, u)) deep ok err tree used at short =
    let same = one_tree_at n k input t tree u used ok at in
    λ i. Ok (same.0 i, same.1 i)
accepted n k input (Err error.OutOfMemory) deep ok err tree used at short = absurd (short refl)
accepted n k input (Err (error.Fault f)) deep ok err tree used at short = absurd (not_both n k input tree used f deep at err)

pub refuses : (n k : ℕ) (input : List ℕ) (r : Result (Tree × ℕ) ReadError) → k ≤ 255 → IfOk r (λ a. IsTreeAt n k input a.0 a.1) → IfErr r (λ e. IsTreeError n k input e)
    → (f : Fault) → HasTreeFault n k input f → UnlessOutOfMemory error.OutOfMemory r (Err (error.Fault f))
refuses n k input (Ok (t, u)) deep ok err f fault short = absurd (not_both n k input t u f deep ok fault)
refuses n k input (Err error.OutOfMemory) deep ok err f fault short = absurd (short refl)
refuses n k input (Err (error.Fault g)) deep ok err f fault short = ap (λ (z : Fault). Err (error.Fault z)) (one_fault_lem n k input g f err fault)

-- ---- a token takes bytes

pub spell-len : (x : Token) → 1 ≤ length (spell x)
spell-len token.Fork = omega arith
spell-len (token.Op o) = omega arith
spell-len (token.Attestation a) = omega arith

pub token_room : (n k : ℕ) (input : List ℕ) (ts : List Token) (s : Open) (place used : ℕ) (x : Token)
    → IsWalk n k input ts s place → IsTokenAt (drop place input) x used → (1 ≤ used) × (place + used ≤ length input)
token_room n k input ts s place used x w t = (
  omega (arith, t.len, spell-len x),
  omega (arith, w.len, t.len, ap length w.whole, ap length t.front, length-append (spelled ts) (drop place input), length-append (spell x) (drop used (drop place input))),
)

pub walk_place : (n k : ℕ) (input : List ℕ) (ts : List Token) (s : Open) (place : ℕ) → IsWalk n k input ts s place → place ≤ length input
walk_place n k input ts s place w = omega (arith, w.len, ap length w.whole, length-append (spelled ts) (drop place input))
