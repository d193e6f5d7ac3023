-- One more piece of a proof file after its header.
use Rattle.std.proofs.Common.{◌≡◌, ℕ, ◌+◌, ◌<◌, ◌≤◌, ◌^◌, List, ◌∷◌, ◌++◌, length, drop, Option, Some, None, refl, sym, ap, subst, ◌∙◌, arith, append_assoc, length-append, length-drop}
use Rattle.std.specs.Prelude.{◌≢◌}
use Rattle.std.proofs.lemmas.List.{drop-append-le}
use Rattle.ots_tree.specs.declared.token.Token.{Token}
use Rattle.ots_tree.specs.declared.shape.Shape.{Shape}
use Rattle.ots_tree.specs.Wire.{spelled}
use Rattle.ots_reader.specs.declared.fault.Fault.{Fault}
use Rattle.ots_reader.specs.declared.fault.Reason.TheVariants.{Truncated, TrailingBytes}
use Rattle.ots_reader.specs.declared.fault.ReadError.TheVariants as error
use Rattle.ots_reader.specs.Progress.{EndsIn}
use Rattle.ots_reader.specs.Tokens.{so_far}
use Rattle.ots_reader.specs.TreeFault.{HasTreeFault}
use Rattle.ots_reader.specs.TreeRead.{IsTreeAt}
use Rattle.ots_reader.proofs.Stays.{fault_stays}
use Rattle.ots_detached.specs.declared.header.FileHeader.{FileHeader}
use Rattle.ots_detached.specs.File.{file, header, IsHeader}
use Rattle.ots_detached.specs.FileFault.{HasFault, in_header, in_tree, after as after_it, at, moved}
use Rattle.ots_detached.proofs.Headers.{header_length, header_none}
use Rattle.ots_detached.proofs.Files.{rest_is, trailing, error_place}
use Rattle.ots_ops.specs.declared.hash_op.HashOp.{HashOp}
use Rattle.ots_headers.specs.HeaderTable.{Table}
use Rattle.ots_verifier.specs.declared.following.Following.{Following}
use Rattle.ots_verifier.specs.Following.{FollowsTo, FollowsWhole}
use Rattle.ots_verifier.specs.Stage.{after, IsOpen, IsWhole, IsRefused}

-- ---- the header stays

pub header_fits : (b : List ℕ) (h : HashOp) (d : List ℕ) → IsHeader b h d → 33 + length d ≤ length b
header_fits b h d i = omega (arith, ap length i.prefix, length-append (header h d) (drop (33 + length d) b), header_length h d)

pub after_more : (b more : List ℕ) (h : HashOp) (d : List ℕ) → IsHeader b h d → drop (33 + length d) (b ++ more) ≡ drop (33 + length d) b ++ more
after_more b more h d i = drop-append-le (33 + length d) b more (header_fits b h d i)

pub header_more : (b more : List ℕ) (h : HashOp) (d : List ℕ) → IsHeader b h d → IsHeader (b ++ more) h d
header_more b more h d i = record {
  digest = i.digest;
  prefix =
      ap (λ (z : List ℕ). z ++ more) i.prefix
      ∙ append_assoc (header h d) (drop (33 + length d) b) more
      ∙ ap (λ (z : List ℕ). header h d ++ z) (sym (after_more b more h d i));
}

-- ---- a fault stays

fault_more : (b more : List ℕ) (f : Fault) → IsRefused b f → HasFault b f → HasFault (b ++ more) f
fault_more b more f r (in_header e) = let clash : None ≡ Some f = sym (header_none b r.hash r.digest r.header) ∙ e in absurd cc
fault_more b more f r (in_tree h d g i fault is) =
    in_tree h d g (header_more b more h d i)
    (subst (λ (z : List ℕ). HasTreeFault (length d) 0 z g) (sym (after_more b more h d i)) (fault_stays (length d) 0 (drop (33 + length d) b) more g (λ e. r.settled (ap (λ (z : Fault). z.reason) is ∙ e)) fault))
    is
fault_more b more f r (after_it h d t x rest has whole is) =
    after_it h d t x (rest ++ more) has (ap (λ (z : List ℕ). z ++ more) whole ∙ append_assoc (file h d t) (x ∷ rest) more) is

pub refused_more : (b more : List ℕ) (f : Fault) → IsRefused b f → IsRefused (b ++ more) f
refused_more b more f r = record {
  hash = r.hash;
  digest = r.digest;
  header = header_more b more r.hash r.digest r.header;
  fault = fault_more b more f r r.fault;
  settled = r.settled;
}

-- ---- the tree goes on

pub open_more : (bitcoin : Table) (litecoin : Option Table) (b piece : List ℕ) (h : FileHeader) (old new : Following) → IsOpen bitcoin litecoin b h old
    → FollowsTo bitcoin litecoin h.digest old.reader piece new.reader new.messages.position new.best → IsOpen bitcoin litecoin (b ++ piece) h new
open_more bitcoin litecoin b piece h old new i f = record {
  header = header_more b piece h.hash h.digest i.header;
  rest = after_more b piece h.hash h.digest i.header ∙ ap (λ (z : List ℕ). z ++ piece) i.rest ∙ sym f.read.fed;
  follows = f.follows;
}

-- all bytes of the tree
tree_bytes : (bitcoin : Table) (litecoin : Option Table) (b piece : List ℕ) (h : FileHeader) (old : Following) → IsOpen bitcoin litecoin b h old
    → so_far old.reader ++ piece ≡ after h (b ++ piece)
tree_bytes bitcoin litecoin b piece h old i = ap (λ (z : List ℕ). z ++ piece) (sym i.rest) ∙ sym (after_more b piece h.hash h.digest i.header)

pub few : (bitcoin : Table) (litecoin : Option Table) (b piece : List ℕ) (h : FileHeader) (old : Following) → IsOpen bitcoin litecoin b h old → length b + length piece ≤ 4194304
    → length (so_far old.reader) + length piece < 2 ^ 64
few bitcoin litecoin b piece h old i size = omega (arith, ap length i.rest, length-drop (33 + length h.digest) b)

-- ---- the tree has a fault

tree_refuses : (bitcoin : Table) (litecoin : Option Table) (b piece : List ℕ) (h : FileHeader) (old : Following) (g : Fault) → IsOpen bitcoin litecoin b h old
    → HasTreeFault old.reader.shape.length old.reader.shape.depth (so_far old.reader ++ piece) g → HasTreeFault (length h.digest) 0 (after h (b ++ piece)) g
tree_refuses bitcoin litecoin b piece h old g i fault =
    subst (λ (z : List ℕ). HasTreeFault (length h.digest) 0 z g) (tree_bytes bitcoin litecoin b piece h old i)
    (subst (λ (z : Shape). HasTreeFault z.length z.depth (so_far old.reader ++ piece) g) i.follows.shape fault)

pub place_fits : (bitcoin : Table) (litecoin : Option Table) (b piece : List ℕ) (h : FileHeader) (old : Following) (g : Fault) → IsOpen bitcoin litecoin b h old → length b + length piece ≤ 4194304
    → HasTreeFault old.reader.shape.length old.reader.shape.depth (so_far old.reader ++ piece) g → 33 + length h.digest + g.place < 2 ^ 64
place_fits bitcoin litecoin b piece h old g i size fault =
    let low = error_place old.reader.shape.length old.reader.shape.depth (so_far old.reader ++ piece) (error.Fault g) fault in
    omega (arith, low, length-append (so_far old.reader) piece, ap length i.rest, length-drop (33 + length h.digest) b, header_fits b h.hash h.digest i.header)

pub open_refused : (bitcoin : Table) (litecoin : Option Table) (b piece : List ℕ) (h : FileHeader) (old : Following) (g : Fault) → IsOpen bitcoin litecoin b h old
    → HasTreeFault old.reader.shape.length old.reader.shape.depth (so_far old.reader ++ piece) g → g.reason ≢ Truncated → IsRefused (b ++ piece) (moved (33 + length h.digest) g)
open_refused bitcoin litecoin b piece h old g i fault other =
    let here = header_more b piece h.hash h.digest i.header in
    record {
      hash = h.hash;
      digest = h.digest;
      header = here;
      fault = in_tree h.hash h.digest g here (tree_refuses bitcoin litecoin b piece h old g i fault) refl;
      settled = other;
    }

-- ---- the tree ends

tree_there : (bitcoin : Table) (litecoin : Option Table) (b piece : List ℕ) (h : FileHeader) (old : Following) (tokens : List Token) (used : ℕ) → IsOpen bitcoin litecoin b h old
    → EndsIn old.reader.shape (so_far old.reader) piece tokens used → IsTreeAt (length h.digest) 0 (after h (b ++ piece)) tokens (length (after h b) + used)
tree_there bitcoin litecoin b piece h old tokens used i e =
    subst (λ (z : ℕ). IsTreeAt (length h.digest) 0 (after h (b ++ piece)) tokens (z + used)) (sym (ap length i.rest))
    (subst (λ (z : List ℕ). IsTreeAt (length h.digest) 0 z tokens (length (so_far old.reader) + used)) (tree_bytes bitcoin litecoin b piece h old i)
    (subst (λ (z : Shape). IsTreeAt z.length z.depth (so_far old.reader ++ piece) tokens (length (so_far old.reader) + used)) i.follows.shape e.is_tree))

pub open_whole : (bitcoin : Table) (litecoin : Option Table) (b piece : List ℕ) (h : FileHeader) (old new : Following) (used : ℕ) → IsOpen bitcoin litecoin b h old
    → FollowsWhole bitcoin litecoin h.digest old.reader piece used new.best → length piece ≤ used → IsWhole bitcoin litecoin (b ++ piece) h new.best
open_whole bitcoin litecoin b piece h old new used i w all =
    let within = w.ends.within in
    let count : length (after h b) + used ≡ length (after h (b ++ piece)) =
    omega (arith, within, ap length (after_more b piece h.hash h.digest i.header), length-append (after h b) piece) in
    record {
      header = header_more b piece h.hash h.digest i.header;
      tokens = w.tokens;
      tree = subst (IsTreeAt (length h.digest) 0 (after h (b ++ piece)) w.tokens) count (tree_there bitcoin litecoin b piece h old w.tokens used i w.ends);
      is_best = w.is_best;
    }

-- bytes follow a tree that ends at a place
follow : (b : List ℕ) (h : HashOp) (d : List ℕ) (tokens : List Token) (used place : ℕ) → length b ≤ 4194304 → IsHeader b h d → IsTreeAt (length d) 0 (drop (33 + length d) b) tokens used
    → place ≡ 33 + length d + used → place < length b → IsRefused b (at place TrailingBytes)
follow b h d tokens used place size i t is more = record {
  hash = h;
  digest = d;
  header = i;
  fault = rw is (trailing b h d (length d) used tokens size i refl (rw rest_is t) (omega arith));
  settled = λ e. cc;
}

pub open_trailed : (bitcoin : Table) (litecoin : Option Table) (b piece : List ℕ) (h : FileHeader) (old new : Following) (used place : ℕ) → IsOpen bitcoin litecoin b h old
    → length b + length piece ≤ 4194304 → FollowsWhole bitcoin litecoin h.digest old.reader piece used new.best → used < length piece → place ≡ length b + used
    → IsRefused (b ++ piece) (at place TrailingBytes)
open_trailed bitcoin litecoin b piece h old new used place i size w short is =
    let fits = header_fits b h.hash h.digest i.header in
    follow (b ++ piece) h.hash h.digest w.tokens (length (after h b) + used) place (omega (arith, length-append b piece)) (header_more b piece h.hash h.digest i.header)
    (tree_there bitcoin litecoin b piece h old w.tokens used i w.ends)
    (omega (arith, is, fits, length-drop (33 + length h.digest) b)) (omega (arith, is, length-append b piece))

tree_more : (n : ℕ) (input more : List ℕ) (tokens : List Token) (used : ℕ) → IsTreeAt n 0 input tokens used → IsTreeAt n 0 (input ++ more) tokens used
tree_more n input more tokens used t =
    let fits : used ≤ length input = omega (arith, t.len, ap length t.front, length-append (spelled tokens) (drop used input)) in
    record {
      sound = t.sound;
      fits = t.fits;
      front = ap (λ (z : List ℕ). z ++ more) t.front ∙ append_assoc (spelled tokens) (drop used input) more ∙ ap (λ (z : List ℕ). spelled tokens ++ z) (sym (drop-append-le used input more fits));
      len = t.len;
    }

pub whole_trailed : (bitcoin : Table) (litecoin : Option Table) (b piece : List ℕ) (h : FileHeader) (f : Following) (place : ℕ) → IsWhole bitcoin litecoin b h f.best
    → length b + length piece ≤ 4194304 → 0 < length piece → place ≡ length b → IsRefused (b ++ piece) (at place TrailingBytes)
whole_trailed bitcoin litecoin b piece h f place w size some is =
    let fits = header_fits b h.hash h.digest w.header in
    follow (b ++ piece) h.hash h.digest w.tokens (length (after h b)) place (omega (arith, length-append b piece)) (header_more b piece h.hash h.digest w.header)
    (subst (λ (z : List ℕ). IsTreeAt (length h.digest) 0 z w.tokens (length (after h b))) (sym (after_more b piece h.hash h.digest w.header)) (tree_more (length h.digest) (after h b) piece w.tokens (length (after h b)) w.tree))
    (omega (arith, is, fits, length-drop (33 + length h.digest) b)) (omega (arith, is, length-append b piece))
