-- Where the lengths of messages go on, the messages do.
use Rattle.std.proofs.Common.{◌≡◌, ℕ, ◌≤◌, Bool, true, false, cond, List, [], ◌∷◌, ◌++◌, map, length, Option, Some, None, refl, sym, ap, ◌∙◌, arith, append_assoc}
use Rattle.std.specs.Prelude.{unwrap_or, option_and_then, option_map, nat_le, ◌&&◌}
use Rattle.std.proofs.lemmas.List.{append-nil, length-map}
use Rattle.ots_base.specs.declared.limits.TheConstants.{MAX_MESSAGE}
use Rattle.ots_ops.specs.Apply.{applied, apply}
use Rattle.ots_ops.specs.ResultLength.{fewest, most, made, len}
use Rattle.ots_ops.specs.declared.op.Op.{Op}
use Rattle.ots_ops.proofs.AppliedLength.{length_of_applied}
use Rattle.ots_tree.specs.declared.shape.Shape.{Shape}
use Rattle.ots_tree.specs.declared.token.Token.{Token}
use Rattle.ots_tree.specs.declared.token.Token.TheVariants as token
use Rattle.ots_tree.specs.Walk.{Open, begun, next, opened, Met, met_at, met}
use Rattle.ots_tree.specs.Front.{shape_after, start}
use Rattle.ots_tree.proofs.Closing.{shape_of, front_room}
use Rattle.ots_tree.proofs.Walks.{By, at, map_open, opened_append, opened_map, opened_along}

-- ---- the length of an operation's result

made_by : (b : Bool) (x n : ℕ) → cond b (Some x) None ≡ Some n → x ≡ n
made_by true x n e = cc
made_by false x n e = absurd cc

result_length : (o : Op) (m : List ℕ) (x : Option ℕ) → len o (length m) ≡ x → x ≡ option_map length (option_map (λ n. applied o m) x)
result_length o m None e = refl
result_length o m (Some n) e =
    let k = length m in
    let is : made o k ≡ n = made_by (nat_le (fewest o) k && nat_le k (most o) && nat_le (made o k) MAX_MESSAGE) (made o k) n e in
    ap Some (sym is ∙ sym (length_of_applied o m))

message_lengths : (o : Op) (m : List ℕ) → len o (length m) ≡ option_map length (apply o m)
message_lengths o m = result_length o m (len o (length m)) refl

abbrev length_in : Shape → ℕ
length_in p = p.length

shape_lengths : (o : Op) (s r : Shape) → shape_after o s ≡ Some r → len o (length_in s) ≡ Some (length_in r)
shape_lengths o s r e = let h = shape_of o s r e in h.is ∙ ap (λ z. Some (length_in z)) (sym h.shape)

-- ---- messages go on where their lengths do

back : {S T : Type 0} (g : Open S → Open T) (o : Option (Open S)) (u : Open T) → option_map g o ≡ Some u → (v : Open S) × (o ≡ Some v) × (g v ≡ u)
back g None u e = absurd cc
back g (Some v) u e = (v, refl, cc)

pub record Valued (digest : List ℕ) (ts : List Token) (u : Open Shape) : Type 0 where
  pub after : Open (List ℕ)
  pub is : opened apply (begun digest) ts ≡ Some after
  pub count : length after.nodes ≡ length u.nodes
  pub forked : after.forked ≡ u.forked

pub valued : (digest : List ℕ) (ts : List Token) (u : Open Shape) → opened shape_after (start (length digest) 0) ts ≡ Some u → Valued digest ts u
valued digest ts u e =
    let along : opened len (at (length digest ∷ []) false) ts ≡ Some (map_open length_in u) = opened_along length_in shape_after len shape_lengths ts (start (length digest) 0) u e in
    let b = back (map_open length) (opened apply (begun digest) ts) (map_open length_in u) (sym (opened_map length apply len message_lengths ts (begun digest)) ∙ along) in
    let nodes : map length b.0.nodes ≡ map length_in u.nodes = ap (λ z. z.nodes) b.2 in
    record {
      after = b.0;
      is = b.1;
      count = sym (length-map b.0.nodes length) ∙ ap length nodes ∙ length-map u.nodes length_in;
      forked = ap (λ z. z.forked) b.2;
    }

-- ---- and have rows

plain_room : (n : ℕ) (ts : List Token) (nodes : List Shape) (forked : Bool) → opened shape_after (start n 0) ts ≡ Some (at nodes forked) → forked ≡ false → length nodes ≤ 256
plain_room n ts [] forked e plain = omega arith
plain_room n ts (s ∷ ss) true e plain = absurd cc
plain_room n ts (s ∷ ss) false e plain =
    let more : opened shape_after (start n 0) (ts ++ token.Fork ∷ []) ≡ Some (at (s ∷ s ∷ ss) true) = opened_append shape_after (start n 0) ts (token.Fork ∷ []) ∙ rw e refl in
    omega (arith, front_room n 0 (ts ++ token.Fork ∷ []) (at (s ∷ s ∷ ss) true) (omega arith) more)

pub record HasRows (v : Open (List ℕ)) : Type 0 where
  pub most : length v.nodes ≤ 257
  pub plain : v.forked ≡ false → length v.nodes ≤ 256

pub rows_for : (digest : List ℕ) (ts : List Token) (u : Open Shape) → opened shape_after (start (length digest) 0) ts ≡ Some u → (v : Valued digest ts u) → HasRows v.after
rows_for digest ts u e v = record {
  most = omega (arith, v.count, front_room (length digest) 0 ts u (omega arith) e);
  plain = λ plain. omega (arith, v.count, plain_room (length digest) ts u.nodes u.forked e (sym v.forked ∙ plain));
}

-- ---- one token more

some_next : {S : Type 0} (by : By S) (o : Option (Open S)) (v : Open S) → option_and_then (λ u. opened by u []) o ≡ Some v → o ≡ Some v
some_next by None v e = absurd cc
some_next by (Some u) v e = e

pub next_of : {S : Type 0} (by : By S) (s u v : Open S) (ts : List Token) (x : Token) → opened by s ts ≡ Some u → opened by s (ts ++ x ∷ []) ≡ Some v → next by x u ≡ Some v
next_of by s u v ts x e f =
    some_next by (next by x u) v (ap (option_and_then (λ w. opened by w (x ∷ []))) (sym e) ∙ sym (opened_append by s ts (x ∷ [])) ∙ f)

-- ---- what is met

met_more : {S : Type 0} (by : By S) (first : List (Met S)) (o : Option (Open S)) (ts us : List Token)
    → ((u : Open S) → met by u (ts ++ us) ≡ met by u ts ++ unwrap_or (option_map (λ w. met by w us) (opened by u ts)) [])
    → first ++ unwrap_or (option_map (λ u. met by u (ts ++ us)) o) []
    ≡ (first ++ unwrap_or (option_map (λ u. met by u ts) o) []) ++ unwrap_or (option_map (λ w. met by w us) (option_and_then (λ u. opened by u ts) o)) []
met_more by first None ts us h = sym (append-nil (first ++ []))
met_more by first (Some u) ts us h = ap (λ z. first ++ z) (h u) ∙ sym (append_assoc first (met by u ts) _)

met_append : {S : Type 0} (by : By S) (s : Open S) (ts us : List Token) → met by s (ts ++ us) ≡ met by s ts ++ unwrap_or (option_map (λ u. met by u us) (opened by s ts)) []
met_append by s [] us = refl
met_append by s (x ∷ ts) us = met_more by (met_at s.nodes x) (next by x s) ts us (λ u. met_append by u ts us)

none_met : {S : Type 0} (by : By S) (o : Option (Open S)) → unwrap_or (option_map (λ u. met by u []) o) [] ≡ []
none_met by None = refl
none_met by (Some u) = refl

pub last_met : {S : Type 0} (by : By S) (s u : Open S) (ts : List Token) (x : Token) → opened by s ts ≡ Some u → met by s (ts ++ x ∷ []) ≡ met by s ts ++ met_at u.nodes x
last_met by s u ts x e =
    met_append by s ts (x ∷ [])
    ∙ ap (λ z. met by s ts ++ unwrap_or (option_map (λ w. met by w (x ∷ [])) z) []) e
    ∙ ap (λ z. met by s ts ++ (met_at u.nodes x ++ z)) (none_met by (next by x u))
    ∙ ap (λ z. met by s ts ++ z) (append-nil (met_at u.nodes x))
