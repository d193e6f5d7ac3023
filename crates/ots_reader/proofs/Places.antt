-- A token at an open node leads on exactly where no line on its place fits.
use Rattle.std.proofs.Common.{◌≡◌, ℕ, ◌+◌, ◌<◌, ◌≤◌, Bool, true, false, cond, ltb, leb, List, [], ◌∷◌, Option, Some, None, refl, sym, ap, subst, ◌∙◌, inl, inr, arith}
use Rattle.std.specs.Prelude.{◌⊎◌, ◌||◌, ◌&&◌, option_map}
use Rattle.std.specs.List.{AllByRecursion}
use Rattle.std.proofs.lemmas.Bool.{cases_lt, lt-ltb, le-ltb, lt-leb, le-leb, ltb-false, ltb-true}
use Rattle.std.proofs.lemmas.Bool.Decides.{nat_tests}
use Rattle.ots_base.specs.Table.{line, first_line}
use Rattle.ots_ops.specs.declared.op.Op.{Op}
use Rattle.ots_ops.specs.declared.op.Op.TheVariants.{Sha1, Ripemd160, Sha256, Append, Prepend, Reverse, Hexlify}
use Rattle.ots_ops.specs.ResultLength.{len, made, most, fewest}
use Rattle.ots_tree.specs.declared.shape.Shape.{Shape}
use Rattle.ots_tree.specs.declared.token.Token.{Token}
use Rattle.ots_tree.specs.declared.token.Token.TheVariants as token
use Rattle.ots_tree.specs.Front.{Open, shape_after, next_at, opened}
use Rattle.ots_tree.proofs.Closing.{shape_of}
use Rattle.ots_tree.proofs.Walks.{opened_all}
use Rattle.ots_reader.specs.declared.fault.Reason.{Reason}
use Rattle.ots_reader.specs.declared.fault.Reason.TheVariants.{ForkFork, TooDeep, ResultTooLong}
use Rattle.ots_reader.specs.TreeFault.{place_fault}
use Rattle.ots_reader.proofs.OneFault.{open_at}

-- ---- a result that is too long

-- at least one byte and at most 4096
pub record IsMessage (n : ℕ) : Type 0 where
  pub least : 1 ≤ n
  pub greatest : n ≤ 4096

abbrev too_long : Op → ℕ → Bool
too_long o n = ltb 4096 (made o n) || ltb (most o) n

fewest_one : (o : Op) → fewest o ≤ 1
fewest_one Sha1 = omega arith
fewest_one Ripemd160 = omega arith
fewest_one Sha256 = omega arith
fewest_one (Append x) = omega arith
fewest_one (Prepend x) = omega arith
fewest_one Reverse = omega arith
fewest_one Hexlify = omega arith

-- the tests of a length
within : (few n much has : ℕ) → few ≤ n → (ltb 4096 has || ltb much n) ≡ false → (leb few n && leb n much && leb has 4096) ≡ true
within few n much has room e = grind (arith, nat_tests)

beyond : (few n much has : ℕ) → (ltb 4096 has || ltb much n) ≡ true → (leb few n && leb n much && leb has 4096) ≡ false
beyond few n much has e = grind (arith, nat_tests)

len_none : (o : Op) (n : ℕ) → too_long o n ≡ true → len o n ≡ None
len_none o n e = rw (beyond (fewest o) n (most o) (made o n) e) refl

len_some : (o : Op) (n : ℕ) → IsMessage n → too_long o n ≡ false → len o n ≡ Some (made o n)
len_some o n m e =
    let least = m.least in
    let few = fewest_one o in
    rw (within (fewest o) n (most o) (made o n) (omega arith) e) refl

decide : (x : Bool) → (x ≡ true) ⊎ (x ≡ false)
decide true = inl refl
decide false = inr refl

none_too_long : (o : Op) (n : ℕ) → IsMessage n → len o n ≡ None → too_long o n ≡ true
none_too_long o n m e =
    elim (decide (too_long o n)) [
      | inl y ↦ y
      | inr z ↦ absurd (let some : None ≡ Some (made o n) = sym e ∙ len_some o n m z in cc)
    ]

-- ---- the message of an operation's result

made_some : (o : Op) (n : ℕ) → 1 ≤ n → 1 ≤ made o n
made_some Sha1 n h = omega arith
made_some Ripemd160 n h = omega arith
made_some Sha256 n h = omega arith
made_some (Append x) n h = omega arith
made_some (Prepend x) n h = omega arith
made_some Reverse n h = h
made_some Hexlify n h = omega arith

fits : (few n much has m : ℕ) → cond (leb few n && leb n much && leb has 4096) (Some has) None ≡ Some m → (has ≡ m) × (has ≤ 4096)
fits few n much has m e =
    elim (decide (leb few n && leb n much && leb has 4096)) [
      | inl y ↦ (let is : Some has ≡ Some m = rw y at e in cc, grind (arith, nat_tests))
      | inr z ↦ absurd (let is : None ≡ Some m = rw z at e in cc)
    ]

pub result_message : (o : Op) (n m : ℕ) → IsMessage n → len o n ≡ Some m → IsMessage m
result_message o n m h e =
    let f = fits (fewest o) n (most o) (made o n) m e in
    let is = f.0 in
    record { least = omega (arith, made_some o n h.least); greatest = omega (arith, f.1) }

-- ---- every open node has a message

abbrev pub AreMessages : List Shape → Type 0
AreMessages nodes = AllByRecursion (λ p. IsMessage p.length) nodes

message_led : (o : Op) (p r : Shape) → IsMessage p.length → shape_after o p ≡ Some r → IsMessage r.length
message_led o p r m e =
    let h = shape_of o p r e in
    subst (λ (q : Shape). IsMessage q.length) (sym h.shape) (result_message o p.length h.result m h.is)

pub opened_messages : (s : Open) (ts : List Token) (u : Open) → AreMessages s.nodes → opened s ts ≡ Some u → AreMessages u.nodes
opened_messages s ts u h e = opened_all shape_after (λ (p : Shape). IsMessage p.length) message_led ts s u h e

-- ---- a token that can't stand there

no_op : (long : Bool) (m : Option ℕ) (d : ℕ) (g : ℕ → Shape) (r : Reason) → (long ≡ true → m ≡ None) → first_line (line (leb 255 d) TooDeep ∷ line long ResultTooLong ∷ []) ≡ Some r
    → cond (ltb d 255) (option_map g m) None ≡ None
no_op true m d g r none e = rw (none refl) (elim (ltb d 255) as (λ b. cond b (option_map g None) None ≡ None) [ true ↦ refl | false ↦ refl ])
no_op false m d g r none e =
    elim (cases_lt d 255) [
      | inl lt ↦ absurd (let is : None ≡ Some r = rw (lt-leb 255 d lt) at e in cc)
      | inr le ↦ rw (le-ltb d 255 le) refl
    ]

pub refused : (at : Shape) (others : List Shape) (forked : Bool) (x : Token) (r : Reason) → place_fault at forked x ≡ Some r → next_at at others forked x ≡ None
refused at others true token.Fork r e = refl
refused at others false token.Fork r e = absurd cc
refused at others forked (token.Attestation a) r e = absurd cc
refused at others forked (token.Op o) r e =
    ap (option_map (λ (q : Shape). open_at q others false)) (no_op (too_long o at.length) (len o at.length) at.depth (λ n. record { length = n; depth = at.depth + 1 }) r (len_none o at.length) e)

-- ---- an operation that leads nowhere

no_length : (x : Option ℕ) (g : ℕ → Shape) → option_map g x ≡ None → x ≡ None
no_length None g e = refl
no_length (Some m) g e = absurd cc

long_op : (at : Shape) (forked : Bool) (o : Op) → at.depth < 255 → too_long o at.length ≡ true → place_fault at forked (token.Op o) ≡ Some ResultTooLong
long_op at forked o lt long = rw (lt-leb 255 at.depth lt, long) refl

pub deep_op : (at : Shape) (forked : Bool) (o : Op) → ltb at.depth 255 ≡ false → place_fault at forked (token.Op o) ≡ Some TooDeep
deep_op at forked o deep = rw (le-leb 255 at.depth (ltb-false at.depth 255 deep)) refl

pub no_result : (at : Shape) (forked : Bool) (o : Op) → IsMessage at.length → ltb at.depth 255 ≡ true → shape_after o at ≡ None → place_fault at forked (token.Op o) ≡ Some ResultTooLong
no_result at forked o m room none =
    let there : option_map (λ n. let p : Shape = record { length = n; depth = at.depth + 1 } in p) (len o at.length) ≡ None = rw room at none in
    long_op at forked o (ltb-true at.depth 255 room) (none_too_long o at.length m (no_length (len o at.length) (λ n. record { length = n; depth = at.depth + 1 }) there))

-- ---- a token leads on, or has a fault there

pub record Leads (at : Shape) (others : List Shape) (forked : Bool) (x : Token) : Type 0 where
  pub state : Open
  pub is : next_at at others forked x ≡ Some state

pub record Refused (at : Shape) (forked : Bool) (x : Token) : Type 0 where
  pub reason : Reason
  pub is : place_fault at forked x ≡ Some reason

pub leads_or : (at : Shape) (others : List Shape) (forked : Bool) (x : Token) → IsMessage at.length → Refused at forked x ⊎ Leads at others forked x
leads_or at others true token.Fork m = inl (record { reason = ForkFork; is = refl })
leads_or at others false token.Fork m = inr (record { state = open_at at (at ∷ others) true; is = refl })
leads_or at others forked (token.Attestation a) m = inr (record { state = record { nodes = others; forked = false }; is = refl })
leads_or at others forked (token.Op o) m =
    elim (cases_lt at.depth 255) [
      | inr le ↦ inl (record { reason = TooDeep; is = rw (le-leb 255 at.depth le) refl })
      | inl lt ↦ elim (decide (too_long o at.length)) [
        | inl long ↦ inl (record { reason = ResultTooLong; is = long_op at forked o lt long })
        | inr short ↦ inr (record { state = open_at (record { length = made o at.length; depth = at.depth + 1 }) others false; is = rw (lt-ltb at.depth 255 lt, len_some o at.length m short) refl })
      ]
    ]
