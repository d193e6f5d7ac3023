-- Transactions: what is read is spelled so, and what is spelled so is read.
use Rattle.std.proofs.Common.{◌≡◌, ℕ, suc, ◌^◌, ◌≤◌, Bool, true, false, cond, eqb, List, [], ◌∷◌, ◌++◌, length, Option, Some, None, Ok, Err, refl, sym, ap, subst, ◌∙◌, append_assoc, arith, inl, inr}
use Rattle.std.specs.List.{flat_map}
use Rattle.std.proofs.lemmas.Bool.{cases_lt, eqb-true, eqb-false, ne_eqb}
use Rattle.ots_block.specs.declared.fault.BlockReason.TheVariants.{BadFlag}
use Rattle.ots_block.specs.Compact.{compact}
use Rattle.ots_block.specs.Transaction.{Input, Output, Transaction, sized, counted, input_bytes, output_bytes, stack_bytes, marker_bytes, witness_bytes, body_bytes, transaction_bytes, IsSized, AreCounted, IsInput, IsOutput, IsStack, IsWitness, IsTransaction}
use Rattle.ots_block.specs.Reading.{Read, run_at, sized_at, many_at, counted_at, input_at, output_at, stack_at, flag_at, marker_at, witness_at, transaction_at}
use Rattle.ots_block.proofs.Spelled.{IsBytes, bind_ok, ok_is, Takes, Takes-then, IsField, run_takes, run_again, compact_1, compact_3, compact_5, sized_field, many_takes, many_again, counted_field}

-- ---- the parts of a transaction

input_field : IsField IsInput input_bytes input_at
unfolding input_at
input_field = record {
  takes = λ bytes x rest fits e.
      let o = bind_ok (run_at 36 bytes) _ (x, rest) e in
      let s = bind_ok (sized_at o.0.1) _ (x, rest) o.2 in
      let q = bind_ok (run_at 4 s.0.1) _ (x, rest) s.2 in
      let to = run_takes 36 bytes o.0.0 o.0.1 fits o.1 in
      let ts = sized_field.takes o.0.1 s.0.0 s.0.1 to.0.rest_fits s.1 in
      let tq = run_takes 4 s.0.1 q.0.0 q.0.1 ts.0.rest_fits q.1 in
      let prefix = Takes-then bytes o.0.0 o.0.1 (sized s.0.0) s.0.1 to.0 ts.0 in
      let whole = Takes-then bytes (o.0.0 ++ sized s.0.0) s.0.1 q.0.0 q.0.1 prefix tq.0 in
      let read : Input × List ℕ = (record { outpoint = o.0.0; script = s.0.0; sequence = q.0.0 }, q.0.1) in
      subst (λ (p : Input × List ℕ). Takes bytes (input_bytes p.0) p.1 × IsInput p.0) (ok_is read (x, rest) q.2)
      (whole, record { outpoint = to.1; script = ts.1; sequence = tq.1 });
  again = λ x rest is.
      let regrouped : input_bytes x ++ rest ≡ x.outpoint ++ (sized x.script ++ (x.sequence ++ rest)) =
      append_assoc (x.outpoint ++ sized x.script) x.sequence rest ∙ append_assoc x.outpoint (sized x.script) (x.sequence ++ rest) in
      ap input_at regrouped
      ∙ rw (run_again 36 x.outpoint (sized x.script ++ (x.sequence ++ rest)) is.outpoint, sized_field.again x.script (x.sequence ++ rest) is.script, run_again 4 x.sequence rest is.sequence) refl;
}

output_field : IsField IsOutput output_bytes output_at
unfolding output_at
output_field = record {
  takes = λ bytes x rest fits e.
      let v = bind_ok (run_at 8 bytes) _ (x, rest) e in
      let s = bind_ok (sized_at v.0.1) _ (x, rest) v.2 in
      let tv = run_takes 8 bytes v.0.0 v.0.1 fits v.1 in
      let ts = sized_field.takes v.0.1 s.0.0 s.0.1 tv.0.rest_fits s.1 in
      let whole = Takes-then bytes v.0.0 v.0.1 (sized s.0.0) s.0.1 tv.0 ts.0 in
      let read : Output × List ℕ = (record { value = v.0.0; script = s.0.0 }, s.0.1) in
      subst (λ (p : Output × List ℕ). Takes bytes (output_bytes p.0) p.1 × IsOutput p.0) (ok_is read (x, rest) s.2)
      (whole, record { value = tv.1; script = ts.1 });
  again = λ x rest is.
      ap output_at (append_assoc x.value (sized x.script) rest)
      ∙ rw (run_again 8 x.value (sized x.script ++ rest) is.value, sized_field.again x.script rest is.script) refl;
}

stack_field : IsField IsStack stack_bytes stack_at
unfolding stack_at
stack_field = counted_field IsSized sized sized_at sized_field

inputs_field : IsField (AreCounted IsInput) (counted input_bytes) (counted_at input_at)
inputs_field = counted_field IsInput input_bytes input_at input_field

outputs_field : IsField (AreCounted IsOutput) (counted output_bytes) (counted_at output_at)
outputs_field = counted_field IsOutput output_bytes output_at output_field

-- ---- the marker

-- what stands there, by whether there is a marker
abbrev Marks : Bool → List ℕ → List ℕ → Type 0
Marks true bytes rest = Takes bytes (0 ∷ 1 ∷ []) rest
Marks false bytes rest = (bytes ≡ rest) × ((more : List ℕ) → bytes ≡ 0 ∷ more → ⊥)

IsBytes-after : (first : ℕ) (bytes : List ℕ) → IsBytes (first ∷ bytes) → IsBytes bytes
IsBytes-after first bytes h i = h (suc i)

flag_by : (first : ℕ) (after : List ℕ) (m : Bool) (rest : List ℕ) (flagged : Bool) → eqb first 1 ≡ flagged → IsBytes after
    → cond {A = Read Bool} flagged (Ok (true, after)) (Err (record { left = length (first ∷ after); reason = BadFlag })) ≡ Ok (m, rest) → Marks m (0 ∷ first ∷ after) rest
flag_by first after m rest true is fits e =
    subst (λ (p : Bool × List ℕ). Marks p.0 (0 ∷ first ∷ after) p.1) (ok_is (true, after) (m, rest) e)
    (record { parts = ap (λ (k : ℕ). 0 ∷ k ∷ after) (eqb-true first 1 is); rest_fits = fits })
flag_by first after m rest false is fits e = absurd cc

flag_takes : (after : List ℕ) (m : Bool) (rest : List ℕ) → IsBytes after → flag_at after ≡ Ok (m, rest) → Marks m (0 ∷ after) rest
unfolding flag_at
flag_takes [] m rest fits e = absurd cc
flag_takes (first ∷ after) m rest fits e = flag_by first after m rest (eqb first 1) refl (IsBytes-after first after fits) e

marker_by : (first : ℕ) (after : List ℕ) (m : Bool) (rest : List ℕ) (zeroed : Bool) → eqb first 0 ≡ zeroed → IsBytes after
    → cond {A = Read Bool} zeroed (flag_at after) (Ok (false, first ∷ after)) ≡ Ok (m, rest) → Marks m (first ∷ after) rest
marker_by first after m rest true is fits e =
    subst (λ (k : ℕ). Marks m (k ∷ after) rest) (sym (eqb-true first 0 is)) (flag_takes after m rest fits e)
marker_by first after m rest false is fits e =
    let never : (first ≡ 0 → ⊥) = eqb-false first 0 is in
    subst (λ (p : Bool × List ℕ). Marks p.0 (first ∷ after) p.1) (ok_is (false, first ∷ after) (m, rest) e) (refl, λ more z. never (cc))

marker_takes : (bytes : List ℕ) (m : Bool) (rest : List ℕ) → IsBytes bytes → marker_at bytes ≡ Ok (m, rest) → Marks m bytes rest
unfolding marker_at
marker_takes [] m rest fits e = subst (λ (p : Bool × List ℕ). Marks p.0 [] p.1) (ok_is (false, []) (m, rest) e) (refl, λ more z. absurd cc)
marker_takes (first ∷ after) m rest fits e = marker_by first after m rest (eqb first 0) refl (IsBytes-after first after fits) e

marked_again : (rest : List ℕ) → marker_at (0 ∷ 1 ∷ rest) ≡ Ok (true, rest)
unfolding marker_at flag_at
marked_again rest = refl

unmarked : (first : ℕ) (rest : List ℕ) → 1 ≤ first → marker_at (first ∷ rest) ≡ Ok (false, first ∷ rest)
unfolding marker_at
unmarked first rest some = rw (ne_eqb first 0 (λ is. absurd (omega arith))) refl

-- a number that is not 0 doesn't begin with the byte 0
unmarked_again : (n : ℕ) (rest : List ℕ) → 1 ≤ n → n ≤ 4194304 → marker_at (compact n ++ rest) ≡ Ok (false, compact n ++ rest)
unmarked_again n rest some few =
    elim (cases_lt n 0xfd) [
      | inl one ↦ rw (compact_1 n one) (unmarked n rest some)
      | inr more ↦
          elim (cases_lt n (2 ^ 16)) [
            | inl two ↦ rw (compact_3 n more two) (unmarked 0xfd _ (omega arith))
            | inr four ↦ rw (compact_5 n four (omega arith)) (unmarked 0xfe _ (omega arith))
          ]
    ]

zero_marks : (inputs : List Input) (bytes more : List ℕ) → bytes ≡ counted input_bytes inputs ++ more → length inputs ≡ 0 → (prefix : List ℕ) × (bytes ≡ 0 ∷ prefix)
zero_marks [] bytes more e none = (more, e ∙ rw (compact_1 0 (omega arith)) refl)
zero_marks (i ∷ inputs) bytes more e none = absurd (omega arith)

some_inputs : (inputs : List Input) (bytes more : List ℕ) → bytes ≡ counted input_bytes inputs ++ more → ((prefix : List ℕ) → bytes ≡ 0 ∷ prefix → ⊥) → 1 ≤ length inputs
some_inputs inputs bytes more e never =
    elim (cases_lt 0 (length inputs)) [
      | inl some ↦ omega arith
      | inr none ↦ absurd (let z = zero_marks inputs bytes more e (omega arith) in never z.0 z.1)
    ]

-- ---- the witness

-- marker and witness by the same test
record Witnessed (inputs : List Input) (a b c d : List ℕ) (w : Option (List (List (List ℕ)))) : Type 0 where
  marker : Takes a (marker_bytes w) b
  witness : Takes c (witness_bytes w) d
  is : IsWitness inputs w

witnessed : (m : Bool) (inputs : List Input) (a b b2 c d : List ℕ) (w : Option (List (List (List ℕ)))) → IsBytes b → IsBytes c
    → Marks m a b → b ≡ counted input_bytes inputs ++ b2 → witness_at m (length inputs) c ≡ Ok (w, d) → Witnessed inputs a b c d w
unfolding witness_at
witnessed false inputs a b b2 c d w fb fc marks is e =
    subst (λ (p : Option (List (List (List ℕ))) × List ℕ). Witnessed inputs a b c p.1 p.0) (ok_is (None, c) (w, d) e) (record {
      marker = record { parts = marks.0; rest_fits = fb };
      witness = record { parts = refl; rest_fits = fc };
      is = some_inputs inputs b b2 is (λ prefix z. marks.1 prefix (marks.0 ∙ z));
    })
witnessed true inputs a b b2 c d w fb fc marks is e =
    let s = bind_ok (many_at stack_at (length inputs) c) (λ s. Ok (Some s.0, s.1)) (w, d) e in
    let t = many_takes IsStack stack_bytes stack_at stack_field (length inputs) c s.0.0 s.0.1 fc s.1 in
    subst (λ (p : Option (List (List (List ℕ))) × List ℕ). Witnessed inputs a b c p.1 p.0) (ok_is (Some s.0.0, s.0.1) (w, d) s.2)
    (record { marker = marks; witness = t.0; is = (t.2, t.1) })

-- ---- a transaction

-- its fields, one after the other
pub record Parts (bytes : List ℕ) (t : Transaction) (rest : List ℕ) : Type 0 where
  pub marked : Bool
  pub b0 : List ℕ
  pub b1 : List ℕ
  pub b2 : List ℕ
  pub b3 : List ℕ
  pub b4 : List ℕ
  pub version : run_at 4 bytes ≡ Ok (t.version, b0)
  pub marker : marker_at b0 ≡ Ok (marked, b1)
  pub inputs : counted_at input_at b1 ≡ Ok (t.inputs, b2)
  pub outputs : counted_at output_at b2 ≡ Ok (t.outputs, b3)
  pub witness : witness_at marked (length t.inputs) b3 ≡ Ok (t.witness, b4)
  pub lock_time : run_at 4 b4 ≡ Ok (t.lock_time, rest)

pub parts_of : (bytes : List ℕ) (t : Transaction) (rest : List ℕ) → transaction_at bytes ≡ Ok (t, rest) → Parts bytes t rest
unfolding transaction_at
parts_of bytes t rest e =
    let v = bind_ok (run_at 4 bytes) _ (t, rest) e in
    let m = bind_ok (marker_at v.0.1) _ (t, rest) v.2 in
    let i = bind_ok (counted_at input_at m.0.1) _ (t, rest) m.2 in
    let o = bind_ok (counted_at output_at i.0.1) _ (t, rest) i.2 in
    let w = bind_ok (witness_at m.0.0 (length i.0.0) o.0.1) _ (t, rest) o.2 in
    let l = bind_ok (run_at 4 w.0.1) _ (t, rest) w.2 in
    let read : Transaction × List ℕ = (record { version = v.0.0; inputs = i.0.0; outputs = o.0.0; witness = w.0.0; lock_time = l.0.0 }, l.0.1) in
    subst (λ (p : Transaction × List ℕ). Parts bytes p.0 p.1) {x = read} {y = (t, rest)} (ok_is read (t, rest) l.2) (record {
      marked = m.0.0;
      b0 = v.0.1;
      b1 = m.0.1;
      b2 = i.0.1;
      b3 = o.0.1;
      b4 = w.0.1;
      version = v.1;
      marker = m.1;
      inputs = i.1;
      outputs = o.1;
      witness = w.1;
      lock_time = l.1;
    })

pub parts_read : (bytes : List ℕ) (t : Transaction) (rest : List ℕ) → Parts bytes t rest → transaction_at bytes ≡ Ok (t, rest)
unfolding transaction_at
parts_read bytes t rest p = rw (p.version, p.marker, p.inputs, p.outputs, p.witness, p.lock_time) refl

-- and what each of them takes
pub record Took (bytes : List ℕ) (t : Transaction) (rest : List ℕ) (p : Parts bytes t rest) : Type 0 where
  pub version : Takes bytes t.version p.b0
  pub marker : Takes p.b0 (marker_bytes t.witness) p.b1
  pub body : Takes p.b1 (body_bytes t) p.b3
  pub witness : Takes p.b3 (witness_bytes t.witness) p.b4
  pub lock_time : Takes p.b4 t.lock_time rest
  pub is : IsTransaction t

IsBytes-marked : (m : Bool) (bytes rest : List ℕ) → IsBytes bytes → Marks m bytes rest → IsBytes rest
IsBytes-marked true bytes rest fits marks = marks.rest_fits
IsBytes-marked false bytes rest fits marks = subst IsBytes marks.0 fits

pub took : (bytes : List ℕ) (t : Transaction) (rest : List ℕ) (p : Parts bytes t rest) → IsBytes bytes → Took bytes t rest p
took bytes t rest p fits =
    let v = run_takes 4 bytes t.version p.b0 fits p.version in
    let m = marker_takes p.b0 p.marked p.b1 v.0.rest_fits p.marker in
    let f1 = IsBytes-marked p.marked p.b0 p.b1 v.0.rest_fits m in
    let i = inputs_field.takes p.b1 t.inputs p.b2 f1 p.inputs in
    let o = outputs_field.takes p.b2 t.outputs p.b3 i.0.rest_fits p.outputs in
    let w = witnessed p.marked t.inputs p.b0 p.b1 p.b2 p.b3 p.b4 t.witness f1 o.0.rest_fits m i.0.parts p.witness in
    let l = run_takes 4 p.b4 t.lock_time rest w.witness.rest_fits p.lock_time in
    record {
      version = v.0;
      marker = w.marker;
      body = Takes-then p.b1 (counted input_bytes t.inputs) p.b2 (counted output_bytes t.outputs) p.b3 i.0 o.0;
      witness = w.witness;
      lock_time = l.0;
      is = record { version = v.1; inputs = i.1; outputs = o.1; witness = w.is; lock_time = l.1 };
    }

transaction_takes : (bytes : List ℕ) (t : Transaction) (rest : List ℕ) → IsBytes bytes → transaction_at bytes ≡ Ok (t, rest)
    → Takes bytes (transaction_bytes t) rest × IsTransaction t
unfolding transaction_bytes
transaction_takes bytes t rest fits e =
    let p = parts_of bytes t rest e in
    let k = took bytes t rest p fits in
    let one = Takes-then bytes t.version p.b0 (marker_bytes t.witness) p.b1 k.version k.marker in
    let two = Takes-then bytes (t.version ++ marker_bytes t.witness) p.b1 (body_bytes t) p.b3 one k.body in
    let three = Takes-then bytes (t.version ++ marker_bytes t.witness ++ body_bytes t) p.b3 (witness_bytes t.witness) p.b4 two k.witness in
    (Takes-then bytes (t.version ++ marker_bytes t.witness ++ body_bytes t ++ witness_bytes t.witness) p.b4 t.lock_time rest three k.lock_time, k.is)

-- the marker is read again, and the witness
abbrev is_marked : Option (List (List (List ℕ))) → Bool
is_marked None = false
is_marked (Some stacks) = true

marker_again : (inputs : List Input) (w : Option (List (List (List ℕ)))) (more : List ℕ) → AreCounted IsInput inputs → IsWitness inputs w
    → marker_at (marker_bytes w ++ (counted input_bytes inputs ++ more)) ≡ Ok (is_marked w, counted input_bytes inputs ++ more)
marker_again inputs None more all is =
    let e = append_assoc (compact (length inputs)) (flat_map input_bytes inputs) more in
    subst (λ (z : List ℕ). marker_at z ≡ Ok (false, z)) (sym e) (unmarked_again (length inputs) (flat_map input_bytes inputs ++ more) is all.most)
marker_again inputs (Some stacks) more all is = marked_again (counted input_bytes inputs ++ more)

witness_again : (inputs : List Input) (w : Option (List (List (List ℕ)))) (more : List ℕ) → IsWitness inputs w
    → witness_at (is_marked w) (length inputs) (witness_bytes w ++ more) ≡ Ok (w, more)
unfolding witness_at
witness_again inputs None more is = refl
witness_again inputs (Some stacks) more is =
    rw (subst (λ (n : ℕ). many_at stack_at n (flat_map stack_bytes stacks ++ more) ≡ Ok (stacks, more)) is.0 (many_again IsStack stack_bytes stack_at stack_field stacks more is.1)) refl

pub transaction_field : IsField IsTransaction transaction_bytes transaction_at
unfolding transaction_bytes
transaction_field = record {
  takes = transaction_takes;
  again = λ t rest is.
      let l : List ℕ = t.lock_time ++ rest in
      let w : List ℕ = witness_bytes t.witness ++ l in
      let o : List ℕ = counted output_bytes t.outputs ++ w in
      let i : List ℕ = counted input_bytes t.inputs ++ o in
      let m : List ℕ = marker_bytes t.witness ++ i in
      let regrouped : transaction_bytes t ++ rest ≡ t.version ++ m = simp append_assoc in
      ap transaction_at regrouped
      ∙ parts_read (t.version ++ m) t rest (record {
        marked = is_marked t.witness;
        b0 = m;
        b1 = i;
        b2 = o;
        b3 = w;
        b4 = l;
        version = run_again 4 t.version m is.version;
        marker = marker_again t.inputs t.witness o is.inputs is.witness;
        inputs = inputs_field.again t.inputs o is.inputs;
        outputs = outputs_field.again t.outputs w is.outputs;
        witness = witness_again t.inputs t.witness l is.witness;
        lock_time = run_again 4 t.lock_time rest is.lock_time;
      });
}
