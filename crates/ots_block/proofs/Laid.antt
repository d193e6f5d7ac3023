-- The places of transactions, and what stands there.
use Rattle.std.proofs.Common.{◌≡◌, ℕ, zero, suc, ◌+◌, ◌-◌, ◌≤◌, List, [], ◌∷◌, ◌++◌, length, map, take, drop, Ok, Err, refl, sym, ap, subst, ◌∙◌, append_assoc, length-append, arith}
use Rattle.std.specs.List.{AllByRecursion}
use Rattle.std.proofs.lemmas.List.{take_at, drop_at, drop-drop}
use Rattle.ots_block.specs.declared.places.Places.{Places}
use Rattle.ots_block.specs.Transaction.{Transaction, body_bytes, marker_bytes, witness_bytes, transaction_bytes, stripped}
use Rattle.ots_block.specs.Reading.{Halt, Read, ◌>>=◌, run_at, many_at, counted_at, input_at, output_at, marker_at, witness_at, transaction_at}
use Rattle.ots_block.specs.Ends.{End, run_end, counted_end, input_end, output_end, witness_end, laid_at, last, stripped_in, AreWithin}
use Rattle.ots_block.proofs.Ending.{rest_of, size_of, run_ends, counted_sizes, input_ends, output_ends, witness_ends, many_ends, transaction_ends}
use Rattle.ots_block.proofs.Spelled.{IsBytes, bind_ok, ok_is, Takes}
use Rattle.ots_block.proofs.OneTransaction.{Parts, parts_read, took, transaction_field}

-- ---- values of which the end is known

pub value_of : {A : Type 0} (r : Read A) (rest : List ℕ) → rest_of r ≡ Ok rest → (x : A) × (r ≡ Ok (x, rest))
value_of (Ok x) rest e = (x.0, ap (λ (z : End). z >>= λ l. Ok (x.0, l)) e)
value_of (Err h) rest e = absurd cc

pub halted : {A : Type 0} (r : Read A) (h : Halt) → rest_of r ≡ Err h → r ≡ Err h
halted (Ok x) h e = absurd cc
halted (Err g) h e = ap (λ (z : End). z >>= λ l. Err g) e ∙ cc

sized_value : {A : Type 0} (r : Read (List A)) (n : ℕ) (rest : List ℕ) → size_of r ≡ Ok (n, rest) → (xs : List A) × (r ≡ Ok (xs, rest)) × (length xs ≡ n)
sized_value (Ok x) n rest e =
    let both : (length x.0, x.1) ≡ (n, rest) = ok_is (length x.0, x.1) (n, rest) e in
    (x.0, ap (λ (p : ℕ × List ℕ). Ok (x.0, p.1)) both, ap (λ (p : ℕ × List ℕ). p.0) both)
sized_value (Err h) n rest e = absurd cc

-- ---- one transaction

-- the places that are told are those of its parts
pub record IsLaid (bytes : List ℕ) (p : Places) (rest : List ℕ) : Type 0 where
  pub t : Transaction
  pub parts : Parts bytes t rest
  pub start : p.start ≡ length bytes
  pub body : p.body ≡ length parts.b1
  pub witness : p.witness ≡ length parts.b3
  pub lock_time : p.lock_time ≡ length parts.b4

pub laid : (bytes : List ℕ) (p : Places) (rest : List ℕ) → laid_at bytes ≡ Ok (p, rest) → IsLaid bytes p rest
unfolding laid_at
laid bytes p rest e =
    let v = bind_ok (run_end 4 bytes) _ (p, rest) e in
    let m = bind_ok (marker_at v.0) _ (p, rest) v.2 in
    let i = bind_ok (counted_end input_end m.0.1) _ (p, rest) m.2 in
    let o = bind_ok (counted_end output_end i.0.1) _ (p, rest) i.2 in
    let w = bind_ok (witness_end m.0.0 i.0.0 o.0.1) _ (p, rest) o.2 in
    let l = bind_ok (run_end 4 w.0) _ (p, rest) w.2 in
    let vv = value_of (run_at 4 bytes) v.0 (run_ends 4 bytes ∙ v.1) in
    let iv = sized_value (counted_at input_at m.0.1) i.0.0 i.0.1 (counted_sizes input_at input_end input_ends m.0.1 ∙ i.1) in
    let ov = sized_value (counted_at output_at i.0.1) o.0.0 o.0.1 (counted_sizes output_at output_end output_ends i.0.1 ∙ o.1) in
    let wv = value_of (witness_at m.0.0 (length iv.0) o.0.1) w.0
    (witness_ends m.0.0 (length iv.0) o.0.1 ∙ ap (λ (n : ℕ). witness_end m.0.0 n o.0.1) iv.2 ∙ w.1) in
    let lv = value_of (run_at 4 w.0) l.0 (run_ends 4 w.0 ∙ l.1) in
    let told : Places × List ℕ = (record { start = length bytes; body = length m.0.1; witness = length o.0.1; lock_time = length w.0 }, l.0) in
    subst (λ (q : Places × List ℕ). IsLaid bytes q.0 q.1) {x = told} {y = (p, rest)} (ok_is told (p, rest) l.2) (record {
      t = record { version = vv.0; inputs = iv.0; outputs = ov.0; witness = wv.0; lock_time = lv.0 };
      parts = record {
        marked = m.0.0;
        b0 = v.0;
        b1 = m.0.1;
        b2 = i.0.1;
        b3 = o.0.1;
        b4 = w.0;
        version = vv.1;
        marker = m.1;
        inputs = iv.1;
        outputs = ov.1;
        witness = wv.1;
        lock_time = lv.1;
      };
      start = refl;
      body = refl;
      witness = refl;
      lock_time = refl;
    })

-- the last bytes
last_of : (prefix rest bytes : List ℕ) → bytes ≡ prefix ++ rest → last (length rest) bytes ≡ rest
last_of prefix rest bytes e =
    ap (λ (z : List ℕ). last (length rest) z) e ∙ drop_at prefix rest (length (prefix ++ rest) - length rest) (omega (arith, length-append prefix rest))

last_further : (prefix bytes : List ℕ) (n : ℕ) → n ≤ length bytes → last n (prefix ++ bytes) ≡ last n bytes
last_further prefix bytes n within =
    ap (λ k. drop k (prefix ++ bytes)) {x = length (prefix ++ bytes) - n} {y = length prefix + (length bytes - n)} (omega (arith, length-append prefix bytes))
    ∙ sym (drop-drop (length bytes - n) (length prefix) (prefix ++ bytes))
    ∙ ap (drop (length bytes - n)) (drop_at prefix bytes (length prefix) refl)

lengths : (bytes text rest : List ℕ) → Takes bytes text rest → length bytes ≡ length text + length rest
lengths bytes text rest t = ap length t.parts ∙ length-append text rest

pub within : (bytes : List ℕ) (p : Places) (rest : List ℕ) (l : IsLaid bytes p rest) → IsBytes bytes → AreWithin (length bytes) p
within bytes p rest l fits =
    let k = took bytes l.t rest l.parts fits in
    let v = lengths _ _ _ k.version in
    let m = lengths _ _ _ k.marker in
    let b = lengths _ _ _ k.body in
    let w = lengths _ _ _ k.witness in
    let t = lengths _ _ _ k.lock_time in
    let lv = k.is.version in
    let lt = k.is.lock_time in
    let ps = l.start in
    let pb = l.body in
    let pw = l.witness in
    let pl = l.lock_time in
    record { start = omega arith; body = omega arith; witness = omega arith; lock_time = omega arith; room = omega arith }

pub strips : (bytes : List ℕ) (p : Places) (rest : List ℕ) (l : IsLaid bytes p rest) → IsBytes bytes → stripped_in bytes p ≡ stripped l.t
unfolding stripped_in stripped
strips bytes p rest l fits =
    let q = l.parts in
    let k = took bytes l.t rest q fits in
    let to1 : bytes ≡ (l.t.version ++ marker_bytes l.t.witness) ++ q.b1 =
    k.version.parts ∙ ap (λ (z : List ℕ). l.t.version ++ z) k.marker.parts ∙ sym (append_assoc l.t.version (marker_bytes l.t.witness) q.b1) in
    let to3 : bytes ≡ ((l.t.version ++ marker_bytes l.t.witness) ++ body_bytes l.t) ++ q.b3 =
    to1 ∙ ap (λ (z : List ℕ). (l.t.version ++ marker_bytes l.t.witness) ++ z) k.body.parts ∙ sym (append_assoc (l.t.version ++ marker_bytes l.t.witness) (body_bytes l.t) q.b3) in
    let to4 : bytes ≡ (((l.t.version ++ marker_bytes l.t.witness) ++ body_bytes l.t) ++ witness_bytes l.t.witness) ++ q.b4 =
    to3 ∙ ap (λ (z : List ℕ). ((l.t.version ++ marker_bytes l.t.witness) ++ body_bytes l.t) ++ z) k.witness.parts
    ∙ sym (append_assoc ((l.t.version ++ marker_bytes l.t.witness) ++ body_bytes l.t) (witness_bytes l.t.witness) q.b4) in
    let v : take 4 (last p.start bytes) ≡ l.t.version =
    ap (λ n. take 4 (last n bytes)) l.start ∙ ap (take 4) (last_of [] bytes bytes refl ∙ k.version.parts) ∙ take_at l.t.version q.b0 4 k.is.version in
    let some : length q.b1 ≡ length (body_bytes l.t) + length q.b3 = lengths _ _ _ k.body in
    let count : length (body_bytes l.t) ≡ p.body - p.witness = let pb = l.body in let pw = l.witness in omega arith in
    let b : take (p.body - p.witness) (last p.body bytes) ≡ body_bytes l.t =
    ap (λ n. take (p.body - p.witness) (last n bytes)) l.body ∙ ap (take (p.body - p.witness)) (last_of _ q.b1 bytes to1 ∙ k.body.parts)
    ∙ take_at (body_bytes l.t) q.b3 (p.body - p.witness) count in
    let t : take 4 (last p.lock_time bytes) ≡ l.t.lock_time =
    ap (λ n. take 4 (last n bytes)) l.lock_time ∙ ap (take 4) (last_of _ q.b4 bytes to4 ∙ k.lock_time.parts) ∙ take_at l.t.lock_time rest 4 k.is.lock_time in
    λ j. v j ++ b j ++ t j

-- in longer bytes
strips_further : (prefix bytes : List ℕ) (p : Places) → AreWithin (length bytes) p → stripped_in (prefix ++ bytes) p ≡ stripped_in bytes p
unfolding stripped_in
strips_further prefix bytes p w =
    let s : p.start ≤ length bytes = w.start in
    let b : p.body ≤ length bytes = omega (arith, w.start, w.body) in
    let l : p.lock_time ≤ length bytes = omega (arith, w.start, w.body, w.witness, w.lock_time) in
    λ j. take 4 (last_further prefix bytes p.start s j) ++ take (p.body - p.witness) (last_further prefix bytes p.body b j) ++ take 4 (last_further prefix bytes p.lock_time l j)

-- ---- one transaction after the other

pub record AllLaid (n : ℕ) (bytes : List ℕ) (ps : List Places) (rest : List ℕ) : Type 0 where
  pub ts : List Transaction
  pub reads : many_at transaction_at n bytes ≡ Ok (ts, rest)
  pub strips : (prefix : List ℕ) → map (stripped_in (prefix ++ bytes)) ps ≡ map stripped ts
  pub within : (m : ℕ) → length bytes ≤ m → AllByRecursion (AreWithin m) ps

wider : (n m : ℕ) (p : Places) → n ≤ m → AreWithin n p → AreWithin m p
wider n m p more w = record { start = omega (arith, w.start); body = w.body; witness = w.witness; lock_time = w.lock_time; room = w.room }

many_more : (n : ℕ) (bytes : List ℕ) (t : Transaction) (after : List ℕ) (ts : List Transaction) (rest : List ℕ) → transaction_at bytes ≡ Ok (t, after)
    → many_at transaction_at n after ≡ Ok (ts, rest) → many_at transaction_at (suc n) bytes ≡ Ok (t ∷ ts, rest)
unfolding many_at
many_more n bytes t after ts rest e f = rw (e, f) refl

pub all_laid : (n : ℕ) (bytes : List ℕ) (ps : List Places) (rest : List ℕ) → IsBytes bytes → many_at laid_at n bytes ≡ Ok (ps, rest) → AllLaid n bytes ps rest
unfolding many_at
all_laid zero bytes ps rest fits e =
    subst (λ (q : List Places × List ℕ). AllLaid zero bytes q.0 q.1) (ok_is ([], bytes) (ps, rest) e)
    (record { ts = []; reads = refl; strips = λ prefix. refl; within = λ m more. tt })
all_laid (suc n) bytes ps rest fits e =
    let a = bind_ok (laid_at bytes) _ (ps, rest) e in
    let b = bind_ok (many_at laid_at n a.0.1) _ (ps, rest) a.2 in
    let l = laid bytes a.0.0 a.0.1 a.1 in
    let t = transaction_field.takes bytes l.t a.0.1 fits (parts_read bytes l.t a.0.1 l.parts) in
    let o = all_laid n a.0.1 b.0.0 b.0.1 t.0.rest_fits b.1 in
    let w = within bytes a.0.0 a.0.1 l fits in
    let far : (prefix : List ℕ) → prefix ++ bytes ≡ (prefix ++ transaction_bytes l.t) ++ a.0.1 =
    λ prefix. ap (λ (z : List ℕ). prefix ++ z) t.0.parts ∙ sym (append_assoc prefix (transaction_bytes l.t) a.0.1) in
    let others : (prefix : List ℕ) → map (stripped_in (prefix ++ bytes)) b.0.0 ≡ map stripped o.ts =
    λ prefix. ap (λ (z : List ℕ). map (stripped_in z) b.0.0) (far prefix) ∙ o.strips (prefix ++ transaction_bytes l.t) in
    let first : (prefix : List ℕ) → stripped_in (prefix ++ bytes) a.0.0 ≡ stripped l.t =
    λ prefix. strips_further prefix bytes a.0.0 w ∙ strips bytes a.0.0 a.0.1 l fits in
    let read : List Places × List ℕ = (a.0.0 ∷ b.0.0, b.0.1) in
    subst (λ (q : List Places × List ℕ). AllLaid (suc n) bytes q.0 q.1) {x = read} {y = (ps, rest)} (ok_is read (ps, rest) b.2) (record {
      ts = l.t ∷ o.ts;
      reads = many_more n bytes l.t a.0.1 o.ts b.0.1 (parts_read bytes l.t a.0.1 l.parts) o.reads;
      strips = λ prefix. (λ j. first prefix j ∷ others prefix j);
      within = λ m more. (wider (length bytes) m a.0.0 more w, o.within m (omega (arith, lengths bytes (transaction_bytes l.t) a.0.1 t.0)));
    })

-- both stop at the same field
pub same_rest : (n : ℕ) (bytes : List ℕ) → rest_of (many_at transaction_at n bytes) ≡ rest_of (many_at laid_at n bytes)
same_rest n bytes =
    many_ends transaction_at (λ b. rest_of (laid_at b)) transaction_ends n bytes ∙ sym (many_ends laid_at (λ b. rest_of (laid_at b)) (λ b. refl) n bytes)
